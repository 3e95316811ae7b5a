-- A clause is entered behind the others: its bits in the rows of its words, its number, and whether it asks. Assumes nothing.
use Rattle.std.proofs.lemmas.Bool.{eqb-false}
use Rattle.std.specs.Prelude.{ℕ, ◌+◌, ◌-◌, ◌*◌, ◌/◌, ◌%◌, ◌^◌, ◌≤◌, ◌<◌, ◌≡◌, refl, Bool, List, [], ◌∷◌, ◌++◌, eqb, ltb, length, get_or, set, take, drop}
use Rattle.std.proofs.Math.Path.{sym}
use Rattle.std.proofs.Common.{◌∙◌, length-set, add-one, take-suc, arith, eqb-true, eq-eqb, ne_eqb, ltb-true, ltb-false, lt-ltb, le-ltb}
use Rattle.std.proofs.Math.Bool.{true, false, or-true, or-false}
use Rattle.std.proofs.Math.Nat.{add-zero}
use Rattle.std.proofs.Math.Seq.{get_or-set_same, get_or-set_other}
use Rattle.definitions.specs.Lists.{any}
use Rattle.theory.specs.Tests.{by-test}
use Rattle.bits.specs.Bits.{has, has-put, put-below, one_shifted, among}
use Rattle.encoding.specs.ArrayLaws.{get_d-set-each, get_d-rising, part-nil}
use Rattle.encoding.specs.Lengths.{literal_array}
use Rattle.encoding.specs.Values.{Values}
use Rattle.units.specs.Units.{clause_at, ClausesFit}
use Rattle.counters.specs.Weights.{one_if, once, any_snoc, once-snoc, weighs}
use Rattle.counters.specs.Counters.{number_asks, counters_of, counters, row_at}
use Rattle.counters.specs.CounterLaws.{kept-counters, counters-kept}
use Rattle.counters.specs.PlacesKept.{PlacesKept}

-- the words seen so far stand in the rows of clause c
pub record Entering (f : ℕ → ℕ) (c n : ℕ) (seen rows₀ rows : List ℕ) : Type 0 where
  pub size : length rows ≡ length rows₀
  pub below : (i : ℕ) → get_or rows₀ i 0 < 2 ^ 64 → get_or rows i 0 < 2 ^ 64
  pub here : (x : ℕ) → x < 512 → row_at rows x c ≡ any (eqb x) seen
  pub there : (x d : ℕ) → x < 512 → d < 640 → (d ≡ c → ⊥) → row_at rows x d ≡ row_at rows₀ x d
  pub sum : n ≡ once f seen

pub enter-start : {f : ℕ → ℕ} {c : ℕ} {rows : List ℕ} → ((x : ℕ) → x < 512 → row_at rows x c ≡ false) → Entering f c 0 [] rows rows
unfolding any once
enter-start h = record { size = refl; below = λ i l. l; here = h; there = λ x d l m n. refl; sum = refl }

module _ {f : ℕ → ℕ} {c n : ℕ} {seen rows₀ rows : List ℕ} (e : Entering f c n seen rows₀ rows) (w : ℕ) (small : w < 512)
    (old : ℕ) (is : old ≡ get_or rows (10 * w + c / 64) 0) where
  seen-bit : has (c % 64) old ≡ any (eqb w) seen
  unfolding row_at
  seen-bit = rw is (e.here w small)

  -- a repeated word
  enter-again : has (c % 64) old ≡ true → Entering f c n (seen ++ (w ∷ [])) rows₀ rows
  unfolding one_if
  enter-again h =
      let a : any (eqb w) seen ≡ true = sym seen-bit ∙ h in
      record {
        size = e.size;
        below = e.below;
        here = λ x l. e.here x l ∙ by-test (eqb x w)
            (λ q. let s : any (eqb x) seen ≡ true = let z = eqb-true x w q in rw z a in s ∙ sym (any_snoc x seen w ∙ rw s))
            (λ q. sym (any_snoc x seen w ∙ rw q (or-false (any (eqb x) seen))));
        there = e.there;
        sum =
            let t : once f (seen ++ (w ∷ [])) ≡ once f seen + 0 = rw (a, one_if) at (once-snoc f seen w) in
            let u = e.sum in
            omega arith;
      }

  -- a new one
  module _ (free : has (c % 64) old ≡ false) (below : old < 2 ^ 64) (few : c < 640) (size : length rows₀ ≡ 5120) where
    abbrev at : ℕ
    at = 10 * w + c / 64

    abbrev new : ℕ
    new = old + 2 ^ (c % 64)

    in_rows : at < length rows
    in_rows = let s = e.size in omega arith

    new-here : (x : ℕ) → x < 512 → row_at (set rows at new) x c ≡ any (eqb x) (seen ++ (w ∷ []))
    unfolding row_at
    new-here x l =
        by-test (eqb x w)
        (λ q. let z = eqb-true x w q in
        rw (any_snoc x seen w, q, or-true (any (eqb x) seen), z, get_or-set_same rows at new 0 in_rows)
        (has-put (c % 64) (c % 64) old free ∙ rw (eq-eqb (c % 64) (c % 64) refl) (or-true (has (c % 64) old))))
        (λ q. let z = eqb-false x w q in
        let far : 10 * x + c / 64 ≡ at → ⊥ = λ y. z (omega arith) in
        rw (any_snoc x seen w, q, or-false (any (eqb x) seen), get_or-set_other rows at (10 * x + c / 64) new 0 far) (e.here x l))

    new-there : (x d : ℕ) → x < 512 → d < 640 → (d ≡ c → ⊥) → row_at (set rows at new) x d ≡ row_at rows x d
    unfolding row_at
    new-there x d l m k =
        by-test (eqb (10 * x + d / 64) at)
        (λ q. let z = eqb-true (10 * x + d / 64) at q in
        let other : d % 64 ≡ c % 64 → ⊥ = λ y. k (omega arith) in
        rw (z, get_or-set_same rows at new 0 in_rows, ← is)
        (has-put (c % 64) (d % 64) old free ∙ rw (ne_eqb (d % 64) (c % 64) other) (or-false (has (d % 64) old))))
        (λ q. rw (get_or-set_other rows at (10 * x + d / 64) new 0 (eqb-false (10 * x + d / 64) at q)))

    new-sum : n + f w ≡ once f (seen ++ (w ∷ []))
    unfolding one_if
    new-sum =
        let a : any (eqb w) seen ≡ false = sym seen-bit ∙ free in
        let t : once f (seen ++ (w ∷ [])) ≡ once f seen + f w = rw (a, one_if) at (once-snoc f seen w) in
        let u = e.sum in
        omega arith

    enter-fresh : Entering f c (n + f w) (seen ++ (w ∷ [])) rows₀ (set rows at new)
    enter-fresh = record {
      size = length-set rows at new ∙ e.size;
      below = λ i l. get_d-set-each (λ (v : ℕ). v < 2 ^ 64) rows at new i (put-below (c % 64) 64 old free (omega arith) below) (e.below i l);
      here = new-here;
      there = λ x d l m k. new-there x d l m k ∙ e.there x d l m k;
      sum = new-sum;
    }

-- ── the clause is counted ──

module _ {f : ℕ → ℕ} {clause : ℕ → List ℕ} {c : ℕ} {rows counts asking : List ℕ} (k : PlacesKept f clause c rows counts asking) (few : c < 640) where
  -- it has no bit yet
  row-free : (x : ℕ) → x < 512 → row_at rows x c ≡ false
  row-free x l = k.held x c l few ∙ rw (le-ltb c c (omega arith))

  abbrev word : ℕ
  word = get_or asking (c / 64) 0

  ask-free : has (c % 64) word ≡ false
  unfolding among
  ask-free = k.asks c few ∙ rw (le-ltb c c (omega arith))

  module _ {n : ℕ} {rows' : List ℕ} (e : Entering f c n (clause c) rows rows') where
    abbrev next : ℕ
    next = word + one_if (number_asks n) (2 ^ (c % 64))

    next-below : next < 2 ^ 64
    unfolding one_if
    next-below =
        let l = k.below.1 (c / 64) in
        by-test (number_asks n)
        (λ b. rw (b, one_if) (put-below (c % 64) 64 word ask-free (omega arith) l))
        (λ b. rw (b, one_if, add-zero word) l)

    in-asking : c / 64 < length asking
    in-asking = let s = k.sizes.1 in omega arith

    in-counts : c < length counts
    in-counts = let s = k.sizes.0 in omega arith

    ask-here : among (set asking (c / 64) next) c ≡ number_asks n
    unfolding among one_if
    ask-here =
        rw (get_or-set_same asking (c / 64) next 0 in-asking)
        (by-test (number_asks n)
        (λ b. rw (b, one_if) (has-put (c % 64) (c % 64) word ask-free ∙ rw (eq-eqb (c % 64) (c % 64) refl) (or-true (has (c % 64) word))))
        (λ b. rw (b, one_if, add-zero word) ask-free))

    ask-there : (d : ℕ) → (d ≡ c → ⊥) → among (set asking (c / 64) next) d ≡ among asking d
    unfolding among one_if
    ask-there d far =
        by-test (eqb (d / 64) (c / 64))
        (λ q. let z = eqb-true (d / 64) (c / 64) q in
        let other : d % 64 ≡ c % 64 → ⊥ = λ y. far (omega arith) in
        rw (z, get_or-set_same asking (c / 64) next 0 in-asking)
        (by-test (number_asks n)
        (λ b. rw (b, one_if) (has-put (c % 64) (d % 64) word ask-free ∙ rw (ne_eqb (d % 64) (c % 64) other) (or-false (has (d % 64) word))))
        (λ b. rw (b, one_if, add-zero word))))
        (λ q. rw (get_or-set_other asking (c / 64) (d / 64) next 0 (eqb-false (d / 64) (c / 64) q)))

    before-too : (d : ℕ) → (d ≡ c → ⊥) → ltb d (c + 1) ≡ ltb d c
    before-too d far =
        by-test (ltb d c)
        (λ b. let l = ltb-true d c b in lt-ltb d (c + 1) (omega arith) ∙ sym b)
        (λ b. let l = ltb-false d c b in le-ltb d (c + 1) (omega (arith, far)) ∙ sym b)

    kept-entered : PlacesKept f clause (c + 1) rows' (set counts c n) (set asking (c / 64) next)
    kept-entered = record {
      few = omega arith;
      sizes = (length-set counts c n ∙ k.sizes.0, length-set asking (c / 64) next ∙ k.sizes.1, e.size ∙ k.sizes.2);
      below = (λ i. e.below i (k.below.0 i), λ i. get_d-set-each (λ (v : ℕ). v < 2 ^ 64) asking (c / 64) next i next-below (k.below.1 i));
      held = λ x d l m. by-test (eqb d c)
          (λ q. let z = eqb-true d c q in rw (z, lt-ltb c (c + 1) (omega arith)) (e.here x l))
          (λ q. let far = eqb-false d c q in rw (before-too d far) (e.there x d l m far ∙ k.held x d l m));
      count = λ d l. by-test (eqb d c)
          (λ q. let z = eqb-true d c q in rw (z, get_or-set_same counts c n 0 in-counts) e.sum)
          (λ q. let far = eqb-false d c q in rw (get_or-set_other counts c d n 0 far) (k.count d (omega (arith, far))));
      free = λ d l m. rw (get_or-set_other counts c d n 0 (λ q. omega arith)) (k.free d (omega arith) m);
      asks = λ d m. by-test (eqb d c)
          (λ q. let z = eqb-true d c q in rw (z, lt-ltb c (c + 1) (omega arith), get_or-set_same counts c n 0 in-counts) ask-here)
          (λ q. let far = eqb-false d c q in rw (before-too d far, get_or-set_other counts c d n 0 far) (ask-there d far ∙ k.asks d m));
    }

-- ── in the code's terms ──

-- the words of a clause up to a place, and the one there
module _ {f : ℕ → ℕ} {c n : ℕ} {rows₀ rows : List ℕ} (words : List ℕ) (i : ℕ) (e : Entering f c n (take i words) rows₀ rows)
    (l : i < length words) {w : ℕ} (small : get_or words i 0 < 512) (same : w ≡ get_or words i 0)
    {old : ℕ} (is : old ≡ get_or rows (10 * w + c / 64) 0) {b : Bool} (bit : b ≡ has (c % 64) old) where
  is-there : old ≡ get_or rows (10 * get_or words i 0 + c / 64) 0
  is-there = is ∙ rw same

  more : take (i + 1) words ≡ take i words ++ (get_or words i 0 ∷ [])
  more = rw add-one (take-suc words i 0 l)

  pub turn-again : b ≡ true → Entering f c n (take (i + 1) words) rows₀ rows
  turn-again h = rw more (enter-again e (get_or words i 0) small old is-there (sym bit ∙ h))

  module _ (off : b ≡ false) (below : old < 2 ^ 64) where
    free : has (c % 64) old ≡ false
    free = sym bit ∙ off

    pub turn-room : old + (1 * 2 ^ (c % 64)) % 2 ^ 64 < 2 ^ 64
    turn-room = rw (one_shifted 64 (c % 64) (omega arith)) (put-below (c % 64) 64 old free (omega arith) below)

    pub turn-new : (r : ℕ) → r ≡ f (get_or words i 0) → c < 640 → length rows₀ ≡ 5120
        → Entering f c (n + r) (take (i + 1) words) rows₀ (set rows (10 * w + c / 64) (old + (1 * 2 ^ (c % 64)) % 2 ^ 64))
    turn-new r q few size =
        rw (more, q, same, one_shifted 64 (c % 64) (omega arith))
        (enter-fresh e (get_or words i 0) small old is-there free below few size)

-- a clause is entered behind c others
module _ (values : Values) (clause : ℕ → List ℕ) {c : ℕ} {rows counts asking : List ℕ} (few : c < 640)
    (its : counters rows counts asking ≡ counters_of values clause c) where
  abbrev kept : PlacesKept (weighs values) clause c rows counts asking
  kept = counters-kept values clause c (omega arith) its

  pub words-free : (length rows ≡ 5120) × ((x : ℕ) → x < 512 → row_at rows x c ≡ false)
  words-free = (kept.sizes.2, row-free kept few)

  module _ {a low : ℕ} (is : a ≡ get_or asking (c / 64) 0) where
    pub ask-room : a < 2 ^ 64 → low ≤ (1 * 2 ^ (c % 64)) % 2 ^ 64 → a + low < 2 ^ 64
    ask-room b l =
        let e = one_shifted 64 (c % 64) (omega arith) in
        let r = put-below (c % 64) 64 a (rw is (ask-free kept few)) (omega arith) b in
        omega arith

    pub entered-as : {n : ℕ} {rows' words : List ℕ} → low ≡ one_if (number_asks n) ((1 * 2 ^ (c % 64)) % 2 ^ 64) → Entering (weighs values) c n words rows rows'
        → clause c ≡ words → counters rows' (set counts c n) (set asking (c / 64) (a + low)) ≡ counters_of values clause (c + 1)
    entered-as q e same =
        kept-counters values clause (c + 1) (rw (q, is, one_shifted 64 (c % 64) (omega arith)) (kept-entered kept few (rw (← same) at e)))

-- ── a clause in its arrays ──

-- the words from a place up to another
abbrev pub part : List ℕ → ℕ → ℕ → List ℕ
part literals from i = take (i - from) (drop from literals)

pub part-start : (literals : List ℕ) (from : ℕ) → [] ≡ part literals from from
part-start literals from = sym (part-nil literals from from (omega arith))

module _ {starts literals heads : List ℕ} {given clauses : ℕ} (fit : ClausesFit starts literals heads given clauses) (c : ℕ) (l : c < clauses)
    {from end : ℕ} (is : from ≡ get_or starts c 0) (to : end ≡ get_or starts (c + 1) 0) where
  pub clause-inside : (from ≤ end) × (end ≤ literal_array) × (c < 640) × ((i : ℕ) → i < end → get_or literals i 0 < 512)
  clause-inside =
      let a = fit.rising c l in
      let b = fit.inside (c + 1) (omega arith) in
      let m = fit.limit in
      let up = get_d-rising starts clauses fit.rising (c + 1) (omega arith) in
      (omega arith, omega arith, omega arith, λ i k. fit.words i (omega arith))

pub clause-part : (starts literals : List ℕ) (c : ℕ) {from end : ℕ} → from ≡ get_or starts c 0 → end ≡ get_or starts (c + 1) 0
    → clause_at starts literals c ≡ part literals from end
unfolding clause_at
clause-part starts literals c is to = rw (is, to)
