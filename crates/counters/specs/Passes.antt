-- A pass over the clauses that hold a literal: bit by bit through a word of its row, then word by word. Assumes nothing.
use Rattle.std.proofs.lemmas.Bool.{eqb-false}
use Rattle.std.specs.Prelude.{ℕ, ◌+◌, ◌-◌, ◌*◌, ◌/◌, ◌%◌, ◌^◌, ◌≤◌, ◌<◌, ◌≡◌, Bool, ◌&&◌, ◌||◌, List, eqb, ltb, length, get_or, set}
use Rattle.std.proofs.Math.Path.{refl}
use Rattle.std.proofs.Common.{sym, ap, ◌∙◌, length-set, arith, eqb-true, eq-eqb, ne_eqb, ltb-true, ltb-false, lt-ltb, le-ltb, le-leb}
use Rattle.std.proofs.Math.Bool.{true, false, not, and-true, and-false, or-false, and-not_self}
use Rattle.std.proofs.Math.Nat.{add-zero}
use Rattle.std.specs.Int.Bits.{bit_and, bit_or}
use Rattle.std.proofs.lemmas.Nat.{or_lt}
use Rattle.std.specs.Int.Count.{count_trailing_zeros}
use Rattle.std.proofs.Math.Pow.{pow_pos}
use Rattle.std.proofs.Math.Seq.{get_or-set_same, get_or-set_other}
use borrow.Author.Tests.{lt-leb}
use Rattle.theory.specs.Tests.{by-test, and_left, and_right}
use Rattle.bits.specs.Bits.{has, has-zero, lowest, has-lowest, has-less, has-or, has-taken, has-put, put-below, one_shifted, among}
use Rattle.counters.specs.Counters.{number_asks, row_at}
use Rattle.counters.specs.Weights.{one_if}
use Rattle.counters.specs.PlacesKept.{pick, Moved}

-- ── what the passes ask for ──

-- clause c is a bit of word k
unfoldable pub in_word : ℕ → ℕ → ℕ → Bool
in_word k m c = eqb (c / 64) k && has (c % 64) m

-- the numbers of the clauses that are bits of a word, or hold a literal, can be changed
abbrev pub WordFits : ℕ → ℕ → ℕ → ℕ → List ℕ → Type 0
WordFits k bits up down counts = (c : ℕ) → c < 640 → in_word k bits c ≡ true → (down ≤ get_or counts c 0) × (get_or counts c 0 + up < 2 ^ 32)

abbrev pub RowFits : ℕ → ℕ → ℕ → ℕ → List ℕ → List ℕ → List ℕ → Type 0
RowFits x words up down rows counts asking =
    (x < 512) × (words ≤ 10) × (length counts ≡ 640) × (length asking ≡ 10)
    × ((c : ℕ) → c < 640 → row_at rows x c ≡ true → (down ≤ get_or counts c 0) × (get_or counts c 0 + up < 2 ^ 32))

-- ── bit by bit ──

pub low-yes : (n bit : ℕ) → n ≤ 1 → bit ≡ one_if (number_asks n) bit
unfolding one_if number_asks
low-yes n bit l = rw (le-leb n 1 l, one_if)

pub low-not : (n bit : ℕ) → 1 < n → 0 ≡ one_if (number_asks n) bit
unfolding one_if number_asks
low-not n bit l = rw (lt-leb n 1 l, one_if)

-- the bits of `bits` that are no longer in m have been gone over
pub record WordDone (k bits m low up down : ℕ) (counts₀ counts : List ℕ) : Type 0 where
  pub size : length counts ≡ length counts₀
  pub below : (m < 2 ^ 64) × (low < 2 ^ 64)
  pub inside : (j : ℕ) → has j m ≡ true → has j bits ≡ true
  pub moved : (c : ℕ) → c < 640
      → get_or counts c 0 + one_if (in_word k bits c && not (in_word k m c)) down ≡ get_or counts₀ c 0 + one_if (in_word k bits c && not (in_word k m c)) up
  pub lows : (j : ℕ) → j < 64 → has j low ≡ ((has j bits && not (has j m)) && number_asks (get_or counts (64 * k + j) 0))

-- all of them have
pub record WordMoved (k bits r up down : ℕ) (counts₀ counts : List ℕ) : Type 0 where
  pub size : length counts ≡ length counts₀
  pub below : r < 2 ^ 64
  pub moved : (c : ℕ) → c < 640 → get_or counts c 0 + one_if (in_word k bits c) down ≡ get_or counts₀ c 0 + one_if (in_word k bits c) up
  pub lows : (j : ℕ) → j < 64 → has j r ≡ (has j bits && number_asks (get_or counts (64 * k + j) 0))

none_left : (a b : Bool) → ((a && b) && not (a && false)) ≡ (a && b)
none_left true b = and-true b
none_left false b = refl

module _ {k bits up down : ℕ} {counts₀ : List ℕ} where
  pub word-start : bits < 2 ^ 64 → WordDone k bits bits 0 up down counts₀ counts₀
  unfolding one_if
  word-start l = record {
    size = refl;
    below = (l, pow_pos 64);
    inside = λ j h. h;
    moved = λ c w. rw (and-not_self (in_word k bits c), one_if);
    lows = λ j w. rw (and-not_self (has j bits)) (has-zero j);
  }

  pub word_end : {m low : ℕ} {counts : List ℕ} → m ≡ 0 → WordDone k bits m low up down counts₀ counts → WordMoved k bits low up down counts₀ counts
  unfolding in_word
  word_end {m = m} {counts = counts} z d = record {
    size = d.size;
    below = d.below.1;
    moved = λ c w.
        let e : (in_word k bits c && not (in_word k m c)) ≡ in_word k bits c = rw (z, has-zero (c % 64)) (none_left (eqb (c / 64) k) (has (c % 64) bits)) in
        rw e at (d.moved c w);
    lows = λ j w.
        let e : (has j bits && not (has j m)) ≡ has j bits = rw (z, has-zero j) (and-true (has j bits)) in
        rw e at (d.lows j w);
  }

  module _ {m low : ℕ} {counts : List ℕ} (t : ℕ) (d : WordDone k bits m low up down counts₀ counts) (some : 0 < m) (few : k < 10) (size : length counts₀ ≡ 640)
      (tz : t ≡ count_trailing_zeros 64 m) where
    abbrev at : ℕ
    at = 64 * k + t

    t-small : t < 64
    t-small = let (a, b, c) = lowest 0 64 m some d.below.0 in omega arith

    t-in : has t m ≡ true
    t-in = rw tz (has-lowest 64 m some d.below.0)

    here-word : (w : ℕ) → in_word k w at ≡ has t w
    unfolding in_word
    here-word w =
        let l = t-small in
        let a : at / 64 ≡ k = omega arith in
        let b : at % 64 ≡ t = omega arith in
        rw (a, b, eq-eqb k k refl)

    -- the number there is as it was
    not_yet : get_or counts at 0 ≡ get_or counts₀ at 0
    unfolding one_if
    not_yet =
        let l = t-small in
        let e = d.moved at (omega arith) in
        let f : (in_word k bits at && not (in_word k m at)) ≡ false = rw (here-word bits, here-word m, t-in, d.inside t t-in) refl in
        let g = rw (f, one_if) at e in
        omega arith

    left : (j : ℕ) → has j (m - 2 ^ t) ≡ (has j m && not (eqb j t))
    left j = (has-taken t j m t-in).1

    left_other : (j : ℕ) → (j ≡ t → ⊥) → has j (m - 2 ^ t) ≡ has j m
    left_other j off = left j ∙ rw (ne_eqb j t off) (and-true (has j m))

    left_here : has t (m - 2 ^ t) ≡ false
    left_here = left t ∙ rw (eq-eqb t t refl, t-in)

    left-inside : (j : ℕ) → has j (m - 2 ^ t) ≡ true → has j bits ≡ true
    left-inside j h = d.inside j (and_left (has j m) (not (eqb j t)) (sym (left j) ∙ h))

    low_free : has t low ≡ false
    low_free = d.lows t t-small ∙ rw (t-in, d.inside t t-in)

    at_size : at < length counts
    at_size = let l = t-small in let e = d.size in omega arith

    other_word : (c : ℕ) → (c ≡ at → ⊥) → in_word k (m - 2 ^ t) c ≡ in_word k m c
    unfolding in_word
    other_word c off =
        by-test (eqb (c / 64) k)
        (λ e. let q = eqb-true (c / 64) k e in rw (left_other (c % 64) (λ z. off (omega arith))))
        (λ e. rw e)

    -- the place and the bit are in range, and there is a bit less to go over
    pub word_in : (at < 640) × (t < 64) × ((1 * 2 ^ t) % 2 ^ 64 ≡ 2 ^ t) × (2 ^ t ≤ m) × (m - 2 ^ t < m) × (low + 2 ^ t < 2 ^ 64)
    word_in =
        let l = t-small in
        let p = pow_pos t in
        let b = (has-taken t 0 m t-in).0 in
        (omega arith, l, one_shifted 64 t l, b, omega arith, put-below t 64 low low_free l d.below.1)

    pub word_fits : WordFits k bits up down counts₀ → (down ≤ get_or counts at 0) × (get_or counts at 0 + up < 2 ^ 32)
    word_fits f = rw not_yet (f at word_in.0 (here-word bits ∙ d.inside t t-in))

    module _ (n : ℕ) (new : n + down ≡ get_or counts at 0 + up) where
      turn_moved : (c : ℕ) → c < 640
          → get_or (set counts at n) c 0 + one_if (in_word k bits c && not (in_word k (m - 2 ^ t) c)) down ≡ get_or counts₀ c 0 + one_if (in_word k bits c && not (in_word k (m - 2 ^ t) c)) up
      unfolding one_if
      turn_moved c w =
          by-test (eqb c at)
          (λ e.
          let q = eqb-true c at e in
          let f : (in_word k bits at && not (in_word k (m - 2 ^ t) at)) ≡ true = rw (here-word bits, here-word (m - 2 ^ t), left_here, d.inside t t-in) refl in
          let g = get_or-set_same counts at n 0 at_size in
          let y = not_yet in
          rw (q, f, g, one_if) (omega arith))
          (λ e.
          let off = eqb-false c at e in
          let g = get_or-set_other counts at c n 0 off in
          rw (other_word c off, g) (d.moved c w))

      turn-lows : (j : ℕ) → j < 64
          → has j (low + one_if (number_asks n) (2 ^ t)) ≡ ((has j bits && not (has j (m - 2 ^ t))) && number_asks (get_or (set counts at n) (64 * k + j) 0))
      unfolding one_if
      turn-lows j w =
          by-test (eqb j t)
          (λ e.
          let q = eqb-true j t e in
          let g = get_or-set_same counts at n 0 at_size in
          rw (q, g, left_here, d.inside t t-in)
          (by-test (number_asks n)
          (λ b. rw (b, one_if) (has-put t t low low_free ∙ rw (low_free, eq-eqb t t refl)))
          (λ b. rw (b, one_if, add-zero low) low_free)))
          (λ e.
          let off = eqb-false j t e in
          let far : 64 * k + j ≡ at → ⊥ = λ z. off (omega arith) in
          let g = get_or-set_other counts at (64 * k + j) n 0 far in
          rw (g, left_other j off)
          (by-test (number_asks n)
          (λ b. rw (b, one_if) (has-put t j low low_free ∙ rw e (or-false (has j low)) ∙ d.lows j w))
          (λ b. rw (b, one_if, add-zero low) (d.lows j w))))

      turn_below : (m - 2 ^ t < 2 ^ 64) × (low + one_if (number_asks n) (2 ^ t) < 2 ^ 64)
      unfolding one_if
      turn_below =
          let b = d.below.0 in
          let l = d.below.1 in
          (omega arith, by-test (number_asks n) (λ e. rw (e, one_if) word_in.5) (λ e. rw (e, one_if, add-zero low) l))

      pub word-turn : WordDone k bits (m - 2 ^ t) (low + one_if (number_asks n) (2 ^ t)) up down counts₀ (set counts at n)
      word-turn = record {
        size = length-set counts at n ∙ d.size;
        below = turn_below;
        inside = left-inside;
        moved = turn_moved;
        lows = turn-lows;
      }

-- ── word by word ──

-- the clauses of the first words that hold the literal
unfoldable pub first_of : List ℕ → ℕ → ℕ → ℕ → Bool
first_of rows x k c = ltb c (64 * k) && row_at rows x c

-- a pass is the same over the same clauses
moved_same : {row row' : ℕ → Bool} {up down : ℕ} {counts asking counts' asking' : List ℕ} → ((c : ℕ) → c < 640 → row c ≡ row' c)
    → Moved row up down counts asking counts' asking' → Moved row' up down counts asking counts' asking'
moved_same same m = record {
  sizes = m.sizes;
  below = m.below;
  moved = λ c w. rw (← same c w) (m.moved c w);
  asks = λ c w. rw (← same c w) (m.asks c w);
}

module _ (rows : List ℕ) (x k : ℕ) where
  -- with one word more: its own clauses, which were none of those before, and the others as they were
  behind : (c : ℕ) → c / 64 ≡ k → first_of rows x k c ≡ false
  unfolding first_of
  behind c q = rw (le-ltb c (64 * k) (omega arith))

  here-row : {bits : ℕ} → bits ≡ get_or rows (10 * x + k) 0 → (c : ℕ) → c / 64 ≡ k → first_of rows x (k + 1) c ≡ has (c % 64) bits
  unfolding first_of row_at
  here-row is c q = rw (lt-ltb c (64 * (k + 1)) (omega arith), q, ← is)

  far-row : (c : ℕ) → (c / 64 ≡ k → ⊥) → first_of rows x (k + 1) c ≡ first_of rows x k c
  unfolding first_of
  far-row c n =
      by-test (ltb c (64 * k))
      (λ e. let l = ltb-true c (64 * k) e in rw (e, lt-ltb c (64 * (k + 1)) (omega arith)))
      (λ e. let l = ltb-false c (64 * k) e in rw (e, le-ltb c (64 * (k + 1)) (omega (arith, n))))

  -- a word that is 0 is passed over
  pub pass-over : {bits up down : ℕ} {counts₀ asking₀ counts asking : List ℕ} → bits ≡ get_or rows (10 * x + k) 0 → bits ≡ 0
      → Moved (first_of rows x k) up down counts₀ asking₀ counts asking → Moved (first_of rows x (k + 1)) up down counts₀ asking₀ counts asking
  pass-over is none m =
      let same : (c : ℕ) → c < 640 → first_of rows x k c ≡ first_of rows x (k + 1) c = λ c w. by-test (eqb (c / 64) k)
      (λ e. let q = eqb-true (c / 64) k e in behind c q ∙ sym (here-row is c q ∙ rw none (has-zero (c % 64))))
      (λ e. sym (far-row c (eqb-false (c / 64) k e))) in moved_same same m

module _ (rows : List ℕ) (x : ℕ) {up down : ℕ} {counts₀ asking₀ : List ℕ} where
  pub pass-start : Moved (first_of rows x 0) up down counts₀ asking₀ counts₀ asking₀
  unfolding first_of one_if pick
  pass-start = record {
    sizes = (refl, refl);
    below = λ i l. l;
    moved = λ c w. rw (le-ltb c (64 * 0) (omega arith), one_if);
    asks = λ c w. rw (le-ltb c (64 * 0) (omega arith), pick);
  }

  module _ {counts asking : List ℕ} (k : ℕ) (few : k < 10) (size : length asking₀ ≡ 10)
      (m : Moved (first_of rows x k) up down counts₀ asking₀ counts asking) where
    -- the numbers of the next word are as they were
    same_count : (c : ℕ) → c < 640 → c / 64 ≡ k → get_or counts c 0 ≡ get_or counts₀ c 0
    unfolding one_if
    same_count c w q = let e = rw (behind rows x k c q, one_if) at (m.moved c w) in omega arith

    same-ask : (c : ℕ) → c < 640 → c / 64 ≡ k → among asking c ≡ among asking₀ c
    unfolding pick
    same-ask c w q = rw (behind rows x k c q, pick) at (m.asks c w)

    pub pass_fits : (bits : ℕ) → bits ≡ get_or rows (10 * x + k) 0
        → ((c : ℕ) → c < 640 → row_at rows x c ≡ true → (down ≤ get_or counts₀ c 0) × (get_or counts₀ c 0 + up < 2 ^ 32)) → WordFits k bits up down counts
    unfolding in_word row_at
    pass_fits bits is h c w e =
        let q = eqb-true (c / 64) k (and_left (eqb (c / 64) k) (has (c % 64) bits) e) in
        let b = and_right (eqb (c / 64) k) (has (c % 64) bits) e in
        rw (same_count c w q) (h c w (rw (q, ← is) b))

    module _ {bits a low : ℕ} {counts' : List ℕ} (is : bits ≡ get_or rows (10 * x + k) 0) (before : a ≡ get_or asking k 0)
        (d : WordMoved k bits low up down counts counts') where
      abbrev next : ℕ
      next = bit_or (a - bit_and a bits) low

      next-has : (j : ℕ) → has j (bit_or (a - bit_and a bits) low) ≡ ((has j a && not (has j bits)) || has j low)
      next-has j = has-or j (a - bit_and a bits) low ∙ ap (λ (b : Bool). b || has j low) (has-less j a bits)

      now-ask : (c : ℕ) → c / 64 ≡ k → among (set asking k next) c ≡ ((among asking c && not (has (c % 64) bits)) || has (c % 64) low)
      unfolding among
      now-ask c q = rw (q, get_or-set_same asking k next 0 (let s = m.sizes.1 in omega arith)) (next-has (c % 64) ∙ rw before)

      here_in : (c : ℕ) → c / 64 ≡ k → in_word k bits c ≡ has (c % 64) bits
      unfolding in_word
      here_in c q = rw (eq-eqb (c / 64) k q)

      far-in : (c : ℕ) → (c / 64 ≡ k → ⊥) → in_word k bits c ≡ false
      unfolding in_word
      far-in c n = rw (ne_eqb (c / 64) k n)

      far-count : (c : ℕ) → c < 640 → (c / 64 ≡ k → ⊥) → get_or counts' c 0 ≡ get_or counts c 0
      unfolding one_if
      far-count c w n = let e = rw (far-in c n, one_if) at (d.moved c w) in omega arith

      far-ask : (c : ℕ) → (c / 64 ≡ k → ⊥) → among (set asking k next) c ≡ among asking c
      unfolding among
      far-ask c n = rw (get_or-set_other asking k (c / 64) next 0 n)

      turn-asks : (c : ℕ) → c < 640 → among (set asking k next) c ≡ pick (first_of rows x (k + 1) c) (number_asks (get_or counts' c 0)) (among asking₀ c)
      unfolding pick
      turn-asks c w =
          by-test (eqb (c / 64) k)
          (λ e.
          let q = eqb-true (c / 64) k e in
          let p : 64 * k + c % 64 ≡ c = omega arith in
          let low-is : has (c % 64) low ≡ (has (c % 64) bits && number_asks (get_or counts' c 0)) = rw p at (d.lows (c % 64) (omega arith)) in
          rw (here-row rows x k is c q)
          (by-test (has (c % 64) bits)
          (λ b. rw (b, pick) (now-ask c q ∙ rw (low-is, b, and-false (among asking c))))
          (λ b. rw (b, pick) (now-ask c q ∙ rw (low-is, b, and-true (among asking c)) (or-false (among asking c)) ∙ same-ask c w q))))
          (λ e.
          let n = eqb-false (c / 64) k e in
          rw (far-row rows x k c n, far-count c w n) (far-ask c n ∙ m.asks c w))

      pub pass-turn : Moved (first_of rows x (k + 1)) up down counts₀ asking₀ counts' (set asking k (bit_or (a - bit_and a bits) low))
      pass-turn = record {
        sizes = (d.size ∙ m.sizes.0, length-set asking k next ∙ m.sizes.1);
        below = λ i l. by-test (eqb i k)
            (λ e.
            let q = eqb-true i k e in
            let was : a < 2 ^ 64 = rw (before, ← q) (m.below i l) in
            let less : a - bit_and a bits < 2 ^ 64 = omega arith in
            rw (q, get_or-set_same asking k next 0 (let s = m.sizes.1 in omega arith)) (or_lt 64 (a - bit_and a bits) low less d.below))
            (λ e. rw (get_or-set_other asking k i next 0 (eqb-false i k e)) (m.below i l));
        moved = λ c w.
            by-test (eqb (c / 64) k)
            (λ e.
            let q = eqb-true (c / 64) k e in
            let s = same_count c w q in
            let b : get_or counts' c 0 + one_if (has (c % 64) bits) down ≡ get_or counts c 0 + one_if (has (c % 64) bits) up = rw (here_in c q) at (d.moved c w) in
            rw (here-row rows x k is c q, ← s) b)
            (λ e.
            let n = eqb-false (c / 64) k e in
            rw (far-row rows x k c n, far-count c w n) (m.moved c w));
        asks = turn-asks;
      }

-- the whole row
pub pass-end : (rows : List ℕ) (x words : ℕ) {up down : ℕ} {counts asking counts' asking' : List ℕ}
    → ((c : ℕ) → c < 640 → 64 * words ≤ c → row_at rows x c ≡ false) → Moved (first_of rows x words) up down counts asking counts' asking'
    → Moved (row_at rows x) up down counts asking counts' asking'
unfolding first_of
pass-end rows x words h m =
    let same : (c : ℕ) → c < 640 → first_of rows x words c ≡ row_at rows x c =
    λ c w. by-test (ltb c (64 * words)) (λ e. rw e) (λ e. rw (e, h c w (ltb-false c (64 * words) e))) in moved_same same m
