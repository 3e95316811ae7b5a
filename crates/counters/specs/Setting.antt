-- A literal is set or undone: two passes leave the counters of the new values. Assumes nothing.
use Rattle.std.specs.Prelude.{ℕ, ◌+◌, ◌-◌, ◌*◌, ◌/◌, ◌%◌, ◌^◌, ◌≤◌, ◌<◌, ◌≡◌, refl, true, List, eqb, ltb, length, get_or, drop}
use Rattle.std.proofs.Common.{sym, ◌∙◌, arith, length-take, le-ltb, ltb-true, eqb-true}
use Rattle.std.proofs.lemmas.Bool.{eqb-false}
use Rattle.definitions.specs.Lists.{any}
use Rattle.definitions.specs.LiteralTest.{unset_value}
use Rattle.theory.specs.Tests.{by-test, and_left, and_right}
use Rattle.encoding.specs.Lengths.{literal_array}
use Rattle.encoding.specs.Values.{Values, value_at, word_sign, other_sign, assigned, unassigned}
use Rattle.encoding.specs.ValueLaws.{even-sign, odd_sign, assigned-even, assigned-odd, unassigned-here, assigned-elsewhere, unassigned-elsewhere}
use Rattle.units.specs.Units.{clause_at, ClausesFit}
use Rattle.counters.specs.Weights.{weighs, weighs-small, once-holds, once-bound, WeightStep, step_back}
use Rattle.counters.specs.SetPasses.{halfway, halfway-small, other-small, SetsLiteral, first-pass, second-pass}
use Rattle.counters.specs.PlacesKept.{PlacesKept, Moved, kept-moved}
use Rattle.counters.specs.Counters.{counters_of, counters, row_at}
use Rattle.counters.specs.declared.Counters.{Counters}
use Rattle.counters.specs.CounterLaws.{kept-counters, counters-kept}
use Rattle.counters.specs.Passes.{RowFits, first_of, pass-end}

-- ── the counters of some clauses, which the first words have room for ──

pub record CountersFit (values : Values) (words : ℕ) (k : Counters) : Type 0 where
  pub clause : ℕ → List ℕ
  pub clauses : ℕ
  pub covered : clauses ≤ 64 * words
  pub short : (c : ℕ) → c < clauses → length (clause c) ≤ literal_array
  pub its : k ≡ counters_of values clause clauses

-- the clauses of the arrays, over the words that they take
pub counters-fit : {starts literals heads : List ℕ} {given clauses : ℕ} {values : Values} {k : Counters} → ClausesFit starts literals heads given clauses
    → k ≡ counters_of values (λ c. clause_at starts literals c) clauses → CountersFit values ((clauses + 63) / 64) k
unfolding clause_at
counters-fit {starts = starts} {literals = literals} {clauses = clauses} fit e = record {
  clause = λ c. clause_at starts literals c;
  clauses = clauses;
  covered = omega arith;
  short = λ c l. let a = fit.inside (c + 1) (omega arith) in let b = length-take (get_or starts (c + 1) 0 - get_or starts c 0) (drop (get_or starts c 0) literals) in omega arith;
  its = e;
}

-- they stay the counters of whatever clauses they were the counters of
abbrev pub StayKept : ℕ → Values → Counters → Values → Counters → Type 0
StayKept words values k values' k' =
    (clause : ℕ → List ℕ) (clauses : ℕ) → clauses ≤ 64 * words → k ≡ counters_of values clause clauses → k' ≡ counters_of values' clause clauses

pub stay-fit : (values values' : Values) {words : ℕ} {k k' : Counters} → StayKept words values k values' k' → CountersFit values words k
    → CountersFit values' words k'
stay-fit values values' stay k =
    record { clause = k.clause; clauses = k.clauses; covered = k.covered; short = k.short; its = stay k.clause k.clauses k.covered k.its }

-- ── a pass ──

-- a step under which no number falls below zero
record Passable (f g : ℕ → ℕ) (x up down : ℕ) : Type 0 where
  pub step : WeightStep f g x up down
  pub word : x < 512
  pub enough : down ≤ f x
  pub small : (w : ℕ) → f w ≤ 257
  pub little : up ≤ 256

-- what a pass asks for
row-needs : {f g : ℕ → ℕ} {x up down words clauses : ℕ} {clause : ℕ → List ℕ} {rows counts asking : List ℕ} → words ≤ 10 → Passable f g x up down
    → ((c : ℕ) → c < clauses → length (clause c) ≤ literal_array) → PlacesKept f clause clauses rows counts asking → RowFits x words up down rows counts asking
row-needs {f = f} {x = x} {up = up} {down = down} {clauses = clauses} {clause = clause} {rows = rows} {counts = counts} few p short k =
    (p.word, few, k.sizes.0, k.sizes.1, fits)
  where
    fits : (c : ℕ) → c < 640 → row_at rows x c ≡ true → (down ≤ get_or counts c 0) × (get_or counts c 0 + up < 2 ^ 32)
    fits c w h =
        let both = sym (k.held x c p.word w) ∙ h in
        let l = ltb-true c clauses (and_left (ltb c clauses) (any (eqb x) (clause c)) both) in
        let e = k.count c l in
        let a = once-holds f x (clause c) (and_right (ltb c clauses) (any (eqb x) (clause c)) both) in
        let b = once-bound f p.small (clause c) in
        let s = short c l in
        let d = p.enough in
        let u = p.little in
        let n : 2 ^ 32 ≡ 4294967296 = refl in
        (omega arith, omega arith)

-- what a pass gives
passed : (words : ℕ) {f g : ℕ → ℕ} {x up down clauses : ℕ} {clause : ℕ → List ℕ} {rows counts asking counts' asking' : List ℕ}
    → Passable f g x up down → clauses ≤ 64 * words → Moved (first_of rows x words) up down counts asking counts' asking' → PlacesKept f clause clauses rows counts asking → PlacesKept g clause clauses rows counts' asking'
passed words {x = x} {clauses = clauses} {clause = clause} {rows = rows} p l m k =
    kept-moved p.step p.word k
    (pass-end rows x words (λ c w h. k.held x c p.word w ∙ rw (le-ltb c clauses (omega arith))) m)

module _ {before after : Values} {x : ℕ} (s : SetsLiteral before after x) (l : x < 512) where
  -- setting
  set_first : Passable (weighs before) (halfway (weighs before) (weighs after) x) x 256 0
  set_first = record { step = first-pass s; word = l; enough = omega arith; small = weighs-small before; little = omega arith }

  set-second : Passable (halfway (weighs before) (weighs after) x) (weighs after) (other_sign x) 0 1
  set-second = record {
    step = second-pass s;
    word = other-small x l;
    enough = let h = (second-pass s).here in omega arith;
    small = halfway-small before after x;
    little = omega arith;
  }

  -- undoing: the same two backwards
  undo-first : Passable (weighs after) (halfway (weighs before) (weighs after) x) (other_sign x) 1 0
  undo-first = record { step = step_back (second-pass s); word = other-small x l; enough = omega arith; small = weighs-small after; little = omega arith }

  undo-second : Passable (halfway (weighs before) (weighs after) x) (weighs before) x 0 256
  undo-second = record {
    step = step_back (first-pass s);
    word = l;
    enough = let h = (first-pass s).here in omega arith;
    small = halfway-small before after x;
    little = omega arith;
  }

-- ── in the code's terms ──

-- the atom of the word is unset, or set as the word says
pub record IsUnset (values : Values) (w : ℕ) : Type 0 where
  pub inside : w / 2 < 256
  pub size : length values ≡ 8
  pub state : value_at values (w / 2) ≡ unset_value

pub record IsSet (values : Values) (w : ℕ) : Type 0 where
  pub inside : w / 2 < 256
  pub size : length values ≡ 8
  pub state : value_at values (w / 2) ≡ word_sign w

-- the state of an atom whose literal is set is the literal's sign
assigned-sign : (values : Values) (w : ℕ) → w / 2 < 256 → length values ≡ 8 → value_at (assigned values w) (w / 2) ≡ word_sign w
assigned-sign values w inside size =
    by-test (eqb (w % 2) 0)
    (λ e. let z = eqb-true (w % 2) 0 e in
    let q : 2 * (w / 2) ≡ w = omega arith in
    (rw q at (assigned-even values (w / 2) inside size)) ∙ sym (even-sign w z))
    (λ e. let n = eqb-false (w % 2) 0 e in
    let o : w % 2 ≡ 1 = omega (arith, n) in
    let q : 2 * (w / 2) + 1 ≡ w = omega arith in
    (rw q at (assigned-odd values (w / 2) inside size)) ∙ sym (odd_sign w o))

sets-unset : {values : Values} {w : ℕ} → IsUnset values w → SetsLiteral values (assigned values w) w
sets-unset {values} {w} u = record { unset = u.state; its = assigned-sign values w u.inside u.size; others = assigned-elsewhere values w }

sets-set : {values : Values} {w : ℕ} → IsSet values w → SetsLiteral (unassigned values w) values w
sets-set {values} {w} u = record { unset = unassigned-here values (w / 2) u.inside u.size w refl; its = u.state; others = λ i n. sym (unassigned-elsewhere values w i n) }

-- two passes, one over what the other leaves
module _ (before after : Values) {words : ℕ} {f : ℕ → ℕ} {x y up down up' down' : ℕ} (few : words ≤ 10)
    (p : Passable (weighs before) f x up down) (q : Passable f (weighs after) y up' down')
    {rows counts asking : List ℕ} where
  kept_at : (k : CountersFit before words (counters rows counts asking)) → PlacesKept (weighs before) k.clause k.clauses rows counts asking
  kept_at k = counters-kept before k.clause k.clauses (omega (arith, k.covered)) k.its

  first-needs : CountersFit before words (counters rows counts asking) → RowFits x words up down rows counts asking
  first-needs k = row-needs few p k.short (kept_at k)

  module _ {counts₁ asking₁ : List ℕ} (m : Moved (first_of rows x words) up down counts asking counts₁ asking₁) where
    second-needs : CountersFit before words (counters rows counts asking) → RowFits y words up' down' rows counts₁ asking₁
    second-needs k = row-needs few q k.short (passed words p k.covered m (kept_at k))

    both-passed : {counts₂ asking₂ : List ℕ} → Moved (first_of rows y words) up' down' counts₁ asking₁ counts₂ asking₂
        → StayKept words before (counters rows counts asking) after (counters rows counts₂ asking₂)
    both-passed n clause clauses l e =
        kept-counters after clause clauses (passed words q l n (passed words p l m (counters-kept before clause clauses (omega arith) e)))

module _ (w : ℕ) (small : w < 512) (words : ℕ) (few : words ≤ 10) {rows counts asking : List ℕ} {other : ℕ} (is : other ≡ other_sign w) where
  module _ (values : Values) (u : IsUnset values w) where
    pub set-needs : CountersFit values words (counters rows counts asking) → RowFits w words 256 0 rows counts asking
    set-needs = first-needs values (assigned values w) few (set_first (sets-unset u) small) (set-second (sets-unset u) small)

    module _ {counts₁ asking₁ : List ℕ} (m : Moved (first_of rows w words) 256 0 counts asking counts₁ asking₁) where
      pub set-needs-2 : CountersFit values words (counters rows counts asking) → RowFits other words 0 1 rows counts₁ asking₁
      set-needs-2 k = rw is (second-needs values (assigned values w) few (set_first (sets-unset u) small) (set-second (sets-unset u) small) m k)

      pub set-done : {counts₂ asking₂ : List ℕ} → Moved (first_of rows other words) 0 1 counts₁ asking₁ counts₂ asking₂
          → StayKept words values (counters rows counts asking) (assigned values w) (counters rows counts₂ asking₂)
      set-done n = both-passed values (assigned values w) few (set_first (sets-unset u) small) (set-second (sets-unset u) small) m (rw is at n)

  module _ (values : Values) (u : IsSet values w) where
    pub undo-needs : CountersFit values words (counters rows counts asking) → RowFits other words 1 0 rows counts asking
    undo-needs k = rw is (first-needs values (unassigned values w) few (undo-first (sets-set u) small) (undo-second (sets-set u) small) k)

    module _ {counts₁ asking₁ : List ℕ} (m : Moved (first_of rows other words) 1 0 counts asking counts₁ asking₁) where
      pub undo-needs-2 : CountersFit values words (counters rows counts asking) → RowFits w words 0 256 rows counts₁ asking₁
      undo-needs-2 k = second-needs values (unassigned values w) few (undo-first (sets-set u) small) (undo-second (sets-set u) small) (rw is at m) k

      pub undo-done : {counts₂ asking₂ : List ℕ} → Moved (first_of rows w words) 0 256 counts₁ asking₁ counts₂ asking₂
          → StayKept words values (counters rows counts asking) (unassigned values w) (counters rows counts₂ asking₂)
      undo-done n = both-passed values (unassigned values w) few (undo-first (sets-set u) small) (undo-second (sets-set u) small) (rw is at m) n
