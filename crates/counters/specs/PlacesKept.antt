-- The counters place by place, for any weight of words, since a literal is set in two passes; and what a pass over the clauses of a row does to them.
-- Assumes nothing.
use Rattle.std.specs.Prelude.{ℕ, ◌+◌, ◌*◌, ◌/◌, ◌%◌, ◌^◌, ◌≤◌, ◌<◌, ◌≡◌, Bool, true, ◌&&◌, List, eqb, ltb, length, replicate}
use Rattle.std.proofs.Common.{sym, ◌∙◌, pow_pos, ltb-true, lt-ltb, le-ltb, arith}
use Rattle.std.proofs.Math.Path.{ap}
use Rattle.std.proofs.Math.Bool.{false}
use Rattle.std.proofs.Math.ListN.{get_or}
use Rattle.std.proofs.lemmas.List.{length-replicate}
use Rattle.definitions.specs.Lists.{any}
use Rattle.theory.specs.Tests.{by-test, and_left}
use Rattle.bits.specs.Bits.{has-zero, among}
use Rattle.encoding.specs.ArrayLaws.{get_d-repeated}
use Rattle.counters.specs.Counters.{number_asks, row_at}
use Rattle.counters.specs.Weights.{one_if, once, WeightStep, step_sum}

-- a clause's number is its weight; behind the clauses all is 0
pub record PlacesKept (f : ℕ → ℕ) (clause : ℕ → List ℕ) (clauses : ℕ) (rows counts asking : List ℕ) : Type 0 where
  pub few : clauses ≤ 640
  pub sizes : (length counts ≡ 640) × (length asking ≡ 10) × (length rows ≡ 5120)
  pub below : ((i : ℕ) → get_or rows i 0 < 2 ^ 64) × ((i : ℕ) → get_or asking i 0 < 2 ^ 64)
  pub held : (x c : ℕ) → x < 512 → c < 640 → row_at rows x c ≡ (ltb c clauses && any (eqb x) (clause c))
  pub count : (c : ℕ) → c < clauses → get_or counts c 0 ≡ once f (clause c)
  pub free : (c : ℕ) → clauses ≤ c → c < 640 → get_or counts c 0 ≡ 0
  pub asks : (c : ℕ) → c < 640 → among asking c ≡ (ltb c clauses && number_asks (get_or counts c 0))

unfoldable pub pick : Bool → Bool → Bool → Bool
pick true a b = a
pick false a b = b

-- a pass over the clauses of a row: their numbers change, and they ask by the new ones
pub record Moved (row : ℕ → Bool) (up down : ℕ) (counts asking counts' asking' : List ℕ) : Type 0 where
  pub sizes : (length counts' ≡ length counts) × (length asking' ≡ length asking)
  pub below : (i : ℕ) → get_or asking i 0 < 2 ^ 64 → get_or asking' i 0 < 2 ^ 64
  pub moved : (c : ℕ) → c < 640 → get_or counts' c 0 + one_if (row c) down ≡ get_or counts c 0 + one_if (row c) up
  pub asks : (c : ℕ) → c < 640 → among asking' c ≡ pick (row c) (number_asks (get_or counts' c 0)) (among asking c)

module _ {f g : ℕ → ℕ} {x up down : ℕ} {clause : ℕ → List ℕ} {clauses : ℕ} {rows counts asking counts' asking' : List ℕ} where
  -- over the clauses that hold the word whose weight changes
  pub kept-moved : WeightStep f g x up down → x < 512 → PlacesKept f clause clauses rows counts asking → Moved (row_at rows x) up down counts asking counts' asking'
      → PlacesKept g clause clauses rows counts' asking'
  unfolding one_if pick
  kept-moved s small k m = record {
    few = k.few;
    sizes = (m.sizes.0 ∙ k.sizes.0, m.sizes.1 ∙ k.sizes.1, k.sizes.2);
    below = (k.below.0, λ i. m.below i (k.below.1 i));
    held = k.held;
    free = λ c l within.
        let none : row_at rows x c ≡ false = k.held x c small within ∙ rw (le-ltb c clauses l) in
        let n = rw (none, one_if) at (m.moved c within) in
        let z = k.free c l within in
        omega arith;
    count = λ c l.
        let within : c < 640 = omega (arith, k.few) in
        let row : row_at rows x c ≡ any (eqb x) (clause c) = k.held x c small within ∙ ap (λ (b : Bool). b && any (eqb x) (clause c)) (lt-ltb c clauses l) in
        let a : get_or counts' c 0 + one_if (any (eqb x) (clause c)) down ≡ get_or counts c 0 + one_if (any (eqb x) (clause c)) up = rw row at (m.moved c within) in
        let b = step_sum s (clause c) in
        let d = k.count c l in
        omega arith;
    asks = λ c within.
        by-test (row_at rows x c)
        (λ h.
        let inside = and_left (ltb c clauses) (any (eqb x) (clause c)) (sym (k.held x c small within) ∙ h) in
        let e : among asking' c ≡ number_asks (get_or counts' c 0) = rw (h, pick) at (m.asks c within) in
        rw (e, inside))
        (λ h.
        let e : among asking' c ≡ among asking c = rw (h, pick) at (m.asks c within) in
        let n = rw (h, one_if) at (m.moved c within) in
        let q : get_or counts' c 0 ≡ get_or counts c 0 = omega arith in
        rw (e, q) (k.asks c within));
  }

-- words behind the clauses don't matter
pub kept_same : {f : ℕ → ℕ} {clause clause' : ℕ → List ℕ} {clauses : ℕ} {rows counts asking : List ℕ} → ((c : ℕ) → c < clauses → clause c ≡ clause' c)
    → PlacesKept f clause clauses rows counts asking → PlacesKept f clause' clauses rows counts asking
kept_same {f = f} {clauses = clauses} h k = record {
  few = k.few;
  sizes = k.sizes;
  below = k.below;
  free = k.free;
  held = λ x c l m. k.held x c l m ∙ by-test (ltb c clauses) (λ e. let q = h c (ltb-true c clauses e) in rw (e, q)) (λ e. rw e);
  count = λ c l. k.count c l ∙ ap (once f) (h c l);
  asks = k.asks;
}

-- with no clauses the arrays are all 0
pub kept-none : (f : ℕ → ℕ) (clause : ℕ → List ℕ) → PlacesKept f clause 0 (replicate {A = ℕ} 5120 0) (replicate {A = ℕ} 640 0) (replicate {A = ℕ} 10 0)
unfolding row_at among
kept-none f clause = record {
  few = omega arith;
  below = (λ i. rw (get_d-repeated {A = ℕ} 0 5120 i) (pow_pos 64), λ i. rw (get_d-repeated {A = ℕ} 0 10 i) (pow_pos 64));
  free = λ c l m. get_d-repeated {A = ℕ} 0 640 c;
  sizes = (length-replicate {A = ℕ} 640 0, length-replicate {A = ℕ} 10 0, length-replicate {A = ℕ} 5120 0);
  held = λ x c l m. rw (get_d-repeated {A = ℕ} 0 5120 (10 * x + c / 64), le-ltb c 0 (omega arith)) (has-zero (c % 64));
  count = λ c l. absurd (omega arith);
  asks = λ c l. rw (get_d-repeated {A = ℕ} 0 10 (c / 64), le-ltb c 0 (omega arith)) (has-zero (c % 64));
}
