-- Entries of the trail are undone one by one, and the counters are those of the values that are left. Assumes nothing.
use Rattle.std.specs.Prelude.{ℕ, ◌+◌, ◌-◌, ◌/◌, ◌%◌, ◌≤◌, ◌<◌, ◌≡◌, refl, eqb, length, get_or, take, drop, List, [], ◌∷◌}
use Rattle.std.proofs.Common.{sym, ◌∙◌, arith, eqb-true}
use Rattle.std.proofs.lemmas.Bool.{eqb-false}
use Rattle.definitions.specs.LiteralTest.{unset_value}
use Rattle.theory.specs.Tests.{by-test}
use Rattle.encoding.specs.Values.{Values, value_at, unassigned}
use Rattle.encoding.specs.ValueLaws.{unassigned-here, unassigned-elsewhere, length-unassigned}
use Rattle.encoding.specs.ArrayLaws.{part-cons, part-nil}
use Rattle.units.specs.TrailWords.{cleared}
use Rattle.units.specs.Stacks.{length-cleared}
use Rattle.counters.specs.declared.Counters.{Counters}
use Rattle.counters.specs.Setting.{CountersFit, IsUnset, IsSet, StayKept, stay-fit}

-- the entries from one place up to another are set as they say, and no two have one atom
pub record Undoable (values : Values) (trail : List ℕ) (from n : ℕ) : Type 0 where
  pub size : n ≤ length trail
  pub small : (i : ℕ) → from ≤ i → i < n → get_or trail i 0 < 512
  pub valued : (i : ℕ) → from ≤ i → i < n → IsSet values (get_or trail i 0)
  pub apart : (i j : ℕ) → from ≤ i → i < j → j < n → get_or trail j 0 / 2 ≡ get_or trail i 0 / 2 → ⊥

undo-rest : {values : Values} {trail : List ℕ} {i n : ℕ} → i < n → Undoable values trail i n → Undoable (unassigned values (get_or trail i 0)) trail (i + 1) n
undo-rest {values = values} {trail = trail} {i = i} l u = record {
  size = u.size;
  small = λ j a b. u.small j (omega arith) b;
  valued = λ j a b.
      let was = u.valued j (omega arith) b in
      let far = u.apart i j (omega arith) (omega arith) b in
      record {
        inside = was.inside;
        size = length-unassigned values (get_or trail i 0) ∙ was.size;
        state = unassigned-elsewhere values (get_or trail i 0) (get_or trail j 0 / 2) (λ q. far (sym q)) ∙ was.state;
      };
  apart = λ j k a b c. u.apart j k (omega arith) b c;
}

cleared-rest : (values : Values) (trail : List ℕ) (i n : ℕ) → i < n → n ≤ length trail
    → cleared values (take (n - i) (drop i trail)) ≡ cleared (unassigned values (get_or trail i 0)) (take (n - (i + 1)) (drop (i + 1) trail))
unfolding cleared
cleared-rest values trail i n l s = rw (part-cons trail n i l s)

cleared-end : (values : Values) (trail : List ℕ) (i n : ℕ) → n ≤ i → cleared values (take (n - i) (drop i trail)) ≡ values
unfolding cleared
cleared-end values trail i n l = rw (part-nil trail n i l)

-- so far: for whatever values stood at first, the counters are those of the values that are left
pub record SoFar (words : ℕ) (trail : List ℕ) (from n : ℕ) (k₀ : Counters) (i : ℕ) (k : Counters) : Type 0 where
  pub far : (values : Values) → Undoable values trail from n
      → (left : Values) × Undoable left trail i n
      × (cleared left (take (n - i) (drop i trail)) ≡ cleared values (take (n - from) (drop from trail)))
      × StayKept words values k₀ left k

pub far-start : {words : ℕ} {trail : List ℕ} {k : Counters} {from n : ℕ} → SoFar words trail from n k from k
far-start = record { far = λ values u. (values, u, refl, λ clause clauses l e. e) }

module _ {words : ℕ} {trail : List ℕ} {k₀ : Counters} {from n i : ℕ} {k : Counters} (s : SoFar words trail from n k₀ i k) where
  module _ (l : i < n) {w : ℕ} (is : w ≡ get_or trail i 0) where
    pub far-small : (values : Values) → Undoable values trail from n → w < 512
    far-small values u = let (left, v, e, stay) = s.far values u in let b = v.small i (omega arith) l in omega arith

    pub far-fits : (values : Values) → Undoable values trail from n → CountersFit values words k₀ → (left : Values) × IsSet left w × CountersFit left words k
    far-fits values u counted =
        let (left, v, e, stay) = s.far values u in
        (left, rw is (v.valued i (omega arith) l), stay-fit values left stay counted)

    pub far-turn : {k' : Counters} → ((values : Values) → IsSet values w → StayKept words values k (unassigned values w) k') → SoFar words trail from n k₀ (i + 1) k'
    far-turn step = record {
      far = λ values u.
          let (left, v, e, stay) = s.far values u in (
            unassigned left (get_or trail i 0),
            undo-rest l v,
            sym (cleared-rest left trail i n l v.size) ∙ e,
            λ clause clauses b its. rw is at (step left (rw is (v.valued i (omega arith) l)) clause clauses b (stay clause clauses b its)),
          );
    }

  pub far-end : n ≤ i → (values : Values) → Undoable values trail from n → StayKept words values k₀ (cleared values (take (n - from) (drop from trail))) k
  far-end l values u clause clauses b its =
      let (left, v, e, stay) = s.far values u in
      rw (← e, cleared-end left trail i n l) (stay clause clauses b its)

-- ── what is undone is unset ──

module _ (i : ℕ) (inside : i < 256) where
  cleared-stays : (values : Values) (ws : List ℕ) → length values ≡ 8 → value_at values i ≡ unset_value → value_at (cleared values ws) i ≡ unset_value
  unfolding cleared
  cleared-stays values [] size e = e
  cleared-stays values (w ∷ ws) size e =
      cleared-stays (unassigned values w) ws (length-unassigned values w ∙ size)
      (by-test (eqb (w / 2) i)
      (λ q. unassigned-here values i inside size w (eqb-true (w / 2) i q))
      (λ q. unassigned-elsewhere values w i (eqb-false (w / 2) i q) ∙ e))

  cleared-first : (values : Values) (w : ℕ) (ws : List ℕ) → length values ≡ 8 → w / 2 ≡ i → value_at (cleared values (w ∷ ws)) i ≡ unset_value
  unfolding cleared
  cleared-first values w ws size q = cleared-stays (unassigned values w) ws (length-unassigned values w ∙ size) (unassigned-here values i inside size w q)

-- the negation of a positive literal that was undone first can be set
pub undone-open : {values : Values} {trail : List ℕ} {at n : ℕ} → Undoable values trail at n → at < n → get_or trail at 0 % 2 ≡ 0
    → IsUnset (cleared values (take (n - at) (drop at trail))) (get_or trail at 0 + 1)
undone-open {values} {trail} {at} {n} u l even =
    let was = u.valued at (omega arith) l in
    let half : (get_or trail at 0 + 1) / 2 ≡ get_or trail at 0 / 2 = omega arith in
    record {
      inside = rw half was.inside;
      size = length-cleared values (take (n - at) (drop at trail)) ∙ was.size;
      state = rw (half, part-cons trail n at l u.size)
          (cleared-first (get_or trail at 0 / 2) was.inside values (get_or trail at 0) (take (n - (at + 1)) (drop (at + 1) trail)) was.size refl);
    }
