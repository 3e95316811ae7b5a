-- Two passes over the counters as one value: what a literal that is set or undone leaves. Assumes nothing.
use Rattle.std.specs.Prelude.{ℕ, ◌≤◌, ◌<◌, ◌≡◌}
use Rattle.std.proofs.Common.{ap, ◌∙◌}
use Rattle.encoding.specs.Values.{Values, other_sign, assigned, unassigned}
use Rattle.counters.specs.declared.Counters.{Counters}
use Rattle.counters.specs.Counters.{counters}
use Rattle.counters.specs.PlacesKept.{Moved}
use Rattle.counters.specs.Passes.{RowFits, first_of}
use Rattle.counters.specs.Setting.{CountersFit, IsUnset, IsSet, StayKept, set-needs, set-needs-2, set-done, undo-needs, undo-needs-2, undo-done}

-- what a pass leaves; the rows stay
abbrev pub Passed : ℕ → ℕ → ℕ → ℕ → Counters → Counters → Type 0
Passed x words up down k k' = (k'.rows ≡ k.rows) × Moved (first_of k.rows x words) up down k.counts k.asking k'.counts k'.asking

abbrev Fits : ℕ → ℕ → ℕ → ℕ → Counters → Type 0
Fits x words up down k = RowFits x words up down k.rows k.counts k.asking

module _ (w : ℕ) (small : w < 512) (words : ℕ) (few : words ≤ 10) {other : ℕ} (is : other ≡ other_sign w) (values : Values) {k : Counters} where
  pub set-fits : IsUnset values w → CountersFit values words k → Fits w words 256 0 k
  set-fits u = set-needs w small words few is values u

  pub set-fits-2 : {k₁ : Counters} → IsUnset values w → CountersFit values words k → Passed w words 256 0 k k₁ → Fits other words 0 1 k₁
  set-fits-2 u f p = rw p.0 (set-needs-2 w small words few is values u p.1 f)

  pub set-kept : {k₁ k₂ : Counters} → IsUnset values w → Passed w words 256 0 k k₁ → Passed other words 0 1 k₁ k₂ → StayKept words values k (assigned values w) k₂
  set-kept {k₂ = k₂} u p q = λ clause clauses l e.
      ap (λ r. counters r k₂.counts k₂.asking) (q.0 ∙ p.0) ∙ set-done w small words few is values u p.1 (rw p.0 at q.1) clause clauses l e

  pub undo-fits : IsSet values w → CountersFit values words k → Fits other words 1 0 k
  undo-fits u = undo-needs w small words few is values u

  pub undo-fits-2 : {k₁ : Counters} → IsSet values w → CountersFit values words k → Passed other words 1 0 k k₁ → Fits w words 0 256 k₁
  undo-fits-2 u f p = rw p.0 (undo-needs-2 w small words few is values u p.1 f)

  pub undo-kept : {k₁ k₂ : Counters} → IsSet values w → Passed other words 1 0 k k₁ → Passed w words 0 256 k₁ k₂ → StayKept words values k (unassigned values w) k₂
  undo-kept {k₂ = k₂} u p q = λ clause clauses l e.
      ap (λ r. counters r k₂.counts k₂.asking) (q.0 ∙ p.0) ∙ undo-done w small words few is values u p.1 (rw p.0 at q.1) clause clauses l e
