-- The loops over the trail, turn by turn: what is left to do comes to what all of it came to. Assumes nothing.
use Rattle.std.specs.Prelude.{ℕ, suc, ◌+◌, ◌-◌, ◌≤◌, ◌<◌, ◌≡◌, List, Option, MatchOption, length, get_or}
use Rattle.std.proofs.Common.{sym, ◌∙◌, ap, arith, eq-eqb, ne_eqb, ltb, ltb-true, ltb-false, nat_lt}
use Rattle.std.specs.Bool.{then_some}
use Rattle.definitions.specs.Search.{decided}
use Rattle.theory.specs.Tests.{by-test}
use Rattle.encoding.specs.Values.{Values, unassigned}
use Rattle.encoding.specs.ArrayLaws.{part-cons, part-nil}
use Rattle.units.specs.TrailWords.{mark_of, latest_decision, cleared}
use Rattle.units.specs.TrailArrays.{trail_arrays, undo_from}
use Rattle.units.specs.declared.trail.Trail.{Trail}

module _ (marks : List ℕ) {x : ℕ} where
  pub decision-hit : (i : ℕ) → 0 < i → get_or marks (i - 1) 0 ≡ mark_of decided → latest_decision marks i ≡ x → i ≡ x
  unfolding latest_decision
  decision-hit i h q e =
      let f : i ≡ suc (i - 1) = omega arith in
      f ∙ (rw (eq-eqb (get_or marks (i - 1) 0) (mark_of decided) q, latest_decision) at (ap (latest_decision marks) (sym f) ∙ e))

  pub decision-turn : (i : ℕ) → 0 < i → (get_or marks (i - 1) 0 ≡ mark_of decided → ⊥) → latest_decision marks i ≡ x → latest_decision marks (i - 1) ≡ x
  unfolding latest_decision
  decision-turn i h q e =
      let f : i ≡ suc (i - 1) = omega arith in
      rw (ne_eqb (get_or marks (i - 1) 0) (mark_of decided) q, latest_decision) at (ap (latest_decision marks) (sym f) ∙ e)

  pub decision-end : (i : ℕ) → i ≤ 0 → latest_decision marks i ≡ x → x ≡ 0
  unfolding latest_decision
  decision-end i h e = let f : i ≡ 0 = omega arith in sym (rw (f, latest_decision) at e)

module _ (at n : ℕ) (t : Trail) {u : Trail} (left : undo_from at n t ≡ u) where
  pub undo-turn : {next : Values} → at < n → n ≤ length t.words → next ≡ unassigned t.values (get_or t.words at 0) → undo_from (at + 1) n (trail_arrays next t.words t.marks) ≡ u
  unfolding undo_from cleared
  undo-turn h k q = rw q (rw (part-cons t.words n at h k, cleared) at left)

  pub undo-end : n ≤ at → t ≡ u
  unfolding undo_from cleared
  undo-end h = rw (part-nil t.words n at h, cleared) at left

-- a place that is below 64 where there is one
pub found-or-not : {f goals : ℕ} (zeros : ℕ) {o : Option ℕ} → (zeros < 64 → (zeros ≡ f) × (zeros < goals)) → (64 ≤ zeros → goals ≡ f)
    → o ≡ then_some (nat_lt zeros 64) zeros → MatchOption o (f ≡ goals) (λ at. (f ≡ at) × (at < goals))
found-or-not zeros found not is =
    by-test (ltb zeros 64)
    (λ t. let (here, inside) = found (ltb-true zeros 64 t) in rw (is, t) (sym here, inside))
    (λ t. rw (is, t) (sym (not (ltb-false zeros 64 t))))
