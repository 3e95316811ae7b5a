-- Where the search of an accepted sheet ends, the listing has at most 44,841 bytes and every number fits its column: symbols,
-- constants and rule numbers keep the limits of the sheet. Assumes nothing.
use Rattle.std.specs.Prelude.{ℕ, ◌^◌, ◌≤◌, ◌<◌, ◌≡◌}
use Rattle.std.proofs.Common.{sym, ◌∙◌, arith}
use Rattle.std.proofs.Math.Path.{ap}
use Rattle.std.proofs.Math.Logic.{inl, inr}
use mathlib.Core.List.Memᴰ
use Rattle.std.proofs.Math.ListN.{length}
use Rattle.definitions.specs.Lists.{◌∈◌}
use Rattle.definitions.specs.Words.{Literal, plain, Problem, goal_atoms}
use Rattle.definitions.specs.Instances.{Instance, fill, task_of}
use Rattle.definitions.specs.Search.{is_false, Logged, clause_of, State, done, search}
use Rattle.definitions.specs.declared.Verdict.{Verdict}
use Rattle.theory.specs.ListLaws.{Each}
use Rattle.theory.specs.WordLaws.{negate-atom}
use Rattle.theory.specs.SearchLaws.{clause-cases}
use Rattle.theory.specs.InstanceLaws.{only-fillings, filled-rule}
use Rattle.theory.specs.Counts.{decisions-within-budget, conflicts-at-most-decisions-plus-1, limits-kept}
use Rattle.theory.specs.Unknown.{consistent}
use Rattle.theory.proofs.Choices.{search-tells, logged-ok}
use Rattle.theory.specs.Limits.{LiteralLimits, Limits}
use Rattle.theory.specs.ListingLaws.{LoggedListable, Listable}
use Rattle.theory.specs.Sizes.{instance-heads, literal-listable, instance-limits, same-limits, table-limits}

module _ (p : Problem) (limits : Limits p) where
  -- where a search ends, with whatever budget
  module _ (budget : ℕ) (v : Verdict) (s : State) (e : search p budget ≡ done v s) where
    -- the literals of a logged clause keep the limits
    pub logged-limits : (g : Logged) → g ∈ s.log → Each (LiteralLimits p) (clause_of g)
    logged-limits g m l n =
        let ok = logged-ok p budget v s e g m in
        let each = instance-limits p limits g.instance ok.its in
        elim (clause-cases g l n) [
          | inl r ↦ same-limits p limits r.0 l (sym (ap (λ (x : Literal). x.atom) r.2 ∙ negate-atom r.0)) (each r.0 (Memᴰ.append_left g.instance.body r.1))
          | inr q ↦ each l (Memᴰ.append_right g.instance.heads (ok.taken l q))
        ]

    -- so each of them can be listed
    pub logged-listable : (g : Logged) → g ∈ s.log → LoggedListable g
    unfolding fill
    logged-listable g m =
        let its = (logged-ok p budget v s e g m).its in
        let f = only-fillings p g.instance its in
        record {
          rule = omega (arith, ap (λ (x : Instance). x.rule) f.made, (filled-rule f).0, limits.rules);
          heads = instance-heads p limits g.instance its;
          literal = λ l n. literal-listable p limits l (logged-limits g m l n);
        }

  -- every state in which a search ends can be listed
  pub search-listable : (budget : ℕ) → budget < 2 ^ 32 → (v : Verdict) (s : State) → search p budget ≡ done v s → Listable s
  unfolding search task_of is_false plain
  search-listable budget h v s e =
      let (table_size, log_size) = limits-kept (task_of p) budget v s few e in
      let decided = decisions-within-budget (task_of p) budget v s e in
      record {
        table = table_size;
        log = log_size;
        decisions = omega arith;
        conflicts = omega (arith, conflicts-at-most-decisions-plus-1 (task_of p) budget v s e);
        atoms = λ a m. literal-listable p limits (plain a) (table-limits p limits budget v s e (plain a) m);
        clauses = logged-listable budget v s e;
        settled = λ a m. consistent (task_of p) (search-tells (task_of p) budget v s e).0.trailed (plain a);
      }
    where
      few : length (goal_atoms p.clauses) ≤ 256
      few = omega (arith, limits.goals)
