-- UNSAT rests on the goal clauses and the log alone: what that says of an assignment that satisfies the goal clauses. Assumes nothing.
use Rattle.std.specs.Prelude.{ℕ, ◌≡◌}
use Rattle.definitions.specs.Lists.{◌∈◌}
use Rattle.definitions.specs.Instances.{Task}
use Rattle.definitions.specs.Meaning.{Assignment, SatisfiesClause}
use Rattle.definitions.specs.Search.{Logged, clause_of, State, done, search_task}
use Rattle.definitions.specs.declared.Verdict.TheVariants.{Unsat}

-- where the search ends with UNSAT no candidate is left, so the assignment doesn't satisfy the log
pub record UnsatLog (k : Task) (v : Assignment) : Type 0 where
  pub unsat-log : (budget : ℕ) (s : State) → search_task k budget ≡ done Unsat s → ((g : Logged) → g ∈ s.log → SatisfiesClause v (clause_of g)) → ⊥
