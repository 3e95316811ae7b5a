-- After every step of a search, and where it ends, the clauses that ask by their numbers are enough for step A. Assumes nothing.
use Rattle.std.specs.Prelude.{ℕ, ◌≡◌}
use Rattle.definitions.specs.Words.{Clause}
use Rattle.definitions.specs.Instances.{Task}
use Rattle.definitions.specs.Search.{start, Outcome, more, done, came_to, run, next_act}
use Rattle.definitions.specs.ClauseNumbers.{clause_numbers, may_act, next_act_among}
use Rattle.theory.specs.Steps.{After, run-keeps}
use Rattle.theory.specs.Answers.{Inv, InvTells, start-inv}
use Rattle.theory.specs.Choices.{choice_world}
use Rattle.theory.proofs.Choices.{inv-step}
use Rattle.theory.specs.Unknown.{consistent}
use Rattle.theory.specs.NumberLaws.{asking-enough}

pub search-asking : (k : Task) (budget n : ℕ)
    → next_act_among (λ (c : Clause). may_act (clause_numbers (came_to (run k budget n (start k))).trail c)) k (came_to (run k budget n (start k)))
    ≡ next_act k (came_to (run k budget n (start k)))
search-asking k budget n =
    on (run k budget n (start k))
    (run-keeps k budget (Inv k (choice_world k)) (InvTells k (choice_world k)) (inv-step k budget) n (start k) (start-inv k (choice_world k)))
  where
    on : (o : Outcome) → After (Inv k (choice_world k)) (InvTells k (choice_world k)) o
        → next_act_among (λ (c : Clause). may_act (clause_numbers (came_to o).trail c)) k (came_to o) ≡ next_act k (came_to o)
    on (more s) v = unfold came_to in asking-enough k s (consistent k v.trailed)
    on (done w s) v = unfold came_to in asking-enough k s (consistent k v.0.trailed)
