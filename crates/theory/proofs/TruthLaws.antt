-- The test of a literal by its sign and its atom's state, after every step of a search. Assumes nothing.
use Rattle.std.specs.Prelude.{ℕ}
use Rattle.definitions.specs.Words.{Literal}
use Rattle.definitions.specs.Instances.{Task}
use Rattle.definitions.specs.Search.{start, Outcome, more, done, came_to, run}
use Rattle.definitions.specs.LiteralTest.{TellsApart}
use Rattle.theory.specs.Steps.{After, run-keeps}
use Rattle.theory.specs.Answers.{Inv, InvTells, start-inv}
use Rattle.theory.specs.Choices.{choice_world}
use Rattle.theory.proofs.Choices.{inv-step}
use Rattle.theory.specs.Unknown.{consistent}
use Rattle.theory.specs.TruthLaws.{tells-apart}

-- it tells apart true, false and unset after every step of a search, and where it ends
pub search-tells-apart : (k : Task) (budget n : ℕ) (l : Literal) → TellsApart (came_to (run k budget n (start k))).trail l
search-tells-apart k budget n =
    on (run k budget n (start k))
    (run-keeps k budget (Inv k (choice_world k)) (InvTells k (choice_world k)) (inv-step k budget) n (start k) (start-inv k (choice_world k)))
  where
    on : (o : Outcome) → After (Inv k (choice_world k)) (InvTells k (choice_world k)) o → (l : Literal) → TellsApart (came_to o).trail l
    on (more s) v = unfold came_to in tells-apart s.trail (consistent k v.trailed)
    on (done w s) v = unfold came_to in tells-apart s.trail (consistent k v.0.trailed)
