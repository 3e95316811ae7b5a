-- The invariant of the search: choices obey every clause that comes from an instance, so UNSAT means what document 01 says.
-- Assumes nothing.
use Rattle.std.specs.Prelude.{ℕ, ◌≡◌}
use Rattle.std.proofs.Math.Option.{some}
use Rattle.definitions.specs.Words.{Problem}
use Rattle.definitions.specs.Instances.{Task, task_of}
use Rattle.definitions.specs.Meaning.{Choice, Fails}
use Rattle.definitions.specs.Search.{State, Act, next_act, Outcome, done, search_task, search}
use Rattle.definitions.specs.declared.Verdict.{Verdict}
use Rattle.definitions.specs.declared.Verdict.TheVariants.{Unsat}
use Rattle.theory.specs.Trail.{ActOk}
use Rattle.theory.proofs.Trail.{act-ok}
use Rattle.theory.specs.Steps.{Step, After}
use Rattle.theory.specs.Answers.{LogsOk, Inv, InvTells}
use Rattle.theory.proofs.Answers.{step-inv, search-inv}
use Rattle.theory.specs.Choices.{choice_world, choice-laws}

module _ (k : Task) where
  pub inv-act : (s : State) (v : Inv k (choice_world k) s) (a : Act) → next_act k s ≡ some a → ActOk k (choice_world k) s.trail a
  inv-act s v = act-ok k (choice_world k) (choice-laws k) s v.trailed v.log_ok v.log_ok

  pub inv-step : (budget : ℕ) (s : State) → Inv k (choice_world k) s → (o : Outcome) → Step k budget s o
      → After (Inv k (choice_world k)) (InvTells k (choice_world k)) o
  inv-step budget s v = step-inv k (choice_world k) (choice-laws k) budget s v.log_ok v

  pub search-tells : (budget : ℕ) (v : Verdict) (s : State) → search_task k budget ≡ done v s → InvTells k (choice_world k) v s
  search-tells budget v s e = let (ok, tells) = search-inv k (choice_world k) (choice-laws k) budget v s e in tells ok

  -- UNSAT: every choice of the goal's atoms breaks a goal clause, or its closure has a clash
  pub unsat-means : (budget : ℕ) (s : State) → search_task k budget ≡ done Unsat s → (σ : Choice) → Fails k σ
  unsat-means budget s e = (search-tells budget Unsat s e).1

-- where a search ends, each logged clause comes from an instance of the problem
pub logged-ok : (p : Problem) (budget : ℕ) (v : Verdict) (s : State) → search p budget ≡ done v s → LogsOk (task_of p) s
unfolding search
logged-ok p budget v s e = (search-tells (task_of p) budget v s e).0.log_ok
