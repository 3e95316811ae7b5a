-- A step leaves what a run comes to as it is, where the run has more steps than the measure. So what a run from the start comes to is
-- what the search comes to. Assumes nothing.
use Rattle.std.specs.Prelude.{ℕ, suc, ◌<◌, ◌≡◌}
use Rattle.std.proofs.Common.{subst, arith}
use Rattle.definitions.specs.Words.{Problem}
use Rattle.definitions.specs.Instances.{Task, task_of}
use Rattle.definitions.specs.Search.{State, start, Outcome, more, done, step, run, enough, search_task, search}
use Rattle.definitions.specs.declared.Verdict.{Verdict}
use Rattle.theory.specs.Limits.{Searchable}
use Rattle.theory.specs.Steps.{Falls, kind}
use Rattle.theory.specs.Ends.{Fits, start_fits, measure, step_falls, start-measure, run-enough}
use Rattle.machine.specs.Machine.{EndStands}
use Rattle.machine.specs.declared.Machine.{Machine}
use Rattle.machine.specs.declared.Ended.{Ended}

module _ (k : Task) (budget : ℕ) (s : State) where
  more-falls : Fits k s → (s' : State) → step k budget s ≡ more s' → Fits k s' × (measure budget s' < measure budget s)
  more-falls f s' e = subst (Falls (Fits k) (measure budget) s) e (step_falls k budget s f (step k budget s) (kind k budget s))

  -- a step that does not end the search makes the measure smaller
  pub step_less : Fits k s → (s' : State) → step k budget s ≡ more s' → measure budget s' < measure budget s
  step_less f s' e = (more-falls f s' e).1

  -- and the run goes on as it would have
  pub run_more : Fits k s → (s' : State) → step k budget s ≡ more s'
      → run k budget (suc (measure budget s')) s' ≡ run k budget (suc (measure budget s)) s
  unfolding run
  run_more f s' e =
      let (f', less) = more-falls f s' e in
      rw (e, run) (run-enough k budget (suc (measure budget s')) (measure budget s) s' f' (omega arith) less)

  -- a step that ends the search ends the run
  pub run-done : (n : ℕ) (v : Verdict) (s' : State) → step k budget s ≡ done v s' → run k budget (suc n) s ≡ done v s'
  unfolding run
  run-done n v s' e = rw (e, run)

pub search-run : (p : Problem) (budget : ℕ) → Searchable p → run (task_of p) budget (suc (measure budget (start (task_of p)))) (start (task_of p)) ≡ search p budget
unfolding search search_task task_of
search-run p budget limits =
    let k = task_of p in
    run-enough k budget (suc (measure budget (start k))) (enough budget) (start k) (start_fits k (omega (arith, limits.goals))) (omega arith) (start-measure k budget)

-- the machine that has come to the end of that run has come to the end of the search
pub search-stands : (p : Problem) (budget : ℕ) → Searchable p → (r : Ended) (m : Machine)
    → EndStands p budget (run (task_of p) budget (suc (measure budget (start (task_of p)))) (start (task_of p))) r m → EndStands p budget (search p budget) r m
search-stands p budget limits r m h = subst (λ (o : Outcome). EndStands p budget o r m) (search-run p budget limits) h
