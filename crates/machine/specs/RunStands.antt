-- After however many steps a run of the machine stands for the run of the search. So the words of the goal atoms say what the trail says, and
-- all words together the table of states. Assumes nothing.
use Rattle.std.specs.Prelude.{ℕ, zero, suc, ◌≡◌, List}
use Rattle.std.proofs.Math.Path.{refl}
use Rattle.std.proofs.Common.{sym, subst}
use Rattle.definitions.specs.Words.{Problem, goal_atoms}
use Rattle.definitions.specs.Instances.{task_of}
use Rattle.definitions.specs.Search.{State, start, Outcome, more, done, came_to, step, run}
use Rattle.theory.specs.Limits.{Searchable}
use Rattle.encoding.specs.Encoding.{sizes_of}
use Rattle.encoding.specs.Values.{Values, goals_set, goals_true}
use Rattle.encoding.specs.Standing.{GoalWords}
use Rattle.encoding.specs.WordTruths.{goal-words}
use Rattle.encoding.specs.StateTable.{states_in, state_table, table-stands}
use Rattle.encoding.specs.declared.Sizes.{Sizes}
use Rattle.machine.specs.Machine.{Next, StandsWith, Stands, RulesStand, NextStands, Loaded}
use Rattle.machine.specs.declared.Machine.{Machine}
use Rattle.machine.specs.MachineSteps.{Stepped, machine_step, machine_run}
use Rattle.machine.specs.StepStands.{step-stands}
use Rattle.machine.specs.Loading.{start_run, loaded-rules, loaded-stands}
use Rattle.machine.specs.declared.Run.{Run}

-- the state of the search after so many steps, and the words of the machine
abbrev pub state_after : Problem → ℕ → ℕ → State
state_after p budget n = came_to (run (task_of p) budget n (start (task_of p)))

abbrev pub values_after : List ℕ → Sizes → ℕ → ℕ → Machine → Values
values_after rules sizes budget n m = (machine_run rules sizes budget n m (start_run sizes)).arrays.trail.values

-- ── every step ──

module _ (p : Problem) (budget : ℕ) (rules : List ℕ) (rules_stand : RulesStand p rules) where
  abbrev AsRun : ℕ → State → Machine → Run → Type 0
  AsRun n s m r =
      NextStands p budget (run (task_of p) budget n s) (machine_run rules (sizes_of p) budget n m r).next (machine_run rules (sizes_of p) budget n m r).arrays

  abbrev one : Machine → Run → Stepped Machine
  one m r = machine_step rules (sizes_of p) budget m r

  run-stands : (n : ℕ) (s : State) (m : Machine) (r : Run) → Stands p budget s m r → AsRun n s m r
  unfolding run machine_run
  run-stands zero s m r h = (r, refl, h)
  run-stands (suc n) s m r h = from (step (task_of p) budget s) refl (step-stands p budget rules rules_stand s m r h) (run-stands n)
    where
      from : (o : Outcome) → step (task_of p) budget s ≡ o → NextStands p budget o (one m r).next (one m r).arrays
          → ((s : State) (m : Machine) (r : Run) → Stands p budget s m r → AsRun n s m r) → AsRun (suc n) s m r
      from (more next) e (after, q, stands) rest = rw (e, run, q, machine_run) (rest next (one m r).arrays after stands)
      from (done v last) e (after, q, stands) rest = rw (e, run, q, machine_run) (after, q, stands)

-- a search that starts in loaded arrays
pub loaded-run : (p : Problem) (sizes : Sizes) (rules : List ℕ) (m : Machine) → Loaded p sizes rules m → (budget n : ℕ)
    → NextStands p budget (run (task_of p) budget n (start (task_of p))) (machine_run rules sizes budget n m (start_run sizes)).next (machine_run rules sizes budget n m (start_run sizes)).arrays
loaded-run p sizes rules m loaded budget n =
    let s = start (task_of p) in
    subst (λ (z : Sizes). NextStands p budget (run (task_of p) budget n s) (machine_run rules z budget n m (start_run sizes)).next (machine_run rules z budget n m (start_run sizes)).arrays)
    (sym loaded.counts)
    (run-stands p budget rules (loaded-rules p sizes budget rules m loaded) n s m (start_run sizes) (loaded-stands p sizes budget rules m loaded))

-- ── what the words say ──

-- of a state: of each goal atom what its trail says, and of the whole table its states
pub record WordsStand (p : Problem) (s : State) (values : Values) : Type 0 where
  pub goals : GoalWords (goal_atoms p.clauses) s.trail (goals_set values) (goals_true values)
  pub states : states_in values ≡ state_table s.table s.trail

module _ (p : Problem) (limits : Searchable p) where
  words-stand : {Counts : Type 0} (s : State) (m : Machine) (r : Run) → StandsWith Counts p s m r → WordsStand p s m.trail.values
  unfolding task_of
  words-stand s m r h =
      let tabled = h.sound.tabled in
      record {
        goals = goal-words s.table s.trail m.trail.values h.trail.valued tabled.different (goal_atoms p.clauses) tabled.created tabled.split limits.goals;
        states = table-stands m.trail.values s.trail s.table tabled.different h.room.table-size h.trail.valued h.trail.outside;
      }

  next-words : (budget : ℕ) (o : Outcome) (next : Next) (m : Machine) → NextStands p budget o next m → WordsStand p (came_to o) m.trail.values
  unfolding came_to
  next-words budget (more s) next m (r, e, h) = words-stand s m r h
  next-words budget (done v s) next m (r, e, h) = words-stand s m r h

-- after however many steps, the last too
pub run-words : (p : Problem) (sizes : Sizes) (rules : List ℕ) (m : Machine) → Loaded p sizes rules m → (budget n : ℕ)
    → WordsStand p (state_after p budget n) (values_after rules sizes budget n m)
run-words p sizes rules m loaded budget n = next-words p loaded.limits budget (run (task_of p) budget n (start (task_of p))) _ _ (loaded-run p sizes rules m loaded budget n)
