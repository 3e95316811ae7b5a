-- The machine: the search over arrays, and how it stands for a state of the definitions' search. Assumes nothing.
use Rattle.std.specs.Prelude.{ℕ, suc, ◌*◌, ◌<◌, ◌^◌, ◌≡◌, List, length, take}
use Rattle.std.proofs.Common.{ControlFlow, Continue, Break}
use Rattle.encoding.specs.Lengths.{literal_array, rule_array, start_array}
use Rattle.definitions.specs.Lists.{joined}
use Rattle.definitions.specs.Words.{Problem}
use Rattle.definitions.specs.Instances.{task_of}
use Rattle.definitions.specs.Search.{State, Outcome, more, done, run, search}
use Rattle.definitions.specs.declared.Verdict.{Verdict}
use Rattle.theory.specs.Limits.{Searchable}
use Rattle.theory.specs.Counts.{Counted, CountsTell}
use Rattle.theory.specs.Invariants.{Sound}
use Rattle.theory.specs.Ends.{measure}
use Rattle.encoding.specs.Encoding.{Arrays, empty_index, sizes_of, hold}
use Rattle.encoding.specs.declared.Sizes.{Sizes}
use Rattle.encoding.specs.Lent.{clause_store, atom_table}
use Rattle.units.specs.TrailArrays.{trail_arrays}
use Rattle.encoding.specs.Slots.{rule_words}
use Rattle.encoding.specs.Values.{Values, no_values}
use Rattle.units.specs.TrailWords.{TrailStands}
use Rattle.units.specs.TrailLaws.{Room}
use Rattle.units.specs.Units.{act_from}
use Rattle.units.specs.declared.UnitAct.{UnitAct}
use Rattle.walk.specs.Walk.{Found, walk_from}
use Rattle.clause_log.specs.Logging.{Log}
use Rattle.clause_log.specs.LogHolds.{LogHolds}
use Rattle.encoding.specs.declared.ClauseStore.{ClauseStore}
use Rattle.encoding.specs.declared.AtomTable.{AtomTable}
use Rattle.machine.specs.declared.Machine.{Machine}
use Rattle.machine.specs.declared.Run.{Run}
use Rattle.machine.specs.declared.Ended.{Ended}

abbrev pub machine : List ℕ → List ℕ → List ℕ → List ℕ → List ℕ → List ℕ → Values → List ℕ → List ℕ → Machine
machine starts literals heads numbers table index values trail marks =
    record { store = clause_store starts literals heads numbers; table = atom_table table index; trail = trail_arrays values trail marks }

-- what a step leads to
abbrev pub Next : Type 0
Next = ControlFlow Ended Run

abbrev pub ended_with : Verdict → Run → Ended
ended_with v run = record { verdict = v; run = run }

-- what logging changes of it, with its counts
abbrev pub log_as : ClauseStore → AtomTable → Run → Log
log_as store table run = record { atoms = run.atoms; clauses = run.clauses; store = store; table = table }

abbrev pub log_in : Machine → Run → Log
log_in m run = log_as m.store m.table run

-- what step A and step B find
abbrev pub act_of : Sizes → Machine → Run → UnitAct
act_of sizes m run = act_from m.trail.values m.store.starts m.store.literals m.store.heads sizes.clauses sizes.atoms 0 run.clauses

abbrev pub walk_of : List ℕ → Sizes → Machine → Found
walk_of rules sizes m = walk_from m.trail.values m.table.index rules sizes.constants 0 sizes.rules

-- the machine stands for a state: the same table, log, trail and counts, and what holds of every state of the search.
-- What the counts tell is a parameter, since after the last conflict of UNSAT they tell something else
pub record StandsWith (Counts : Type 0) (p : Problem) (s : State) (m : Machine) (run : Run) : Type 0 where
  pub sound : Sound (task_of p) s
  pub counted : Counts
  pub log : LogHolds p s (log_in m run)
  pub trail : TrailStands s.table s.trail m.trail.values m.trail.words m.trail.marks
  pub room : Room s.table m.trail.values m.trail.words m.trail.marks
  pub set : run.set ≡ length s.trail
  pub decisions : run.decisions ≡ s.decisions
  pub conflicts : run.conflicts ≡ s.conflicts

-- before a step
abbrev pub Stands : Problem → ℕ → State → Machine → Run → Type 0
Stands p budget s m run = StandsWith (Counted budget s) p s m run

-- where the search has ended
abbrev pub StandsAtEnd : Problem → ℕ → Verdict → State → Machine → Run → Type 0
StandsAtEnd p budget v s m run = StandsWith (CountsTell budget v s) p s m run

-- the rules stand in their array
pub record RulesStand (p : Problem) (rules : List ℕ) : Type 0 where
  pub limits : Searchable p
  pub words : take (22 * length p.rules) rules ≡ joined rule_words p.rules

-- a step of the machine stands for a step of the search
abbrev pub NextStands : Problem → ℕ → Outcome → Next → Machine → Type 0
NextStands p budget (more s) r m = (run : Run) × (r ≡ Continue run) × Stands p budget s m run
NextStands p budget (done v s) r m = (run : Run) × (r ≡ Break (ended_with v run)) × StandsAtEnd p budget v s m run

-- there are a problem and a state that the machine stands for, so that a step can be made
pub record Running (budget : ℕ) (rules : List ℕ) (sizes : Sizes) (m : Machine) (run : Run) : Type 0 where
  pub problem : Problem
  pub state : State
  pub rules_stand : RulesStand problem rules
  pub counts : sizes ≡ sizes_of problem
  pub stands : Stands problem budget state m run
  pub small : budget < 2 ^ 32

-- the machine has come to an answer as the search has
abbrev pub EndStands : Problem → ℕ → Outcome → Ended → Machine → Type 0
EndStands p budget (more s) r m = ⊥
EndStands p budget (done v s) r m = (r.verdict ≡ v) × StandsAtEnd p budget v s m r.run

-- for every problem and state that the machine stood for, its run came to what theirs does
abbrev pub EndsRun : ℕ → List ℕ → Sizes → Machine → Run → Ended → Machine → Type 0
EndsRun budget rules sizes m start r last =
    (p : Problem) (s : State) → RulesStand p rules → sizes ≡ sizes_of p → Stands p budget s m start
    → EndStands p budget (run (task_of p) budget (suc (measure budget s)) s) r last

-- the arrays' lengths
pub record Lengths (rules : List ℕ) (m : Machine) : Type 0 where
  pub of_rules : length rules ≡ rule_array
  pub of_starts : length m.store.starts ≡ start_array
  pub of_literals : length m.store.literals ≡ literal_array
  pub of_heads : length m.store.heads ≡ 512
  pub of_numbers : length m.store.numbers ≡ 512
  pub of_table : length m.table.codes ≡ 256
  pub of_trail : length m.trail.words ≡ 256
  pub of_marks : length m.trail.marks ≡ 256

-- a problem stands in the arrays as the reader of a sheet leaves it, and nothing is set
pub record Loaded (p : Problem) (sizes : Sizes) (rules : List ℕ) (m : Machine) : Type 0 where
  pub lengths : Lengths rules m
  pub limits : Searchable p
  pub before : Arrays
  pub empty : before.index ≡ empty_index
  pub counts : sizes ≡ sizes_of p
  pub its_rules : rules ≡ (hold p before).rules
  pub its_starts : m.store.starts ≡ (hold p before).starts
  pub its_literals : m.store.literals ≡ (hold p before).literals
  pub its_table : m.table.codes ≡ (hold p before).table
  pub its_index : m.table.index ≡ (hold p before).index
  pub unset : m.trail.values ≡ no_values

-- for every problem that stood in the arrays, they come to what its search does
abbrev pub EndsSearch : ℕ → List ℕ → Sizes → Machine → Ended → Machine → Type 0
EndsSearch budget rules sizes m r last = (p : Problem) → Loaded p sizes rules m → EndStands p budget (search p budget) r last
