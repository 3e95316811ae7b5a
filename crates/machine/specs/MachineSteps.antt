-- The steps of the machine, in the code's order of tests, and what a run of them comes to. Assumes nothing.
use Rattle.std.specs.Prelude.{Some, None, ℕ, zero, suc, ◌+◌, ◌*◌, true, false, List, eqb, leb, get_or}
use Rattle.std.proofs.Math.Option.{none, some}
use Rattle.std.proofs.Common.{Continue, Break}
use Rattle.definitions.specs.declared.Verdict.TheVariants.{Unsat, Unknown, Spent, Full}
use Rattle.definitions.specs.Search.{decided, flipped, forced}
use Rattle.encoding.specs.Values.{Values}
use Rattle.units.specs.TrailWords.{mark_of, latest_decision, first_unset}
use Rattle.clause_log.specs.Logging.{Log, log_under}
use Rattle.encoding.specs.declared.Sizes.{Sizes}
use Rattle.units.specs.TrailArrays.{TrailArrays, set_at, undo_from}
use Rattle.machine.specs.Machine.{Next, ended_with, log_in, act_of, walk_of}
use Rattle.machine.specs.declared.Machine.{Machine}
use Rattle.rules.specs.Rules.{rule_variables}
use Rattle.rules.specs.Fillings.{filling_of}
use Rattle.machine.specs.declared.Run.{Run}
use Rattle.units.specs.declared.UnitAct.TheVariants.{Conflict, Force, Nothing}
use Rattle.walk.specs.declared.Instance.{Instance}

-- what a step answers, and the arrays that it changes as it leaves them
pub record Stepped (A : Type 0) : Type 0 where
  pub next : Next
  pub arrays : A

abbrev pub stepped : {A : Type 0} → Next → A → Stepped A
stepped r a = record { next = r; arrays = a }

-- the counts that a step changes
unfoldable pub one_set : Run → Run
one_set run = record { atoms = run.atoms; clauses = run.clauses; set = run.set + 1; decisions = run.decisions; conflicts = run.conflicts }

unfoldable pub one_decided : Run → Run
one_decided run = record { atoms = run.atoms; clauses = run.clauses; set = run.set + 1; decisions = run.decisions + 1; conflicts = run.conflicts }

unfoldable pub one_conflict : ℕ → Run → Run
one_conflict n run = record { atoms = run.atoms; clauses = run.clauses; set = n; decisions = run.decisions; conflicts = run.conflicts + 1 }

unfoldable pub one_logged : ℕ → Run → Run
one_logged atoms run = record { atoms = atoms; clauses = run.clauses + 1; set = run.set; decisions = run.decisions; conflicts = run.conflicts }

-- ── on the trail ──

-- Conflict: the latest decision that stands at true is set to false
unfoldable pub flip_at : ℕ → TrailArrays → Run → Stepped TrailArrays
flip_at zero t run = stepped (Break (ended_with Unsat (one_conflict run.set run))) t
flip_at (suc at) t run = stepped (Continue (one_conflict (suc at) run)) (set_at at (get_or t.words at 0 + 1) (mark_of flipped) (undo_from at run.set t))

unfoldable pub conflict_step : TrailArrays → Run → Stepped TrailArrays
conflict_step t run = flip_at (latest_decision t.marks run.set) t run

-- A: a unit is set
unfoldable pub unit_step : ℕ → TrailArrays → Run → Stepped TrailArrays
unit_step w t run = stepped (Continue (one_set run)) (set_at run.set w (mark_of forced) t)

-- C: the first unset goal atom is decided
unfoldable pub decide_step : ℕ → ℕ → TrailArrays → Run → Stepped TrailArrays
decide_step budget a t run =
    elim (leb budget run.decisions) [
      | true ↦ stepped (Break (ended_with Spent run)) t
      | false ↦ stepped (Continue (one_decided run)) (set_at run.set (2 * a) (mark_of decided) t)
    ]

unfoldable pub goal_step : ℕ → ℕ → TrailArrays → Run → Stepped TrailArrays
goal_step goals budget t run =
    elim (eqb (first_unset t.values 0 goals) goals) [
      | true ↦ stepped (Break (ended_with Unknown run)) t
      | false ↦ decide_step budget (first_unset t.values 0 goals) t run
    ]

-- ── on the log ──

-- B: an instance is logged
unfoldable pub instance_step : Values → List ℕ → Sizes → Instance → Log → Run → Stepped Log
instance_step values rules sizes i l run =
    elim (log_under values rules (filling_of sizes.constants (rule_variables rules i.rule) i.filling) i.rule sizes.clauses l) [
      | none ↦ stepped (Break (ended_with Full run)) l
      | some k ↦ stepped (Continue (one_logged k.atoms run)) k
    ]

-- ── on the machine ──

abbrev pub with_trail : TrailArrays → Machine → Machine
with_trail t m = record { store = m.store; table = m.table; trail = t }

abbrev pub with_log : Log → Machine → Machine
with_log l m = record { store = l.store; table = l.table; trail = m.trail }

unfoldable pub on_trail : Machine → Stepped TrailArrays → Stepped Machine
on_trail m x = stepped x.next (with_trail x.arrays m)

unfoldable pub on_log : Machine → Stepped Log → Stepped Machine
on_log m x = stepped x.next (with_log x.arrays m)

-- A before B, B before C
unfoldable pub machine_step : List ℕ → Sizes → ℕ → Machine → Run → Stepped Machine
machine_step rules sizes budget m run =
    elim (act_of sizes m run) [
      | Conflict ↦ on_trail m (conflict_step m.trail run)
      | Force w ↦ on_trail m (unit_step w m.trail run)
      | Nothing ↦ elim (walk_of rules sizes m) [
        | Some i ↦ on_log m (instance_step m.trail.values rules sizes i (log_in m run) run)
        | None ↦ on_trail m (goal_step sizes.atoms budget m.trail run)
      ]
    ]

-- so many steps, or fewer if one of them ends the search
unfoldable pub machine_run : List ℕ → Sizes → ℕ → ℕ → Machine → Run → Stepped Machine
machine_run rules sizes budget zero m run = stepped (Continue run) m
machine_run rules sizes budget (suc n) m run =
    elim (machine_step rules sizes budget m run).next [
      | Continue next ↦ machine_run rules sizes budget n (machine_step rules sizes budget m run).arrays next
      | Break last ↦ machine_step rules sizes budget m run
    ]

-- the run after a step
abbrev pub run_after : Next → Run
run_after (Continue run) = run
run_after (Break last) = last.run
