-- The loop of `Counters::next_act`: the first act of the clauses that are left is the first act of all. Assumes nothing.
use Rattle.std.specs.Prelude.{◌-◌, ◌≤◌, ◌≡◌}
use Rattle.units.specs.Units.{act_from}
use Rattle.counters.proofs.Counters.next_act.Given as goal

abbrev pub invariant-loop-c : goal.invariant-loop-c
invariant-loop-c l =
    record {
      within : l.from ≤ l.clauses;
      left : act_from l.values l.store.starts l.store.literals l.store.heads l.given l.goals l.from (l.clauses - l.from) ≡ act_from l.values l.store.starts l.store.literals l.store.heads l.given l.goals 0 l.clauses;
    }

abbrev pub decreases-loop-c : goal.decreases-loop-c
decreases-loop-c l = l.clauses - l.from
