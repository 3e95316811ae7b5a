-- The loop of `Counters::undo_entries`: for whatever values stood at first, the counters are those of the values that are left. Assumes nothing.
use Rattle.std.proofs.Common.{◌≡◌, ◌+◌, ◌/◌}
use Rattle.counters.specs.Undoing.{SoFar}
use Rattle.counters.proofs.Counters.undo_entries.Given as goal

abbrev pub invariant-loop-at : goal.invariant-loop-at
invariant-loop-at l =
    record {
      rows : l.self.rows ≡ l.initial.self.rows;
      so_far : SoFar ((l.clauses + 63) / 64) l.trail.words l.from l.n l.initial.self l.at l.self;
    }
