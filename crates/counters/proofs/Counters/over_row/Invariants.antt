-- The loop of `Counters::over_row`: the clauses of the first words are done. Assumes nothing.
use Rattle.std.specs.Prelude.{◌≡◌}
use Rattle.counters.specs.PlacesKept.{Moved}
use Rattle.counters.specs.Passes.{first_of}
use Rattle.counters.proofs.Counters.over_row.Given as goal

abbrev pub invariant-loop-k : goal.invariant-loop-k
invariant-loop-k l =
    record {
      rows : l.self.rows ≡ l.initial.self.rows;
      done : Moved (first_of l.initial.self.rows l.x l.k) l.up l.down l.initial.self.counts l.initial.self.asking l.self.counts l.self.asking;
    }
