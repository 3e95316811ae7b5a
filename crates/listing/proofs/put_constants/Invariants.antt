-- `put_constants` meets its contract: a constant each turn, and those from `i` on are still to be written. Assumes nothing.
use Rattle.std.proofs.Common.{◌-◌, map}
use Rattle.definitions.specs.Lists.{up_from}
use Rattle.listing.specs.Lines.{column_bytes, constant_number}
use Rattle.listing.specs.Writes.{Writing}
use Rattle.listing.proofs.put_constants.Given as goal

abbrev pub invariant-loop-i : goal.invariant-loop-i
invariant-loop-i l =
    Writing l.initial.out (column_bytes (map (constant_number l.code) (up_from 0 l.arity))) (column_bytes (map (constant_number l.code) (up_from l.i (l.arity - l.i)))) l.out
