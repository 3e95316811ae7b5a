-- `rows::read_row` meets its contract: what the line comes to stays the same while numbers take the place of its filled columns. Assumes nothing.
use Rattle.rows.proofs.RowLoops.{RowUpTo}
use Rattle.rows.proofs.read_row.Given as goal

abbrev pub invariant-loop-i : goal.invariant-loop-i
invariant-loop-i l = RowUpTo l.sheet l.from l.count l.i l.filled l.row
