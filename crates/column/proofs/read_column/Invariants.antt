-- `column::read_column` meets its contract: a scan for each of the four bytes, and a digit more at most with each. Assumes nothing.
use Rattle.column.proofs.Scans.{ScannedTo}
use Rattle.column.proofs.read_column.Given as goal

abbrev pub invariant-loop-b : goal.invariant-loop-b
invariant-loop-b l = ScannedTo l.b-items l.b-index l.scan
