-- `Writer::numbers` meets its contract: a number each turn, and those behind it are still to be written. Assumes nothing.
use Rattle.std.proofs.Common.{map, drop}
use Rattle.definitions.specs.Sheet.{plus}
use Rattle.listing.specs.Lines.{column_bytes}
use Rattle.listing.specs.Writes.{Writing}
use Rattle.listing.proofs.writer.Writer.numbers.Given as goal

abbrev pub invariant-loop-size : goal.invariant-loop-size
invariant-loop-size l = Writing l.initial.self (column_bytes (map plus l.sizes)) (column_bytes (map plus (drop l.size-index l.sizes))) l.self
