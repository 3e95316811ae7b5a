-- `Writer::numbers` meets its contract: a number each turn, and those behind it are still to be written. Assumes nothing.
use Rattle.std.proofs.Common.{arith}
use Rattle.listing.specs.Writes.{writing-first-room, writing-first, writing-none}
use Rattle.listing.proofs.Numbers.{numbers-first, numbers-none}
use Rattle.listing.proofs.writer.Writer.numbers.Goals as goal

pub number-requires-clause-room : goal.number-requires-clause-room
number-requires-clause-room c = writing-first-room c.loop-size.invariant (numbers-first c.args.sizes.now c.loop-size.size-index (omega arith)) c.requires

pub loop-size-preserved : goal.loop-size-preserved
loop-size-preserved c = writing-first c.loop-size.invariant (numbers-first c.args.sizes.now c.loop-size.size-index (omega arith)) c.number.ensures

pub returns : goal.returns
returns c = writing-none c.loop-size.invariant (numbers-none c.args.sizes.now c.loop-size.size-index (omega arith))
