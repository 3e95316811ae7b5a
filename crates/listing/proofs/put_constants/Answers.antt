-- `put_constants` meets its contract: a constant each turn, and those from `i` on are still to be written. Assumes nothing.
use Rattle.std.proofs.Common.{arith}
use Rattle.listing.specs.Writes.{writing-first-room, writing-first, writing-none}
use Rattle.listing.proofs.Parts.{constants-first, constants-none}
use Rattle.listing.proofs.put_constants.Goals as goal

pub number-requires-clause-room : goal.number-requires-clause-room
number-requires-clause-room c =
    writing-first-room c.loop-i.invariant (constants-first c.args.code c.args.arity c.loop-i.i (omega arith) c.constant.ensures) c.requires

pub loop-i-preserved : goal.loop-i-preserved
loop-i-preserved c =
    writing-first c.loop-i.invariant (constants-first c.args.code c.args.arity c.loop-i.i (omega arith) c.constant.ensures) c.number.ensures

pub returns : goal.returns
returns c = writing-none c.loop-i.invariant (constants-none c.args.code c.args.arity c.loop-i.i (omega arith))
