-- `put_literal` meets its contract: the symbol, and then the constants. Assumes nothing.
use Rattle.std.proofs.Common.{refl}
use Rattle.listing.specs.Writes.{first-room, more-room, both-written}
use Rattle.listing.proofs.Parts.{literal-first}
use Rattle.listing.proofs.put_literal.Goals as goal

pub number-requires-clause-room : goal.number-requires-clause-room
number-requires-clause-room c = first-room (literal-first c.args.arities.now c.args.negative c.args.code refl) c.requires

pub put_constants-requires : goal.put_constants-requires
put_constants-requires c = more-room (literal-first _ _ _ c.from.ensures) c.number.ensures c.requires

pub returns : goal.returns
returns c = both-written (literal-first _ _ _ c.from.ensures) c.number.ensures c.put_constants.ensures
