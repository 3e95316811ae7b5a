-- `put_literal` meets its contract: a number and a blank. Assumes nothing.
use Rattle.listing.specs.Writes.{first-room, more-room, both-written}
use Rattle.cnf_writer.proofs.Parts.{literal-text-first}
use Rattle.cnf_writer.proofs.put_literal.Goals as goal

pub put_number-requires : goal.put_number-requires
put_number-requires c = first-room (literal-text-first c.args.word c.from.ensures) c.requires

pub byte-requires : goal.byte-requires
byte-requires c = more-room (literal-text-first c.args.word c.from.ensures) c.put_number.ensures c.requires

pub returns : goal.returns
returns c = both-written (literal-text-first c.args.word c.from.ensures) c.put_number.ensures c.byte.ensures
