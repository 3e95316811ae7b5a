-- `put_header` meets its contract: the name, and two numbers with the bytes that end them. Assumes nothing.
use Rattle.listing.specs.Puts.{as_written}
use Rattle.listing.specs.Writes.{first-room, more-room, both-written}
use Rattle.cnf_writer.proofs.Parts.{header-first}
use Rattle.cnf_writer.proofs.put_header.Goals as goal

pub bytes-requires : goal.bytes-requires
bytes-requires c = first-room (header-first c.args.atoms c.args.clauses) c.requires

pub decimal-requires : goal.decimal-requires
decimal-requires c = first-room as_written (more-room (header-first c.args.atoms c.args.clauses) c.bytes.ensures c.requires)

pub byte-requires : goal.byte-requires
byte-requires c = first-room as_written (more-room as_written c.decimal.ensures (more-room (header-first c.args.atoms c.args.clauses) c.bytes.ensures c.requires))

pub decimal-requires-2 : goal.decimal-requires-2
decimal-requires-2 c =
    first-room as_written (more-room as_written c.byte.ensures
    (more-room as_written c.decimal.ensures (more-room (header-first c.args.atoms c.args.clauses) c.bytes.ensures c.requires)))

pub byte-requires-2 : goal.byte-requires-2
byte-requires-2 c =
    more-room as_written c.decimal-2.ensures (more-room as_written c.byte.ensures
    (more-room as_written c.decimal.ensures (more-room (header-first c.args.atoms c.args.clauses) c.bytes.ensures c.requires)))

pub returns : goal.returns
returns c =
    both-written (header-first c.args.atoms c.args.clauses) c.bytes.ensures
    (both-written as_written c.decimal.ensures (both-written as_written c.byte.ensures (both-written as_written c.decimal-2.ensures c.byte-2.ensures)))
