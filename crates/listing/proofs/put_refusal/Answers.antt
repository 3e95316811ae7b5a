-- `put_refusal` meets its contract: three numbers and LF. Assumes nothing.
use Rattle.std.proofs.Common.{arith}
use Rattle.listing.specs.Writes.{first-room, more-room, both-written, new-room, new-put}
use Rattle.listing.proofs.Parts.{refusal-first}
use Rattle.listing.proofs.put_refusal.Goals as goal

pub numbers-requires : goal.numbers-requires
numbers-requires c = first-room (refusal-first c.from.ensures _) (new-room c.new-out.ensures.room c.new-out.ensures.at _ c.requires)

pub byte-requires : goal.byte-requires
byte-requires c = more-room (refusal-first c.from.ensures _) c.numbers.ensures (new-room c.new-out.ensures.room c.new-out.ensures.at _ c.requires)

pub returns : goal.returns
returns c =
    let written = new-put c.new-out.ensures.room c.new-out.ensures.at (both-written (refusal-first c.from.ensures _) c.numbers.ensures c.byte.ensures) in
    grind (arith, written, c.written.ensures)
