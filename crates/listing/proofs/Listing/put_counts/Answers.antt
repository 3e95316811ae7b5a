-- `Listing::put_counts` meets its contract: four numbers, two wide ones and LF. Assumes nothing.
use Rattle.std.proofs.Common.{refl}
use Rattle.listing.specs.Puts.{as_written}
use Rattle.listing.specs.Writes.{first-room, more-room, both-written}
use Rattle.listing.proofs.Parts.{counts-first}
use Rattle.listing.proofs.Listing.put_counts.Goals as goal

pub numbers-requires : goal.numbers-requires
numbers-requires c = first-room (counts-first c.args.self.now.searched.now c.number-answer.ensures refl) c.requires

pub count-requires : goal.count-requires
count-requires c = first-room as_written (more-room (counts-first c.args.self.now.searched.now c.number-answer.ensures c.from.ensures) c.numbers.ensures c.requires)

pub count-requires-2 : goal.count-requires-2
count-requires-2 c =
    first-room as_written (more-room as_written c.count.ensures (more-room (counts-first c.args.self.now.searched.now c.number-answer.ensures c.from.ensures) c.numbers.ensures c.requires))

pub byte-requires : goal.byte-requires
byte-requires c =
    more-room as_written c.count-2.ensures
    (more-room as_written c.count.ensures (more-room (counts-first c.args.self.now.searched.now c.number-answer.ensures c.from.ensures) c.numbers.ensures c.requires))

pub returns : goal.returns
returns c =
    both-written (counts-first c.args.self.now.searched.now c.number-answer.ensures c.from.ensures) c.numbers.ensures
    (both-written as_written c.count.ensures (both-written as_written c.count-2.ensures c.byte.ensures))
