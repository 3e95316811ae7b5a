-- `Listing::put_setting` meets its contract: no line, or that of the atom's literal. Assumes nothing.
use Rattle.std.proofs.Common.{refl}
use Rattle.listing.specs.Puts.{as_written}
use Rattle.listing.specs.Writes.{writing-all, writing-none, first-room, more-room, both-written}
use Rattle.listing.proofs.Parts.{setting-unset, setting-first}
use Rattle.listing.proofs.Listing.put_setting.Goals as goal

pub returns-then-is_unset : goal.returns-then-is_unset
returns-then-is_unset c = writing-none (writing-all refl) (setting-unset c.args.self.now.searched.now c.args.i c.is_unset.ensures c.if-is_unset.true)

pub numbers-requires : goal.numbers-requires
numbers-requires c = first-room (setting-first c.args.self.now.searched.now c.args.i c.is_unset.ensures c.if-is_unset.false c.is_false-negative.ensures) c.requires.room

pub put_literal-requires : goal.put_literal-requires
put_literal-requires c =
    first-room as_written (more-room (setting-first c.args.self.now.searched.now c.args.i c.is_unset.ensures c.if-is_unset.false c.is_false-negative.ensures) c.numbers.ensures c.requires.room)

pub byte-requires : goal.byte-requires
byte-requires c =
    more-room as_written c.put_literal.ensures (more-room (setting-first c.args.self.now.searched.now c.args.i c.is_unset.ensures c.if-is_unset.false c.is_false-negative.ensures) c.numbers.ensures c.requires.room)

pub returns : goal.returns
returns c =
    both-written (setting-first c.args.self.now.searched.now c.args.i c.is_unset.ensures c.if-is_unset.false c.is_false-negative.ensures) c.numbers.ensures
    (both-written as_written c.put_literal.ensures c.byte.ensures)
