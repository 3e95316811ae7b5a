-- `Listing::put_logged` meets its contract: three numbers, the literals and LF. Assumes nothing.
use Rattle.std.proofs.Common.{refl}
use Rattle.listing.specs.Puts.{as_written}
use Rattle.listing.specs.Writes.{first-room, more-room, both-written}
use Rattle.listing.proofs.Parts.{words-small, logged-first}
use Rattle.units.specs.Units.{clause_at}
use Rattle.listing.proofs.Listing.put_logged.Goals as goal

pub numbers-requires : goal.numbers-requires
unfolding clause_at
numbers-requires c =
    first-room (logged-first c.args.self.now.searched.now c.args.n c.args.self.now.listable c.requires.inside _ _ c.clause-words.result.now c.clause-words.ensures c.from-rule.ensures refl) c.requires.room

pub put_literals-requires-clause-words : goal.put_literals-requires-clause-words
unfolding clause_at
put_literals-requires-clause-words c = words-small c.args.self.now.searched.now c.args.n c.args.self.now.listable c.requires.inside _ c.clause-words.ensures

pub put_literals-requires-clause-room : goal.put_literals-requires-clause-room
unfolding clause_at
put_literals-requires-clause-room c =
    let parts = logged-first c.args.self.now.searched.now c.args.n c.args.self.now.listable c.requires.inside _ _ c.clause-words.result.now c.clause-words.ensures c.from-rule.ensures refl in
    first-room as_written (more-room parts c.numbers.ensures c.requires.room)

pub byte-requires : goal.byte-requires
unfolding clause_at
byte-requires c =
    let parts = logged-first c.args.self.now.searched.now c.args.n c.args.self.now.listable c.requires.inside _ _ c.clause-words.result.now c.clause-words.ensures c.from-rule.ensures refl in
    more-room as_written c.put_literals.ensures (more-room parts c.numbers.ensures c.requires.room)

pub returns : goal.returns
unfolding clause_at
returns c =
    let parts = logged-first c.args.self.now.searched.now c.args.n c.args.self.now.listable c.requires.inside _ _ c.clause-words.result.now c.clause-words.ensures c.from-rule.ensures refl in
    both-written parts c.numbers.ensures (both-written as_written c.put_literals.ensures c.byte.ensures)
