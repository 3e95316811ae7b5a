-- `put_listing` meets its contract: the lines of what is left of the search are the listing. Assumes nothing.
use Rattle.std.proofs.Common.{arith}
use Rattle.listing.specs.Puts.{as_written}
use Rattle.listing.specs.Left.{listing_of}
use Rattle.listing.specs.Writes.{first-room, more-room, both-written, new-room, new-put}
use Rattle.listing.specs.ListingStands.{listing-stands}
use Rattle.listing.proofs.Parts.{listing-first}
use Rattle.listing.proofs.put_listing.Goals as goal

pub put_counts-requires : goal.put_counts-requires
put_counts-requires c =
    let (p, budget, s, finished, fits) = c.requires in
    first-room (listing-first c.args.searched.now) (new-room c.new-out.ensures.room c.new-out.ensures.at (listing_of c.args.searched.now) (rw (listing-stands p budget s c.args.searched.now finished) fits))

pub put_log-requires : goal.put_log-requires
put_log-requires c =
    let (p, budget, s, finished, fits) = c.requires in
    let room = new-room c.new-out.ensures.room c.new-out.ensures.at (listing_of c.args.searched.now) (rw (listing-stands p budget s c.args.searched.now finished) fits) in
    first-room as_written (more-room (listing-first c.args.searched.now) c.put_counts.ensures room)

pub put_settings-requires : goal.put_settings-requires
put_settings-requires c =
    let (p, budget, s, finished, fits) = c.requires in
    let room = new-room c.new-out.ensures.room c.new-out.ensures.at (listing_of c.args.searched.now) (rw (listing-stands p budget s c.args.searched.now finished) fits) in
    more-room as_written c.put_log.ensures (more-room (listing-first c.args.searched.now) c.put_counts.ensures room)

pub returns : goal.returns
returns c = λ p budget s finished.
    let written = new-put c.new-out.ensures.room c.new-out.ensures.at (both-written (listing-first c.args.searched.now) c.put_counts.ensures (both-written as_written c.put_log.ensures c.put_settings.ensures)) in
    rw (← listing-stands p budget s c.args.searched.now finished) (grind (arith, written, c.written.ensures))
