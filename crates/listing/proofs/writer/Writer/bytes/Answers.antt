-- `Writer::bytes` meets its contract: what is copied stands behind what was written. Assumes nothing.
use Rattle.std.proofs.Common.{refl}
use Rattle.column.specs.Sets.{sets-part}
use Rattle.listing.proofs.writer.Writer.bytes.Goals as goal

pub returns : goal.returns
returns c =
    let w = c.args.self.now in
    record { same = refl; put = record { place = refl; stored = sets-part w.room.now c.args.bytes.now _ w.at _ refl c.copy_from_slice.ensures.after c.requires.fits } }
