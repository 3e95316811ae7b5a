-- `Writer::number` meets its contract: a column of four bytes. Assumes nothing.
use Rattle.std.proofs.Common.{refl, arith}
use Rattle.listing.proofs.Columns.{column-length, column-put}
use Rattle.listing.proofs.writer.Writer.number.Goals as goal

pub put_narrow-requires : goal.put_narrow-requires
put_narrow-requires c = (omega (arith, column-length (record { negative = c.args.negative; size = c.args.size }) c.requires.fits), c.requires.fits)

pub returns : goal.returns
returns c = record { same = refl; put = column-put (record { negative = c.args.negative; size = c.args.size }) c.requires.fits c.put_narrow.ensures }
