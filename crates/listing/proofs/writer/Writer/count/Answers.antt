-- `Writer::count` meets its contract: a wide column has twelve bytes. Assumes nothing.
use Rattle.std.proofs.Common.{refl, arith}
use Rattle.column.specs.Widths.{wide-length}
use Rattle.listing.proofs.writer.Writer.count.Goals as goal

pub put_wide-requires : goal.put_wide-requires
put_wide-requires c = omega (arith, wide-length c.args.n)

pub returns : goal.returns
returns c = record { same = refl; put = record { place = omega (arith, wide-length c.args.n); stored = c.put_wide.ensures } }
