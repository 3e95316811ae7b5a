-- `Writer::decimal` meets its contract: as many places as there are digits. Assumes nothing.
use Rattle.std.proofs.Common.{◌≡◌, refl, ap, ◌+◌, length, arith}
use Rattle.definitions.specs.Listing.{decimals}
use Rattle.column.specs.Sets.{part-length, sets-part}
use Rattle.listing.proofs.Numbers.{one-digit, two-digits, three-digits, digits-whole}
use Rattle.listing.proofs.writer.Writer.decimal.Goals as goal
use Rattle.listing.proofs.writer.Writer.decimal.Goals.{in-0-to-9, in-10-to-99, in_default}

pub slice_bounds-put_digits-end : goal.slice_bounds-put_digits-end
slice_bounds-put_digits-end c =
    elim c.if-n-lt10.branch [
      | in-0-to-9 w ↦ omega (arith, one-digit c.args.n)
      | in-10-to-99 w ↦ omega (arith, two-digits c.args.n)
      | in_default w ↦ omega (arith, three-digits c.args.n)
    ]

pub returns : goal.returns
returns c =
    let w = c.args.self.now in
    let width : c.if-n-lt10.width ≡ length (decimals 3 c.args.n) =
    elim c.if-n-lt10.branch [
      | in-0-to-9 w ↦ omega (arith, one-digit c.args.n)
      | in-10-to-99 w ↦ omega (arith, two-digits c.args.n)
      | in_default w ↦ omega (arith, three-digits c.args.n)
    ] in
    let digits = digits-whole c.args.n (part-length w.room.now (decimals 3 c.args.n) w.at c.if-n-lt10.width width c.requires.fits) c.put_digits.ensures in
    record { same = refl; put = record { place = ap (λ n. w.at + n) width; stored = sets-part w.room.now (decimals 3 c.args.n) _ w.at _ width digits c.requires.fits } }
