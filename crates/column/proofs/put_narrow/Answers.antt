-- `put_narrow` meets its contract: four places, three of them for digits behind a sign. Assumes nothing.
use Rattle.std.proofs.Common.{◌∙◌, sym, arith}
use Rattle.definitions.specs.Sheet.{Number}
use Rattle.definitions.specs.Listing.{field_bytes, narrow}
use Rattle.column.specs.Sets.{part-length, sets-part}
use Rattle.column.specs.Widths.{signed_fit, narrow-length}
use Rattle.column.proofs.put_narrow.Goals as goal

pub put_column-requires : goal.put_column-requires
put_column-requires c =
    let n : Number = record { negative = c.args.negative; size = c.args.size } in
    let bytes = narrow-length n c.requires.1 in
    let four = part-length c.args.room.now (field_bytes (narrow n)) c.args.at 4 (sym bytes) (omega (arith, bytes)) ∙ bytes in
    rw (four, c.from.ensures) (signed_fit 2 n (λ e. omega (arith, c.requires.1 e)))

pub returns : goal.returns
unfolding narrow
returns c =
    let n : Number = record { negative = c.args.negative; size = c.args.size } in
    let bytes = narrow-length n c.requires.1 in
    let four = part-length c.args.room.now (field_bytes (narrow n)) c.args.at 4 (sym bytes) (omega (arith, bytes)) ∙ bytes in
    sets-part c.args.room.now _ _ c.args.at _ (sym bytes) (c.put_column.ensures ∙ rw (four, c.from.ensures)) (omega (arith, bytes))
