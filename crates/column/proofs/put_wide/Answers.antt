-- `put_wide` meets its contract: twelve places, and no sign. Assumes nothing.
use Rattle.std.proofs.Common.{◌∙◌, sym, arith}
use Rattle.std.proofs.lemmas.Bool.{false≢true}
use Rattle.definitions.specs.Sheet.{plus}
use Rattle.definitions.specs.Listing.{field_bytes, wide}
use Rattle.column.specs.Sets.{part-length, sets-part}
use Rattle.column.specs.Widths.{signed_fit, wide-length}
use Rattle.column.proofs.put_wide.Goals as goal

pub put_column-requires : goal.put_column-requires
unfolding plus
put_column-requires c =
    let bytes = wide-length c.args.n in
    let twelve = part-length c.args.room.now (field_bytes (wide c.args.n)) c.args.at 12 (sym bytes) (omega (arith, bytes)) ∙ bytes in
    rw twelve (signed_fit 10 (plus c.args.n) (λ e. absurd (false≢true e)))

pub returns : goal.returns
unfolding wide plus
returns c =
    let bytes = wide-length c.args.n in
    let twelve = part-length c.args.room.now (field_bytes (wide c.args.n)) c.args.at 12 (sym bytes) (omega (arith, bytes)) ∙ bytes in
    sets-part c.args.room.now _ _ c.args.at _ (sym bytes) (c.put_column.ensures ∙ rw twelve) (omega (arith, bytes))
