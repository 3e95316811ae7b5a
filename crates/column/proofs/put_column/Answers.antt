-- `put_column` meets its contract: digits, sign and blanks, put from the right, are the bytes of the field. Assumes nothing.
use Rattle.std.proofs.Common.{◌≡◌, ◌∙◌, ◌≤◌, length, replicate, arith}
use Rattle.std.proofs.Math.Seq.{length-take-le}
use Rattle.definitions.specs.Listing.{signed_decimals}
use Rattle.column.specs.Places.{PutLast}
use Rattle.column.proofs.Columns.{place-for-sign, sign-put, no-sign-put, blanks-before}
use Rattle.column.proofs.put_column.Goals as goal
use Rattle.column.proofs.put_column.Goals.{then-negative, else-negative}

pub overflow_sub-left : goal.overflow_sub-left
overflow_sub-left c = place-for-sign c.args.field.now c.args.negative c.args.size c.requires c.put_digits-left.ensures c.if-negative.true

pub bounds-field-left : goal.bounds-field-left
bounds-field-left c =
    omega (arith, place-for-sign c.args.field.now c.args.negative c.args.size c.requires c.put_digits-left.ensures c.if-negative.true, c.put_digits-left.ensures.count)

pub returns : goal.returns
returns c =
    let field = c.args.field.now in
    let signed : PutLast field (length field) (signed_decimals (length field) (record { negative = c.args.negative; size = c.args.size })) c.if-negative.left c.if-negative.field =
    elim c.if-negative.branch [
      | then-negative w ↦ rw (w.field-is, w.left-is) (sign-put field c.args.negative c.args.size c.requires c.put_digits-left.ensures w.if-negative.true)
      | else-negative w ↦ rw (w.field-is, w.left-is) (no-sign-put field c.args.negative c.args.size c.requires c.put_digits-left.ensures w.if-negative.false)
    ] in
    let room : c.if-negative.left ≤ length c.if-negative.field = omega (arith, signed.count, c.if-negative.auto.field) in
    let blanks : c.fill.new.self ≡ replicate c.if-negative.left 32 = c.fill.ensures.after (λ y e. cc) ∙ rw (length-take-le c.if-negative.left c.if-negative.field room) in
    rw blanks (blanks-before field c.args.negative c.args.size signed)
