-- `put_number` meets its contract: a sign, if there is one, and the digits. Assumes nothing.
use Rattle.std.proofs.Common.{refl}
use Rattle.definitions.specs.Listing.{decimals, signed_decimals}
use Rattle.listing.specs.Writes.{Writing, writing-all, writing-room, writing-first, writing-last, first-room}
use Rattle.cnf_writer.proofs.Parts.{negative-first, unsigned}
use Rattle.cnf_writer.proofs.put_number.Goals as goal
use Rattle.cnf_writer.proofs.put_number.Goals.{then-negative, else-negative}

pub byte-requires : goal.byte-requires
byte-requires c = first-room (negative-first c.args.size c.if-negative.true) c.requires

pub decimal-requires : goal.decimal-requires
decimal-requires c =
    elim c.if-negative.branch [
      | then-negative w ↦ rw w.out-is (writing-room (writing-first (writing-all refl) (negative-first c.args.size w.if-negative.true) w.byte.ensures) c.requires)
      | else-negative w ↦ rw w.out-is (writing-room (writing-all (unsigned c.args.size w.if-negative.false)) c.requires)
    ]

pub returns : goal.returns
returns c =
    let begun : Writing c.args.out.now (signed_decimals 3 (record { negative = c.args.negative; size = c.args.size })) (decimals 3 c.args.size) c.if-negative.out =
    elim c.if-negative.branch [
      | then-negative w ↦ rw w.out-is (writing-first (writing-all refl) (negative-first c.args.size w.if-negative.true) w.byte.ensures)
      | else-negative w ↦ rw w.out-is (writing-all (unsigned c.args.size w.if-negative.false))
    ] in
    writing-last begun c.decimal.ensures
