use Rattle.std.proofs.Common.{sym, arith}
use Rattle.theory.specs.ExportLaws.{short-export, enough-rooms}
use Rattle.solver.specs.LentLaws.{lent-room, asked-first}
use Rattle.answering.proofs.Refusals.{handed-on}
use Rattle.solver.proofs.lent.check_rooms.Goals as goal

pub returns-in_err-check_room : goal.returns-in_err-check_room
returns-in_err-check_room c =
    rw (handed-on c.from_residual.result _ c.from_residual.ensures.1) (asked-first c.args.room c.args.cnf _ c.in_err-check_room.ensures)

pub returns-then-cnf-lt-EXPORT_ROOM : goal.returns-then-cnf-lt-EXPORT_ROOM
returns-then-cnf-lt-EXPORT_ROOM c = sym (short-export c.args.room c.args.cnf (lent-room c.args.room c.in_ok-check_room.ensures) (omega arith))

pub returns : goal.returns
returns c = sym (enough-rooms c.args.room c.args.cnf (lent-room c.args.room c.in_ok-check_room.ensures) (omega arith))
