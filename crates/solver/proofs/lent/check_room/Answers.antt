use Rattle.std.proofs.Common.{sym, arith}
use Rattle.theory.specs.CallLaws.{short-room, enough-room}
use Rattle.solver.proofs.lent.check_room.Goals as goal

pub returns-then-room-lt-ROOM : goal.returns-then-room-lt-ROOM
returns-then-room-lt-ROOM c = sym (short-room c.args.room (omega arith))

pub returns : goal.returns
returns c = sym (enough-room c.args.room (omega arith))
