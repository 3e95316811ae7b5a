-- `print` meets its contract: nothing where the room is too small, or what the call comes to. Assumes nothing.
use Rattle.std.proofs.Common.{refl, arith}
use Rattle.definitions.specs.Call.{listing_of, written}
use Rattle.theory.specs.CallLaws.{small-part}
use Rattle.solver.specs.LentLaws.{unlisted}
use Rattle.solver.specs.PrintLaws.{printed-as, printed-result, printed-alike, result-ends}
use Rattle.solver.proofs.print.Goals as goal

pub returns-then-room-lt-ROOM : goal.returns-then-room-lt-ROOM
unfolding written
returns-then-room-lt-ROOM c =
    let a = c.args in
    rw (small-part a.sheet.now a.budget a.room.now (omega arith), written) record { length = refl; room = refl }

pub returns : goal.returns
returns c =
    let a = c.args in
    let whole =
    printed-alike a.room.now (printed-result a.sheet.now a.budget a.room.now (omega arith))
    (printed-as listing_of unlisted _ (result-ends a.sheet.now a.budget a.room.now) _ (omega arith) _ c.listed-solved.ensures _ _ c.printed.ensures)
    in
    record { length = whole.0; room = whole.1 }
