-- `listed` meets its contract: the question about what is lent, and then the sheet's. Assumes nothing.
use Rattle.solver.specs.LentLaws.{lent-room, short-solved, enough-solved}
use Rattle.answering.proofs.Refusals.{handed-on}
use Rattle.solver.proofs.listed.Goals as goal

pub returns-in_err-check_room : goal.returns-in_err-check_room
returns-in_err-check_room c =
    let a = c.args in
    rw (handed-on c.from_residual.result _ c.from_residual.ensures.1) (short-solved a.sheet.now a.budget a.room.now _ c.in_err-check_room.ensures)

pub list-requires : goal.list-requires
list-requires c = lent-room _ c.in_ok-check_room.ensures

pub returns : goal.returns
returns c =
    let a = c.args in
    enough-solved a.sheet.now a.budget a.room.now c.in_ok-check_room.ensures _ _ c.list.ensures
