-- `exported` meets its contract: the questions about what is lent, and then the sheet's. Assumes nothing.
use Rattle.solver.specs.LentLaws.{lent-rooms, short-exported, enough-exported}
use Rattle.answering.proofs.Refusals.{handed-on}
use Rattle.solver.proofs.exported.Goals as goal

pub returns-in_err-check_rooms : goal.returns-in_err-check_rooms
returns-in_err-check_rooms c =
    let a = c.args in
    let both = short-exported a.sheet.now a.budget a.room.now a.cnf.now _ c.in_err-check_rooms.ensures in
    rw (handed-on c.from_residual.result _ c.from_residual.ensures.1) record { text = both.0; room = both.1.stored }

pub export-requires : goal.export-requires
export-requires c =
    let (large, large_export) = lent-rooms _ _ c.in_ok-check_rooms.ensures in
    record { room = large; cnf = large_export }

pub returns-in_err-made : goal.returns-in_err-made
returns-in_err-made c =
    let a = c.args in
    let e = c.export.ensures in
    let both = enough-exported a.sheet.now a.budget a.room.now a.cnf.now c.in_ok-check_rooms.ensures _ _ _ _ e.text e.listing in
    let text = rw c.in_err-made.was at both.0 in
    rw (handed-on c.from_residual-in_err-made.result _ c.from_residual-in_err-made.ensures.1) record { text = text; room = both.1.stored }

pub returns : goal.returns
returns c =
    let a = c.args in
    let e = c.export.ensures in
    let both = enough-exported a.sheet.now a.budget a.room.now a.cnf.now c.in_ok-check_rooms.ensures _ _ _ _ e.text e.listing in
    let text = rw c.in_ok-made.was at both.0 in
    record { text = text; room = both.1.stored }
