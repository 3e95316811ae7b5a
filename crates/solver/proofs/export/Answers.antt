-- `export` meets its contract: the answer of the export, its text's length, and what it left. Assumes nothing.
use Rattle.std.proofs.Common.{◌∙◌}
use Rattle.definitions.specs.Export.{export_call, export_text, room_after_export, export_after}
use Rattle.solver.proofs.export.Goals as goal

pub returns : goal.returns
unfolding export_call export_text room_after_export export_after
returns c =
    let e = c.exported-solved.ensures in
    record { answer = c.handed.ensures.answer ∙ e.text.answer; length = c.handed.ensures.length ∙ e.text.size; room = e.room; cnf = e.text.stored }
