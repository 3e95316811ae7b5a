-- `print_cnf` meets its contract: an answer's text, or the line of a refusal. Assumes nothing.
use Rattle.std.proofs.Common.{arith}
use Rattle.definitions.specs.Questions.{read}
use Rattle.definitions.specs.Export.{export_of}
use Rattle.theory.specs.ExportLaws.{refused-text}
use Rattle.solver.specs.PrintLaws.{printed-as, printed-export, printed-alike, export-ends}
use Rattle.solver.proofs.print_cnf.Goals as goal

pub returns : goal.returns
returns c =
    let a = c.args in
    let whole =
    printed-alike a.cnf.now (printed-export a.sheet.now a.budget _ a.cnf.now (omega arith) (omega arith))
    (printed-as (export_of (read a.sheet.now)) (refused-text (read a.sheet.now)) _ (export-ends a.sheet.now a.budget _ a.cnf.now) _ (omega arith) _ c.exported-solved.ensures.text _ _ c.printed.ensures)
    in
    record { length = whole.0; cnf = whole.1 }
