-- `sheet::read_sheet` meets its contract: the sheet from the next line on, read behind the lines so far, comes to what all of it comes to. Assumes nothing.
use Rattle.std.proofs.Common.{arith, ap, sym, ◌∙◌, Err, eqb-true}
use Rattle.std.proofs.lemmas.Bool.{eqb-false}
use Rattle.std.proofs.lemmas.Grind.{common_steps}
use Rattle.encoding.specs.Encoding.{arrays}
use Rattle.sheet.proofs.Sheets.{read-long, read-empty, line-inside, reached-start, reached-end, Starts, reached-ready, start-stop, line-stop, reached-next, mapped-ok, mapped-err, handed}
use Rattle.sheet.proofs.read_sheet.Goals as goal

pub returns-then-sheet-gt-SHEET_BYTES : goal.returns-then-sheet-gt-SHEET_BYTES
returns-then-sheet-gt-SHEET_BYTES c = rw (read-long _ c.if-sheet-gt-SHEET_BYTES.true, c.refusal.ensures)

pub returns-then-is_empty : goal.returns-then-is_empty
returns-then-is_empty c = rw (read-empty _ c.if-sheet-gt-SHEET_BYTES.false (eqb-true _ 0 (sym c.is_empty.ensures ∙ c.if-is_empty.true)), c.refusal-then-is_empty.ensures)

pub loop-from-init : goal.loop-from-init
loop-from-init c =
    reached-start c.args.starts.now c.if-sheet-gt-SHEET_BYTES.false (eqb-false _ 0 (sym c.is_empty.ensures ∙ c.if-is_empty.false)) c.requires c.told-arities

pub read_line-requires : goal.read_line-requires
read_line-requires c = line-inside _ _ _ c.loop-from-test.true c.line_end-end.ensures

pub returns-in_err-kind : goal.returns-in_err-kind
returns-in_err-kind c =
    let line : Starts c.args.sheet.now c.loop-from.before c.loop-from.from c.line_end-end.result c.read_line.result c.read_line.new.row =
    record { more = c.loop-from-test.true; ends = c.line_end-end.ensures; asked = c.read_line.ensures.reads }
    in
    let (q, is, same) = mapped-err c.read_line.result c.map_err.result c.loop-from.line _ c.map_err.ensures.cases (λ q d h. grind (arith, common_steps)) c.in_err-kind.was in
    rw (start-stop c.loop-from.invariant line {q = q} is, handed _ _ c.from_residual.ensures.1) (ap Err same)

pub line_of_kind-requires : goal.line_of_kind-requires
line_of_kind-requires c = reached-ready c.loop-from.invariant

pub returns-in_err-s : goal.returns-in_err-s
returns-in_err-s c =
    let line : Starts c.args.sheet.now c.loop-from.before c.loop-from.from c.line_end-end.result c.read_line.result c.read_line.new.row =
    record { more = c.loop-from-test.true; ends = c.line_end-end.ensures; asked = c.read_line.ensures.reads }
    in
    let after = c.line_of_kind.new in
    let (q, is, same) = mapped-err c.line_of_kind.result c.map_err-in-loop-from.result c.loop-from.line _ c.map_err-in-loop-from.ensures.cases (λ q d h. grind (arith, common_steps)) c.in_err-s.was in
    rw (line-stop c.loop-from.invariant line (mapped-ok _ _ c.loop-from.line _ c.map_err.ensures.cases c.in_ok-kind.was) _ (arrays after.arities after.rules after.starts after.literals after.table.codes after.table.index) c.line_of_kind.ensures is, handed _ _ c.from_residual-in_err-s.ensures.1) (ap Err same)

pub overflow_add-from : goal.overflow_add-from
overflow_add-from c =
    omega (arith, c.loop-from.invariant.short, line-inside _ _ _ c.loop-from-test.true c.line_end-end.ensures)

pub loop-from-preserved : goal.loop-from-preserved
loop-from-preserved c =
    let line : Starts c.args.sheet.now c.loop-from.before c.loop-from.from c.line_end-end.result c.read_line.result c.read_line.new.row =
    record { more = c.loop-from-test.true; ends = c.line_end-end.ensures; asked = c.read_line.ensures.reads }
    in
    let after = c.line_of_kind.new in
    rw c.number-before.ensures (reached-next c.loop-from.invariant line (mapped-ok _ _ c.loop-from.line _ c.map_err.ensures.cases c.in_ok-kind.was) _ (arrays after.arities after.rules after.starts after.literals after.table.codes after.table.index) c.line_of_kind.ensures
    (mapped-ok _ _ c.loop-from.line _ c.map_err-in-loop-from.ensures.cases c.in_ok-s.was))

pub returns : goal.returns
returns c = reached-end _ c.loop-from.invariant c.loop-from-test.false
