-- `rows::read_line` meets its contract: each return is one of questions 4 to 7 that is answered no, or the line's kind. Assumes nothing.
use Rattle.std.proofs.Common.{arith, sym, ◌∙◌}
use Rattle.rows.proofs.RowQuestions.{good-columns, no_end, bad-length, bad-column, bad_kind, line-start}
use Rattle.rows.proofs.read_line.Goals as goal

pub returns-then-end-sheet-clause-reads : goal.returns-then-end-sheet-clause-reads
returns-then-end-sheet-clause-reads c = no_end _ _ _ _ _ c.if-end-sheet.true

pub returns-then-not-is_good_length-clause-reads : goal.returns-then-not-is_good_length-clause-reads
returns-then-not-is_good_length-clause-reads c = bad-length _ _ _ _ _ c.requires.0 c.requires.1 c.if-end-sheet.false (sym c.is_good_length.ensures ∙ c.if-not-is_good_length.true)

pub read_row-requires : goal.read_row-requires
read_row-requires c =
    let good = good-columns _ (sym c.is_good_length.ensures ∙ c.if-not-is_good_length.false) in
    omega (arith, c.requires.0, c.requires.1, good.0, good.1)

pub returns-in_err-filled-clause-reads : goal.returns-in_err-filled-clause-reads
returns-in_err-filled-clause-reads c =
    bad-column _ _ _ _ _ c.requires.0 c.requires.1 c.if-end-sheet.false (sym c.is_good_length.ensures ∙ c.if-not-is_good_length.false) _ c.read_row.ensures.reads c.in_err-filled.was _ c.from_residual.ensures.1

pub returns-in_default-clause-reads : goal.returns-in_default-clause-reads
returns-in_default-clause-reads c =
    bad_kind _ _ _ _ _ c.requires.0 c.requires.1 c.if-end-sheet.false (sym c.is_good_length.ensures ∙ c.if-not-is_good_length.false) _ c.read_row.ensures.reads _ _ c.in_ok-filled.was c.row_kind.ensures c.in_default.is

pub returns-clause-reads : goal.returns-clause-reads
returns-clause-reads c =
    line-start _ _ _ _ _ c.requires.0 c.requires.1 c.if-end-sheet.false (sym c.is_good_length.ensures ∙ c.if-not-is_good_length.false) _ c.read_row.ensures.reads _ _ c.in_ok-filled.was c.row_kind.ensures c.in-Some.is
