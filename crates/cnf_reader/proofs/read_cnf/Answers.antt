-- `read_cnf` meets its contract: no header, clause lines that are refused, or clauses. Assumes nothing.
use Rattle.std.proofs.Common.{◌∙◌, ap}
use Rattle.std.specs.Result.{result_ok}
use Rattle.cnf_reader.proofs.Answers.{handed-on, answer-no-header, answer-no-lines, answer-lines}
use Rattle.cnf_reader.proofs.Clauses.{all-held}
use Rattle.cnf_reader.proofs.read_cnf.Goals as goal

pub returns-in_err-header : goal.returns-in_err-header
returns-in_err-header c =
    let unnamed = c.ok_or.ensures.ok_part ∙ ap result_ok c.in_err-header.was in
    handed-on _ _ _ _ _ c.from_residual.ensures.1 c.in_err-header.was c.ok_or.ensures.value
    ∙ answer-no-header _ (rw unnamed at c.header_at.ensures.reads)

pub returns-in_err-ok_or : goal.returns-in_err-ok_or
returns-in_err-ok_or c =
    let named = c.ok_or.ensures.ok_part ∙ ap result_ok c.in_ok-header.was in
    let refused = c.ok_or-2.ensures.ok_part ∙ ap result_ok c.in_err-ok_or.was in
    handed-on _ _ _ _ _ c.from_residual-in_err-ok_or.ensures.1 c.in_err-ok_or.was c.ok_or-2.ensures.value
    ∙ answer-no-lines _ _ _ (rw named at c.header_at.ensures.reads) (rw refused at c.read_clauses.ensures)

pub returns : goal.returns
returns c =
    let named = c.ok_or.ensures.ok_part ∙ ap result_ok c.in_ok-header.was in
    let done = c.ok_or-2.ensures.ok_part ∙ ap result_ok c.in_ok-ok_or.was in
    answer-lines _ _ _ (rw named at c.header_at.ensures.reads) _ (all-held _ _ _ _ _ (rw done at c.read_clauses.ensures))
