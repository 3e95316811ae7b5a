-- `clause_lines::read_line` meets its contract: what the rest of the line comes to, so does all of it. Assumes nothing.
use Rattle.std.proofs.Common.{◌≡◌, sym, ◌∙◌, ◌+◌, ◌-◌, arith}
use Rattle.cnf_reader.proofs.ClauseLines.{starts-zero, zero-next, full, line-close, line-unclosed, line-none, line-turn}
use Rattle.cnf_reader.proofs.clause_lines.read_line.Goals as goal

pub returns-in_err-behind-clause-reads : goal.returns-in_err-behind-clause-reads
returns-in_err-behind-clause-reads c =
    let zero-here = sym (starts-zero c.loop-end.rest.now) ∙ sym c.starts_with.ensures.value ∙ c.if-starts_with.true in
    rw c.from_residual.ensures (line-unclosed c.loop-end.invariant (zero-next _ _ _ zero-here) (c.in_err-behind.ensures 22))

pub returns-then-starts_with-clause-reads : goal.returns-then-starts_with-clause-reads
returns-then-starts_with-clause-reads c =
    let zero-here = sym (starts-zero c.loop-end.rest.now) ∙ sym c.starts_with.ensures.value ∙ c.if-starts_with.true in
    line-close c.loop-end.invariant (zero-next _ _ _ zero-here) _ (c.in_ok-behind.ensures 22)

pub returns-in_err-word-clause-reads : goal.returns-in_err-word-clause-reads
returns-in_err-word-clause-reads c =
    let no_zero = sym (starts-zero c.loop-end.rest.now) ∙ sym c.starts_with.ensures.value ∙ c.if-starts_with.false in
    rw c.from_residual-in_err-word.ensures (line-none c.loop-end.invariant (c.args.used + 8 - (c.loop-end.end + 1)) (omega arith) no_zero c.in_err-word.ensures)

pub loop-end-preserved : goal.loop-end-preserved
loop-end-preserved c =
    let no_zero = sym (starts-zero c.loop-end.rest.now) ∙ sym c.starts_with.ensures.value ∙ c.if-starts_with.false in
    line-turn c.loop-end.invariant _ (omega arith) no_zero _ _ c.in_ok-word.ensures

pub returns-in_err-behind-2-clause-reads : goal.returns-in_err-behind-2-clause-reads
returns-in_err-behind-2-clause-reads c =
    rw c.from_residual-in_err-behind-2.ensures (line-unclosed c.loop-end.invariant (full _ _ _ (omega arith)) (c.in_err-behind-2.ensures 22))

pub returns-clause-reads : goal.returns-clause-reads
returns-clause-reads c =
    let last : c.loop-end.end ≡ c.args.used + 8 = omega arith in
    rw (← last) (line-close c.loop-end.invariant (full _ _ _ (omega arith)) _ (c.in_ok-behind-2.ensures 22))
