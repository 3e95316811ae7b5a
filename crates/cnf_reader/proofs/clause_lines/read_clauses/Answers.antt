-- `clause_lines::read_clauses` meets its contract: what the rest of the lines comes to, so do all. Assumes nothing.
use Rattle.std.proofs.Common.{◌≡◌, sym, ◌∙◌, ◌+◌, ◌-◌, arith}
use Rattle.cnf_reader.proofs.Clauses.{clauses-end, clauses-more, clauses-none, clauses-turn}
use Rattle.cnf_reader.proofs.clause_lines.read_clauses.Goals as goal

pub returns-in_err-used : goal.returns-in_err-used
returns-in_err-used c =
    rw c.from_residual.ensures (clauses-none c.loop-i.invariant.1 (c.args.header.clauses - (c.loop-i.i + 1)) (omega arith) c.in_err-used.ensures.reads)

pub loop-i-preserved : goal.loop-i-preserved
loop-i-preserved c =
    (omega (arith, c.in_ok-used.ensures.room), clauses-turn c.loop-i.invariant.1 _ (omega arith) _ _ _ c.in_ok-used.ensures.reads)

pub returns-then-not-is_empty : goal.returns-then-not-is_empty
returns-then-not-is_empty c = clauses-more c.loop-i.invariant.1 (omega arith) (sym c.is_empty.ensures ∙ c.if-not-is_empty.true)

pub returns : goal.returns
returns c =
    let last : c.loop-i.i ≡ c.from.result = omega arith in
    rw last at (clauses-end c.loop-i.invariant.1 (omega arith) (sym c.is_empty.ensures ∙ c.if-not-is_empty.false))
