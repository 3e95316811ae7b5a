-- `column::read_column` meets its contract: a scan for each of the four bytes, and a digit more at most with each. Assumes nothing.
use Rattle.std.proofs.Common.{arith, ℕ, ◌∙◌, ◌≡◌, ◌+◌, ◌-◌}
use Rattle.column.proofs.Scans.{scan-start, scan-end, scan-few, scan-small, scan-next, scan-failed, failed-reads, failed-small}
use Rattle.column.proofs.read_column.Goals as goal

four : (at : ℕ) → at + 4 - at ≡ 4
four at = omega arith

pub loop-b-init : goal.loop-b-init
loop-b-init c = scan-start _

pub step-requires : goal.step-requires
step-requires c = scan-few c.loop-b.invariant (omega arith)

pub returns-in_err-scan-clause-reads : goal.returns-in_err-scan-clause-reads
returns-in_err-scan-clause-reads c =
    failed-reads _ c.from_residual.ensures.0 _ (rw four at (scan-failed c.loop-b.invariant c.loop-b-test.true c.step.ensures c.in_err-scan.was))

pub returns-in_err-scan-clause-small : goal.returns-in_err-scan-clause-small
returns-in_err-scan-clause-small c = failed-small _ c.from_residual.ensures.0

pub loop-b-preserved : goal.loop-b-preserved
loop-b-preserved c = scan-next c.loop-b.invariant c.loop-b-test.true c.step.ensures c.in_ok-scan.was

pub returns-clause-reads : goal.returns-clause-reads
returns-clause-reads c = c.finish.ensures.reads ∙ rw four at (scan-end c.loop-b.invariant c.loop-b-test.false)

pub returns-clause-small : goal.returns-clause-small
returns-clause-small c = omega (arith, c.finish.ensures.small, scan-small c.loop-b.invariant (omega arith))
