-- `parts::number_at` meets its contract: no decimal, one out of range, one that doesn't end so, and a number. Assumes nothing.
use Rattle.std.proofs.Common.{arith}
use Rattle.cnf_reader.proofs.Numbers.{number-none, number-out, number-ended, number-unended}
use Rattle.cnf_reader.proofs.parts.number_at.Goals as goal

pub returns-in_err-size-clause-reads : goal.returns-in_err-size-clause-reads
returns-in_err-size-clause-reads c = λ q. rw c.from_residual.ensures (number-none q _ _ _ _ (c.in_err-size.ensures.reads q))

pub returns-then-size-least-clause-reads : goal.returns-then-size-least-clause-reads
returns-then-size-least-clause-reads c =
    λ q. number-out q _ _ _ _ _ _ (c.in_ok-size.ensures.reads q) c.then-size-least.either

pub returns-in_err-behind-clause-reads : goal.returns-in_err-behind-clause-reads
returns-in_err-behind-clause-reads c =
    λ q. rw c.from_residual-in_err-behind.ensures
    (number-unended q _ _ _ _ _ _ (c.in_ok-size.ensures.reads q) (omega arith) (omega arith) (c.in_err-behind.ensures q))

pub returns-clause-reads : goal.returns-clause-reads
returns-clause-reads c =
    λ q. number-ended q _ _ _ _ _ _ (c.in_ok-size.ensures.reads q) (omega arith) (omega arith) _ (c.in_ok-behind.ensures q)
