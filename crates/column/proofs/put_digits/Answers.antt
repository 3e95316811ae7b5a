-- `put_digits` meets its contract: whatever puts the digits that are left, with those that stand puts all. Assumes nothing.
use Rattle.std.proofs.Common.{◌-◌, arith}
use Rattle.column.proofs.Columns.{digits-hit, digits-turn, digits-end}
use Rattle.column.proofs.put_digits.Goals as goal

pub returns-then-n-lt10 : goal.returns-then-n-lt10
returns-then-n-lt10 c =
    let l = c.loop-left in
    l.invariant _ _ (digits-hit l.field l.left (l.left - 1) l.n (omega arith) (omega arith))

pub loop-left-preserved : goal.loop-left-preserved
loop-left-preserved c =
    let l = c.loop-left in
    λ rest after put. l.invariant rest after (digits-turn l.field l.left (l.left - 1) l.n _ (omega arith) (omega arith) (omega arith) put)

pub returns : goal.returns
returns c = c.loop-left.invariant _ _ (digits-end c.loop-left.field c.loop-left.left c.loop-left.n (omega arith))
