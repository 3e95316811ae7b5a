-- `slots::read_slots` meets its contract: the patterns found so far stand in the first slots. Assumes nothing.
use Rattle.std.proofs.Common.{refl}
use Rattle.literals.proofs.Literals.{literals_from, fill_start, fill-refused, fill-turn, fill_end}
use Rattle.literals.proofs.slots.read_slots.Goals as goal

pub loop-i-init : goal.loop-i-init
loop-i-init c = fill_start _ _ _ _ _ _

pub returns-in_err-left : goal.returns-in_err-left
unfolding literals_from
returns-in_err-left c = fill-refused _ _ _ _ _ _ _ _ _ c.loop-i.invariant c.loop-i-test.true _ _ c.in_err-left.ensures _ c.from_residual.ensures.1

pub loop-i-preserved : goal.loop-i-preserved
loop-i-preserved c = fill-turn _ _ _ _ _ _ _ _ _ c.loop-i.invariant c.loop-i-test.true _ _ c.in_ok-left.ensures

pub returns : goal.returns
unfolding literals_from
returns c = fill_end _ _ _ _ _ _ _ _ _ c.loop-i.invariant c.loop-i-test.false c.loop-i.left refl
