-- `sets::first_between` meets its contract: word by word, the lowest bit that is set. Assumes nothing.
use Rattle.std.proofs.Common.{refl, arith, rules}
use Rattle.bits.proofs.SetTurns.{none-here, first-here}
use Rattle.bits.proofs.sets.first_between.Goals as goal

pub returns-then-c-end : goal.returns-then-c-end
returns-then-c-end c =
    let at = c.loop-i.invariant in
    let here = first-here _ _ _ _ refl at.1 (search rules) _ c.if-left-gt0.true c.low_zeros.ensures.0 in
    (here.0 at.0, c.if-c-end.true, here.1, here.2)

pub returns-else-c-end : goal.returns-else-c-end
returns-else-c-end c =
    let here = first-here _ _ _ _ refl c.loop-i.invariant.1 (search rules) _ c.if-left-gt0.true c.low_zeros.ensures.0 in
    λ i a b. here.2 i a (omega arith)

pub loop-i-preserved : goal.loop-i-preserved
loop-i-preserved c = (omega arith, none-here _ _ _ _ refl c.loop-i.invariant.1 (omega arith))
