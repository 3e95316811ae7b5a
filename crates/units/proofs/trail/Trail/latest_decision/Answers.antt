-- `Trail::latest_decision` meets its contract, from the last entry down. Assumes nothing.
use Rattle.std.proofs.Common.{arith, sym, ◌∙◌}
use Rattle.units.proofs.TrailTurns.{decision-hit, decision-turn, decision-end}
use Rattle.units.proofs.trail.Trail.latest_decision.Goals as goal

pub returns-then-self-at : goal.returns-then-self-at
returns-then-self-at c =
    let latest = decision-hit _ _ c.loop-at-test.true (c.if-self-at.true ∙ c.from.ensures) c.loop-at.invariant in
    (omega (arith, latest), omega arith)

pub loop-at-preserved : goal.loop-at-preserved
loop-at-preserved c = decision-turn _ _ c.loop-at-test.true (λ e. c.if-self-at.false (e ∙ sym c.from.ensures)) c.loop-at.invariant

pub returns : goal.returns
returns c = decision-end _ _ c.loop-at-test.false c.loop-at.invariant
