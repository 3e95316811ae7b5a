-- `Trail::undo` meets its contract, entry by entry. Assumes nothing.
use Rattle.std.proofs.Common.{arith}
use Rattle.units.proofs.TrailTurns.{undo-turn, undo-end}
use Rattle.units.proofs.trail.Trail.undo.Goals as goal

pub loop-at-preserved : goal.loop-at-preserved
loop-at-preserved c = record { left = undo-turn _ _ _ c.loop-at.invariant.left c.loop-at-test.true (omega arith) c.unassign.ensures; words = c.loop-at.invariant.words }

pub returns : goal.returns
returns c = undo-end _ _ _ c.loop-at.invariant.left c.loop-at-test.false
