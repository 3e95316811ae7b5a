-- `slots::has_term` meets its contract: what is left of the slots has the term exactly where all of them have it. Assumes nothing.
use Rattle.std.proofs.Common.{◌≡◌, length}
use Rattle.encoding.specs.Slots.{has_term}
use Rattle.encoding.proofs.slots.has_term.Given as goal

abbrev pub invariant-loop-left : goal.invariant-loop-left
invariant-loop-left l = has_term l.v l.left ≡ has_term l.v l.slots

abbrev pub decreases-loop-left : goal.decreases-loop-left
decreases-loop-left l = length l.left
