-- The loop of `Trail::latest_decision`: the latest decision below `at` is the latest of all. Assumes nothing.
use Rattle.std.proofs.Common.{◌≡◌}
use Rattle.units.specs.TrailWords.{latest_decision}
use Rattle.units.proofs.trail.Trail.latest_decision.Given as goal

abbrev pub invariant-loop-at : goal.invariant-loop-at
invariant-loop-at l = latest_decision l.self.marks l.at ≡ latest_decision l.self.marks l.n
