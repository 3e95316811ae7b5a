use Rattle.std.proofs.Common.{◌≤◌}
use Rattle.trials.proofs.number.Given as goal

abbrev pub invariant-loop-b : goal.invariant-loop-b
invariant-loop-b l = l.value ≤ l.most
