-- `passes::over_word` meets its contract, bit by bit from the lowest. Assumes nothing.
use Rattle.counters.specs.Passes.{WordDone}
use Rattle.counters.proofs.passes.over_word.Given as goal

abbrev pub invariant-loop-m : goal.invariant-loop-m
invariant-loop-m l = WordDone l.k l.bits l.m l.low l.up l.down l.initial.counts l.counts

abbrev pub decreases-loop-m : goal.decreases-loop-m
decreases-loop-m l = l.m
