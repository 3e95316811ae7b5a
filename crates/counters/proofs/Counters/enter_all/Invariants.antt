-- The loop of `Counters::enter_all`: the first clauses are counted. Assumes nothing.
use Rattle.std.specs.Prelude.{◌≡◌}
use Rattle.units.specs.Units.{clause_at}
use Rattle.counters.specs.Counters.{counters_of}
use Rattle.counters.proofs.Counters.enter_all.Given as goal

abbrev pub invariant-loop-c : goal.invariant-loop-c
invariant-loop-c l = l.self ≡ counters_of l.values (λ d. clause_at l.store.starts l.store.literals d) l.c
