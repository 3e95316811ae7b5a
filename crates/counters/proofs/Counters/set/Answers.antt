-- `Counters::set` meets its contract: a pass over the literal's clauses, then one over its negation's. Assumes nothing.
use Rattle.std.proofs.Common.{arith}
use Rattle.counters.proofs.KeptTurns.{set-fits, set-fits-2, set-kept}
use Rattle.counters.proofs.Counters.set.Goals as goal

pub over_row-requires : goal.over_row-requires
over_row-requires c = set-fits _ c.requires.0 _ (omega arith) c.other_sign-other.ensures _ c.requires.2.1 c.requires.2.2

pub over_row-requires-2 : goal.over_row-requires-2
over_row-requires-2 c =
    set-fits-2 _ c.requires.0 _ (omega arith) c.other_sign-other.ensures _ c.requires.2.1 c.requires.2.2 c.over_row.ensures

pub returns-clause-kept : goal.returns-clause-kept
returns-clause-kept c = λ values unset. set-kept _ c.requires.0 _ (omega arith) c.other_sign-other.ensures values unset c.over_row.ensures c.over_row-2.ensures
