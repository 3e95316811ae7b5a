-- `Counters::undo` meets its contract: a pass over the clauses of the literal's negation, then one over its own. Assumes nothing.
use Rattle.std.proofs.Common.{arith}
use Rattle.counters.proofs.KeptTurns.{undo-fits, undo-fits-2, undo-kept}
use Rattle.counters.proofs.Counters.undo.Goals as goal

pub over_row-requires : goal.over_row-requires
over_row-requires c = undo-fits _ c.requires.0 _ (omega arith) c.other_sign-other.ensures _ c.requires.2.1 c.requires.2.2

pub over_row-requires-2 : goal.over_row-requires-2
over_row-requires-2 c =
    undo-fits-2 _ c.requires.0 _ (omega arith) c.other_sign-other.ensures _ c.requires.2.1 c.requires.2.2 c.over_row.ensures

pub returns-clause-kept : goal.returns-clause-kept
returns-clause-kept c = λ values set. undo-kept _ c.requires.0 _ (omega arith) c.other_sign-other.ensures values set c.over_row.ensures c.over_row-2.ensures
