-- `Clauses::forced` meets its contract, by the place of the first word that is not false. Assumes nothing.
use Rattle.std.proofs.Common.{arith}
use Rattle.counters.specs.ClauseWords.{clause-words}
use Rattle.counters.proofs.ClauseTurns.{one-open, act-forced}
use Rattle.counters.proofs.asking.Clauses.forced.Goals as goal

pub first_open-requires : goal.first_open-requires
first_open-requires c = (clause-words c.requires.0 _ (omega arith) c.clause-clause.ensures).small

pub returns-in_err-before : goal.returns-in_err-before
returns-in_err-before c =
    absurd (one-open _ c.requires.0 _ c.requires.1 (clause-words c.requires.0 _ (omega arith) c.clause-clause.ensures) c.in_err-before.ensures)

pub returns : goal.returns
returns c =
    act-forced _ c.requires.0 _ c.requires.1 (clause-words c.requires.0 _ (omega arith) c.clause-clause.ensures) _ c.in_ok-before.ensures.0
    c.may_set.ensures c.then_some.ensures
