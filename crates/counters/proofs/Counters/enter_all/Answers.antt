-- `Counters::enter_all` meets its contract, clause by clause. Assumes nothing.
use Rattle.std.proofs.Common.{sym, arith}
use Rattle.counters.specs.ClauseWords.{clause-words}
use Rattle.counters.proofs.Counters.enter_all.Goals as goal

pub enter-requires : goal.enter-requires
enter-requires c =
    let its = clause-words c.requires.0.2 _ c.loop-c-test.true c.clause.ensures in
    (omega (arith, c.requires.0.2.limit), its.few, its.small, (_, c.loop-c.invariant))

pub loop-c-preserved : goal.loop-c-preserved
loop-c-preserved c = c.enter.ensures _ (sym (clause-words c.requires.0.2 _ c.loop-c-test.true c.clause.ensures).is) c.loop-c.invariant
