-- `passes::over_word` meets its contract, bit by bit from the lowest. Assumes nothing.
use Rattle.std.proofs.Common.{arith}
use Rattle.counters.specs.Passes.{word-start, word_end, word_in, word_fits, word-turn}
use Rattle.counters.proofs.passes.over_word.Goals as goal

pub loop-m-init : goal.loop-m-init
loop-m-init c = word-start c.requires.1

pub overflow_add-n : goal.overflow_add-n
overflow_add-n c =
    let facts = word_fits _ c.loop-m.invariant c.loop-m-test.true c.requires.0 c.requires.2 c.low_zeros-t.ensures.0 c.requires.3 in
    omega arith

pub overflow_sub-n : goal.overflow_sub-n
overflow_sub-n c =
    let facts = word_fits _ c.loop-m.invariant c.loop-m-test.true c.requires.0 c.requires.2 c.low_zeros-t.ensures.0 c.requires.3 in
    omega arith

pub overflow_add-low : goal.overflow_add-low
overflow_add-low c =
    let facts = word_in _ c.loop-m.invariant c.loop-m-test.true c.requires.0 c.requires.2 c.low_zeros-t.ensures.0 in
    omega arith

pub overflow_sub-m : goal.overflow_sub-m
overflow_sub-m c =
    let facts = word_in _ c.loop-m.invariant c.loop-m-test.true c.requires.0 c.requires.2 c.low_zeros-t.ensures.0 in
    omega arith

pub loop-m-preserved : goal.loop-m-preserved
loop-m-preserved c =
    let fits = word_fits _ c.loop-m.invariant c.loop-m-test.true c.requires.0 c.requires.2 c.low_zeros-t.ensures.0 c.requires.3 in
    rw (c.asking_bit-low.ensures.0, (word_in _ c.loop-m.invariant c.loop-m-test.true c.requires.0 c.requires.2 c.low_zeros-t.ensures.0).2)
    (word-turn _ c.loop-m.invariant c.loop-m-test.true c.requires.0 c.requires.2 c.low_zeros-t.ensures.0 _ (omega arith))

pub returns : goal.returns
returns c = word_end (omega arith) c.loop-m.invariant
