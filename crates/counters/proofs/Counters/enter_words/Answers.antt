-- `Counters::enter_words` meets its contract, word by word. Assumes nothing.
use Rattle.std.specs.Prelude.{refl}
use Rattle.std.proofs.Common.{arith}
use Rattle.counters.specs.Entering.{enter-start, turn-again, turn-room, turn-new}
use Rattle.counters.proofs.Counters.enter_words.Goals as goal

pub loop-w-init : goal.loop-w-init
loop-w-init c = record { entering = enter-start c.requires.3; small = omega arith; counts = refl; asking = refl }

pub loop-w-preserved-then-has_bit : goal.loop-w-preserved-then-has_bit
loop-w-preserved-then-has_bit c =
    let inv = c.loop-w.invariant in
    let small = c.requires.2 c.loop-w.w-index c.loop-w-test.true in
    record {
      entering = turn-again _ _ inv.entering c.loop-w-test.true small c.from.ensures refl c.has_bit.ensures c.if-has_bit.true;
      small = omega arith;
      counts = inv.counts;
      asking = inv.asking;
    }

pub overflow_add-self : goal.overflow_add-self
overflow_add-self c =
    let small = c.requires.2 c.loop-w.w-index c.loop-w-test.true in
    let room = turn-room _ _ c.loop-w.invariant.entering c.loop-w-test.true small c.from.ensures refl c.has_bit.ensures c.if-has_bit.false (omega arith) in
    omega arith

pub loop-w-preserved : goal.loop-w-preserved
loop-w-preserved c =
    let inv = c.loop-w.invariant in
    let small = c.requires.2 c.loop-w.w-index c.loop-w-test.true in
    record {
      entering = turn-new _ _ inv.entering c.loop-w-test.true small c.from.ensures refl c.has_bit.ensures c.if-has_bit.false (omega arith)
          _ c.weight_of-n.ensures.0 c.requires.0 (omega arith);
      small = omega (arith, c.weight_of-n.ensures.1);
      counts = inv.counts;
      asking = inv.asking;
    }
