-- The loop of `Counters::enter_words`: the words so far stand in the rows. Assumes nothing.
use Rattle.std.specs.Prelude.{◌*◌, ◌≤◌, ◌≡◌, take}
use Rattle.counters.specs.Weights.{weighs}
use Rattle.counters.specs.Entering.{Entering}
use Rattle.counters.proofs.Counters.enter_words.Given as goal

abbrev pub invariant-loop-w : goal.invariant-loop-w
invariant-loop-w l =
    record {
      entering : Entering (weighs l.values) l.c l.n (take l.w-index l.clause) l.initial.self.rows l.self.rows;
      small : l.n ≤ 257 * l.w-index;
      counts : l.self.counts ≡ l.initial.self.counts;
      asking : l.self.asking ≡ l.initial.self.asking;
    }
