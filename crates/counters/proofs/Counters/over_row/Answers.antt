-- `Counters::over_row` meets its contract, word by word. Assumes nothing.
use Rattle.std.specs.Prelude.{ℕ, ◌+◌, ◌*◌, ◌≡◌, refl, List, get_or}
use Rattle.std.proofs.Common.{◌∙◌, arith}
use Rattle.counters.specs.Passes.{pass-start, pass-over, pass_fits, pass-turn}
use Rattle.counters.proofs.Counters.over_row.Goals as goal

read_as : {rows rows' : List ℕ} {x x' : ℕ} (k : ℕ) → rows ≡ rows' → x ≡ x' → get_or rows (10 * x + k) 0 ≡ get_or rows' (10 * x' + k) 0
read_as k p q = rw (p, q)

pub loop-k-init : goal.loop-k-init
loop-k-init c = record { rows = refl; done = pass-start _ _ }

pub loop-k-preserved-then-bits-eq0 : goal.loop-k-preserved-then-bits-eq0
loop-k-preserved-then-bits-eq0 c =
    record { rows = c.loop-k.invariant.rows; done = pass-over _ _ _ (read_as _ c.loop-k.invariant.rows c.from-first.ensures) c.if-bits-eq0.true c.loop-k.invariant.done }

pub over_word-low-requires : goal.over_word-low-requires
over_word-low-requires c =
    let done = c.loop-k.invariant.done in
    (omega arith, omega arith, done.sizes.0 ∙ c.requires.2, pass_fits _ _ _ (omega arith) c.requires.3 done _ (read_as _ c.loop-k.invariant.rows c.from-first.ensures) c.requires.4)

pub loop-k-preserved : goal.loop-k-preserved
loop-k-preserved c =
    record {
      rows = c.loop-k.invariant.rows;
      done = pass-turn _ _ _ (omega arith) c.requires.3 c.loop-k.invariant.done (read_as _ c.loop-k.invariant.rows c.from-first.ensures) refl c.over_word-low.ensures;
    }
