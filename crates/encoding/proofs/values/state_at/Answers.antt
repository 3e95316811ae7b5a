-- `values::state_at` meets its contract. Assumes nothing.
use mathlib.Core.Path.{◌∙◌}
use mir.Syntax.{w8, w32}
use mir.Facts.{sfits_widen, to_z-of_z}
use Rattle.encoding.proofs.ValueTests.{state-fits, state-read}
use Rattle.encoding.proofs.values.state_at.Goals as goal

pub returns : goal.returns
returns c =
    let set = c.bit_in-set in
    let truth = c.bit_in-truth in
    let same = state-read _ _ set.result set.ensures.0 truth.result truth.ensures.0 c.state_of.ensures in
    to_z-of_z {w = w32} (sfits_widen {w = w8} tt (state-fits _ _ same)) ∙ same
