-- `values::put_state` meets its contract: one store for each bit. Assumes nothing.
use mathlib.Core.Path.{◌∙◌}
use Rattle.encoding.specs.Values.{put_state}
use Rattle.encoding.proofs.values.put_state.Goals as goal

pub returns : goal.returns
unfolding put_state
returns c = c.store_bit-2.ensures ∙ rw c.store_bit.ensures
