-- `values::assign` meets its contract. Assumes nothing.
use mathlib.Core.Path.{◌∙◌}
use Rattle.encoding.proofs.ValueTests.{assigned-is}
use Rattle.encoding.proofs.values.assign.Goals as goal

pub returns : goal.returns
returns c = c.put_state.ensures ∙ assigned-is _ _ _ c.atom_position-at.ensures.0
