-- `values::unassign` meets its contract. Assumes nothing.
use mathlib.Core.Path.{◌∙◌}
use Rattle.encoding.proofs.ValueTests.{unassigned-is}
use Rattle.encoding.proofs.values.unassign.Goals as goal

pub returns : goal.returns
returns c = c.put_state.ensures ∙ unassigned-is _ _ _ c.atom_position-at.ensures.0
