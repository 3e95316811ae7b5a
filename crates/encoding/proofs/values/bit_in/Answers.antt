-- `values::bit_in` meets its contract. Assumes nothing.
use Rattle.encoding.proofs.ValueTests.{bit_is}
use Rattle.encoding.proofs.values.bit_in.Goals as goal

pub returns : goal.returns
returns c = (bit_is _ _ c.bit.ensures.0, c.bit.ensures.1)
