-- `values::is_unset` meets its contract. Assumes nothing.
use Rattle.encoding.proofs.ValueTests.{unset-read}
use Rattle.encoding.proofs.values.is_unset.Goals as goal

pub returns : goal.returns
returns c = unset-read _ _ c.bit_in.result c.bit_in.ensures.0 c.bit_in.ensures.1
