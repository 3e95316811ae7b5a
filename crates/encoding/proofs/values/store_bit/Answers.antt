-- `values::store_bit` meets its contract. Assumes nothing.
use Rattle.encoding.specs.Values.{store_bit}
use Rattle.encoding.proofs.values.store_bit.Goals as goal

pub returns : goal.returns
unfolding store_bit
returns c = rw c.replace_bit.ensures
