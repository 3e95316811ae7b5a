-- `values::value` meets its contract: a sign times a state fits, since a state is small. Assumes nothing.
use Rattle.encoding.proofs.ValueTests.{state-fits, product-fits, product_is, value-is}
use Rattle.encoding.proofs.values.value.Goals as goal

pub overflow_mul-result : goal.overflow_mul-result
overflow_mul-result c = product-fits (state-fits _ _ c.state_at.ensures) _ c.sign.ensures

pub returns : goal.returns
returns c =
    value-is _ _ _ c.atom_position.ensures.0 c.state_at.ensures (product_is (state-fits _ _ c.state_at.ensures) _ c.sign.ensures)
