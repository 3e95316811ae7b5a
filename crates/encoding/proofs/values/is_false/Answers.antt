-- `values::is_false` meets its contract, by the value. Assumes nothing.
use borrow.Author.Rules.{sfits_of}
use Rattle.encoding.proofs.ValueTests.{false-is}
use Rattle.encoding.proofs.values.is_false.Goals as goal

pub returns : goal.returns
returns c = false-is _ (sfits_of c.value.type_inv) _ c.value.ensures
