-- `values::is_true` meets its contract, by the value. Assumes nothing.
use borrow.Author.Rules.{sfits_of}
use Rattle.encoding.proofs.ValueTests.{true-is}
use Rattle.encoding.proofs.values.is_true.Goals as goal

pub returns : goal.returns
returns c = true-is _ (sfits_of c.value.type_inv) _ c.value.ensures
