-- `slots::atom_code` meets its contract. Assumes nothing.
use borrow.Author.Rules.{rules}
use Rattle.encoding.specs.Encoding.{code_of}
use Rattle.encoding.proofs.slots.atom_code.Goals as goal

pub returns : goal.returns
unfolding code_of
returns c = search rules
