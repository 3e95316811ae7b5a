-- `values::state_of` meets its contract, for each of the four pairs of bits. Assumes nothing.
use Rattle.encoding.proofs.ValueTests.{state-computed}
use Rattle.encoding.proofs.values.state_of.Goals as goal

pub returns : goal.returns
returns c = (state-computed c.args.set c.args.truth c.requires.0 c.requires.1).1
