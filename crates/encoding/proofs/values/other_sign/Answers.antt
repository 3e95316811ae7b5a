-- `values::other_sign` meets its contract: an even word gets one more, an odd one one less. Assumes nothing.
use Rattle.encoding.specs.ValueLaws.{other-even, other-odd}
use Rattle.encoding.proofs.values.other_sign.Goals as goal

pub returns-then-w-eq0 : goal.returns-then-w-eq0
returns-then-w-eq0 c = other-even _ c.if-w-eq0.true

pub returns : goal.returns
returns c = other-odd _ c.if-w-eq0.false
