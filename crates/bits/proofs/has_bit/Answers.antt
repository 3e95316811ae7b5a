-- `has_bit` meets its contract: the bit by a shift. Assumes nothing.
use mathlib.Core.Path.{sym}
use Rattle.bits.specs.Bits.{has-shift}
use Rattle.bits.proofs.has_bit.Goals as goal

pub returns : goal.returns
returns c = sym (has-shift c.args.c c.args.m)
