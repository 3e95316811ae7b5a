-- `long::replace_bit` meets its contract. Assumes nothing.
use Rattle.bits.specs.Bits.{replace_bit, one_shifted, bit_shifted}
use Rattle.bits.proofs.long.replace_bit.Goals as goal

pub returns : goal.returns
unfolding replace_bit
returns c = rw (one_shifted 64 c.args.c c.requires.0, bit_shifted 64 c.args.b c.args.c c.requires.1 c.requires.0)
