-- `long::without_bit` meets its contract: a word that has a bit is at least that. Assumes nothing.
use Prim.Native.Nat.{ℕ, ◌*◌, ◌%◌, ◌^◌, ◌≤◌, ◌<◌}
use mathlib.Core.Path.{◌≡◌}
use mathlib.Core.Bool.{true}
use Rattle.bits.specs.Bits.{has, has-taken, one_shifted}
use Rattle.bits.proofs.long.without_bit.Goals as goal

at_most : (m c : ℕ) → c < 64 → has c m ≡ true → (1 * 2 ^ c) % 2 ^ 64 ≤ m
at_most m c l h = rw (one_shifted 64 c l) (has-taken c c m h).0

pub overflow_sub-result : goal.overflow_sub-result
overflow_sub-result c = at_most c.args.m c.args.c c.requires.0 c.requires.1
