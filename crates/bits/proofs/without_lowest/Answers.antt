-- `without_lowest` meets its contract: the lowest bit is at most the word. Assumes nothing.
use Prim.Native.Nat.{ℕ, ◌*◌, ◌%◌, ◌^◌, ◌≤◌, ◌<◌}
use mathlib.Core.Path.{◌≡◌}
use native.Mathlib.Omega.{arith}
use lib.Count.{count_trailing_zeros}
use borrow.Author.Rules.{rules}
use Rattle.bits.specs.Bits.{lowest, one_shifted}
use Rattle.bits.proofs.without_lowest.Goals as goal

shifted : (m c : ℕ) → 0 < m → m < 2 ^ 32 → c ≡ count_trailing_zeros 32 m → (c < 32) × ((1 * 2 ^ c) % 2 ^ 32 ≡ 2 ^ c) × ((1 * 2 ^ c) % 2 ^ 32 ≤ m)
shifted m c p l e =
    let (a, b, _) = lowest 0 32 m p l in
    let exact : (1 * 2 ^ c) % 2 ^ 32 ≡ 2 ^ c = one_shifted 32 c (omega arith) in
    (omega arith, exact, rw (exact, e) a)

pub overflow_sub-result : goal.overflow_sub-result
overflow_sub-result c = (shifted c.args.m c.args.c c.requires.0 (search rules) c.requires.1).2
