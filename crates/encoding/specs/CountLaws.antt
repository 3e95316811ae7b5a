-- Counts: what is left of one, which of two numbers is the larger, and rising numbers. Assumes nothing.
use Rattle.std.specs.Prelude.{ℕ, zero, suc, ◌+◌, ◌-◌, ◌≤◌, ◌<◌, ◌≡◌, refl, [], ◌∷◌, leb, length}
use Rattle.std.proofs.Common.{ap, add-one, arith, leb-true, leb-false}
use Rattle.definitions.specs.Lists.{up_from}
use Rattle.theory.specs.Tests.{by-test}

-- what is left of a count
pub left-all : (n : ℕ) → n - 0 ≡ n
left-all n = omega arith

pub left-more : {i n : ℕ} → i < n → n - i ≡ suc (n - suc i)
left-more l = omega arith

pub left-none : {i n : ℕ} → n ≤ i → n - i ≡ 0
left-none l = omega arith

-- one number is at most the other, or above it
pub by_order : (a b : ℕ) {C : Type 0} → (a ≤ b → C) → (b < a → C) → C
by_order a b l g = by-test (leb a b) (λ e. l (leb-true a b e)) (λ e. g (leb-false a b e))

pub length-up_from : (a k : ℕ) → length (up_from a k) ≡ k
unfolding up_from
length-up_from a zero = refl
length-up_from a (suc k) = ap suc (length-up_from (suc a) k)

-- the numbers that are left from one on
pub up_from-more : {i n : ℕ} → i < n → up_from i (n - i) ≡ i ∷ up_from (i + 1) (n - (i + 1))
unfolding up_from
up_from-more {i} l = rw (left-more l, add-one i)

pub up_from-none : {i n : ℕ} → n ≤ i → up_from i (n - i) ≡ []
unfolding up_from
up_from-none l = rw (left-none l)
