-- A signed number as a word: twice its size, and 1 more where it is negative. Assumes nothing.
use Rattle.std.specs.Prelude.{ℕ, suc, ◌+◌, ◌-◌, ◌*◌, ◌/◌, ◌%◌, ◌≡◌, Bool, true, false, List, map, eqb, take}
use Rattle.std.proofs.Common.{arith, eq-eqb, ne_eqb}
use Rattle.definitions.specs.Sheet.{Number}

unfoldable pub word_of : Bool → ℕ → ℕ
word_of negative size = elim negative [ true ↦ 2 * size + 1 | false ↦ 2 * size ]

unfoldable pub number_of : ℕ → Number
number_of w = record { negative = eqb (w % 2) 1; size = w / 2 }

-- the numbers of the first words of a row
unfoldable pub numbers : ℕ → List ℕ → List Number
numbers n row = map number_of (take n row)

pub number_word_lem : (negative : Bool) (size : ℕ) → number_of (word_of negative size) ≡ record { negative = negative; size = size }
unfolding word_of number_of
number_word_lem true size =
    let e : (2 * size + 1) / 2 ≡ size = omega arith in
    cc (eq-eqb ((2 * size + 1) % 2) 1 (omega arith))
number_word_lem false size =
    let e : (2 * size) / 2 ≡ size = omega arith in
    cc (ne_eqb ((2 * size) % 2) 1 (λ h. omega arith))

-- ── words ──

pub word_of-half : (negative : Bool) (size : ℕ) → word_of negative size / 2 ≡ size
unfolding word_of
word_of-half true size = omega arith
word_of-half false size = omega arith

pub word_number : (negative : Bool) (n : ℕ) → word_of negative n ≡ 2 * n + word_of negative 0
unfolding word_of
word_number true n = omega arith
word_number false n = omega arith

pub word-bit : (negative : Bool) (n : ℕ) → word_of negative n % 2 ≡ word_of negative 0
unfolding word_of
word-bit true n = omega arith
word-bit false n = omega arith

-- a literal's word by the place of its atom and the sign of another word
pub same_sign : (negative : Bool) (symbol place : ℕ) → 2 * (suc place - 1) + word_of negative symbol % 2 ≡ word_of negative place
unfolding word_of
same_sign true symbol place = omega arith
same_sign false symbol place = omega arith
