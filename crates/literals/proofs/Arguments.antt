-- The word of an argument in range, and of none. Assumes nothing.
use Prim.Native.Nat.{ℕ, ◌+◌, ◌≤◌, ◌<◌}
use mathlib.Core.Path.{◌≡◌, refl}
use mathlib.Core.Bool.{Bool, true, false}
use native.Mathlib.Omega.{arith}
use borrow.Author.Tests.{le-leb, lt-leb}
use Rattle.definitions.specs.Questions.{◌>>◌, ask, within, rule_argument}
use Rattle.std.specs.Prelude.{Result, Ok, Err}
use Rattle.definitions.specs.declared.Question.{Question}
use Rattle.definitions.specs.declared.Question.TheVariants.{Literals}
use Rattle.literals.specs.SlotReads.{argument, argument_word}
use Rattle.encoding.specs.Slots.{term_word}

abbrev word : Bool → ℕ → Bool → ℕ → Result ℕ Question
word rule constants negative size = argument_word (argument rule constants (record { negative = negative; size = size }))

module _ (constants size : ℕ) where
  pub no_size : (rule negative : Bool) → size ≡ 0 → Err Literals ≡ word rule constants negative size
  unfolding argument rule_argument within ask ◌>>◌ argument_word
  no_size true true z = let low = lt-leb 1 size (omega arith) in cc
  no_size true false z = let low = lt-leb 1 size (omega arith) in cc
  no_size false true z = refl
  no_size false false z = let low = lt-leb 1 size (omega arith) in cc

  pub low-variable : (rule negative : Bool) → rule ≡ true → negative ≡ false → (size ≡ 0 → ⊥) → size ≤ 6 → Ok size ≡ word rule constants negative size
  unfolding argument rule_argument ask ◌>>◌ argument_word term_word
  low-variable rule negative r n l h = rw (r, n) (cc (le-leb 1 size (omega arith), le-leb size 6 h))

  pub low-constant : (rule negative : Bool) → rule ≡ negative → (size ≡ 0 → ⊥) → size ≤ constants → Ok (size + 6) ≡ word rule constants negative size
  unfolding argument rule_argument within ask ◌>>◌ argument_word term_word
  low-constant true true r l h = let swap : size + 6 ≡ 6 + size = omega arith in cc (le-leb 1 size (omega arith), le-leb size constants h)
  low-constant false false r l h = let swap : size + 6 ≡ 6 + size = omega arith in cc (le-leb 1 size (omega arith), le-leb size constants h)
  low-constant true false r l h = cc
  low-constant false true r l h = cc

  pub out_of_range : (rule negative : Bool) → (size ≡ 0 → ⊥) → (rule ≡ true → negative ≡ false → 6 < size) → (rule ≡ negative → constants < size)
      → Err Literals ≡ word rule constants negative size
  unfolding argument rule_argument within ask ◌>>◌ argument_word
  out_of_range true true l v c = cc (le-leb 1 size (omega arith), lt-leb size constants (c refl))
  out_of_range false false l v c = cc (le-leb 1 size (omega arith), lt-leb size constants (c refl))
  out_of_range true false l v c = cc (le-leb 1 size (omega arith), lt-leb size 6 (v refl refl))
  out_of_range false true l v c = refl
