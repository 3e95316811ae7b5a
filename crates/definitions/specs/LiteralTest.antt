-- Document 02, 4/14: the literal test as a product of sign and state. Assumes nothing.
use Rattle.std.specs.Prelude.{◌≡◌, ◌↔◌, true, false, ℤ, pos, negsuc, ◌*ℤ◌}
use Rattle.definitions.specs.Words.{Atom, Literal, plain}
use Rattle.definitions.specs.Search.{Trail, is_true, is_false, is_unset}

-- unset as 0, true as 1 and false as -1
abbrev pub Value : Type 0
Value = ℤ

abbrev pub unset_value : Value
unset_value = pos 0

abbrev pub true_value : Value
true_value = pos 1

abbrev pub false_value : Value
false_value = negsuc 0

-- what a literal is, as a value
unfoldable pub truth : Trail → Literal → Value
truth t l = elim (is_true t l) [ true ↦ true_value | false ↦ elim (is_false t l) [ true ↦ false_value | false ↦ unset_value ] ]

-- an atom's state
abbrev pub atom_state : Trail → Atom → Value
atom_state t a = truth t (plain a)

-- a literal's sign
unfoldable pub literal_sign : Literal → ℤ
literal_sign l = elim l.positive [ true ↦ pos 1 | false ↦ negsuc 0 ]

-- the test: the product of its sign and its atom's state
unfoldable pub literal_test : Trail → Literal → Value
literal_test t l = literal_sign l *ℤ atom_state t l.atom

-- it gives 1, -1 or 0 exactly when the literal is true, false or unset
pub record TellsApart (t : Trail) (l : Literal) : Type 0 where
  pub when_true : (literal_test t l ≡ pos 1) ↔ (is_true t l ≡ true)
  pub when_false : (literal_test t l ≡ negsuc 0) ↔ (is_false t l ≡ true)
  pub when-unset : (literal_test t l ≡ pos 0) ↔ (is_unset t l ≡ true)
