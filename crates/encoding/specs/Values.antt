-- The states of atoms by table position, in words, and what they say of a literal, by its word. Assumes nothing.
use Rattle.std.specs.Prelude.{ℕ, ◌+◌, ◌-◌, ◌*◌, ◌/◌, ◌%◌, Bool, true, false, not, List, eqb, ℤ, pos, negsuc, ◌*ℤ◌, get_or, set, replicate}
use Rattle.bits.specs.Bits.{has, replace_bit}
use Rattle.definitions.specs.LiteralTest.{Value, unset_value, true_value, false_value}

-- ── a value ──

unfoldable pub same_value : Value → Value → Bool
same_value (pos m) (pos n) = eqb m n
same_value (pos m) (negsuc n) = false
same_value (negsuc m) (pos n) = false
same_value (negsuc m) (negsuc n) = eqb m n

unfoldable pub is_true_value : Value → Bool
is_true_value v = same_value v true_value

unfoldable pub is_false_value : Value → Bool
is_false_value v = same_value v false_value

-- ── the words ──

-- pairs of 64-bit words, each for 64 positions: which of their atoms are set, and which of them are true. The goal atoms, at most 64 and
-- first in the table, have the first pair; created atoms have the bits behind theirs
abbrev pub Values : Type 0
Values = List ℕ

abbrev pub goals_set : Values → ℕ
goals_set values = get_or values 0 0

abbrev pub goals_true : Values → ℕ
goals_true values = get_or values 1 0

-- where the two words of a position stand
abbrev pub set_place : ℕ → ℕ
set_place i = 2 * (i / 64)

abbrev pub true_place : ℕ → ℕ
true_place i = 2 * (i / 64) + 1

-- a bit of one of them
abbrev pub bit_in : Values → ℕ → ℕ → Bool
bit_in values at c = has c (get_or values at 0)

-- whether the atom at a position is set, and whether it is true
unfoldable pub set_bit : Values → ℕ → Bool
set_bit values i = bit_in values (set_place i) (i % 64)

unfoldable pub true_bit : Values → ℕ → Bool
true_bit values i = bit_in values (true_place i) (i % 64)

-- ── of an atom and of a literal ──

-- a state by both bits: twice the one for true less the one for set. What is true and not set is no state, so that a state tells both bits
unfoldable pub state_of : Bool → Bool → Value
state_of false false = unset_value
state_of true true = true_value
state_of true false = false_value
state_of false true = pos 2

-- the state of the atom at a position
unfoldable pub value_at : Values → ℕ → Value
value_at values i = state_of (set_bit values i) (true_bit values i)

unfoldable pub unset_at : Values → ℕ → Bool
unset_at values i = not (set_bit values i)

-- the sign of a literal, -1 where its word is odd
unfoldable pub word_sign : ℕ → ℤ
word_sign w = elim (eqb (w % 2) 0) [ true ↦ pos 1 | false ↦ negsuc 0 ]

-- the word with the other sign
unfoldable pub other_sign : ℕ → ℕ
other_sign w = elim (eqb (w % 2) 0) [ true ↦ w + 1 | false ↦ w - 1 ]

-- the value of a literal: the product of its sign and its atom's state
unfoldable pub literal_value : Values → ℕ → Value
literal_value values w = word_sign w *ℤ value_at values (w / 2)

unfoldable pub true_word : Values → ℕ → Bool
true_word values w = is_true_value (literal_value values w)

unfoldable pub false_word : Values → ℕ → Bool
false_word values w = is_false_value (literal_value values w)

-- ── setting and unsetting ──

-- the values where no atom is set
abbrev pub no_values : Values
no_values = replicate 8 0

-- a bit of one of the words is replaced, and both bits of a position
unfoldable pub store_bit : Values → ℕ → ℕ → ℕ → Values
store_bit values at c b = set values at (replace_bit c b (get_or values at 0))

unfoldable pub put_state : Values → ℕ → ℕ → ℕ → Values
put_state values i s t = store_bit (store_bit values (set_place i) (i % 64) s) (true_place i) (i % 64) t

-- the values once the literal is set: its atom is set, and true unless the literal is negated
unfoldable pub assigned : Values → ℕ → Values
assigned values w = put_state values (w / 2) 1 (1 - w % 2)

-- the values once its atom is unset
unfoldable pub unassigned : Values → ℕ → Values
unassigned values w = put_state values (w / 2) 0 0
