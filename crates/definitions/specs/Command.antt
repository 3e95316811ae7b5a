-- The command's words, `thunyaworm [budget N] [cnf]`: what is printed, by the words behind the command's name; none if they are no words of
-- it, and the command says which are. Assumes nothing.
use Rattle.std.specs.Prelude.{ℕ, Bool, true, false, List, [], ◌∷◌, Option, Some, None, leb}
use Rattle.definitions.specs.Words.{same_args}
use Rattle.definitions.specs.Sheet.{Column, number, nothing, fault, natural}
use Rattle.definitions.specs.Text.{bytes}
use Rattle.definitions.specs.declared.Order.{Order}
use Rattle.definitions.specs.declared.Order.TheVariants.{Listing, Cnf}

-- document 01: the program "uses budget 1,000,000"
abbrev pub usual_budget : ℕ
usual_budget = 1000000

-- "any 32-bit unsigned number"
abbrev pub largest_budget : ℕ
largest_budget = 4294967295

-- two words are the same, byte for byte
abbrev pub same_word : List ℕ → List ℕ → Bool
same_word a b = same_args a b

-- a number of 32 bits
unfoldable pub in_range : Column → Option ℕ
in_range (number n) = elim (leb n.size largest_budget) [ true ↦ Some n.size | false ↦ None ]
in_range nothing = None
in_range fault = None

-- the number that a word says: 0 alone, or a natural number as in a column; no sign, no leading zero
unfoldable pub numeral : List ℕ → Option ℕ
numeral w = elim (same_word w (bytes "0")) [ true ↦ Some 0 | false ↦ in_range (natural false w) ]

-- what is printed, by the words behind the budget: without any the listing
unfoldable pub printed_by : ℕ → List (List ℕ) → Option Order
printed_by budget [] = Some (Listing budget)
printed_by budget (w ∷ []) = elim (same_word w (bytes "cnf")) [ true ↦ Some (Cnf budget) | false ↦ None ]
printed_by budget (w ∷ v ∷ ws) = None

-- by the words behind `budget`, of which the first is its number
unfoldable pub budgeted : List (List ℕ) → Option Order
budgeted [] = None
budgeted (w ∷ ws) = elim (numeral w) [ Some budget ↦ printed_by budget ws | None ↦ None ]

-- by the words behind the command's name
unfoldable pub order : List (List ℕ) → Option Order
order [] = printed_by usual_budget []
order (w ∷ ws) = elim (same_word w (bytes "budget")) [ true ↦ budgeted ws | false ↦ printed_by usual_budget (w ∷ ws) ]

-- names every definition of this module, for a theorem that computes with all of them
unfoldable pub command_all : Unit {0}
unfolding in_range numeral printed_by budgeted order
command_all = tt
