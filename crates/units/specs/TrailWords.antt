-- The trail as arrays: the words of what is set, in the order of setting, and why. Assumes nothing.
use Rattle.std.specs.Prelude.{ℕ, zero, suc, ◌≤◌, ◌≡◌, true, false, List, [], ◌∷◌, map, reverse, eqb, length, get_or, take}
use Rattle.definitions.specs.Words.{Atom}
use Rattle.definitions.specs.Search.{Why, decided, flipped, forced, Entry, Trail}
use Rattle.definitions.specs.LiteralTest.{unset_value}
use Rattle.encoding.specs.Encoding.{literal_word}
use Rattle.encoding.specs.Values.{Values, value_at, unset_at, unassigned}
use Rattle.encoding.specs.Standing.{Valued}

-- why a word was set
abbrev pub mark_of : Why → ℕ
mark_of decided = 1
mark_of flipped = 2
mark_of forced = 0

-- the place behind the latest decision among the first entries, 0 where there is none
unfoldable pub latest_decision : List ℕ → ℕ → ℕ
latest_decision marks zero = 0
latest_decision marks (suc n) = elim (eqb (get_or marks n 0) (mark_of decided)) [ true ↦ suc n | false ↦ latest_decision marks n ]

-- the values once the words are unset
unfoldable pub cleared : Values → List ℕ → Values
cleared values [] = values
cleared values (w ∷ ws) = cleared (unassigned values w) ws

-- the first unset position among the first, or their number
unfoldable pub first_unset : Values → ℕ → ℕ → ℕ
first_unset values at zero = at
first_unset values at (suc n) = elim (unset_at values at) [ true ↦ at | false ↦ first_unset values (suc at) n ]

-- the arrays stand for a trail: its words and marks, earliest first, and the values of all atoms
pub record TrailStands (table : List Atom) (t : Trail) (values : Values) (trail marks : List ℕ) : Type 0 where
  pub words : take (length t) trail ≡ map (λ (e : Entry). literal_word table e.literal) (reverse t)
  pub whys : take (length t) marks ≡ map (λ (e : Entry). mark_of e.why) (reverse t)
  pub valued : Valued table t values
  pub outside : (i : ℕ) → length table ≤ i → value_at values i ≡ unset_value
