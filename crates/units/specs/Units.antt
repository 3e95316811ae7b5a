-- Step A over clauses as words. Assumes nothing.
use Rattle.std.specs.Prelude.{ℕ, zero, suc, ◌+◌, ◌-◌, ◌*◌, ◌≤◌, ◌<◌, Bool, true, false, ◌&&◌, ◌||◌, not, List, [], ◌∷◌, eqb, ltb, get_or, take, drop}
use Rattle.encoding.specs.Lengths.{literal_array}
use Rattle.definitions.specs.Lists.{all, filter, distinct}
use Rattle.encoding.specs.Values.{Values, true_word, false_word}
use Rattle.units.specs.declared.UnitAct.{UnitAct}
use Rattle.units.specs.declared.UnitAct.TheVariants.{Conflict, Force, Nothing}

-- the words of clause c
unfoldable pub clause_at : List ℕ → List ℕ → ℕ → List ℕ
clause_at starts literals c = take (get_or starts (c + 1) 0 - get_or starts c 0) (drop (get_or starts c 0) literals)

-- clause c may set the literal: a goal atom, or all head literals of its instance are true, so the first words are false
unfoldable pub may_set : Values → List ℕ → List ℕ → List ℕ → ℕ → ℕ → ℕ → ℕ → Bool
may_set values starts literals heads goal_clauses goals c w =
    ltb w (2 * goals)
    || (not (ltb c goal_clauses) && all (false_word values) (take (get_or heads (c - goal_clauses) 0) (drop (get_or starts c 0) literals)))

-- the different words that are not false
unfoldable pub not_false_words : Values → List ℕ → List ℕ
not_false_words values ws = filter (λ (w : ℕ). not (false_word values w)) (distinct eqb ws)

-- none: a conflict; exactly one, if it is not true and the clause may set it: it is set
unfoldable pub act_on_words : Values → (ℕ → Bool) → List ℕ → UnitAct
act_on_words values may [] = Conflict
act_on_words values may (w ∷ []) = elim (not (true_word values w) && may w) [ true ↦ Force w | false ↦ Nothing ]
act_on_words values may (w ∷ v ∷ ws) = Nothing

-- what clause c asks for
unfoldable pub act_at : Values → List ℕ → List ℕ → List ℕ → ℕ → ℕ → ℕ → UnitAct
act_at values starts literals heads goal_clauses goals c =
    act_on_words values (may_set values starts literals heads goal_clauses goals c) (not_false_words values (clause_at starts literals c))

-- the first act of so many clauses, from clause c on
unfoldable pub act_from : Values → List ℕ → List ℕ → List ℕ → ℕ → ℕ → ℕ → ℕ → UnitAct
act_from values starts literals heads goal_clauses goals c zero = Nothing
act_from values starts literals heads goal_clauses goals c (suc n) =
    elim (act_at values starts literals heads goal_clauses goals c) [
      | Conflict ↦ Conflict
      | Force w ↦ Force w
      | Nothing ↦ act_from values starts literals heads goal_clauses goals (suc c) n
    ]

-- the first clauses lie in their arrays, one behind the other, their words are below 512, and the heads of a logged one are in it
pub record ClausesFit (starts literals heads : List ℕ) (goal_clauses clauses : ℕ) : Type 0 where
  pub few : clauses ≤ goal_clauses + 512
  pub limit : clauses ≤ 577
  pub rising : (c : ℕ) → c < clauses → get_or starts c 0 ≤ get_or starts (c + 1) 0
  pub inside : (c : ℕ) → c ≤ clauses → get_or starts c 0 ≤ literal_array
  pub words : (i : ℕ) → i < get_or starts clauses 0 → get_or literals i 0 < 512
  pub heads-inside : (c : ℕ) → goal_clauses ≤ c → c < clauses → get_or starts c 0 + get_or heads (c - goal_clauses) 0 ≤ get_or starts (c + 1) 0
