-- Document 02, request 8: the numbers of a clause, and step A over some of the clauses. Assumes nothing.
use Rattle.std.specs.Prelude.{ℕ, ◌≡◌, Bool, true, false, not, ◌&&◌, [], ◌∷◌, map, leb, length}
use Rattle.std.proofs.Math.Path.{refl}
use Rattle.std.proofs.Math.Option.{Option, none, some}
use Rattle.definitions.specs.Lists.{any, filter, first_some, lists_all}
use Rattle.definitions.specs.Words.{Literal, negate, plain, Clause, words_all}
use Rattle.definitions.specs.Instances.{Task}
use Rattle.definitions.specs.Search.{decided, Trail, is_true, Logged, clause_of, State, Act, not_false, goal_act, logged_act, search_all}

-- how many of its different literals are not false, and whether any is true
pub record Numbers : Type 0 where
  pub non_false : ℕ
  pub any_true : Bool

-- found by reading the clause whole
unfoldable pub clause_numbers : Trail → Clause → Numbers
clause_numbers t c = record { non_false = length (not_false t c); any_true = any (is_true t) c }

-- a repeated literal counts once; p and not p are two that are not false, and one once p is set, which is true
module _ where
  p : Literal
  p = plain (record { symbol = 1; args = [] })

  counted : map (clause_numbers []) ((p ∷ p ∷ []) ∷ (p ∷ negate p ∷ []) ∷ []) ≡ record { non_false = 1; any_true = false } ∷ record { non_false = 2; any_true = false } ∷ []
  unfolding p clause_numbers lists_all words_all search_all
  counted = refl

  counted_set : clause_numbers (record { literal = p; why = decided } ∷ []) (p ∷ negate p ∷ []) ≡ record { non_false = 1; any_true = true }
  unfolding p clause_numbers lists_all words_all search_all
  counted_set = refl

-- none is true, and at most one is not false
unfoldable pub may_act : Numbers → Bool
may_act n = leb n.non_false 1 && not n.any_true

-- step A over those clauses alone that pass a test
unfoldable pub next_act_among : (Clause → Bool) → Task → State → Option Act
next_act_among passes k s =
    elim (first_some (goal_act k s.trail) (filter passes k.clauses)) [
      | some a ↦ some a
      | none ↦ first_some (logged_act k s.trail) (filter (λ (g : Logged). passes (clause_of g)) s.log)
    ]
