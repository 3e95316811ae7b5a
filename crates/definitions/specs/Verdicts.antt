-- Document 01, "The search": what each of UNKNOWN, SPENT and FULL tells of the state that the search ends in. What UNSAT tells is
-- `Fails`, of every choice. Assumes nothing.
use Rattle.std.specs.Prelude.{ℕ, ◌≡◌, true, false, length}
use Rattle.std.proofs.Math.Option.{none, some}
use Rattle.definitions.specs.Lists.{◌∈◌}
use Rattle.definitions.specs.Bounds.{most_logged}
use Rattle.definitions.specs.Words.{Atom, Literal, plain, goal_atoms}
use Rattle.definitions.specs.Instances.{Instance, Task}
use Rattle.definitions.specs.Meaning.{Choice, Closure, Fails, Earlier}
use Rattle.definitions.specs.Search.{Trail, is_true, is_unset, Logged, State, next_act, next_instance, logged_of, enter_taken, next_goal}

-- the choice that is read off what is set: true for the atoms that are set true
unfoldable pub setting : Trail → Choice
setting t a = is_true t (plain a)

-- UNKNOWN, "if none is unset": the setting is the first choice that breaks no goal clause and has no clash, "choices are ordered by
-- goal atom, the first weighing most, true before false", and what is true is its "closure"
pub record FirstChoice (k : Task) (t : Trail) : Type 0 where
  pub set : (a : Atom) → a ∈ goal_atoms k.clauses → is_unset t (plain a) ≡ false
  pub neither : Fails k (setting t) → ⊥
  pub earlier : (τ : Choice) → Earlier k τ (setting t) → Fails k τ
  pub sound : (l : Literal) → is_true t l ≡ true → Closure k (setting t) l
  pub complete : (l : Literal) → Closure k (setting t) l → is_true t l ≡ true

-- SPENT, "if that decision would exceed the budget": nothing is left for A and B, a goal atom is unset, and the budget is used up
pub record SpentWhen (k : Task) (budget : ℕ) (s : State) : Type 0 where
  pub no_act : next_act k s ≡ none
  pub no_instance : next_instance k s ≡ none
  pub goal : Atom
  pub unset : next_goal k s ≡ some goal
  pub used_up : s.decisions ≡ budget

-- what there is no room for: "the 513th clause or 257th atom"
pub data NoRoom (s : State) (g : Logged) : Type 0 where
  clause513 : length s.log ≡ most_logged → NoRoom s g
  atom257 : length (enter_taken s.table g.taken) ≡ 257 → NoRoom s g

-- FULL, "if the 513th clause or 257th atom is needed": nothing is left for A, and B needs one of the two
pub record FullWhen (k : Task) (s : State) : Type 0 where
  pub no_act : next_act k s ≡ none
  pub instance : Instance
  pub next : next_instance k s ≡ some instance
  pub no_room : NoRoom s (logged_of s.trail instance)
