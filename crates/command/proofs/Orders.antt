-- Words as they are lent, none, one, or a first one and the rest: each case of the code by the definitions' own equations. Assumes nothing.
use Rattle.std.proofs.Common.{ℕ, ◌-◌, ◌<◌, ◌≤◌, ◌≡◌, Bool, true, false, ◌&&◌, cond, nat_eq, eqb, List, [], ◌∷◌, map, length, get_or, drop, take, take_all, Option, Some, None, Bor, refl, ap, arith}
use Rattle.std.specs.Cmp.Lexicographic.{pointwise}
use Rattle.definitions.specs.Words.{same_args}
use Rattle.definitions.specs.Text.{bytes}
use Rattle.definitions.specs.Command.{same_word, numeral, printed_by, budgeted, order}
use Rattle.definitions.specs.declared.Order.{Order}
use Rattle.definitions.specs.declared.Order.TheVariants.{Listing, Cnf}
use Rattle.theory.specs.Tests.{by-test}

-- the words themselves
abbrev said : List (Bor (List ℕ)) → List (List ℕ)
said ws = map (λ x. x.now) ws

-- and the first one
abbrev first : List (Bor (List ℕ)) → List ℕ
first ws = (get_or ws 0 record { ref_ptr = (0, 0); now = [] }).now

abbrev rest : List (Bor (List ℕ)) → List (Bor (List ℕ))
rest ws = take (length ws - 1) (drop 1 ws)

same-words : (a b : List ℕ) → same_word a b ≡ pointwise nat_eq a b
unfolding same_args
same-words [] [] = refl
same-words [] (y ∷ ys) = refl
same-words (x ∷ xs) [] = refl
same-words (x ∷ xs) (y ∷ ys) = ap (λ t. eqb x y && t) (same-words xs ys)

-- ── the words behind the budget ──

pub listing_for_none : (budget : ℕ) (ws : List (Bor (List ℕ))) → length ws < 1 → printed_by budget (said ws) ≡ Some (Listing budget)
unfolding printed_by
listing_for_none budget [] none = refl
listing_for_none budget (w ∷ ws) none = absurd (omega arith)

pub cnf_for_one : (budget : ℕ) (ws : List (Bor (List ℕ))) → length ws ≡ 1 → printed_by budget (said ws) ≡ cond (pointwise nat_eq (first ws) (99 ∷ 110 ∷ 102 ∷ [])) (Some (Cnf budget)) None
unfolding printed_by bytes
cnf_for_one budget [] one = absurd (omega arith)
cnf_for_one budget (w ∷ []) one = rw (printed_by, same-words w.now (99 ∷ 110 ∷ 102 ∷ [])) (either (pointwise nat_eq w.now (99 ∷ 110 ∷ 102 ∷ [])))
  where
    either : (b : Bool) → elim b [ true ↦ Some (Cnf budget) | false ↦ None ] ≡ cond b (Some (Cnf budget)) None
    either true = refl
    either false = refl
cnf_for_one budget (w ∷ v ∷ ws) one = absurd (omega arith)

pub none_for_more : (budget : ℕ) (ws : List (Bor (List ℕ))) → 2 ≤ length ws → printed_by budget (said ws) ≡ None
unfolding printed_by
none_for_more budget [] more = absurd (omega arith)
none_for_more budget (w ∷ []) more = absurd (omega arith)
none_for_more budget (w ∷ v ∷ ws) more = refl

-- what `printed_by` needs
pub ruleset printed = (listing_for_none, cnf_for_one, none_for_more)

-- ── all words ──

abbrev budget_word : List ℕ
budget_word = 98 ∷ 117 ∷ 100 ∷ 103 ∷ 101 ∷ 116 ∷ []

pub order_by_budget : (ws : List (Bor (List ℕ))) → 1 ≤ length ws → pointwise nat_eq (first ws) budget_word ≡ true → order (said ws) ≡ budgeted (said (rest ws))
unfolding order bytes
order_by_budget [] some_word is = absurd (omega arith)
order_by_budget (w ∷ ws) some_word is = rw (take_all (length (w ∷ ws) - 1) ws (omega arith), order, same-words w.now budget_word, is) refl

pub order_by_others : (ws : List (Bor (List ℕ))) → (1 ≤ length ws → pointwise nat_eq (first ws) budget_word ≡ false) → order (said ws) ≡ printed_by 1000000 (said ws)
unfolding order bytes
order_by_others [] isn't = refl
order_by_others (w ∷ ws) isn't = rw (order, same-words w.now budget_word, isn't (omega arith)) refl

-- what `ordered` needs
pub ruleset orders = (order_by_budget, order_by_others)

-- ── words of which the first three are looked at ──

many-budgeted : (n w v : List ℕ) (ws : List (List ℕ)) → budgeted (n ∷ w ∷ v ∷ ws) ≡ None
unfolding budgeted printed_by
many-budgeted n w v ws = by-numeral (numeral n)
  where
    by-numeral : (x : Option ℕ) → ◌≡◌ {A = Option Order} (elim x [ Some budget ↦ printed_by budget (w ∷ v ∷ ws) | None ↦ None ]) None
    by-numeral (Some budget) = refl
    by-numeral None = refl

-- more than three are too many, whatever they are
pub none_for_four : (ws : List (List ℕ)) → 3 < length ws → order ws ≡ None
unfolding order printed_by
none_for_four [] h = absurd (omega arith)
none_for_four (w ∷ []) h = absurd (omega arith)
none_for_four (w ∷ n ∷ []) h = absurd (omega arith)
none_for_four (w ∷ n ∷ v ∷ []) h = absurd (omega arith)
none_for_four (w ∷ n ∷ v ∷ u ∷ ws) h = by-test (same_word w (bytes "budget")) (λ e. rw (order, e) (many-budgeted n v u ws)) (λ e. rw (order, e))
