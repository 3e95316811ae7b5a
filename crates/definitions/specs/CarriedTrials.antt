-- Document 02, 9/14: a sheet that is answered UNSAT and on which each logged clause is needed for that; and an assignment that satisfies a
-- logged clause and not the filling that it follows from. Assumes nothing.
use Rattle.std.specs.Prelude.{ℕ, zero, suc, ◌+◌, ◌<◌, ◌≡◌, refl, Bool, true, false, not, List, [], ◌∷◌, ◌++◌, map, eqb, length, take, drop}
use Rattle.std.proofs.Common.{sym, inl, inr, arith}
use Rattle.std.proofs.lemmas.Bool.{false≢true}
use mathlib.Core.List.Memᴰ
use Rattle.definitions.specs.Lists.{◌∈◌, lists_all}
use Rattle.definitions.specs.Words.{Literal, Clause, Pattern, Rule, one_way, Problem, words_all}
use Rattle.definitions.specs.Instances.{instances_all}
use Rattle.definitions.specs.Meaning.{Assignment, SatisfiesClause, SatisfiesClauses, SatisfiesFilling, head_false, body_true}
use Rattle.definitions.specs.Sheet.{plus, minus, sheet_all}
use Rattle.definitions.specs.Questions.{accepted, read, questions_all}
use Rattle.definitions.specs.Search.{clause_of, State, done, came_to, search, search_all}
use Rattle.definitions.specs.Listing.{listing_all}
use Rattle.definitions.specs.Text.{bytes, text, text_all}
use Rattle.definitions.specs.Dimacs.{dimacs_all}
use Rattle.definitions.specs.Call.{ended, answer_of, printed, call_all}
use Rattle.definitions.specs.Export.{printed_cnf, export_all}
use Rattle.definitions.specs.Sheets.{Row, of_kind, sheets_all}
use Rattle.definitions.specs.Carried.{Entailed, carried_all}
use Rattle.definitions.specs.declared.Verdict.TheVariants.{Unsat}
use Rattle.definitions.specs.declared.Counts.{Counts}
use Rattle.definitions.specs.declared.Answer.TheVariants.{Answered}

-- p gives q and r; p; not q or not r
unfoldable pub both_sheet : List ℕ
both_sheet = text ("   1   1" ∷ "   2   0" ∷ "   2   0" ∷ "   2   0" ∷ "   3   1   2   1   2   3" ∷ "   4   1   1" ∷ "   4   2  -2  -3" ∷ [])

-- UNSAT, by two clauses of the one rule
pub both-listed : printed both_sheet 1000000 ≡ text ("   5   0   3   2           0           1" ∷ "   6   1   2  -1   2" ∷ "   6   1   2  -1   3" ∷ [])
unfolding both_sheet text_all lists_all words_all instances_all sheet_all questions_all search_all listing_all call_all
both-listed = refl

pub both-exported : printed_cnf both_sheet 1000000 ≡ text ("p cnf 3 4" ∷ "1 0" ∷ "-2 -3 0" ∷ "-1 2 0" ∷ "-1 3 0" ∷ [])
unfolding both_sheet text_all lists_all words_all instances_all sheet_all questions_all search_all listing_all dimacs_all call_all export_all
both-exported = refl

-- the symbol as a literal, and as one of a rule
symbol_literal : Bool → ℕ → Literal
symbol_literal positive n = record { positive = positive; atom = record { symbol = n; args = [] } }

symbol_pattern : ℕ → Pattern
symbol_pattern n = record { positive = true; symbol = n; terms = [] }

unfoldable pub both_rule : Rule
unfolding symbol_pattern
both_rule = record { heads = symbol_pattern 1 ∷ []; body = symbol_pattern 2 ∷ symbol_pattern 3 ∷ [] }

unfoldable pub both_problem : Problem
unfolding symbol_literal
both_problem =
    record {
      constants = 1;
      arities = 0 ∷ 0 ∷ 0 ∷ [];
      rule_lines = one_way both_rule ∷ [];
      rules = both_rule ∷ [];
      clauses = (symbol_literal true 1 ∷ []) ∷ (symbol_literal false 2 ∷ symbol_literal false 3 ∷ []) ∷ [];
    }

pub both_read : read both_sheet ≡ accepted both_problem
unfolding both_sheet both_problem both_rule symbol_literal symbol_pattern text_all lists_all words_all instances_all sheet_all questions_all
both_read = refl

-- where its search ends
unfoldable pub both_state : State
both_state = came_to (search both_problem 1000000)

pub both_ends : search both_problem 1000000 ≡ done Unsat both_state
unfolding both_state both_problem both_rule symbol_literal symbol_pattern lists_all words_all instances_all search_all
both_ends = refl

-- what a call hands back then
unfoldable pub both_counts : Counts
both_counts = record { verdict = Unsat; atoms = 3; logged = 2; decisions = 0; conflicts = 1 }

pub both-counts : answer_of (ended Unsat both_state) ≡ Answered both_counts
unfolding both_state both_problem both_rule both_counts symbol_literal symbol_pattern lists_all words_all instances_all search_all call_all
both-counts = refl

pub both-begins : take 8 (printed both_sheet 1000000) ≡ bytes "   5   0"
unfolding both_sheet text_all lists_all words_all instances_all sheet_all questions_all search_all listing_all call_all
both-begins = refl

pub two-logged : length both_state.log ≡ 2
unfolding both_state both_problem both_rule symbol_literal symbol_pattern lists_all words_all instances_all search_all
two-logged = refl

-- ── each logged clause is needed ──

-- all true but one symbol
unfoldable pub all_but : ℕ → Assignment
all_but n a = not (eqb a.symbol n)

-- without the logged clause at this place the rest is satisfied: without the first by p and r, without the second by p and q
pub each_needed : (n : ℕ) → n < length both_state.log
    → SatisfiesClauses (all_but (2 + n)) (both_problem.clauses ++ map clause_of (take n both_state.log ++ drop (suc n) both_state.log))
unfolding both_state both_problem both_rule all_but symbol_literal symbol_pattern lists_all words_all instances_all search_all
each_needed zero h c m =
    elim (Memᴰ.cases_cons m) [
      | inl e ↦ rw e (record { literal = _; inside = Memᴰ.head refl; holds = refl })
      | inr n ↦ elim (Memᴰ.cases_cons n) [
        | inl e ↦ rw e (record { literal = _; inside = Memᴰ.head refl; holds = refl })
        | inr o ↦ rw (Memᴰ.eq_of_singleton o) (record { literal = _; inside = Memᴰ.tail (Memᴰ.head refl); holds = refl })
      ]
    ]
each_needed (suc zero) h c m =
    elim (Memᴰ.cases_cons m) [
      | inl e ↦ rw e (record { literal = _; inside = Memᴰ.head refl; holds = refl })
      | inr n ↦ elim (Memᴰ.cases_cons n) [
        | inl e ↦ rw e (record { literal = _; inside = Memᴰ.tail (Memᴰ.head refl); holds = refl })
        | inr o ↦ rw (Memᴰ.eq_of_singleton o) (record { literal = _; inside = Memᴰ.tail (Memᴰ.head refl); holds = refl })
      ]
    ]
each_needed (suc (suc n)) h c m = absurd (omega (arith, h))

-- ── the first logged clause, not p or q ──

unfoldable pub first_clause : Clause
unfolding symbol_literal
first_clause = symbol_literal false 1 ∷ symbol_literal true 2 ∷ []

-- whatever satisfies the filling satisfies it
pub filling-gives : (v : Assignment) → SatisfiesFilling v both_rule [] → SatisfiesClause v first_clause
unfolding both_rule first_clause symbol_pattern symbol_literal words_all instances_all
filling-gives v (head_false x m h) =
    record { literal = symbol_literal false 1; inside = Memᴰ.head refl; holds = rw (Memᴰ.eq_of_singleton m) at h }
filling-gives v (body_true ne hold) =
    record { literal = symbol_literal true 2; inside = Memᴰ.tail (Memᴰ.head refl); holds = hold _ (Memᴰ.head refl) }

-- its line
unfoldable pub first_row : Row
first_row = plus 6 ∷ plus 1 ∷ plus 2 ∷ minus 1 ∷ plus 2 ∷ []

pub first-listed : first_row ∈ of_kind 6 (printed both_sheet 1000000)
unfolding first_row both_sheet text_all lists_all words_all instances_all sheet_all questions_all search_all listing_all call_all sheets_all
first-listed = Memᴰ.head refl

unfoldable pub first-follows : Entailed both_problem first_row
unfolding first_row both_problem both_rule first_clause symbol_pattern symbol_literal carried_all lists_all words_all instances_all sheet_all questions_all
first-follows =
    record {
      clause = first_clause;
      reads = refl;
      place = 0;
      number = refl;
      rule = both_rule;
      its = refl;
      filling = [];
      inside = Memᴰ.head refl;
      follows = filling-gives;
    }

pub two-in-body : length both_rule.body ≡ 2
unfolding both_rule symbol_pattern
two-in-body = refl

-- the other way it fails: p and q, and not r, satisfies it and not the filling
pub first-satisfied : SatisfiesClause (all_but 3) first_clause
unfolding first_clause all_but symbol_literal
first-satisfied = record { literal = _; inside = Memᴰ.tail (Memᴰ.head refl); holds = refl }

pub filling-broken : SatisfiesFilling (all_but 3) both_rule [] → ⊥
unfolding both_rule all_but symbol_pattern words_all instances_all
filling-broken (head_false x m h) = false≢true (sym (rw (Memᴰ.eq_of_singleton m) at h))
filling-broken (body_true ne hold) = false≢true (hold _ (Memᴰ.tail (Memᴰ.head refl)))
