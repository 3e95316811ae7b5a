-- Sheets that are answered UNKNOWN, with what each test says of them: three that pass a test and none of those before it, and two that no
-- assignment satisfies, one for either half of what is supposed. Assumes nothing.
use Rattle.std.specs.Prelude.{ℕ, ◌≡◌, Bool, take}
use Rattle.std.proofs.Math.Path.{refl}
use Rattle.std.proofs.Common.{sym, subst, ◌∙◌, inl, inr}
use Rattle.std.proofs.Math.Bool.{true, false, not, true≢false, false≢true}
use mathlib.Core.List.Memᴰ
use mathlib.Core.List.{List, [], ◌∷◌, cons≢nil}
use Rattle.definitions.specs.Lists.{◌∈◌, all, lists_all}
use Rattle.definitions.specs.Words.{Literal, negate, Rule, TwoWay, two_way, Problem, words_all}
use Rattle.definitions.specs.Instances.{Substitution, ground, instances_all}
use Rattle.definitions.specs.Meaning.{Assignment, Makes, SatisfiesClause, SatisfiesFilling, head_false, body_true, AllHold, Satisfies}
use Rattle.definitions.specs.Sheet.{sheet_all}
use Rattle.definitions.specs.Questions.{literal_of, accepted, read, questions_all}
use Rattle.definitions.specs.Search.{search_all}
use Rattle.definitions.specs.Listing.{listing_all}
use Rattle.definitions.specs.Text.{bytes, text, text_all}
use Rattle.definitions.specs.Call.{printed, call_all}
use Rattle.definitions.specs.Sheets.{sheets_all}
use Rattle.definitions.specs.Models.{listed_literals, said_by_rules, positive_heads, named_heads, listed_heads, models_all}

-- an accepted sheet of which the program says UNKNOWN, with what the test of the lines and the three of the heads say
pub record Tried (of_lines is_positive is_named is_listed : Bool) : Type 0 where
  pub sheet : List ℕ
  pub problem : Problem
  pub reads : read sheet ≡ accepted problem
  pub prints : take 8 (printed sheet 1000000) ≡ bytes "   5   1"
  pub lines : all said_by_rules problem.rule_lines ≡ of_lines
  pub positive : positive_heads problem ≡ is_positive
  pub named : named_heads problem ≡ is_named
  pub listed : listed_heads (printed sheet 1000000) problem ≡ is_listed

-- mounted(X) \ drilled(Y,X) <=> bolted(X,Y); drilled(X,X) <=> false; bolted(X,Y) gives mounted(X); bolted(1,2) or bolted(2,1). The first line has
-- its reverse rule, the second an empty body, and no head is negated
unfoldable pub plates : Tried true true true true
unfolding text_all lists_all words_all instances_all sheet_all questions_all search_all listing_all call_all sheets_all models_all
plates =
    record {
      sheet =
          text (
          "   1   2" ∷
          "   2   1" ∷
          "   2   2" ∷
          "   2   2" ∷
          "   8   1   1   1   1   1   3   2   1   2   1   2" ∷
          "   8   0   1   0   3   1   1" ∷
          "   3   1   1   2   1   2   1   1" ∷
          "   4   2   2   1   2   2   2   1" ∷ []);
      problem = _;
      reads = refl;
      prints = refl;
      lines = refl;
      positive = refl;
      named = refl;
      listed = refl;
    }

-- s(X) and t(X) give false; not s(X) and t(X) give u(X); t(1); s(1) or not s(1). With one constant the negated head is about s(1) alone
unfoldable pub named_atom : Tried true false true true
unfolding text_all lists_all words_all instances_all sheet_all questions_all search_all listing_all call_all sheets_all models_all
named_atom =
    record {
      sheet =
          text (
          "   1   1" ∷
          "   2   1" ∷
          "   2   1" ∷
          "   2   1" ∷
          "   3   2   0   1   1   2   1" ∷
          "   3   2   1  -1   1   2   1   3   1" ∷
          "   4   1   2   1" ∷
          "   4   2   1   1  -1   1" ∷ []);
      problem = _;
      reads = refl;
      prints = refl;
      lines = refl;
      positive = refl;
      named = refl;
      listed = refl;
    }

-- the same with two constants: s(2) isn't named, but t(2) isn't true either
unfoldable pub unnamed_atom : Tried true false false true
unfolding text_all lists_all words_all instances_all sheet_all questions_all search_all listing_all call_all sheets_all models_all
unnamed_atom =
    record {
      sheet =
          text (
          "   1   2" ∷
          "   2   1" ∷
          "   2   1" ∷
          "   2   1" ∷
          "   3   2   0   1   1   2   1" ∷
          "   3   2   1  -1   1   2   1   3   1" ∷
          "   4   1   2   1" ∷
          "   4   2   1   1  -1   1" ∷ []);
      problem = _;
      reads = refl;
      prints = refl;
      lines = refl;
      positive = refl;
      named = refl;
      listed = refl;
    }

-- document 01's trial: s(X) and t(X) give false; not s(X) and t(X) give false; t(1). s(1) has no line, and t(1) is true
unfoldable pub open_atom : Tried true false false false
unfolding text_all lists_all words_all instances_all sheet_all questions_all search_all listing_all call_all sheets_all models_all
open_atom =
    record {
      sheet =
          text (
          "   1   1" ∷
          "   2   1" ∷
          "   2   1" ∷
          "   3   2   0   1   1   2   1" ∷
          "   3   2   0  -1   1   2   1" ∷
          "   4   1   2   1" ∷ []);
      problem = _;
      reads = refl;
      prints = refl;
      lines = refl;
      positive = refl;
      named = refl;
      listed = refl;
    }

-- r(X,Y) <=> q(X); q(1); not r(1,1). The reverse rule would leave Y free
unfoldable pub no_reverse : Tried false true true true
unfolding text_all lists_all words_all instances_all sheet_all questions_all search_all listing_all call_all sheets_all models_all
no_reverse =
    record {
      sheet =
          text (
          "   1   1" ∷
          "   2   2" ∷
          "   2   1" ∷
          "   8   0   1   1   1   1   2   2   1" ∷
          "   4   1   2   1" ∷
          "   4   1  -1   1   1" ∷ []);
      problem = _;
      reads = refl;
      prints = refl;
      lines = refl;
      positive = refl;
      named = refl;
      listed = refl;
    }

-- its first line of kind 8
pub plates-two-way : (t : TwoWay) × (two_way t ∈ plates.problem.rule_lines)
unfolding plates text_all lists_all words_all instances_all sheet_all questions_all
plates-two-way = (_, Memᴰ.head refl)

-- what is listed with one constant: t(1); not s(1); u(1)
pub named-literals : listed_literals (printed named_atom.sheet 1000000) ≡ literal_of true 2 (1 ∷ []) ∷ literal_of false 1 (1 ∷ []) ∷ literal_of true 3 (1 ∷ []) ∷ []
unfolding named_atom text_all lists_all words_all instances_all sheet_all questions_all search_all listing_all call_all sheets_all models_all
named-literals = refl

-- ── no assignment satisfies the last two ──

module _ (v : Assignment) where
  -- a clause of one literal
  only-literal : (l : Literal) → SatisfiesClause v (l ∷ []) → Makes v l
  only-literal l w = subst (Makes v) (Memᴰ.eq_of_singleton w.inside) w.holds

  -- the heads of a rule without a body
  never-all : (r : Rule) (f : Substitution) → r.body ≡ [] → SatisfiesFilling v r f → AllHold v f r.heads → ⊥
  unfolding negate ground
  never-all r f e (body_true some bs) hs = some e
  never-all r f e (head_false x m n) hs = differs x.positive (sym (hs x m) ∙ n)
    where
      differs : (b : Bool) → b ≡ not b → ⊥
      differs true q = true≢false q
      differs false q = false≢true q

  -- s(1) can be neither true nor false
  pub open-unsatisfied : Satisfies v open_atom.problem → ⊥
  unfolding open_atom text_all lists_all words_all instances_all sheet_all questions_all
  open-unsatisfied h = either (v (record { symbol = 1; args = 1 ∷ [] })) refl
    where
      t : v (record { symbol = 2; args = 1 ∷ [] }) ≡ true
      t = only-literal _ (h.clauses _ (Memᴰ.head refl))

      either : (b : Bool) → v (record { symbol = 1; args = 1 ∷ [] }) ≡ b → ⊥
      either true s =
          never-all _ _ refl (h.lines _ (Memᴰ.head refl) _ (Memᴰ.head refl))
          (λ x m. elim (Memᴰ.cases_cons m) [ inl e ↦ rw e s | inr n ↦ rw (Memᴰ.eq_of_singleton n) t ])
      either false s =
          never-all _ _ refl (h.lines _ (Memᴰ.tail (Memᴰ.head refl)) _ (Memᴰ.head refl))
          (λ x m. elim (Memᴰ.cases_cons m) [ inl e ↦ rw e s | inr n ↦ rw (Memᴰ.eq_of_singleton n) t ])

  -- with q(1) the equivalence asks for r(1,1)
  pub reverse-unsatisfied : Satisfies v no_reverse.problem → ⊥
  unfolding no_reverse text_all lists_all words_all instances_all sheet_all questions_all
  reverse-unsatisfied h =
      let q = only-literal _ (h.clauses _ (Memᴰ.head refl)) in
      let not_r = only-literal _ (h.clauses _ (Memᴰ.tail (Memᴰ.head refl))) in
      let holds = h.lines _ (Memᴰ.head refl) _ (Memᴰ.head refl) in
      let r = holds.back (λ x m. absurd (Memᴰ.not-nil m)) (cons≢nil, λ x m. rw (Memᴰ.eq_of_singleton m) q) _ (Memᴰ.head refl) in
      true≢false (sym r ∙ not_r)
