-- Examples of what the promises suppose: an accepted sheet with an assignment that satisfies it and a choice that is earlier than another, a
-- sheet that each call answers UNSAT with a second one that keeps it, sheets that are filled alike, and numbers that satisfy a text's clauses.
-- Assumes nothing.
use Rattle.std.specs.Prelude.{ℕ, ◌≡◌, refl, true, not, eqb, length, replicate}
use Rattle.std.proofs.Common.{inl, inr, arith}
use mathlib.Core.List.Memᴰ
use mathlib.Core.List.{List, [], ◌∷◌, cons≢nil}
use Rattle.definitions.specs.Lists.{◌∈◌, lists_all}
use Rattle.definitions.specs.Bounds.{room_bytes, export_bytes}
use Rattle.definitions.specs.Words.{RuleLine, words_all}
use Rattle.definitions.specs.Instances.{task_of, instances_all}
use Rattle.definitions.specs.Meaning.{Assignment, Earlier, head_false, SatisfiesClauses, SatisfiesLine, Satisfies}
use Rattle.definitions.specs.Sheet.{plus, minus, sheet_all}
use Rattle.definitions.specs.Questions.{questions_all}
use Rattle.definitions.specs.Search.{search_all}
use Rattle.definitions.specs.Listing.{listing_all}
use Rattle.definitions.specs.Text.{text, text_all}
use Rattle.definitions.specs.Call.{call_all}
use Rattle.definitions.specs.Export.{export_all}
use Rattle.definitions.specs.Sheets.{Accepted, Answers, hands_back, lists, prints, export_hands_back, Keeps, FilledAlike, sheets_all}
use Rattle.definitions.specs.Carried.{SatisfiesNumberClauses}
use Rattle.definitions.specs.declared.Verdict.TheVariants.{Unsat}

-- ── an accepted sheet ──

-- p gives q; r <=> q; p or q
unfoldable pub sheet : List ℕ
sheet = text ("   1   1" ∷ "   2   0" ∷ "   2   0" ∷ "   2   0" ∷ "   3   1   1   1   2" ∷ "   8   0   1   1   3   2" ∷ "   4   2   1   2" ∷ [])

pub its-accepted : Accepted sheet
unfolding sheet text_all lists_all words_all instances_all sheet_all questions_all
its-accepted = record { problem = _; reads = refl }

-- q and r, and not p
unfoldable pub all_but_p : Assignment
all_but_p a = not (eqb a.symbol 1)

satisfied-clauses : SatisfiesClauses all_but_p its-accepted.problem.clauses
unfolding its-accepted all_but_p lists_all words_all instances_all questions_all
satisfied-clauses c m = rw (Memᴰ.eq_of_singleton m) (record { literal = _; inside = Memᴰ.tail (Memᴰ.head refl); holds = refl })

-- the rule by its head, which is false, the two-way rule both ways
satisfied-lines : (l : RuleLine) → l ∈ its-accepted.problem.rule_lines → SatisfiesLine all_but_p its-accepted.problem.constants l
unfolding its-accepted all_but_p lists_all words_all instances_all questions_all
satisfied-lines l m =
    elim (Memᴰ.cases_cons m) [
      | inl e ↦ rw e (λ f i. head_false _ (Memᴰ.head refl) refl)
      | inr n ↦ rw (Memᴰ.eq_of_singleton n) (λ f i. record {
        forth = λ kept rewritten. (cons≢nil, λ p k. rw (Memᴰ.eq_of_singleton k) refl);
        back = λ kept body p k. rw (Memᴰ.eq_of_singleton k) refl;
      })
    ]

pub its-satisfied : Satisfies all_but_p its-accepted.problem
its-satisfied = record { clauses = satisfied-clauses; lines = satisfied-lines }

-- p and q are earlier than p alone
pub both_earlier : Earlier (task_of its-accepted.problem) (λ a. true) (λ a. eqb a.symbol 1)
unfolding its-accepted lists_all words_all instances_all questions_all
both_earlier = record { before = _ ∷ []; at = _; after = []; split = refl; alike = λ a m. rw (Memᴰ.eq_of_singleton m) refl; earlier = refl; later = refl }

-- ── an answer, by each call ──

-- the clause of no literals
unfoldable pub broken : List ℕ
broken = text ("   1   1" ∷ "   4   0" ∷ [])

pub handed-back : Answers broken 7 (replicate room_bytes 0) Unsat
unfolding broken text_all lists_all words_all instances_all sheet_all questions_all search_all listing_all call_all
handed-back = hands_back _ refl refl

pub listed : Answers broken 7 (replicate room_bytes 0) Unsat
unfolding broken text_all lists_all words_all instances_all sheet_all questions_all search_all listing_all call_all
listed = lists refl

pub is-printed : Answers broken 7 (replicate room_bytes 0) Unsat
unfolding broken text_all lists_all words_all instances_all sheet_all questions_all search_all listing_all call_all
is-printed = prints refl refl

pub handed-back-by-export : Answers broken 7 (replicate room_bytes 0) Unsat
unfolding broken text_all lists_all words_all instances_all sheet_all questions_all search_all listing_all call_all export_all
handed-back-by-export = export_hands_back (replicate export_bytes 0) _ refl refl

-- with a constant, a symbol and a clause more
unfoldable pub larger : List ℕ
larger = text ("   1   2" ∷ "   2   0" ∷ "   4   1   1" ∷ "   4       0" ∷ [])

pub larger-accepted : Accepted larger
unfolding larger text_all lists_all words_all instances_all sheet_all questions_all
larger-accepted = record { problem = _; reads = refl }

pub larger-keeps : Keeps broken larger
unfolding broken larger text_all lists_all sheet_all questions_all sheets_all
larger-keeps =
    record {
      constants = omega arith;
      symbols = (_, refl);
      rules = λ r m. absurd (Memᴰ.not-nil m);
      two_ways = λ r m. absurd (Memᴰ.not-nil m);
      clauses = λ r m. rw (Memᴰ.eq_of_singleton m) (Memᴰ.tail (Memᴰ.head refl));
    }

-- ── sheets that are filled alike ──

unfoldable pub plainly : List ℕ
plainly = text ("   1   1" ∷ "   2   0" ∷ [])

unfoldable pub with_blanks : List ℕ
with_blanks = text ("       1   1" ∷ "   2       0" ∷ [])

pub filled-alike : FilledAlike plainly with_blanks
unfolding plainly with_blanks text_all lists_all sheet_all questions_all sheets_all
filled-alike = record { first_passes = refl; second_passes = refl; same = refl }

pub longer : length plainly ≡ length with_blanks → ⊥
unfolding plainly with_blanks text_all lists_all
longer e = let z : ◌≡◌ {A = ℕ} 18 26 = e in omega arith

-- ── a text's clauses ──

-- 1 and not 2; not 2
pub numbers-satisfied : SatisfiesNumberClauses (λ n. eqb n 1) ((plus 2 ∷ plus 1 ∷ []) ∷ (minus 2 ∷ []) ∷ [])
unfolding sheet_all
numbers-satisfied ns m =
    elim (Memᴰ.cases_cons m) [
      | inl e ↦ rw e (record { number = _; inside = Memᴰ.tail (Memᴰ.head refl); holds = refl })
      | inr n ↦ rw (Memᴰ.eq_of_singleton n) (record { number = _; inside = Memᴰ.head refl; holds = refl })
    ]
