-- Document 02, 7/14: sheets with lines of kind 8, by question and by listing; and a sheet whose reverse rule is left out, on which an
-- assignment satisfies the rules and not the equivalence. Assumes nothing.
use Rattle.std.specs.Prelude.{ℕ, ◌≡◌, refl, true, eqb, replicate}
use Rattle.std.proofs.lemmas.Bool.{false≢true}
use mathlib.Core.List.Memᴰ
use mathlib.Core.List.{List, [], ◌∷◌, ◌++◌, map, cons≢nil}
use Rattle.definitions.specs.Lists.{◌∈◌, lists_all}
use Rattle.definitions.specs.Words.{variable, Rule, TwoWay, forward, two_way, Problem, words_all}
use Rattle.definitions.specs.Instances.{instances_all}
use Rattle.definitions.specs.Meaning.{Assignment, SatisfiesClauses, head_false, SatisfiesRule, Satisfies}
use Rattle.definitions.specs.Sheet.{sheet_all}
use Rattle.definitions.specs.Questions.{accepted, read, questions_all}
use Rattle.definitions.specs.Search.{search_all}
use Rattle.definitions.specs.Listing.{listing_all}
use Rattle.definitions.specs.Call.{call_all}
use Rattle.definitions.specs.Text.{text, text_all}
use Rattle.definitions.specs.Trials.{Trial, shown, expected}
use Rattle.definitions.specs.Refusals.{SheetTrial, numbers_of, found, claimed, declared, with_pairs}

unfoldable pub two_way_sheets : List SheetTrial
two_way_sheets =
    -- 7/14, kind 8 wherever kind 3 is and ranked with it: between lines of kind 3, not after 4, and 2 not after 8
    record { sheet = text (declared ++ ("   3   1   0   1" ∷ "   8   0   1   0   1" ∷ "   3   1   0   1" ∷ "   8   0   1   1   1   1" ∷ [])); question = 0; line = 0 } ∷
    record { sheet = text (declared ++ ("   4   0" ∷ "   8   0   1   0   1" ∷ [])); question = 7; line = 5 } ∷
    record { sheet = text (declared ++ ("   8   0   1   0   1" ∷ "   2   0" ∷ [])); question = 7; line = 5 } ∷
    record { sheet = text (declared ++ ("   8   0   1   0   1" ∷ "   4   0" ∷ [])); question = 0; line = 0 } ∷
    record { sheet = text (declared ++ ("   7   0   1   0   1" ∷ [])); question = 7; line = 4 } ∷
    -- 8: kept 0 to 2, rewritten 1 to 2, body 0 to 2, all three present
    record { sheet = text (declared ++ ("   8" ∷ [])); question = 8; line = 4 } ∷
    record { sheet = text (declared ++ ("   8   0" ∷ [])); question = 8; line = 4 } ∷
    record { sheet = text (declared ++ ("   8   0   1" ∷ [])); question = 8; line = 4 } ∷
    record { sheet = text (declared ++ ("   8  -1   1   0   1" ∷ [])); question = 8; line = 4 } ∷
    record { sheet = text (declared ++ ("   8   3   1   0   1   1   1   1" ∷ [])); question = 8; line = 4 } ∷
    record { sheet = text (declared ++ ("   8   0   0   1   1" ∷ [])); question = 8; line = 4 } ∷
    record { sheet = text (declared ++ ("   8   0   3   0   1   1   1" ∷ [])); question = 8; line = 4 } ∷
    record { sheet = text (declared ++ ("   8   0   1   3   1   1   1   1" ∷ [])); question = 8; line = 4 } ∷
    record { sheet = text (declared ++ ("   8   0   1  -1   1" ∷ [])); question = 8; line = 4 } ∷
    -- the sums are at most 3
    record { sheet = text (declared ++ ("   8   2   2   0   1   1   1   1" ∷ [])); question = 8; line = 4 } ∷
    record { sheet = text (declared ++ ("   8   2   1   2   1   1   1   1   1" ∷ [])); question = 8; line = 4 } ∷
    record { sheet = text (declared ++ ("   8   2   1   1   2   1   2   1   2   1   2   1" ∷ [])); question = 0; line = 0 } ∷
    record { sheet = text (declared ++ ("   8   1   2   2   2   1   2   1   2   1   2   1   2   1" ∷ [])); question = 0; line = 0 } ∷
    record { sheet = text (declared ++ ("   8   0   2   2   2   1   2   1   2   1   2   1" ∷ [])); question = 0; line = 0 } ∷
    -- 9: as two rules, with an empty body as one, whether or not the reverse is there
    record { sheet = text (declared ++ replicate 16 "   8   0   1   1   1   1"); question = 0; line = 0 } ∷
    record { sheet = text (declared ++ replicate 16 "   8   0   1   1   1   1" ++ ("   8   0   1   0   1" ∷ [])); question = 9; line = 20 } ∷
    record { sheet = text (declared ++ replicate 15 "   8   0   1   1   1   1" ++ ("   3   1   0   1" ∷ "   8   0   1   1   1   1" ∷ [])); question = 9; line = 20 } ∷
    record { sheet = text (declared ++ replicate 15 "   8   0   1   1   1   1" ++ ("   3   1   0   1" ∷ "   8   0   1   0   1" ∷ [])); question = 0; line = 0 } ∷
    record { sheet = text (declared ++ replicate 32 "   8   0   1   0   1"); question = 0; line = 0 } ∷
    record { sheet = text (declared ++ replicate 33 "   8   0   1   0   1"); question = 9; line = 36 } ∷
    record { sheet = text (declared ++ replicate 32 "   8   0   1   0   1" ++ ("   3   1   0   1" ∷ [])); question = 9; line = 36 } ∷
    -- the reverse of q(X) <=> p is not range restricted: 16 such lines fill 32
    record { sheet = text (declared ++ replicate 16 "   8   0   1   1   2   1   1"); question = 0; line = 0 } ∷
    record { sheet = text (declared ++ replicate 16 "   8   0   1   1   2   1   1" ++ ("   3   1   0   1" ∷ [])); question = 9; line = 20 } ∷
    -- 8 before 9, 9 before 10, 10 before 11
    record { sheet = text (declared ++ replicate 16 "   8   0   1   1   1   1" ++ ("   8   0   0   1   1" ∷ [])); question = 8; line = 20 } ∷
    record { sheet = text (declared ++ replicate 16 "   8   0   1   1   1   1" ++ ("   8   0   1   1   1" ∷ [])); question = 9; line = 20 } ∷
    record { sheet = text (declared ++ ("   8   0   1   1   1" ∷ [])); question = 10; line = 4 } ∷
    record { sheet = text (declared ++ ("   8   0   1   1   1   2" ∷ [])); question = 10; line = 4 } ∷
    record { sheet = text (declared ++ ("   8   0   1   1   1   9" ∷ [])); question = 10; line = 4 } ∷
    record { sheet = text (declared ++ ("   8   0   1   1   1   1   1" ∷ [])); question = 11; line = 4 } ∷
    -- 12 and 14 are asked of the forward rule: a body variable in no head; kept and rewritten heads apart
    record { sheet = text (declared ++ ("   8   0   1   1   1   2   1" ∷ [])); question = 12; line = 4 } ∷
    record { sheet = text (with_pairs ++ ("   8   0   1   1   2   1   3   1   2" ∷ [])); question = 12; line = 5 } ∷
    record { sheet = text (declared ++ ("   8   1   1   0   2   1   2   2" ∷ [])); question = 14; line = 4 } ∷
    record { sheet = text (with_pairs ++ ("   8   1   1   1   2   1   2   2   3   1   2" ∷ [])); question = 14; line = 5 } ∷
    record { sheet = text (declared ++ ("   8   1   1   0   2   1   2   1" ∷ [])); question = 0; line = 0 } ∷
    -- not of the reverse: its head q(X) leaves Y of r(X,Y) free; its heads q(X) and q(Y) share no variable
    record { sheet = text (with_pairs ++ ("   8   0   1   1   3   1   2   2   1" ∷ [])); question = 0; line = 0 } ∷
    record { sheet = text (with_pairs ++ ("   8   0   1   2   3   1   2   2   1   2   2" ∷ [])); question = 0; line = 0 } ∷
    []

-- each sheet is refused by its question at its line, or accepted
pub two-way-refusals : map found two_way_sheets ≡ map claimed two_way_sheets
unfolding two_way_sheets declared with_pairs found claimed numbers_of text_all lists_all words_all instances_all sheet_all questions_all
two-way-refusals = refl

-- each comment has the rules and the clauses, then a wrong turn and what it comes to; symbols are numbered in the order of the comment
unfoldable pub two_way_trials : List Trial
two_way_trials =
    -- p <=> c; c. The forward rule is 1, the reverse 2. Reading forwards alone: p is never set
    record {
      sheet =
          "   1   1" ∷
          "   2   0" ∷
          "   2   0" ∷
          "   8   0   1   1   1   2" ∷
          "   4   1   2" ∷ [];
      budget = 1000000;
      listing =
          "   5   1   2   1           0           0" ∷
          "   6   2   2  -2   1" ∷
          "   7   2" ∷
          "   7   1" ∷ [];
    } ∷
    -- r(X,Y) <=> q(X), then q(X) gives p; r(1,1). The reverse would leave Y free and is not there. Leaving out its number: q(X) gives p is 3
    record {
      sheet =
          "   1   1" ∷
          "   2   2" ∷
          "   2   1" ∷
          "   2   0" ∷
          "   8   0   1   1   1   1   2   2   1" ∷
          "   3   1   1   2   1   3" ∷
          "   4   1   1   1   1" ∷ [];
      budget = 1000000;
      listing =
          "   5   1   3   2           0           0" ∷
          "   6   1   2  -1   1   1   2   1" ∷
          "   6   2   2  -2   1   3" ∷
          "   7   1   1   1" ∷
          "   7   2   1" ∷
          "   7   3" ∷ [];
    } ∷
    -- k(X) \ r(X) <=> b(X), k kept; k(1); b(1); b(2). Dropping the kept head from the reverse: r(2) too
    record {
      sheet =
          "   1   2" ∷
          "   2   1" ∷
          "   2   1" ∷
          "   2   1" ∷
          "   8   1   1   1   1   1   2   1   3   1" ∷
          "   4   1   1   1" ∷
          "   4   1   3   1" ∷
          "   4   1   3   2" ∷ [];
      budget = 1000000;
      listing =
          "   5   1   4   1           0           0" ∷
          "   6   2   3  -1   1  -3   1   2   1" ∷
          "   7   1   1" ∷
          "   7   3   1" ∷
          "   7   3   2" ∷
          "   7   2   1" ∷ [];
    } ∷
    -- k(X) \ r(X), s(X) <=> b(X), c(X); k(1); b(1); c(1). Heads of the reverse in another order, or s before r: other clauses
    record {
      sheet =
          "   1   1" ∷
          "   2   1" ∷
          "   2   1" ∷
          "   2   1" ∷
          "   2   1" ∷
          "   2   1" ∷
          "   8   1   2   2   1   1   2   1   3   1   4   1   5   1" ∷
          "   4   1   1   1" ∷
          "   4   1   4   1" ∷
          "   4   1   5   1" ∷ [];
      budget = 1000000;
      listing =
          "   5   1   5   2           0           0" ∷
          "   6   2   4  -1   1  -4   1  -5   1   2   1" ∷
          "   6   2   4  -1   1  -4   1  -5   1   3   1" ∷
          "   7   1   1" ∷
          "   7   4   1" ∷
          "   7   5   1" ∷
          "   7   2   1" ∷
          "   7   3   1" ∷ [];
    } ∷
    -- r(X) <=> false; r(1). Taking the empty body for true: r(1) stays
    record {
      sheet =
          "   1   1" ∷
          "   2   1" ∷
          "   8   0   1   0   1   1" ∷
          "   4   1   1   1" ∷ [];
      budget = 1000000;
      listing =
          "   5   0   1   1           0           1" ∷
          "   6   1   1  -1   1" ∷ [];
    } ∷
    -- s(X,Y) <=> q(X), q(Y); q(1). The reverse isn't connected. Asking only that it is range restricted: s(1,1)
    record {
      sheet =
          "   1   1" ∷
          "   2   2" ∷
          "   2   1" ∷
          "   8   0   1   2   1   1   2   2   1   2   2" ∷
          "   4   1   2   1" ∷ [];
      budget = 1000000;
      listing =
          "   5   1   1   0           0           0" ∷
          "   7   2   1" ∷ [];
    } ∷
    []

-- each sheet gives its listing
pub two-way-listings : map shown two_way_trials ≡ map expected two_way_trials
unfolding two_way_trials shown expected text_all lists_all words_all instances_all sheet_all questions_all search_all listing_all call_all
two-way-listings = refl

-- ── without the reverse ──

-- r(X,Y) <=> q(X); q(1). Whatever stands for Y, r(X,Y) holds exactly if q(X) does; the reverse rule would leave Y free
unfoldable pub free_variable : TwoWay
free_variable =
    record {
      kept = [];
      rewritten = record { positive = true; symbol = 1; terms = variable 1 ∷ variable 2 ∷ [] } ∷ [];
      body = record { positive = true; symbol = 2; terms = variable 1 ∷ [] } ∷ [];
    }

unfoldable pub free_sheet : List ℕ
free_sheet = text ("   1   1" ∷ "   2   2" ∷ "   2   1" ∷ "   8   0   1   1   1   1   2   2   1" ∷ "   4   1   2   1" ∷ [])

unfoldable pub free_problem : Problem
free_problem =
    record {
      constants = 1;
      arities = 2 ∷ 1 ∷ [];
      rule_lines = two_way free_variable ∷ [];
      rules = forward free_variable ∷ [];
      clauses = (record { positive = true; atom = record { symbol = 2; args = 1 ∷ [] } } ∷ []) ∷ [];
    }

pub free-read : read free_sheet ≡ accepted free_problem
unfolding free_sheet free_problem free_variable text_all lists_all words_all instances_all sheet_all questions_all
free-read = refl

-- q everywhere and r nowhere
unfoldable pub body_alone : Assignment
body_alone a = eqb a.symbol 2

-- satisfies the clause and every filling of the one rule that the line stands for,
pub clauses-satisfied : SatisfiesClauses body_alone free_problem.clauses
unfolding free_problem body_alone
clauses-satisfied c m = rw (Memᴰ.eq_of_singleton m) (record { literal = _; inside = Memᴰ.head refl; holds = refl })

pub rules-satisfied : (r : Rule) → r ∈ free_problem.rules → SatisfiesRule body_alone free_problem.constants r
unfolding free_problem free_variable body_alone lists_all words_all instances_all questions_all
rules-satisfied r m f n = rw (Memᴰ.eq_of_singleton m) (head_false _ (Memᴰ.head refl) refl)

-- and doesn't satisfy the sheet: the equivalence is broken
pub equivalence-broken : Satisfies body_alone free_problem → ⊥
unfolding free_problem free_variable body_alone lists_all words_all instances_all
equivalence-broken h =
    let e = h.lines _ (Memᴰ.head refl) _ (Memᴰ.head refl) in
    false≢true (e.back (λ p m. absurd (Memᴰ.not-nil m)) (cons≢nil, (λ p m. rw (Memᴰ.eq_of_singleton m) refl)) _ (Memᴰ.head refl))
