-- Document 01, "Words": what is said of sheets and calls: accepted, answers, keeps; document 02, 1/14: a head among others, 3/14: sheets
-- that differ in blank columns. Assumes nothing.
use Rattle.std.specs.Prelude.{ℕ, ◌≤◌, ◌≡◌, Bool, true, false, not, ◌&&◌, List, [], ◌∷◌, ◌++◌, map, eqb, length, take, drop}
use Rattle.definitions.specs.Lists.{◌∈◌, all, filter, joined}
use Rattle.definitions.specs.Words.{variable, Pattern, Rule, Problem}
use Rattle.definitions.specs.Instances.{occurs_in}
use Rattle.definitions.specs.Sheet.{Line, lines, Number, plus, number, decimal}
use Rattle.definitions.specs.Questions.{Asked, no, yes, columns, good_length, accepted, read}
use Rattle.definitions.specs.Listing.{answer_number}
use Rattle.definitions.specs.Call.{call, listed_part, printed_part}
use Rattle.definitions.specs.Export.{export_call}
use Rattle.definitions.specs.declared.Verdict.{Verdict}
use Rattle.definitions.specs.declared.Counts.{Counts}
use Rattle.definitions.specs.declared.Answer.TheVariants.{Answered}

-- a sheet is "accepted" if every question about its bytes, 2 and later ones, is answered yes
pub record Accepted (sheet : List ℕ) : Type 0 where
  pub problem : Problem
  pub reads : read sheet ≡ accepted problem

-- a call "answers" a sheet with one of the four if it hands back that answer, or if it is in the second column of the listing that it hands
-- back; a case for each call that does: the two calls, the one that prints, where the line is of kind 5 and no refusal's, and the export (2/14)
-- with a further room
pub data Answers (sheet : List ℕ) (budget : ℕ) (room : List ℕ) (v : Verdict) : Type 0 where
  hands_back : (c : Counts) → call sheet budget room ≡ Answered c → c.verdict ≡ v → Answers sheet budget room v
  lists : decimal (take 4 (drop 4 (listed_part sheet budget room))) ≡ number (plus (answer_number v)) → Answers sheet budget room v
  prints : decimal (take 4 (printed_part sheet budget room)) ≡ number (plus 5)
      → decimal (take 4 (drop 4 (printed_part sheet budget room))) ≡ number (plus (answer_number v)) → Answers sheet budget room v
  export_hands_back : (export : List ℕ) (c : Counts) → export_call sheet budget room export ≡ Answered c → c.verdict ≡ v → Answers sheet budget room v

-- the filled columns of a line
abbrev pub Row : Type 0
Row = List Number

-- they, or the question that a column fails
unfoldable pub filled : Line → Asked Row
filled l = columns l.bytes

unfoldable pub row_of : Line → Row
row_of l = elim (filled l) [ no q ↦ [] | yes ns ↦ ns ]

unfoldable pub is_kind : ℕ → Row → Bool
is_kind k [] = false
is_kind k (n ∷ ns) = not n.negative && eqb n.size k

-- the lines of a kind, from the top
unfoldable pub of_kind : ℕ → List ℕ → List Row
of_kind k sheet = filter (is_kind k) (map row_of (lines sheet))

-- the number behind the kind on the first line of kind 1
unfoldable pub first_size : Row → ℕ
first_size [] = 0
first_size (n ∷ ns) = n.size

unfoldable pub constants_of : List ℕ → ℕ
constants_of sheet = first_size (joined (drop 1) (of_kind 1 sheet))

-- a second sheet "keeps" the first one's constants if it has at least as many, its symbols if they stand under the same
-- numbers with the same arities, its rules and clauses if each of their lines is there, wherever it stands; a line is there if one with
-- the same filled columns is (document 02, 3/14); a line of kind 8 is a rule's (7/14)
pub record Keeps (first second : List ℕ) : Type 0 where
  pub constants : constants_of first ≤ constants_of second
  pub symbols : (more : List Row) × (of_kind 2 second ≡ of_kind 2 first ++ more)
  pub rules : (r : Row) → r ∈ of_kind 3 first → r ∈ of_kind 3 second
  pub two_ways : (r : Row) → r ∈ of_kind 8 first → r ∈ of_kind 8 second
  pub clauses : (r : Row) → r ∈ of_kind 4 first → r ∈ of_kind 4 second

-- 3/14: two sheets are "filled alike" if all their lines pass questions 4 and 5 and have, line by line, the same filled columns
unfoldable pub passes : Line → Bool
passes l = l.ended && good_length (length l.bytes)

pub record FilledAlike (first second : List ℕ) : Type 0 where
  pub first_passes : all passes (lines first) ≡ true
  pub second_passes : all passes (lines second) ≡ true
  pub same : map filled (lines first) ≡ map filled (lines second)

-- "four blanks", and any column or line of blanks
unfoldable pub blank_column : List ℕ
blank_column = 32 ∷ 32 ∷ 32 ∷ 32 ∷ []

unfoldable pub is_blank : List ℕ → Bool
is_blank = all (λ b. eqb b 32)

-- a head of a rule, and "another": the heads before it and behind it, of which there are some
pub record HeadAmong (r : Rule) : Type 0 where
  pub head : Pattern
  pub before : List Pattern
  pub behind : List Pattern
  pub heads : r.heads ≡ before ++ head ∷ behind
  pub several : before ++ behind ≡ [] → ⊥

-- it "shares a variable with another", or none of its variables stands in another
pub record Shares {r : Rule} (h : HeadAmong r) : Type 0 where
  pub shared : ℕ
  pub here : variable shared ∈ h.head.terms
  pub there : occurs_in (h.before ++ h.behind) shared ≡ true

abbrev pub Apart : {r : Rule} → HeadAmong r → Type 0
Apart h = (v : ℕ) → variable v ∈ h.head.terms → occurs_in (h.before ++ h.behind) v ≡ false

-- names every definition of this module, for a theorem that computes with all of them
unfoldable pub sheets_all : Unit {0}
unfolding filled row_of is_kind of_kind first_size constants_of passes blank_column is_blank
sheets_all = tt
