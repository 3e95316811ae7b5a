-- Documents 01 and 02: sheets that are refused at a line behind good ones, with 14 for a rule and for a two-way rule, with 12, and with 7
-- for a line of blanks; what each refusal says of its line, by computing. Assumes nothing.
use Rattle.std.specs.Prelude.{ℕ, ◌≡◌, refl, true, leb, length}
use Prim.Native.String.{String}
use mathlib.Core.List.Memᴰ
use mathlib.Core.List.{[], ◌∷◌, ◌++◌, map, cons≢nil}
use Rattle.std.proofs.Common.{leb-true}
use Rattle.definitions.specs.Lists.{lists_all}
use Rattle.definitions.specs.Bounds.{sheet_bytes}
use Rattle.definitions.specs.Words.{variable, Pattern, Rule, words_all}
use Rattle.definitions.specs.Instances.{instances_all}
use Rattle.definitions.specs.Sheet.{lines, sheet_all}
use Rattle.definitions.specs.Questions.{no, read_line, questions_all}
use Rattle.definitions.specs.Text.{text_all}
use Rattle.definitions.specs.Sheets.{passes, is_blank, HeadAmong, Apart, sheets_all}
use Rattle.definitions.specs.RefusedLineTrials.{line_of, opening, opened, sheet_with, apart_line, kept_apart_line, free_line, blank_line}
use Rattle.definitions.specs.RefusedLines.{RefusedAt, kind3, kind8, HeadApart, FreeVariable, refused_lines_all}

-- where it is cut into these lines, it is refused at line 4 with the question that the line fails
unfoldable pub refused-at-4 : (line : String) (question : ℕ) → leb (length (sheet_with line)) sheet_bytes ≡ true
    → lines (sheet_with line) ≡ map line_of opening ++ line_of line ∷ line_of "   4   0" ∷ [] → read_line opened (line_of line) ≡ no question
    → RefusedAt (sheet_with line) question 4
unfolding line_of opening opened text_all lists_all words_all instances_all sheet_all questions_all refused_lines_all
refused-at-4 line question short split fails =
    record {
      short = leb-true (length (sheet_with line)) sheet_bytes short;
      before = map line_of opening;
      failing = line_of line;
      behind = line_of "   4   0" ∷ [];
      split = split;
      number = refl;
      draft = opened;
      passed = refl;
      fails = fails;
    }

-- symbol 1 with a variable
on_variable : ℕ → Pattern
on_variable v = record { positive = true; symbol = 1; terms = variable v ∷ [] }

symbol_two : Pattern
symbol_two = record { positive = true; symbol = 2; terms = [] }

-- ── 14 ──

-- p(X) and p(Y) give false, on a line of kind 3,
unfoldable pub apart-refused : RefusedAt (sheet_with apart_line) 14 4
unfolding apart_line sheet_with line_of opening opened text_all lists_all words_all instances_all sheet_all questions_all
apart-refused = refused-at-4 apart_line 14 refl refl refl

-- and on a line of kind 8
unfoldable pub kept-apart-refused : RefusedAt (sheet_with kept_apart_line) 14 4
unfolding kept_apart_line sheet_with line_of opening opened text_all lists_all words_all instances_all sheet_all questions_all
kept-apart-refused = refused-at-4 kept_apart_line 14 refl refl refl

-- either way this is the rule of which 14 is asked,
unfoldable pub apart_rule : Rule
unfolding on_variable
apart_rule = record { heads = on_variable 1 ∷ on_variable 2 ∷ []; body = [] }

-- and X stands in no other head
first_head : HeadAmong apart_rule
unfolding apart_rule on_variable
first_head = record { head = on_variable 1; before = []; behind = on_variable 2 ∷ []; heads = refl; several = cons≢nil }

first-apart : Apart first_head
unfolding first_head apart_rule on_variable lists_all instances_all
first-apart v m = let same : variable v ≡ variable 1 = Memᴰ.eq_of_singleton m in let only : v ≡ 1 = cc in rw only refl

pub apart-head : HeadApart apart-refused.draft apart-refused.failing
unfolding refused-at-4 apart-refused apart_line apart_rule on_variable line_of opened text_all lists_all words_all instances_all sheet_all questions_all sheets_all refused_lines_all
apart-head = record { rule = apart_rule; typed = kind3 _ refl refl; head = first_head; apart = first-apart }

pub kept-apart-head : HeadApart kept-apart-refused.draft kept-apart-refused.failing
unfolding refused-at-4 kept-apart-refused kept_apart_line apart_rule on_variable line_of opened text_all lists_all words_all instances_all sheet_all questions_all sheets_all refused_lines_all
kept-apart-head = record { rule = apart_rule; typed = kind8 _ _ refl refl refl; head = first_head; apart = first-apart }

-- ── 12 ──

-- q gives p(X)
unfoldable pub free-refused : RefusedAt (sheet_with free_line) 12 4
unfolding free_line sheet_with line_of opening opened text_all lists_all words_all instances_all sheet_all questions_all
free-refused = refused-at-4 free_line 12 refl refl refl

pub free-variable : FreeVariable free-refused.draft free-refused.failing
unfolding refused-at-4 free-refused free_line on_variable symbol_two line_of opened text_all lists_all words_all instances_all sheet_all questions_all sheets_all refused_lines_all
free-variable =
    record {
      rule = record { heads = symbol_two ∷ []; body = on_variable 1 ∷ [] };
      typed = kind3 _ refl refl;
      literal = on_variable 1;
      inside = Memᴰ.head refl;
      free = 1;
      here = Memᴰ.head refl;
      nowhere = refl;
    }

-- ── a line of blanks ──

unfoldable pub blank-refused : RefusedAt (sheet_with blank_line) 7 4
unfolding blank_line sheet_with line_of opening opened text_all lists_all words_all instances_all sheet_all questions_all
blank-refused = refused-at-4 blank_line 7 refl refl refl

-- it passes 4 and 5
pub blank-passes : passes blank-refused.failing ≡ true
unfolding refused-at-4 blank-refused blank_line line_of text_all questions_all sheets_all
blank-passes = refl

pub blank-is-blank : is_blank blank-refused.failing.bytes ≡ true
unfolding refused-at-4 blank-refused blank_line line_of text_all lists_all sheets_all
blank-is-blank = refl
