-- Document 01, "Questions asked of a call": what a refusal says of its line; document 02, 1/14 and 7/14: the rule on that line, of which
-- 12 and 14 are asked. Assumes nothing.
use Rattle.std.specs.Prelude.{ℕ, suc, ◌≤◌, ◌≡◌, false, List, [], ◌∷◌, ◌++◌, length}
use Rattle.definitions.specs.Lists.{◌∈◌, is_empty}
use Rattle.definitions.specs.Bounds.{sheet_bytes}
use Rattle.definitions.specs.Words.{variable, Pattern, Rule, TwoWay, forward, Problem}
use Rattle.definitions.specs.Instances.{occurs_in}
use Rattle.definitions.specs.Sheet.{Line, lines, plus}
use Rattle.definitions.specs.Questions.{Asked, no, yes, ◌>>=◌, ◌>>◌, ask, patterns, rule_counts, two_way_counts, Draft, read_line, empty_draft}
use Rattle.definitions.specs.Sheets.{Row, filled, HeadAmong, Apart}

-- 4 to 14, of some lines one after the other
unfoldable pub lines_asked : Draft → List Line → Asked Draft
lines_asked d [] = yes d
lines_asked d (l ∷ ls) = do
  e ← read_line d l
  lines_asked e ls

-- "each line from the top is asked 4 to 13; the first no ends the call with that number and the line, from 1": the sheet is not too long
-- for 2, every line before this one passes all its questions, and this question is the first that it fails
pub record RefusedAt (sheet : List ℕ) (question line : ℕ) : Type 0 where
  pub short : length sheet ≤ sheet_bytes
  pub before : List Line
  pub failing : Line
  pub behind : List Line
  pub split : lines sheet ≡ before ++ failing ∷ behind
  pub number : line ≡ suc (length before)
  pub draft : Draft
  pub passed : lines_asked empty_draft before ≡ yes draft
  pub fails : read_line draft failing ≡ no question

-- ── the rule on a line ──

-- the rule that was typed behind kind 3, as 8, 10 and 11 read it: `rule_counts` and `rule_behind` without 12 and 14, which come next
unfoldable pub typed_rule : Problem → Row → Asked Rule
typed_rule p ns = do
  counts ← rule_counts ns
  heads ← patterns p.constants p.arities counts.found.heads counts.left
  body ← patterns p.constants p.arities counts.found.body heads.left
  ask 11 (is_empty body.left)
  yes (record { heads = heads.found; body = body.found })

-- the two-way rule that was typed behind kind 8: `two_way_counts` and `two_way_behind` without 12 and 14
unfoldable pub typed_two_way : Problem → Row → Asked TwoWay
typed_two_way p ns = do
  counts ← two_way_counts ns
  kept ← patterns p.constants p.arities counts.found.kept counts.left
  rewritten ← patterns p.constants p.arities counts.found.rewritten kept.left
  body ← patterns p.constants p.arities counts.found.body rewritten.left
  ask 11 (is_empty body.left)
  yes (record { kept = kept.found; rewritten = rewritten.found; body = body.found })

-- the rule on a line, with what was read before it, of which 12 and 14 are asked: on a line of kind 3 the one that was typed, on a line of
-- kind 8 the forward rule
pub data RuleOn (d : Draft) (l : Line) (r : Rule) : Type 0 where
  kind3 : (ns : Row) → filled l ≡ yes (plus 3 ∷ ns) → typed_rule d.problem ns ≡ yes r → RuleOn d l r
  kind8 : (ns : Row) (t : TwoWay) → filled l ≡ yes (plus 8 ∷ ns) → typed_two_way d.problem ns ≡ yes t → r ≡ forward t → RuleOn d l r

-- 14 is answered no: a head of the rule on the line shares no variable with another
pub record HeadApart (d : Draft) (l : Line) : Type 0 where
  pub rule : Rule
  pub typed : RuleOn d l rule
  pub head : HeadAmong rule
  pub apart : Apart head

-- 12 is answered no: a variable of its body stands in no head
pub record FreeVariable (d : Draft) (l : Line) : Type 0 where
  pub rule : Rule
  pub typed : RuleOn d l rule
  pub literal : Pattern
  pub inside : literal ∈ rule.body
  pub free : ℕ
  pub here : variable free ∈ literal.terms
  pub nowhere : occurs_in rule.heads free ≡ false

-- names every definition of this module, for a theorem that computes with all of them
unfoldable pub refused_lines_all : Unit {0}
unfolding lines_asked typed_rule typed_two_way
refused_lines_all = tt
