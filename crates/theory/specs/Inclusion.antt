-- A sheet that keeps another holds it: lines that stay read as before with more constants and symbols. Assumes nothing.
use Rattle.std.specs.Prelude.{ℕ, ◌≤◌, ◌≡◌, List, ◌++◌, map, drop}
use Rattle.std.proofs.Common.{sym, subst, inl, inr}
use mathlib.Core.List.Memᴰ
use Rattle.std.proofs.lemmas.List.{map-append}
use Rattle.definitions.specs.Lists.{◌∈◌}
use Rattle.definitions.specs.Words.{Rule, RuleLine, Clause, Problem}
use Rattle.definitions.specs.Sheet.{lines}
use Rattle.definitions.specs.Questions.{rules_of, accepted, read}
use Rattle.definitions.specs.Sheets.{Row, row_of, is_kind, of_kind, first_size, Keeps}
use Rattle.theory.specs.AskedLaws.{is_rule_row, read_rule_line-accepts, read_clause-accepts}
use Rattle.theory.specs.Tests.{or_cases}
use Rattle.theory.specs.ListLaws.{filter-of, filter-in, joined_of, joined_in}
use Rattle.theory.specs.Larger.{Includes}
use Rattle.theory.specs.Limits.{accepted-from-lines}
use Rattle.theory.specs.Reading.{rule_rows, sheet-says, line_row, row_line, clause-row, row-clause}

-- the rows of both kinds are kept
kept_row : (first second : List ℕ) → Keeps first second → (row : Row) → row ∈ rule_rows first → row ∈ rule_rows second
unfolding rule_rows is_rule_row of_kind
kept_row first second k row m =
    let (i, is) = filter-in is_rule_row (map row_of (lines first)) row m in
    elim (or_cases (is_kind 3 row) (is_kind 8 row) is) [
      | inl three ↦ let (j, _) = filter-in (is_kind 3) (map row_of (lines second)) row (k.rules row (filter-of (is_kind 3) (map row_of (lines first)) row i three)) in
          filter-of is_rule_row (map row_of (lines second)) row j is
      | inr eight ↦ let (j, _) = filter-in (is_kind 8) (map row_of (lines second)) row (k.two_ways row (filter-of (is_kind 8) (map row_of (lines first)) row i eight)) in
          filter-of is_rule_row (map row_of (lines second)) row j is
    ]

pub keeps-includes : (first second : List ℕ) (p q : Problem) → read first ≡ accepted p → read second ≡ accepted q → Keeps first second
    → Includes p q
keeps-includes first second p q f s k = record { constants = constants; arities = (more, arities); rules = rules; clauses = clauses }
  where
    constants : p.constants ≤ q.constants
    constants = rw (← (sheet-says first p f).constants, ← (sheet-says second q s).constants) k.constants

    arity : Row → ℕ
    arity r = first_size (drop 1 r)

    more : List ℕ
    more = map arity k.symbols.0

    arities : q.arities ≡ p.arities ++ more
    arities = cc ((sheet-says first p f).arities, (sheet-says second q s).arities, k.symbols.1, map-append arity (of_kind 2 first) k.symbols.0)

    rule_lines : (l : RuleLine) → l ∈ p.rule_lines → l ∈ q.rule_lines
    rule_lines l m =
        let (row, n, e) = line_row first p f l m in
        let (t, i, g) = row_line second q s row (kept_row first second k row n) in
        let same : l ≡ t = cc (arities, read_rule_line-accepts p.constants q.constants p.arities more constants row l e) in
        Memᴰ.cast same i

    rules : (r : Rule) → r ∈ p.rules → r ∈ q.rules
    rules r m =
        let (l, i, j) = joined_in rules_of p.rule_lines r (subst (λ rs. r ∈ rs) (accepted-from-lines first p f).rules m) in
        subst (λ rs. r ∈ rs) (sym (accepted-from-lines second q s).rules) (joined_of rules_of q.rule_lines l r (rule_lines l i) j)

    clauses : (c : Clause) → c ∈ p.clauses → c ∈ q.clauses
    clauses c m =
        let (row, n, e) = clause-row first p f c m in
        let (t, l, g) = row-clause second q s row (k.clauses row n) in
        let same : c ≡ t = cc (arities, read_clause-accepts p.constants q.constants p.arities more constants (drop 1 row) c e) in
        Memᴰ.cast same l
