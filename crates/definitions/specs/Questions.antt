-- Document 01, "Questions asked of a call": 2 to 13, in their order, with 14 between 12 and 13 (document 02, 1/14) and blank columns
-- passed over (3/14), and what is read; lines of kind 8 (7/14). Assumes nothing.
use Rattle.std.specs.Prelude.{ℕ, zero, suc, ◌+◌, ◌-◌, ◌%◌, Bool, true, false, not, ◌&&◌, ◌||◌, List, [], ◌∷◌, ◌++◌, eqb, leb, ltb, length, get_or}
use Rattle.definitions.specs.Lists.{is_empty, any, all}
use Rattle.definitions.specs.Bounds.{sheet_bytes, longest_line, most_constants, most_symbols, most_arguments, most_variables, most_rules, most_heads, most_body, most_kept, most_rewritten, most_clauses, most_literals, most_goals}
use Rattle.definitions.specs.Words.{Literal, Clause, Term, variable, constant, Pattern, Rule, TwoWay, forward, reverse, RuleLine, one_way, two_way, Problem, goal_atoms}
use Rattle.definitions.specs.Instances.{occurs_in}
use Rattle.definitions.specs.Sheet.{Line, lines, Number, Column, number, nothing, fault, decimal}

-- the first question that is answered no, by its number, or what was read
pub data Asked (A : Type 0) : Type 0 where
  no : ℕ → Asked A
  yes : A → Asked A

module _ {A B : Type 0} where
  infixl 10 ◌>>=◌
  infixl 10 ◌>>◌
  unfoldable pub ◌>>=◌ : Asked A → (A → Asked B) → Asked B
  no q >>= f = no q
  yes a >>= f = f a

  unfoldable pub ◌>>◌ : Asked A → Asked B → Asked B
  no q >> b = no q
  yes a >> b = b

unfoldable pub ask : ℕ → Bool → Asked (Unit {0})
ask q true = yes tt
ask q false = no q

-- 6: every column of 4 bytes is a decimal or blank; a blank one is passed over, so that the rest speaks of "filled columns" only
unfoldable pub in_front : Column → Asked (List Number) → Asked (List Number)
in_front (number n) behind = do
  ns ← behind
  yes (n ∷ ns)
in_front nothing behind = behind
in_front fault behind = no 6

unfoldable pub columns : List ℕ → Asked (List Number)
columns [] = yes []
columns (a ∷ []) = no 6
columns (a ∷ b ∷ []) = no 6
columns (a ∷ b ∷ c ∷ []) = no 6
columns (a ∷ b ∷ c ∷ d ∷ rest) = in_front (decimal (a ∷ b ∷ c ∷ d ∷ [])) (columns rest)

-- what was found in the first filled columns of a line, and those that are left
pub record Parsed (A : Type 0) : Type 0 where
  pub found : A
  pub left : List Number

-- the next column holds a number from low to high
unfoldable pub within : ℕ → ℕ → Number → Bool
within low high n = not n.negative && leb low n.size && leb n.size high

unfoldable pub count : ℕ → ℕ → ℕ → List Number → Asked (Parsed ℕ)
count q low high [] = no q
count q low high (n ∷ ns) = do
  ask q (within low high n)
  yes (record { found = n.size; left = ns })

-- 7/14: kind 8 is "ranked with" kind 3
unfoldable pub rank : ℕ → ℕ
rank k = elim (eqb k 8) [ true ↦ 3 | false ↦ k ]

-- 7: kind 1 on the first line, and on later lines 2 to 4 or 8 and ranked no lower than the line before; 0 stands for no line before
unfoldable pub kind_of : ℕ → List Number → Asked (Parsed ℕ)
kind_of zero ns = count 7 1 1 ns
kind_of (suc before) ns = do
  k ← count 7 2 8 ns
  ask 7 (leb (rank k.found) 4 && leb (rank (suc before)) (rank k.found))
  yes k

-- 10: an argument in a rule, 1 to 6 for a variable and -k for constant k
unfoldable pub rule_argument : ℕ → Number → Asked Term
rule_argument constants n =
    elim n.negative [
      | true ↦ ask 10 (leb 1 n.size && leb n.size constants) >> yes (constant n.size)
      | false ↦ ask 10 (leb 1 n.size && leb n.size most_variables) >> yes (variable n.size)
    ]

-- 10: an argument in a clause, a constant from 1
unfoldable pub clause_argument : ℕ → Number → Asked ℕ
clause_argument constants n = ask 10 (within 1 constants n) >> yes n.size

module _ {A : Type 0} where
  unfoldable pub arguments : (Number → Asked A) → ℕ → List Number → Asked (Parsed (List A))
  arguments argument zero ns = yes (record { found = []; left = ns })
  arguments argument (suc k) [] = no 10
  arguments argument (suc k) (n ∷ ns) = do
    a ← argument n
    w ← arguments argument k ns
    yes (record { found = a ∷ w.found; left = w.left })

module _ {A L : Type 0} where
  -- 10: the column is there, the symbol is declared, and so many arguments follow as it has
  unfoldable pub literal : (Number → Asked A) → (Bool → ℕ → List A → L) → List ℕ → List Number → Asked (Parsed L)
  literal argument make arities [] = no 10
  literal argument make arities (n ∷ ns) = do
    ask 10 (leb 1 n.size && leb n.size (length arities))
    w ← arguments argument (get_or arities (n.size - 1) 0) ns
    yes (record { found = make (not n.negative) n.size w.found; left = w.left })

  unfoldable pub literals : (Number → Asked A) → (Bool → ℕ → List A → L) → List ℕ → ℕ → List Number → Asked (Parsed (List L))
  literals argument make arities zero ns = yes (record { found = []; left = ns })
  literals argument make arities (suc k) ns = do
    l ← literal argument make arities ns
    w ← literals argument make arities k l.left
    yes (record { found = l.found ∷ w.found; left = w.left })

unfoldable pub pattern_of : Bool → ℕ → List Term → Pattern
pattern_of positive symbol terms = record { positive = positive; symbol = symbol; terms = terms }

unfoldable pub literal_of : Bool → ℕ → List ℕ → Literal
literal_of positive symbol args = record { positive = positive; atom = record { symbol = symbol; args = args } }

unfoldable pub patterns : ℕ → List ℕ → ℕ → List Number → Asked (Parsed (List Pattern))
patterns constants arities = literals (rule_argument constants) pattern_of arities

unfoldable pub clause_literals : ℕ → List ℕ → ℕ → List Number → Asked (Parsed Clause)
clause_literals constants arities = literals (clause_argument constants) literal_of arities

-- 12: each body variable stands in the head
unfoldable pub in_head : List Pattern → Term → Bool
in_head heads (variable v) = occurs_in heads v
in_head heads (constant c) = true

unfoldable pub restricted : Rule → Bool
restricted r = all (λ (p : Pattern). all (in_head r.heads) p.terms) r.body

-- 14: the term is a variable that stands in one of the literals
unfoldable pub is_shared : List Pattern → Term → Bool
is_shared others (variable v) = occurs_in others v
is_shared others (constant c) = false

-- a head stands alone, or shares a variable with another one
unfoldable pub linked : List Pattern → Pattern → Bool
linked others p = is_empty others || any (is_shared others) p.terms

-- so does each head from here on, the others being those before it and those behind it
unfoldable pub each_linked : List Pattern → List Pattern → Bool
each_linked before [] = true
each_linked before (p ∷ behind) = linked (before ++ behind) p && each_linked (before ++ (p ∷ [])) behind

-- 14: "of two or three heads, each shares a variable with another"
unfoldable pub connected : Rule → Bool
connected r = each_linked [] r.heads

-- 7/14: the reverse rule is there "if the body isn't empty and the reverse reading is range restricted and connected"
unfoldable pub has_reverse : TwoWay → Bool
has_reverse t = not (is_empty t.body) && restricted (reverse t) && connected (reverse t)

unfoldable pub reverse_rules : TwoWay → List Rule
reverse_rules t = elim (has_reverse t) [ true ↦ reverse t ∷ [] | false ↦ [] ]

-- the rules that it "stands for", in the order in which they are numbered; no number is left out
unfoldable pub stands_for : TwoWay → List Rule
stands_for t = forward t ∷ reverse_rules t

unfoldable pub rules_of : RuleLine → List Rule
rules_of (one_way r) = r ∷ []
rules_of (two_way t) = stands_for t

-- question 9 "counts as two rules" a two-way rule, "with an empty body as one", whether or not the reverse is there: by how many ways it
-- can be read, with so many body literals
unfoldable pub ways : ℕ → ℕ
ways body = elim (eqb body 0) [ true ↦ 1 | false ↦ 2 ]

-- what a line counts as there, and what lines do together
unfoldable pub counts_as : RuleLine → ℕ
counts_as (one_way r) = 1
counts_as (two_way t) = ways (length t.body)

unfoldable pub counted : List RuleLine → ℕ
counted [] = 0
counted (l ∷ ls) = counts_as l + counted ls

-- 8 and 11: the constants of a line of kind 1
unfoldable pub constants_asked : List Number → Asked ℕ
constants_asked ns = do
  n ← count 8 1 most_constants ns
  ask 11 (is_empty n.left)
  yes n.found

-- 8, 9 and 11: the arity of a line of kind 2, where so many symbols stand already
unfoldable pub arity_asked : ℕ → List Number → Asked ℕ
arity_asked symbols ns = do
  arity ← count 8 0 most_arguments ns
  ask 9 (ltb symbols most_symbols)
  ask 11 (is_empty arity.left)
  yes arity.found

-- 8: both counts of a line of kind 3
pub record RuleCounts : Type 0 where
  pub heads : ℕ
  pub body : ℕ

unfoldable pub rule_counts : List Number → Asked (Parsed RuleCounts)
rule_counts ns = do
  head_count ← count 8 1 most_heads ns
  body_count ← count 8 0 most_body head_count.left
  yes (record { found = record { heads = head_count.found; body = body_count.found }; left = body_count.left })

-- 10 to 12 and 14: the rule that counts and the columns behind them give
unfoldable pub rule_behind : ℕ → List ℕ → Parsed RuleCounts → Asked Rule
rule_behind constants arities counts = do
  heads ← patterns constants arities counts.found.heads counts.left
  body ← patterns constants arities counts.found.body heads.left
  ask 11 (is_empty body.left)
  let r : Rule = record { heads = heads.found; body = body.found }
  ask 12 (restricted r)
  ask 14 (connected r)
  yes r

-- 8 to 12 and 14: the rule of a line of kind 3, where so many rules are counted already
unfoldable pub rule_asked : ℕ → List ℕ → ℕ → List Number → Asked Rule
rule_asked constants arities rules ns = do
  counts ← rule_counts ns
  ask 9 (ltb rules most_rules)
  rule_behind constants arities counts

-- 8: the three counts of a line of kind 8; "kept plus rewritten, and kept plus body, are at most 3"
pub record TwoWayCounts : Type 0 where
  pub kept : ℕ
  pub rewritten : ℕ
  pub body : ℕ

unfoldable pub two_way_counts : List Number → Asked (Parsed TwoWayCounts)
two_way_counts ns = do
  kept_count ← count 8 0 most_kept ns
  rewritten_count ← count 8 1 most_rewritten kept_count.left
  body_count ← count 8 0 most_body rewritten_count.left
  ask 8 (leb (kept_count.found + rewritten_count.found) most_heads && leb (kept_count.found + body_count.found) most_heads)
  yes (record { found = record { kept = kept_count.found; rewritten = rewritten_count.found; body = body_count.found }; left = body_count.left })

-- 10 to 12 and 14: the two-way rule that counts and the columns behind them give; 12 and 14 "are asked of the forward rule"
unfoldable pub two_way_behind : ℕ → List ℕ → Parsed TwoWayCounts → Asked TwoWay
two_way_behind constants arities counts = do
  kept ← patterns constants arities counts.found.kept counts.left
  rewritten ← patterns constants arities counts.found.rewritten kept.left
  body ← patterns constants arities counts.found.body rewritten.left
  ask 11 (is_empty body.left)
  let t : TwoWay = record { kept = kept.found; rewritten = rewritten.found; body = body.found }
  ask 12 (restricted (forward t))
  ask 14 (connected (forward t))
  yes t

-- 8 to 12 and 14: the two-way rule of a line of kind 8, where so many rules are counted already
unfoldable pub two_way_asked : ℕ → List ℕ → ℕ → List Number → Asked TwoWay
two_way_asked constants arities rules ns = do
  counts ← two_way_counts ns
  ask 9 (leb (rules + ways counts.found.body) most_rules)
  two_way_behind constants arities counts

-- 8: the count of a line of kind 4
unfoldable pub clause_count : List Number → Asked (Parsed ℕ)
clause_count = count 8 0 most_literals

-- 10 and 11: the clause that a count and the columns behind it give
unfoldable pub clause_behind : ℕ → List ℕ → Parsed ℕ → Asked Clause
clause_behind constants arities literal_count = do
  c ← clause_literals constants arities literal_count.found literal_count.left
  ask 11 (is_empty c.left)
  yes c.found

-- 8, 10 and 11: the clause that stands in some columns
unfoldable pub read_clause : ℕ → List ℕ → List Number → Asked Clause
read_clause constants arities ns = clause_count ns >>= clause_behind constants arities

-- 8 to 11: the clause of a line of kind 4, where so many clauses stand already
unfoldable pub clause_asked : ℕ → List ℕ → ℕ → List Number → Asked Clause
clause_asked constants arities clauses ns = do
  literal_count ← clause_count ns
  ask 9 (ltb clauses most_clauses)
  clause_behind constants arities literal_count

-- what was read, with one line more
unfoldable pub with_constants : Problem → ℕ → Problem
with_constants p n = record { constants = n; arities = p.arities; rule_lines = p.rule_lines; rules = p.rules; clauses = p.clauses }

unfoldable pub with_symbol : Problem → ℕ → Problem
with_symbol p arity = record { constants = p.constants; arities = p.arities ++ (arity ∷ []); rule_lines = p.rule_lines; rules = p.rules; clauses = p.clauses }

-- a line of kind 3 or 8 adds the rules that it stands for
unfoldable pub with_line : Problem → RuleLine → Problem
with_line p l =
    record { constants = p.constants; arities = p.arities; rule_lines = p.rule_lines ++ (l ∷ []); rules = p.rules ++ rules_of l; clauses = p.clauses }

unfoldable pub with_clause : Problem → Clause → Problem
with_clause p c = record { constants = p.constants; arities = p.arities; rule_lines = p.rule_lines; rules = p.rules; clauses = p.clauses ++ (c ∷ []) }

-- 8 to 14, of a line of each kind
unfoldable pub constants_line : Problem → List Number → Asked Problem
constants_line p ns = do
  n ← constants_asked ns
  yes (with_constants p n)

unfoldable pub symbol_line : Problem → List Number → Asked Problem
symbol_line p ns = do
  arity ← arity_asked (length p.arities) ns
  yes (with_symbol p arity)

unfoldable pub rule_line : Problem → List Number → Asked Problem
rule_line p ns = do
  r ← rule_asked p.constants p.arities (counted p.rule_lines) ns
  yes (with_line p (one_way r))

unfoldable pub two_way_line : Problem → List Number → Asked Problem
two_way_line p ns = do
  t ← two_way_asked p.constants p.arities (counted p.rule_lines) ns
  yes (with_line p (two_way t))

unfoldable pub clause_line : Problem → List Number → Asked Problem
clause_line p ns = do
  c ← clause_asked p.constants p.arities (length p.clauses) ns
  let q : Problem = with_clause p c
  ask 13 (leb (length (goal_atoms q.clauses)) most_goals)
  yes q

unfoldable pub line_of_kind : ℕ → Problem → List Number → Asked Problem
line_of_kind k p ns =
    elim (eqb k 1) [
      | true ↦ constants_line p ns
      | false ↦ elim (eqb k 2) [
        | true ↦ symbol_line p ns
        | false ↦ elim (eqb k 3) [
          | true ↦ rule_line p ns
          | false ↦ elim (eqb k 8) [ true ↦ two_way_line p ns | false ↦ clause_line p ns ]
        ]
      ]
    ]

-- 5: the length without LF is 4 to 136 and a multiple of 4; blank columns count
unfoldable pub good_length : ℕ → Bool
good_length n = leb 4 n && leb n longest_line && eqb (n % 4) 0

-- 4 to 6: the filled columns of a line
unfoldable pub columns_asked : Line → Asked (List Number)
columns_asked l = do
  ask 4 l.ended
  ask 5 (good_length (length l.bytes))
  columns l.bytes

-- what was read so far, with the kind of the line before
pub record Draft : Type 0 where
  pub before : ℕ
  pub problem : Problem

-- 4 to 14, of one line
unfoldable pub read_line : Draft → Line → Asked Draft
read_line d l = do
  ns ← columns_asked l
  k ← kind_of d.before ns
  p ← line_of_kind k.found d.problem k.left
  yes (record { before = k.found; problem = p })

-- the first question that fails, with its line, or the problem
pub data Reading : Type 0 where
  refused : ℕ → ℕ → Reading
  accepted : Problem → Reading

unfoldable pub read_lines : Draft → ℕ → List Line → Reading
read_lines d n [] = accepted d.problem
read_lines d n (l ∷ ls) = elim (read_line d l) [ no q ↦ refused q n | yes e ↦ read_lines e (suc n) ls ]

unfoldable pub empty_draft : Draft
empty_draft = record { before = 0; problem = record { constants = 0; arities = []; rule_lines = []; rules = []; clauses = [] } }

-- 2: at most 16,384 bytes; 3: at least one; then each line from the top
unfoldable pub read : List ℕ → Reading
read sheet =
    elim (leb (length sheet) sheet_bytes) [
      | false ↦ refused 2 0
      | true ↦ elim (is_empty sheet) [ true ↦ refused 3 0 | false ↦ read_lines empty_draft 1 (lines sheet) ]
    ]

-- names every definition of this module, for a theorem that computes with all of them
unfoldable pub questions_all : Unit {0}
unfolding ◌>>=◌ ◌>>◌ ask in_front columns within count rank kind_of rule_argument clause_argument arguments literal literals pattern_of literal_of patterns clause_literals in_head restricted is_shared linked each_linked connected has_reverse reverse_rules stands_for rules_of ways counts_as counted constants_asked arity_asked rule_counts rule_behind rule_asked two_way_counts two_way_behind two_way_asked clause_count clause_behind read_clause clause_asked with_constants with_symbol with_line with_clause constants_line symbol_line rule_line two_way_line clause_line line_of_kind good_length columns_asked read_line read_lines empty_draft read
questions_all = tt
