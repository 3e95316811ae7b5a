-- What it means that a line fails a question: those up to 11 come before the rule on the line is read, 12 and 14 are asked of that rule, and
-- 13 of a clause. Assumes nothing.
use Prim.Native.Nat.{ℕ, zero, suc, ◌-◌, ◌+◌, ◌≤◌}
use Rattle.std.specs.Prelude.{◌≡◌, Bool, true, false, ◌&&◌, eqb, length, get_or}
use Rattle.std.proofs.Math.Path.{refl, ap}
use Rattle.std.proofs.Common.{sym, ◌∙◌, arith, eqb-true, leb-true}
use Rattle.std.proofs.Math.Logic.{inl, inr}
use mathlib.Core.List.{List, [], ◌∷◌}
use Rattle.std.proofs.Math.Dec.{leb, ltb}
use Rattle.definitions.specs.Lists.{◌∈◌, is_empty, all}
use Rattle.definitions.specs.Bounds.{most_constants, most_symbols, most_arguments, most_variables, most_rules, most_heads, most_body, most_kept, most_rewritten, most_clauses, most_literals, most_goals}
use Rattle.definitions.specs.Words.{Term, variable, constant, Pattern, Rule, forward, Problem, goal_atoms}
use Rattle.definitions.specs.Sheet.{Line, Number, Column, number, nothing, fault, decimal, plus}
use Rattle.definitions.specs.Questions.{Asked, no, yes, ◌>>=◌, ◌>>◌, ask, in_front, columns, within, count, rank, kind_of, rule_argument, clause_argument, arguments, literal, literals, pattern_of, literal_of, patterns, clause_literals, in_head, restricted, connected, ways, counted, constants_asked, arity_asked, rule_counts, rule_behind, rule_asked, two_way_counts, two_way_behind, two_way_asked, clause_count, clause_behind, clause_asked, with_clause, constants_line, symbol_line, rule_line, two_way_line, clause_line, line_of_kind, good_length, columns_asked, Draft, read_line}
use Rattle.definitions.specs.Sheets.{Row, filled}
use Rattle.definitions.specs.RefusedLines.{typed_rule, typed_two_way, RuleOn, kind3, kind8, HeadApart, FreeVariable}
use Rattle.theory.specs.Tests.{by-test, apart, and_left, and_right}
use Rattle.theory.specs.ListLaws.{all-fails}
use Rattle.theory.specs.AskedLaws.{by-asked, bind-no, ask-no, ask-yes, no≢yes, Refuses, refuses-no, refuses-yes, refuses-ask, refuses-bind, kind-first, read_rule, read_two_way}
use Rattle.theory.specs.Connected.{head_apart}

-- ── the questions up to 11 ──

abbrev Early : ℕ → Type 0
Early q = (leb 4 q && leb q 11) ≡ true

-- 4 to 6
in-front-early : (c : Column) (m : Asked Row) → Refuses Early m → Refuses Early (in_front c m)
unfolding in_front
in-front-early (number n) m h = refuses-bind Early m _ h (λ ns. refuses-yes Early (n ∷ ns))
in-front-early nothing m h = h
in-front-early fault m h = refuses-no Early 6 refl

columns-early : (bs : List ℕ) → Refuses Early (columns bs)
unfolding columns
columns-early [] = refuses-yes Early []
columns-early (a ∷ []) = refuses-no Early 6 refl
columns-early (a ∷ b ∷ []) = refuses-no Early 6 refl
columns-early (a ∷ b ∷ c ∷ []) = refuses-no Early 6 refl
columns-early (a ∷ b ∷ c ∷ d ∷ rest) = in-front-early (decimal (a ∷ b ∷ c ∷ d ∷ [])) (columns rest) (columns-early rest)

columns-asked-early : (l : Line) → Refuses Early (columns_asked l)
unfolding columns_asked
columns-asked-early l =
    refuses-ask Early 4 l.ended _ refl
    (refuses-ask Early 5 (good_length (length l.bytes)) _ refl (columns-early l.bytes))

-- a count, asked by 7 or by 8
count-early : (q low high : ℕ) (ns : Row) → Early q → Refuses Early (count q low high ns)
unfolding count
count-early q low high [] e = refuses-no Early q e
count-early q low high (n ∷ ns) e = refuses-ask Early q (within low high n) _ e (refuses-yes Early _)

kind-early : (before : ℕ) (ns : Row) → Refuses Early (kind_of before ns)
unfolding kind_of
kind-early zero ns = count-early 7 1 1 ns refl
kind-early (suc before) ns =
    refuses-bind Early (count 7 2 8 ns) _ (count-early 7 2 8 ns refl)
    (λ k. refuses-ask Early 7 (leb (rank k.found) 4 && leb (rank (suc before)) (rank k.found)) _ refl (refuses-yes Early k))

-- 10
rule-argument-early : (constants : ℕ) (n : Number) → Refuses Early (rule_argument constants n)
unfolding rule_argument
rule-argument-early constants n =
    by-test n.negative
    (λ e. rw (e, rule_argument) (refuses-ask Early 10 (leb 1 n.size && leb n.size constants) _ refl (refuses-yes Early _)))
    (λ e. rw (e, rule_argument) (refuses-ask Early 10 (leb 1 n.size && leb n.size most_variables) _ refl (refuses-yes Early _)))

clause-argument-early : (constants : ℕ) (n : Number) → Refuses Early (clause_argument constants n)
unfolding clause_argument
clause-argument-early constants n = refuses-ask Early 10 (within 1 constants n) _ refl (refuses-yes Early _)

module _ {A : Type 0} (argument : Number → Asked A) (argument-early : (n : Number) → Refuses Early (argument n)) where
  arguments-early : (k : ℕ) (ns : Row) → Refuses Early (arguments argument k ns)
  unfolding arguments
  arguments-early zero ns = refuses-yes Early _
  arguments-early (suc k) [] = refuses-no Early 10 refl
  arguments-early (suc k) (n ∷ ns) =
      refuses-bind Early (argument n) _ (argument-early n) (λ a. refuses-bind Early (arguments argument k ns) _ (arguments-early k ns) (λ w. refuses-yes Early _))

  module _ {L : Type 0} (make : Bool → ℕ → List A → L) (arities : List ℕ) where
    literal-early : (ns : Row) → Refuses Early (literal argument make arities ns)
    unfolding literal
    literal-early [] = refuses-no Early 10 refl
    literal-early (n ∷ ns) =
        refuses-ask Early 10 (leb 1 n.size && leb n.size (length arities)) _ refl
        (refuses-bind Early (arguments argument (get_or arities (n.size - 1) 0) ns) _ (arguments-early (get_or arities (n.size - 1) 0) ns) (λ w. refuses-yes Early _))

    literals-early : (k : ℕ) (ns : Row) → Refuses Early (literals argument make arities k ns)
    unfolding literals
    literals-early zero ns = refuses-yes Early _
    literals-early (suc k) ns =
        refuses-bind Early (literal argument make arities ns) _ (literal-early ns)
        (λ l. refuses-bind Early (literals argument make arities k l.left) _ (literals-early k l.left) (λ w. refuses-yes Early _))

patterns-early : (constants : ℕ) (arities : List ℕ) (k : ℕ) (ns : Row) → Refuses Early (patterns constants arities k ns)
unfolding patterns
patterns-early constants arities = literals-early (rule_argument constants) (rule-argument-early constants) pattern_of arities

clause-literals-early : (constants : ℕ) (arities : List ℕ) (k : ℕ) (ns : Row) → Refuses Early (clause_literals constants arities k ns)
unfolding clause_literals
clause-literals-early constants arities = literals-early (clause_argument constants) (clause-argument-early constants) literal_of arities

-- 8 to 11 of lines of kinds 1, 2 and 4
constants-line-early : (p : Problem) (ns : Row) → Refuses Early (constants_line p ns)
unfolding constants_line constants_asked
constants-line-early p ns =
    refuses-bind Early (constants_asked ns) _
    (refuses-bind Early (count 8 1 most_constants ns) _ (count-early 8 1 most_constants ns refl)
    (λ n. refuses-ask Early 11 (is_empty n.left) _ refl (refuses-yes Early _)))
    (λ n. refuses-yes Early _)

symbol-line-early : (p : Problem) (ns : Row) → Refuses Early (symbol_line p ns)
unfolding symbol_line arity_asked
symbol-line-early p ns =
    refuses-bind Early (arity_asked (length p.arities) ns) _
    (refuses-bind Early (count 8 0 most_arguments ns) _ (count-early 8 0 most_arguments ns refl)
    (λ n. refuses-ask Early 9 (ltb (length p.arities) most_symbols) _ refl
    (refuses-ask Early 11 (is_empty n.left) _ refl (refuses-yes Early _))))
    (λ n. refuses-yes Early _)

clause-early : (constants : ℕ) (arities : List ℕ) (clauses : ℕ) (ns : Row) → Refuses Early (clause_asked constants arities clauses ns)
unfolding clause_asked clause_count clause_behind
clause-early constants arities clauses ns =
    refuses-bind Early (clause_count ns) _ (count-early 8 0 most_literals ns refl)
    (λ k. refuses-ask Early 9 (ltb clauses most_clauses) _ refl
    (refuses-bind Early (clause_literals constants arities k.found k.left) _ (clause-literals-early constants arities k.found k.left)
    (λ c. refuses-ask Early 11 (is_empty c.left) _ refl (refuses-yes Early _))))

-- 8 of lines of kinds 3 and 8
rule-counts-early : (ns : Row) → Refuses Early (rule_counts ns)
unfolding rule_counts
rule-counts-early ns =
    refuses-bind Early (count 8 1 most_heads ns) _ (count-early 8 1 most_heads ns refl)
    (λ h. refuses-bind Early (count 8 0 most_body h.left) _ (count-early 8 0 most_body h.left refl) (λ b. refuses-yes Early _))

two-way-counts-early : (ns : Row) → Refuses Early (two_way_counts ns)
unfolding two_way_counts
two-way-counts-early ns =
    refuses-bind Early (count 8 0 most_kept ns) _ (count-early 8 0 most_kept ns refl)
    (λ k. refuses-bind Early (count 8 1 most_rewritten k.left) _ (count-early 8 1 most_rewritten k.left refl)
    (λ r. refuses-bind Early (count 8 0 most_body r.left) _ (count-early 8 0 most_body r.left refl)
    (λ b. refuses-ask Early 8 (leb (k.found + r.found) most_heads && leb (k.found + b.found) most_heads) _ refl (refuses-yes Early _))))

-- 8, 10 and 11 of the rule on a line
typed-rule-early : (p : Problem) (ns : Row) → Refuses Early (typed_rule p ns)
unfolding typed_rule
typed-rule-early p ns =
    refuses-bind Early (rule_counts ns) _ (rule-counts-early ns)
    (λ counts. refuses-bind Early (patterns p.constants p.arities counts.found.heads counts.left) _ (patterns-early p.constants p.arities counts.found.heads counts.left)
    (λ heads. refuses-bind Early (patterns p.constants p.arities counts.found.body heads.left) _ (patterns-early p.constants p.arities counts.found.body heads.left)
    (λ body. refuses-ask Early 11 (is_empty body.left) _ refl (refuses-yes Early _))))

typed-two-way-early : (p : Problem) (ns : Row) → Refuses Early (typed_two_way p ns)
unfolding typed_two_way
typed-two-way-early p ns =
    refuses-bind Early (two_way_counts ns) _ (two-way-counts-early ns)
    (λ counts. refuses-bind Early (patterns p.constants p.arities counts.found.kept counts.left) _ (patterns-early p.constants p.arities counts.found.kept counts.left)
    (λ kept. refuses-bind Early (patterns p.constants p.arities counts.found.rewritten kept.left) _ (patterns-early p.constants p.arities counts.found.rewritten kept.left)
    (λ rewritten. refuses-bind Early (patterns p.constants p.arities counts.found.body rewritten.left) _ (patterns-early p.constants p.arities counts.found.body rewritten.left)
    (λ body. refuses-ask Early 11 (is_empty body.left) _ refl (refuses-yes Early _)))))

-- ── 12 and 14 ──

-- the two questions of a rule that was read, and what is handed on where it passes them
unfoldable pub checked : {A : Type 0} → Rule → A → Asked A
checked r a = do
  ask 12 (restricted r)
  ask 14 (connected r)
  yes a

-- to read a rule is to read what was typed, and then to ask these two
pub rule-typed : (p : Problem) (ns : Row) → read_rule p.constants p.arities ns ≡ (typed_rule p ns >>= λ r. checked r r)
unfolding read_rule rule_behind typed_rule checked ◌>>=◌ ◌>>◌ ask
rule-typed p ns =
    by-asked (rule_counts ns) (λ q e. cc)
    (λ counts e. by-asked (patterns p.constants p.arities counts.found.heads counts.left) (λ q f. cc)
    (λ heads f. by-asked (patterns p.constants p.arities counts.found.body heads.left) (λ q g. cc)
    (λ body g. by-test (is_empty body.left) (λ t. cc) (λ t. cc))))

pub two-way-typed : (p : Problem) (ns : Row) → read_two_way p.constants p.arities ns ≡ (typed_two_way p ns >>= λ t. checked (forward t) t)
unfolding read_two_way two_way_behind typed_two_way checked ◌>>=◌ ◌>>◌ ask
two-way-typed p ns =
    by-asked (two_way_counts ns) (λ q e. cc)
    (λ counts e. by-asked (patterns p.constants p.arities counts.found.kept counts.left) (λ q f. cc)
    (λ kept f. by-asked (patterns p.constants p.arities counts.found.rewritten kept.left) (λ q g. cc)
    (λ rewritten g. by-asked (patterns p.constants p.arities counts.found.body rewritten.left) (λ q h. cc)
    (λ body h. by-test (is_empty body.left) (λ t. cc) (λ t. cc)))))

-- ── what a line fails ──

-- the question is one up to 11, or 12 or 14 with the rule on the line, or 13
data Failure (d : Draft) (l : Line) (q : ℕ) : Type 0 where
  early : Early q → Failure d l q
  unrestricted : q ≡ 12 → (r : Rule) → RuleOn d l r → restricted r ≡ false → Failure d l q
  goals : q ≡ 13 → Failure d l q
  unconnected : q ≡ 14 → (r : Rule) → RuleOn d l r → connected r ≡ false → Failure d l q

module _ (d : Draft) (l : Line) where
  checked-fails : {A : Type 0} (r : Rule) (a : A) (q : ℕ) → RuleOn d l r → checked r a ≡ no q → Failure d l q
  unfolding checked
  checked-fails r a q on e =
      elim (ask-no 12 (restricted r) _ q e) [
        | inl x ↦ unrestricted x.1 r on x.0
        | inr f ↦ elim (ask-no 14 (connected r) _ q f) [ inl x ↦ unconnected x.1 r on x.0 | inr g ↦ no≢yes (sym g) ]
      ]

  -- lines of kinds 3 and 8: the counts, 9, the reading, and then these two
  module _ {C A : Type 0} (counts : Asked C) (few : C → Bool) (behind : C → Asked A) (typed : Asked A) (rule_of : A → Rule)
      (counts-early : Refuses Early counts) (typed-early : Refuses Early typed)
      (same : (counts >>= behind) ≡ (typed >>= λ a. checked (rule_of a) a)) (on : (a : A) → typed ≡ yes a → RuleOn d l (rule_of a)) where
    behind-fails : (q : ℕ) → (counts >>= behind) ≡ no q → Failure d l q
    behind-fails q e =
        elim (bind-no typed _ q (sym same ∙ e)) [
          | inl f ↦ early (typed-early q f)
          | inr x ↦ checked-fails (rule_of x.0) x.0 q (on x.0 x.1) x.2
        ]

    asked-fails : (q : ℕ) → (counts >>= λ c. ask 9 (few c) >> behind c) ≡ no q → Failure d l q
    unfolding ◌>>=◌
    asked-fails q e =
        elim (bind-no counts _ q e) [
          | inl f ↦ early (counts-early q f)
          | inr x ↦ elim (ask-no 9 (few x.0) _ q x.2) [
            | inl y ↦ early (ap (λ n. leb 4 n && leb n 11) y.1)
            | inr f ↦ behind-fails q (let is = x.1 in cc)
          ]
        ]

  rule-fails : (ns : Row) (q : ℕ) → filled l ≡ yes (plus 3 ∷ ns) → rule_line d.problem ns ≡ no q → Failure d l q
  unfolding rule_line rule_asked read_rule
  rule-fails ns q row e =
      let p = d.problem in
      elim (bind-no (rule_asked p.constants p.arities (counted p.rule_lines) ns) _ q e) [
        | inl f ↦ asked-fails (rule_counts ns) (λ c. ltb (counted p.rule_lines) most_rules) (rule_behind p.constants p.arities)
            (typed_rule p ns) (λ r. r) (rule-counts-early ns) (typed-rule-early p ns) (rule-typed p ns) (λ r t. kind3 ns row t) q f
        | inr x ↦ no≢yes (sym x.2)
      ]

  two-way-fails : (ns : Row) (q : ℕ) → filled l ≡ yes (plus 8 ∷ ns) → two_way_line d.problem ns ≡ no q → Failure d l q
  unfolding two_way_line two_way_asked read_two_way
  two-way-fails ns q row e =
      let p = d.problem in
      elim (bind-no (two_way_asked p.constants p.arities (counted p.rule_lines) ns) _ q e) [
        | inl f ↦ asked-fails (two_way_counts ns) (λ c. leb (counted p.rule_lines + ways c.found.body) most_rules) (two_way_behind p.constants p.arities)
            (typed_two_way p ns) forward (two-way-counts-early ns) (typed-two-way-early p ns) (two-way-typed p ns) (λ t is. kind8 ns t row is refl) q f
        | inr x ↦ no≢yes (sym x.2)
      ]

  -- a line of any kind
  kind-fails : (k : ℕ) (ns : Row) (q : ℕ) → filled l ≡ yes (plus k ∷ ns) → line_of_kind k d.problem ns ≡ no q → Failure d l q
  unfolding line_of_kind clause_line
  kind-fails k ns q row e =
      let p = d.problem in
      by-test (eqb k 1)
      (λ t. early (constants-line-early p ns q (cc)))
      (λ t. by-test (eqb k 2)
      (λ u. early (symbol-line-early p ns q (cc)))
      (λ u. by-test (eqb k 3)
      (λ v. rule-fails ns q (rw (eqb-true k 3 v) at row) (cc))
      (λ v. by-test (eqb k 8)
      (λ w. two-way-fails ns q (rw (eqb-true k 8 w) at row) (cc))
      (λ w. clause-fails (cc)))))
    where
      clause-fails : clause_line d.problem ns ≡ no q → Failure d l q
      clause-fails f =
          let p = d.problem in
          elim (bind-no (clause_asked p.constants p.arities (length p.clauses) ns) _ q f) [
            | inl g ↦ early (clause-early p.constants p.arities (length p.clauses) ns q g)
            | inr x ↦ elim (ask-no 13 (leb (length (goal_atoms (with_clause p x.0).clauses)) most_goals) _ q x.2) [
              | inl y ↦ goals y.1
              | inr g ↦ no≢yes (sym g)
            ]
          ]

  line-fails : (q : ℕ) → read_line d l ≡ no q → Failure d l q
  unfolding read_line columns_asked filled
  line-fails q e =
      elim (bind-no (columns_asked l) _ q e) [
        | inl f ↦ early (columns-asked-early l q f)
        | inr x ↦
            let ns = x.0 in
            let (_, behind4) = ask-yes 4 l.ended _ ns x.1 in
            let (_, row) = ask-yes 5 (good_length (length l.bytes)) _ ns behind4 in
            elim (bind-no (kind_of d.before ns) _ q x.2) [
              | inl f ↦ early (kind-early d.before ns q f)
              | inr y ↦
                  let k = y.0 in
                  elim (bind-no (line_of_kind k.found d.problem k.left) _ q y.2) [
                    | inl f ↦ kind-fails k.found k.left q (row ∙ ap yes (kind-first d.before ns k y.1)) f
                    | inr z ↦ no≢yes (sym z.2)
                  ]
            ]
      ]

  -- ── by its number ──

  -- it is one from 4 to 14;
  pub fails-4-to-14 : (q : ℕ) → read_line d l ≡ no q → (4 ≤ q) × (q ≤ 14)
  fails-4-to-14 q e =
      elim (line-fails q e) [
        | early h ↦ (leb-true 4 q (and_left (leb 4 q) _ h), omega (arith, leb-true q 11 (and_right (leb 4 q) _ h)))
        | unrestricted is r on f ↦ (omega arith, omega arith)
        | goals is ↦ (omega arith, omega arith)
        | unconnected is r on f ↦ (omega arith, omega arith)
      ]

  -- 14 only where a head of the rule on the line is apart,
  pub fails-14 : read_line d l ≡ no 14 → HeadApart d l
  fails-14 e =
      elim (line-fails 14 e) [
        | early h ↦ apart (cc)
        | unrestricted is r on f ↦ absurd (omega arith)
        | goals is ↦ absurd (omega arith)
        | unconnected is r on f ↦ let (h, a) = head_apart r f in record { rule = r; typed = on; head = h; apart = a }
      ]

  free-term : (r : Rule) (x : Pattern) (t : Term) → RuleOn d l r → x ∈ r.body → t ∈ x.terms → in_head r.heads t ≡ false → FreeVariable d l
  unfolding in_head
  free-term r x (variable v) on m n f = record { rule = r; typed = on; literal = x; inside = m; free = v; here = n; nowhere = f }
  free-term r x (constant c) on m n f = apart (cc)

  -- and 12 only where a variable of its body stands in no head
  pub fails-12 : read_line d l ≡ no 12 → FreeVariable d l
  fails-12 e =
      elim (line-fails 12 e) [
        | early h ↦ apart (cc)
        | unrestricted is r on f ↦ free-variable r on f
        | goals is ↦ absurd (omega arith)
        | unconnected is r on f ↦ absurd (omega arith)
      ]
    where
      free-variable : (r : Rule) → RuleOn d l r → restricted r ≡ false → FreeVariable d l
      free-variable r on f =
          let (x, m, g) = all-fails (λ (p : Pattern). all (in_head r.heads) p.terms) r.body (unfold restricted in f) in
          let (t, n, h) = all-fails (in_head r.heads) x.terms g in
          free-term r x t on m n h
