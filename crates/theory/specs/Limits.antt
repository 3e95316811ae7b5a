-- What an accepted sheet says keeps the limits: each question that is answered yes leaves its bound behind; and its rules are those that
-- its lines stand for. Assumes nothing.
use Prim.Native.Nat.{ℕ, zero, suc, ◌+◌, ◌-◌, ◌≤◌}
use Rattle.std.specs.Prelude.{◌≡◌, refl, ◌⊎◌, Bool, true, false, not, ◌&&◌, eqb, leb, ltb, length, get_or}
use Rattle.std.proofs.Common.{sym, ap, subst, ◌∙◌, inl, inr, arith, eqb-true, leb-true, le-leb, ltb-true, eq-eqb, ne_eqb}
use mathlib.Core.List.Memᴰ
use mathlib.Core.List.{List, [], ◌∷◌, ◌++◌, append-nil}
use Rattle.std.proofs.Math.ListN.{length-append}
use Rattle.std.proofs.lemmas.Bool.{eqb-false, not-true}
use Rattle.definitions.specs.Bounds.{most_rules, most_clauses}
use Rattle.definitions.specs.Lists.{◌∈◌, is_empty, distinct, joined}
use Rattle.definitions.specs.Words.{Literal, Clause, Term, variable, constant, Pattern, Rule, TwoWay, forward, reverse, RuleLine, one_way, two_way, Problem, goal_atoms}
use Rattle.definitions.specs.Sheet.{Line, put_byte, lines, Number, plus}
use Rattle.definitions.specs.Questions.{Asked, no, yes, ◌>>=◌, ◌>>◌, ask, Parsed, within, count, rank, kind_of, rule_argument, clause_argument, arguments, literal, literals, pattern_of, literal_of, patterns, clause_literals, restricted, connected, has_reverse, stands_for, rules_of, ways, counts_as, counted, constants_asked, arity_asked, rule_counts, rule_behind, rule_asked, two_way_counts, two_way_behind, two_way_asked, clause_count, clause_behind, clause_asked, with_constants, with_symbol, with_line, with_clause, constants_line, symbol_line, rule_line, two_way_line, clause_line, line_of_kind, columns_asked, Draft, read_line, accepted, read_lines, empty_draft, read}
use Rattle.theory.specs.Tests.{by-test, apart, and_intro, and_left, and_right}
use Rattle.theory.specs.TableLaws.{enter_all, enter-known, atoms_of, goal-atoms-more}
use Rattle.theory.specs.AskedLaws.{by-asked, accepted-read, early-kind}
use Rattle.theory.specs.ListLaws.{full-some, Each, each_nil, each-cons, each_append, joined_length, joined-append}
use Rattle.theory.specs.TwoWayLaws.{stands-cases, counted-more, rules-few, rules-counted, Rewrites, FromLines}

-- ── the limits ──

-- a variable is one of 6, a constant one of the sheet's
abbrev pub TermLimits : Problem → Term → Type 0
TermLimits p (variable v) = (1 ≤ v) × (v ≤ 6)
TermLimits p (constant c) = (1 ≤ c) × (c ≤ p.constants)

-- a literal's symbol is declared, and its arguments are as many as the arity of the symbol
pub record PatternLimits (p : Problem) (x : Pattern) : Type 0 where
  pub symbol : 1 ≤ x.symbol
  pub declared : x.symbol ≤ length p.arities
  pub terms : length x.terms ≡ get_or p.arities (x.symbol - 1) 0
  pub in_range : (t : Term) → t ∈ x.terms → TermLimits p t

pub record LiteralLimits (p : Problem) (l : Literal) : Type 0 where
  pub symbol : 1 ≤ l.atom.symbol
  pub declared : l.atom.symbol ≤ length p.arities
  pub args : length l.atom.args ≡ get_or p.arities (l.atom.symbol - 1) 0
  pub in_range : (c : ℕ) → c ∈ l.atom.args → (1 ≤ c) × (c ≤ p.constants)

pub record RuleLimits (p : Problem) (r : Rule) : Type 0 where
  pub some_head : 1 ≤ length r.heads
  pub heads : length r.heads ≤ 3
  pub body : length r.body ≤ 2
  pub is_restricted : restricted r ≡ true
  pub is_connected : connected r ≡ true
  pub each_head : (x : Pattern) → x ∈ r.heads → PatternLimits p x
  pub each_body : (x : Pattern) → x ∈ r.body → PatternLimits p x

-- 7/14: a two-way rule keeps them both ways
pub record TwoWayLimits (p : Problem) (t : TwoWay) : Type 0 where
  pub some_rewritten : 1 ≤ length t.rewritten
  pub rewritten : length t.rewritten ≤ 2
  pub body : length t.body ≤ 2
  pub heads : length t.kept + length t.rewritten ≤ 3
  pub turned : length t.kept + length t.body ≤ 3
  pub is_restricted : restricted (forward t) ≡ true
  pub is_connected : connected (forward t) ≡ true
  pub each_kept : (x : Pattern) → x ∈ t.kept → PatternLimits p x
  pub each_rewritten : (x : Pattern) → x ∈ t.rewritten → PatternLimits p x
  pub each_body : (x : Pattern) → x ∈ t.body → PatternLimits p x

pub record ClauseLimits (p : Problem) (c : Clause) : Type 0 where
  pub literals : length c ≤ 8
  pub each_literal : (l : Literal) → l ∈ c → LiteralLimits p l

-- the limits of a problem that has at most so many rules and clauses
pub record Within (rule_limit clause_limit : ℕ) (p : Problem) : Type 0 where
  pub some_constant : 1 ≤ p.constants
  pub constants : p.constants ≤ 32
  pub symbols : length p.arities ≤ 16
  pub each_arity : (n : ℕ) → n ∈ p.arities → n ≤ 3
  pub rules : length p.rules ≤ rule_limit
  pub each_rule : (r : Rule) → r ∈ p.rules → RuleLimits p r
  pub clauses : length p.clauses ≤ clause_limit
  pub each_clause : (c : Clause) → c ∈ p.clauses → ClauseLimits p c
  pub goals : length (goal_atoms p.clauses) ≤ 64

-- those of a sheet's problem
abbrev pub Limits : Problem → Type 0
Limits p = Within most_rules most_clauses p

-- what the search asks of one: room for one clause more than a sheet has
abbrev pub search_rules : ℕ
search_rules = most_rules

abbrev pub search_clauses : ℕ
search_clauses = 65

abbrev pub Searchable : Problem → Type 0
Searchable p = Within search_rules search_clauses p

-- an accepted sheet's problem is one
pub limits-searchable : (p : Problem) → Limits p → Searchable p
limits-searchable p h =
    record {
      some_constant = h.some_constant;
      constants = h.constants;
      symbols = h.symbols;
      each_arity = h.each_arity;
      rules = h.rules;
      each_rule = h.each_rule;
      clauses = omega (arith, h.clauses);
      each_clause = h.each_clause;
      goals = h.goals;
    }

-- eight literals a clause
pub few-literals : (p : Problem) → Searchable p → length (joined (λ (c : Clause). c) p.clauses) ≤ 520
few-literals p h =
    let few = joined_length (λ (c : Clause). c) 8 p.clauses (λ c m. (h.each_clause c m).literals) in
    omega (arith, few, h.clauses)

-- an arity is at most 3; where no symbol is declared, 0 stands for it
pub arities-limit : (l : List ℕ) → Each (λ k. k ≤ 3) l → (n : ℕ) → get_or l n 0 ≤ 3
arities-limit [] g n = omega arith
arities-limit (k ∷ l) g zero = g k (Memᴰ.head refl)
arities-limit (k ∷ l) g (suc n) = arities-limit l (λ j m. g j (Memᴰ.tail m)) n

pub arity-limit : (p : Problem) → Limits p → (n : ℕ) → get_or p.arities n 0 ≤ 3
arity-limit p h n = arities-limit p.arities h.each_arity n

-- ── what holds of whatever the questions let through ──

data Gives {A : Type 0} (P : A → Type 0) : Asked A → Type 0 where
  refuses : (q : ℕ) → Gives P (no q)
  allows : (a : A) → P a → Gives P (yes a)

given : {A : Type 0} {P : A → Type 0} {m : Asked A} → Gives P m → (a : A) → m ≡ yes a → P a
given (refuses q) a e = apart (cc)
given {P = P} (allows b h) a e = let q : b ≡ a = cc in subst P q h

weaken : {A : Type 0} {P Q : A → Type 0} {m : Asked A} → Gives P m → ((a : A) → P a → Q a) → Gives Q m
weaken (refuses q) f = refuses q
weaken (allows a h) f = allows a (f a h)

anything : {A : Type 0} (m : Asked A) → Gives (λ _. Unit {0}) m
anything (no q) = refuses q
anything (yes a) = allows a tt

then : {A B : Type 0} {P : A → Type 0} {Q : B → Type 0} {m : Asked A} {f : A → Asked B}
    → Gives P m → ((a : A) → P a → Gives Q (f a)) → Gives Q (m >>= f)
unfolding ◌>>=◌
then (refuses q) g = refuses q
then (allows a h) g = g a h

asked : {A : Type 0} {P : A → Type 0} (q : ℕ) {b : Bool} {m : Asked A} → (b ≡ true → Gives P m) → Gives P (ask q b >> m)
unfolding ◌>>◌ ask
asked q {b = true} g = g refl
asked q {b = false} g = refuses q

-- ── the columns of a line ──

abbrev pub Between : ℕ → ℕ → ℕ → Type 0
Between low high n = (low ≤ n) × (n ≤ high)

pub between : (low high n : ℕ) → (leb low n && leb n high) ≡ true → Between low high n
between low high n e = (leb-true low n (and_left (leb low n) (leb n high) e), leb-true n high (and_right (leb low n) (leb n high) e))

pub within-between : (low high : ℕ) (n : Number) → within low high n ≡ true → Between low high n.size
unfolding within
within-between low high n e =
    let natural = not n.negative in
    let at_least = leb low n.size in
    let at_most = leb n.size high in
    let both = and_left (natural && at_least) at_most e in
    (leb-true low n.size (and_right natural at_least both), leb-true n.size high (and_right (natural && at_least) at_most e))

pub within-plus : (low high n : ℕ) → Between low high n → within low high (plus n) ≡ true
unfolding within plus
within-plus low high n (l, h) = and_intro (leb low n) (leb n high) (le-leb low n l) (le-leb n high h)

count-between : (q low high : ℕ) (ns : List Number) → Gives (λ w. Between low high w.found) (count q low high ns)
unfolding count
count-between q low high [] = refuses q
count-between q low high (n ∷ ns) = asked q λ e. allows _ (within-between low high n e)

-- after the first line: the kind is ranked no lower than the one before
later-kind : (before : ℕ) (ns : List Number) → 1 ≤ before → Gives (λ w. (2 ≤ w.found) × (rank before ≤ rank w.found)) (kind_of before ns)
unfolding kind_of
later-kind zero ns h = absurd (omega arith)
later-kind (suc before) ns h =
    then (count-between 7 2 8 ns) λ k b.
    asked 7 λ e.
    allows k (b.0, leb-true (rank (suc before)) (rank k.found) (and_right (leb (rank k.found) 4) _ e))

rule-argument : (p : Problem) (n : Number) → Gives (TermLimits p) (rule_argument p.constants n)
unfolding rule_argument
rule-argument p n =
    by-test n.negative
    (λ e. rw (e, rule_argument) (asked 10 λ b. allows _ (between 1 p.constants n.size b)))
    (λ e. rw (e, rule_argument) (asked 10 λ b. allows _ (between 1 6 n.size b)))

clause-argument : (p : Problem) (n : Number) → Gives (Between 1 p.constants) (clause_argument p.constants n)
unfolding clause_argument
clause-argument p n = asked 10 λ e. allows _ (within-between 1 p.constants n e)

-- so many, and each has the property
abbrev Many : {A : Type 0} → (A → Type 0) → ℕ → Parsed (List A) → Type 0
Many P k w = (length w.found ≡ k) × Each P w.found

module _ {A : Type 0} (argument : Number → Asked A) (InRange : A → Type 0) (in-range : (n : Number) → Gives InRange (argument n)) where
  arguments-in-range : (k : ℕ) (ns : List Number) → Gives (Many InRange k) (arguments argument k ns)
  unfolding arguments
  arguments-in-range zero ns = allows _ (refl, each_nil InRange)
  arguments-in-range (suc k) [] = refuses 10
  arguments-in-range (suc k) (n ∷ ns) =
      then (in-range n) λ a h.
      then (arguments-in-range k ns) λ w g.
      allows _ (ap suc g.0, each-cons InRange h g.1)

  module _ {L : Type 0} (make : Bool → ℕ → List A → L) (arities : List ℕ) (Keeps : L → Type 0)
      (keeps : (b : Bool) (s : ℕ) (xs : List A) → Between 1 (length arities) s → length xs ≡ get_or arities (s - 1) 0 → Each InRange xs
      → Keeps (make b s xs)) where
    literal-keeps : (ns : List Number) → Gives (λ w. Keeps w.found) (literal argument make arities ns)
    unfolding literal
    literal-keeps [] = refuses 10
    literal-keeps (n ∷ ns) =
        asked 10 λ e.
        then (arguments-in-range (get_or arities (n.size - 1) 0) ns) λ w g.
        allows _ (keeps (not n.negative) n.size w.found (between 1 (length arities) n.size e) g.0 g.1)

    literals-keep : (k : ℕ) (ns : List Number) → Gives (Many Keeps k) (literals argument make arities k ns)
    unfolding literals
    literals-keep zero ns = allows _ (refl, each_nil Keeps)
    literals-keep (suc k) ns =
        then (literal-keeps ns) λ l h.
        then (literals-keep k l.left) λ w g.
        allows _ (ap suc g.0, each-cons Keeps h g.1)

patterns-limits : (p : Problem) (k : ℕ) (ns : List Number) → Gives (Many (PatternLimits p) k) (patterns p.constants p.arities k ns)
unfolding patterns pattern_of
patterns-limits p =
    literals-keep (rule_argument p.constants) (TermLimits p) (rule-argument p) pattern_of p.arities (PatternLimits p)
    λ b s ts d e g. record { symbol = d.0; declared = d.1; terms = e; in_range = g }

literals-limits : (p : Problem) (k : ℕ) (ns : List Number) → Gives (Many (LiteralLimits p) k) (clause_literals p.constants p.arities k ns)
unfolding clause_literals literal_of
literals-limits p =
    literals-keep (clause_argument p.constants) (Between 1 p.constants) (clause-argument p) literal_of p.arities (LiteralLimits p)
    λ b s cs d e g. record { symbol = d.0; declared = d.1; args = e; in_range = g }

-- ── what a line of each kind gives ──

constants-asked : (ns : List Number) → Gives (Between 1 32) (constants_asked ns)
unfolding constants_asked
constants-asked ns = then (count-between 8 1 32 ns) λ n h. asked 11 λ _. allows _ h

arity-asked : (symbols : ℕ) (ns : List Number) → Gives (λ n. (n ≤ 3) × (ltb symbols 16 ≡ true)) (arity_asked symbols ns)
unfolding arity_asked
arity-asked symbols ns = then (count-between 8 0 3 ns) λ n h. asked 9 λ room. asked 11 λ _. allows _ (h.1, room)

counts-between : (ns : List Number) → Gives (λ w. Between 1 3 w.found.heads × Between 0 2 w.found.body) (rule_counts ns)
unfolding rule_counts
counts-between ns =
    then (count-between 8 1 3 ns) λ heads h.
    then (count-between 8 0 2 heads.left) λ body b.
    allows _ (h, b)

rule-asked : (p : Problem) (rules : ℕ) (ns : List Number)
    → Gives (λ r. RuleLimits p r × (ltb rules 32 ≡ true)) (rule_asked p.constants p.arities rules ns)
unfolding rule_asked rule_behind
rule-asked p rules ns =
    then (counts-between ns) λ counts h.
    asked 9 λ room.
    then (patterns-limits p counts.found.heads counts.left) λ heads hl.
    then (patterns-limits p counts.found.body heads.left) λ body bl.
    asked 11 λ _.
    asked 12 λ safe.
    asked 14 λ linked.
    allows _ (
      record {
        some_head = omega (arith, hl.0, h.0.0);
        heads = omega (arith, hl.0, h.0.1);
        body = omega (arith, bl.0, h.1.1);
        is_restricted = safe;
        is_connected = linked;
        each_head = hl.1;
        each_body = bl.1;
      },
      room,
    )

two-way-counts : (ns : List Number)
    → Gives (λ w. Between 1 2 w.found.rewritten × (w.found.body ≤ 2) × (w.found.kept + w.found.rewritten ≤ 3) × (w.found.kept + w.found.body ≤ 3)) (two_way_counts ns)
unfolding two_way_counts
two-way-counts ns =
    then (count-between 8 0 2 ns) λ kept k.
    then (count-between 8 1 2 kept.left) λ rewritten r.
    then (count-between 8 0 2 rewritten.left) λ body b.
    asked 8 λ sums.
    let first = leb (kept.found + rewritten.found) 3 in
    let second = leb (kept.found + body.found) 3 in
    allows _ (r, b.1, leb-true _ 3 (and_left first second sums), leb-true _ 3 (and_right first second sums))

two-way-asked : (p : Problem) (rules : ℕ) (ns : List Number)
    → Gives (λ t. TwoWayLimits p t × (rules + ways (length t.body) ≤ 32)) (two_way_asked p.constants p.arities rules ns)
unfolding two_way_asked two_way_behind
two-way-asked p rules ns =
    then (two-way-counts ns) λ counts h.
    asked 9 λ room.
    then (patterns-limits p counts.found.kept counts.left) λ kept kl.
    then (patterns-limits p counts.found.rewritten kept.left) λ rewritten rl.
    then (patterns-limits p counts.found.body rewritten.left) λ body bl.
    asked 11 λ _.
    asked 12 λ safe.
    asked 14 λ linked.
    allows _ (
      record {
        some_rewritten = omega (arith, rl.0, h.0.0);
        rewritten = omega (arith, rl.0, h.0.1);
        body = omega (arith, bl.0, h.1);
        heads = omega (arith, kl.0, rl.0, h.2);
        turned = omega (arith, kl.0, bl.0, h.3);
        is_restricted = safe;
        is_connected = linked;
        each_kept = kl.1;
        each_rewritten = rl.1;
        each_body = bl.1;
      },
      rw bl.0 (leb-true (rules + ways counts.found.body) 32 room),
    )

-- the rules that a line stands for keep the limits: the forward rule by what was asked, the reverse rule by the test that it is there
reverse-tests : (t : TwoWay) → has_reverse t ≡ true → (is_empty t.body ≡ false) × (restricted (reverse t) ≡ true) × (connected (reverse t) ≡ true)
unfolding has_reverse
reverse-tests t h =
    let some = not (is_empty t.body) in
    let first = and_left (some && restricted (reverse t)) (connected (reverse t)) h in
    (not-true (is_empty t.body) (and_left some (restricted (reverse t)) first), and_right some (restricted (reverse t)) first, and_right (some && restricted (reverse t)) (connected (reverse t)) h)

module _ (p : Problem) (t : TwoWay) (l : TwoWayLimits p t) where
  forward-limits : RuleLimits p (forward t)
  unfolding forward
  forward-limits =
      record {
        some_head = omega (arith, length-append t.kept t.rewritten, l.some_rewritten);
        heads = omega (arith, length-append t.kept t.rewritten, l.heads);
        body = l.body;
        is_restricted = l.is_restricted;
        is_connected = l.is_connected;
        each_head = each_append (PatternLimits p) t.kept l.each_kept l.each_rewritten;
        each_body = l.each_body;
      }

  reverse-limits : has_reverse t ≡ true → RuleLimits p (reverse t)
  unfolding reverse
  reverse-limits h =
      let (some, safe, linked) = reverse-tests t h in
      record {
        some_head = omega (arith, length-append t.kept t.body, full-some t.body some);
        heads = omega (arith, length-append t.kept t.body, l.turned);
        body = l.rewritten;
        is_restricted = safe;
        is_connected = linked;
        each_head = each_append (PatternLimits p) t.kept l.each_kept l.each_body;
        each_body = l.each_rewritten;
      }

  stands-limits : Each (RuleLimits p) (stands_for t)
  stands-limits r m =
      elim (stands-cases t r m) [
        | inl e ↦ subst (RuleLimits p) (sym e) forward-limits
        | inr (e, h) ↦ subst (RuleLimits p) (sym e) (reverse-limits h)
      ]

clause-asked : (p : Problem) (ns : List Number)
    → Gives (λ c. ClauseLimits p c × (ltb (length p.clauses) 64 ≡ true)) (clause_asked p.constants p.arities (length p.clauses) ns)
unfolding clause_asked clause_count clause_behind
clause-asked p ns =
    then (count-between 8 0 8 ns) λ literal_count h.
    asked 9 λ room.
    then (literals-limits p literal_count.found literal_count.left) λ c cl.
    asked 11 λ _.
    allows _ (record { literals = omega (arith, cl.0, h.1); each_literal = cl.1 }, room)

-- a clause, as it is read, keeps the limits
pub clause-asked-limits : (p : Problem) (ns : List Number) (c : Clause) → clause_asked p.constants p.arities (length p.clauses) ns ≡ yes c → ClauseLimits p c
clause-asked-limits p ns c e = (given (clause-asked p ns) c e).0

-- ── a line ──

-- the limits of a rule and of a clause speak of constants and symbols alone: other rules and clauses may stand beside
module _ (p : Problem) (ls : List RuleLine) (rs : List Rule) (cs : List Clause) where
  abbrev Beside : Problem
  Beside = record { constants = p.constants; arities = p.arities; rule_lines = ls; rules = rs; clauses = cs }

  term-beside : (t : Term) → TermLimits p t → TermLimits Beside t
  term-beside (variable v) h = h
  term-beside (constant c) h = h

  pattern-beside : {x : Pattern} → PatternLimits p x → PatternLimits Beside x
  pattern-beside h = record { symbol = h.symbol; declared = h.declared; terms = h.terms; in_range = λ t m. term-beside t (h.in_range t m) }

  rule-beside : {r : Rule} → RuleLimits p r → RuleLimits Beside r
  rule-beside h =
      record {
        some_head = h.some_head;
        heads = h.heads;
        body = h.body;
        is_restricted = h.is_restricted;
        is_connected = h.is_connected;
        each_head = λ x m. pattern-beside (h.each_head x m);
        each_body = λ x m. pattern-beside (h.each_body x m);
      }

  literal-beside : {l : Literal} → LiteralLimits p l → LiteralLimits Beside l
  literal-beside h = record { symbol = h.symbol; declared = h.declared; args = h.args; in_range = h.in_range }

  clause-beside : {c : Clause} → ClauseLimits p c → ClauseLimits Beside c
  clause-beside h = record { literals = h.literals; each_literal = λ l m. literal-beside (h.each_literal l m) }

one_more : {A : Type 0} (l : List A) (x : A) (n : ℕ) → ltb (length l) n ≡ true → length (l ++ (x ∷ [])) ≤ n
one_more l x n e = omega (arith, length-append l (x ∷ []), ltb-true (length l) n e)

each_more : {A : Type 0} (P : A → Type 0) (l : List A) (x : A) → Each P l → P x → Each P (l ++ (x ∷ []))
each_more P l x g h = each_append P l g (each-cons P h (each_nil P))

none_in : {A : Type 0} {l : List A} → l ≡ [] → (a : A) → a ∈ l → ⊥
none_in e a m = Memᴰ.not-nil (subst (λ k. a ∈ k) e m)

-- no rule and no clause has been read
abbrev pub Bare : Problem → Type 0
Bare p = (p.rules ≡ []) × (p.clauses ≡ [])

-- the limits, and rules that are those of the lines
abbrev Keeping : Problem → Type 0
Keeping p = Limits p × FromLines p

-- lines and rules stay where the constants, the symbols or the clauses change
lines-beside : {p q : Problem} → q.rule_lines ≡ p.rule_lines → q.rules ≡ p.rules → FromLines p → FromLines q
lines-beside e f b = record { rules = cc b.rules; few = rw e b.few; rewrites = rw e b.rewrites }

constants-line : (p : Problem) → p.arities ≡ [] → Bare p → FromLines p → (ns : List Number) → Gives (λ q. Keeping q × Bare q) (constants_line p ns)
unfolding constants_line with_constants goal_atoms distinct joined
constants-line p a b k ns =
    then (constants-asked ns) λ n h.
    allows _ (
      (
        record {
          some_constant = h.0;
          constants = h.1;
          symbols = rw a (omega arith);
          each_arity = λ k m. absurd (none_in a k m);
          rules = rw b.0 (omega arith);
          each_rule = λ r m. absurd (none_in b.0 r m);
          clauses = rw b.1 (omega arith);
          each_clause = λ c m. absurd (none_in b.1 c m);
          goals = rw b.1 (omega arith);
        },
        lines-beside refl refl k,
      ),
      b,
    )

symbol-line : (p : Problem) → Keeping p → Bare p → (ns : List Number) → Gives (λ q. Keeping q × Bare q) (symbol_line p ns)
unfolding symbol_line with_symbol
symbol-line p (l, k) b ns =
    then (arity-asked (length p.arities) ns) λ n h.
    allows _ (
      (
        record {
          some_constant = l.some_constant;
          constants = l.constants;
          symbols = one_more p.arities n 16 h.1;
          each_arity = each_more (λ k. k ≤ 3) p.arities n l.each_arity h.0;
          rules = l.rules;
          each_rule = λ r m. absurd (none_in b.0 r m);
          clauses = l.clauses;
          each_clause = λ c m. absurd (none_in b.1 c m);
          goals = l.goals;
        },
        lines-beside refl refl k,
      ),
      b,
    )

-- a line more, of kind 3 or 8, that question 9 lets through
line-added : (p : Problem) (l : RuleLine) → FromLines p → counted p.rule_lines + counts_as l ≤ 32 → Rewrites l → FromLines (with_line p l)
unfolding with_line joined counted
line-added p l b room h =
    record {
      rules = rw (joined-append rules_of p.rule_lines (l ∷ []), b.rules, append-nil (rules_of l));
      few = omega (arith, counted-more p.rule_lines l, room);
      rewrites = λ k m. elim (Memᴰ.append_cases p.rule_lines m) [ inl i ↦ b.rewrites k i | inr j ↦ subst Rewrites (sym (Memᴰ.eq_of_singleton j)) h ];
    }

line-keeping : (p : Problem) (x : RuleLine) → Keeping p → counted p.rule_lines + counts_as x ≤ 32 → Rewrites x → Each (RuleLimits p) (rules_of x)
    → Keeping (with_line p x)
unfolding with_line
line-keeping p x (l, b) room h each =
    let ls = p.rule_lines ++ (x ∷ []) in
    let rs = p.rules ++ rules_of x in (
      record {
        some_constant = l.some_constant;
        constants = l.constants;
        symbols = l.symbols;
        each_arity = l.each_arity;
        rules = omega (arith, length-append p.rules (rules_of x), ap length b.rules, rules-counted p.rule_lines, rules-few x, room);
        each_rule = λ r m. rule-beside p ls rs p.clauses (each_append (RuleLimits p) p.rules l.each_rule each r m);
        clauses = l.clauses;
        each_clause = λ c m. clause-beside p ls rs p.clauses (l.each_clause c m);
        goals = l.goals;
      },
      line-added p x b room h,
    )

rule-line : (p : Problem) → Keeping p → (ns : List Number) → Gives Keeping (rule_line p ns)
unfolding rule_line rules_of counts_as
rule-line p l ns =
    then (rule-asked p (counted p.rule_lines) ns) λ r h.
    allows _ (line-keeping p (one_way r) l (omega (arith, ltb-true (counted p.rule_lines) 32 h.1)) tt (each-cons (RuleLimits p) h.0 (each_nil (RuleLimits p))))

two-way-line : (p : Problem) → Keeping p → (ns : List Number) → Gives Keeping (two_way_line p ns)
unfolding two_way_line rules_of counts_as
two-way-line p l ns =
    then (two-way-asked p (counted p.rule_lines) ns) λ t h.
    allows _ (line-keeping p (two_way t) l h.1 (λ e. let z = ap length e in omega (arith, h.0.some_rewritten)) (stands-limits p t h.0))

clause-line : (p : Problem) → Keeping p → (ns : List Number) → Gives Keeping (clause_line p ns)
unfolding clause_line with_clause
clause-line p (l, b) ns =
    then (clause-asked p ns) λ c h.
    asked 13 λ few.
    let cs = p.clauses ++ (c ∷ []) in
    allows _ (
      record {
        some_constant = l.some_constant;
        constants = l.constants;
        symbols = l.symbols;
        each_arity = l.each_arity;
        rules = l.rules;
        each_rule = λ r m. rule-beside p p.rule_lines p.rules cs (l.each_rule r m);
        clauses = one_more p.clauses c 64 h.1;
        each_clause = λ x m. clause-beside p p.rule_lines p.rules cs (each_more (ClauseLimits p) p.clauses c l.each_clause h.0 x m);
        goals = leb-true (length (goal_atoms cs)) 64 few;
      },
      lines-beside refl refl b,
    )

line-of-kind-1 : (p : Problem) → p.arities ≡ [] → Bare p → FromLines p → (k : ℕ) → k ≡ 1 → (ns : List Number)
    → Gives (λ q. Keeping q × Bare q) (line_of_kind k p ns)
unfolding line_of_kind
line-of-kind-1 p a b l k e ns = rw (eq-eqb k 1 e, line_of_kind) (constants-line p a b l ns)

line-of-later-kind : (p : Problem) → Keeping p → (k : ℕ) → 2 ≤ k → (k ≤ 2 → Bare p) → (ns : List Number)
    → Gives (λ q. Keeping q × (k ≤ 2 → Bare q)) (line_of_kind k p ns)
unfolding line_of_kind
line-of-later-kind p l k h b ns =
    let e1 : eqb k 1 ≡ false = ne_eqb k 1 (λ e. omega arith) in
    by-test (eqb k 2)
    (λ e2. rw (e1, e2, line_of_kind) (weaken (symbol-line p l (b (omega (arith, eqb-true k 2 e2))) ns) (λ q g. (g.0, λ _. g.1))))
    (λ e2. let above : k ≤ 2 → ⊥ = λ le. eqb-false k 2 e2 (omega arith) in
    by-test (eqb k 3)
    (λ e3. rw (e1, e2, e3, line_of_kind) (weaken (rule-line p l ns) (λ q g. (g, λ le. absurd (above le)))))
    (λ e3. by-test (eqb k 8)
    (λ e8. rw (e1, e2, e3, e8, line_of_kind) (weaken (two-way-line p l ns) (λ q g. (g, λ le. absurd (above le)))))
    (λ e8. rw (e1, e2, e3, e8, line_of_kind) (weaken (clause-line p l ns) (λ q g. (g, λ le. absurd (above le)))))))

-- ── one clause more ──

goal-known : (cs : List Clause) (l : Literal) → l.atom ∈ goal_atoms cs → goal_atoms (cs ++ ((l ∷ []) ∷ [])) ≡ goal_atoms cs
unfolding enter_all atoms_of
goal-known cs l m = goal-atoms-more cs (l ∷ []) ∙ enter-known (goal_atoms cs) l.atom m

-- a sheet's problem with one literal of a goal atom as a further last clause
pub one-more-searchable : (p : Problem) → Limits p → (l : Literal) → LiteralLimits p l → l.atom ∈ goal_atoms p.clauses → Searchable (with_clause p (l ∷ []))
unfolding with_clause
one-more-searchable p h l its goal =
    let s = limits-searchable p h in
    let cs = p.clauses ++ ((l ∷ []) ∷ []) in
    let alone : ClauseLimits p (l ∷ []) = record { literals = omega arith; each_literal = each-cons (LiteralLimits p) its (each_nil (LiteralLimits p)) } in
    record {
      some_constant = s.some_constant;
      constants = s.constants;
      symbols = s.symbols;
      each_arity = s.each_arity;
      rules = s.rules;
      each_rule = λ r m. rule-beside p p.rule_lines p.rules cs (s.each_rule r m);
      clauses = omega (arith, length-append p.clauses ((l ∷ []) ∷ []), h.clauses);
      each_clause = λ c m. clause-beside p p.rule_lines p.rules cs (each_more (ClauseLimits p) p.clauses (l ∷ []) s.each_clause alone c m);
      goals = subst (λ gs. length gs ≤ 64) (sym (goal-known p.clauses l goal)) h.goals;
    }

-- ── all lines ──

-- what holds after the first line; kinds never fall in rank, so up to the last symbol no rule and no clause has been read
pub record Begun (d : Draft) : Type 0 where
  pub limits : Limits d.problem
  pub from_lines : FromLines d.problem
  pub begun : 1 ≤ d.before
  pub bare : d.before ≤ 2 → Bare d.problem

no_lines : FromLines empty_draft.problem
unfolding empty_draft joined counted
no_lines = record { rules = refl; few = omega arith; rewrites = λ l m. absurd (Memᴰ.not-nil m) }

first-line : (l : Line) → Gives Begun (read_line empty_draft l)
unfolding read_line empty_draft kind_of
first-line l =
    then (anything (columns_asked l)) λ ns _.
    then (count-between 7 1 1 ns) λ k h.
    then (line-of-kind-1 _ refl (refl, refl) no_lines k.found (omega (arith, h.0, h.1)) k.left) λ p g.
    allows _ (record { limits = g.0.0; from_lines = g.0.1; begun = h.0; bare = λ _. g.1 })

later-line : (d : Draft) → Begun d → (l : Line) → Gives Begun (read_line d l)
unfolding read_line
later-line d i l =
    then (anything (columns_asked l)) λ ns _.
    then (later-kind d.before ns i.begun) λ k h.
    then (line-of-later-kind d.problem (i.limits, i.from_lines) k.found h.0 (λ le. i.bare (early-kind d.before k.found h.1 le)) k.left) λ p g.
    allows _ (record { limits = g.0.0; from_lines = g.0.1; begun = omega (arith, h.0); bare = g.1 })

-- a line that is read, the first one or a later one
pub line-begun : (d e : Draft) (l : Line) → (d ≡ empty_draft) ⊎ Begun d → read_line d l ≡ yes e → Begun e
line-begun d e l (inl q) h = given (first-line l) e (ap (λ (x : Draft). read_line x l) (sym q) ∙ h)
line-begun d e l (inr b) h = given (later-line d b l) e h

later-lines : (ls : List Line) (d : Draft) (n : ℕ) (p : Problem) → Begun d → read_lines d n ls ≡ accepted p → Keeping p
unfolding read_lines
later-lines [] d n p i e = let q : d.problem ≡ p = cc in subst Keeping q (i.limits, i.from_lines)
later-lines (l ∷ ls) d n p i e =
    by-asked (read_line d l) (λ q f. apart (cc)) (λ d' f. later-lines ls d' (suc n) p (given (later-line d i l) d' f) (cc))

all_lines : (ls : List Line) (p : Problem) → is_empty ls ≡ false → read_lines empty_draft 1 ls ≡ accepted p → Keeping p
unfolding read_lines is_empty
all_lines [] p s e = apart (cc)
all_lines (l ∷ ls) p s e =
    by-asked (read_line empty_draft l) (λ q f. apart (cc)) (λ d f. later-lines ls d 2 p (given (first-line l) d f) (cc))

put_some : (b : ℕ) (ls : List Line) → is_empty (put_byte b ls) ≡ false
unfolding is_empty put_byte
put_some b [] = refl
put_some b (l ∷ ls) = refl

-- at least one byte, so at least one line
pub some-line : (sheet : List ℕ) → is_empty sheet ≡ false → is_empty (lines sheet) ≡ false
unfolding is_empty lines
some-line [] s = apart (cc)
some-line (b ∷ bs) s = by-test (eqb b 10) (λ e. cc) (λ e. cc (put_some b (lines bs)))

accepted-keeping : (sheet : List ℕ) (p : Problem) → read sheet ≡ accepted p → Keeping p
accepted-keeping sheet p e = let (_, full, all) = accepted-read sheet p e in all_lines (lines sheet) p (some-line sheet full) all

pub accepted-limits : (sheet : List ℕ) (p : Problem) → read sheet ≡ accepted p → Limits p
accepted-limits sheet p e = (accepted-keeping sheet p e).0

-- its rules are those that its lines stand for, in their order
pub accepted-from-lines : (sheet : List ℕ) (p : Problem) → read sheet ≡ accepted p → FromLines p
accepted-from-lines sheet p e = (accepted-keeping sheet p e).1
