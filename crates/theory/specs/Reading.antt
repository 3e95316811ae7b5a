-- What an accepted sheet says, line by line: kinds never fall in rank, so each rule, two-way rule and clause is read against all constants
-- and symbols of the sheet. Assumes nothing.
use Rattle.std.specs.Prelude.{ℕ, zero, suc, ◌+◌, ◌≤◌, ◌≡◌, refl, true, false, ◌&&◌, ◌||◌, List, [], ◌∷◌, ◌++◌, map, eqb, leb, ltb, length, drop}
use Rattle.std.proofs.Common.{sym, ◌∙◌, ap, inl, inr, append-nil, append_assoc, arith, length-append, eqb-true, leb-true}
use mathlib.Core.List.Memᴰ
use Rattle.std.proofs.lemmas.Bool.{eqb-false}
use Rattle.definitions.specs.Lists.{◌∈◌, is_empty, filter, joined}
use Rattle.definitions.specs.Words.{Rule, TwoWay, RuleLine, one_way, two_way, Clause, Problem, goal_atoms}
use Rattle.definitions.specs.Sheet.{Line, lines, Number}
use Rattle.definitions.specs.Questions.{Asked, yes, Parsed, count, rank, kind_of, ways, counted, constants_asked, arity_asked, rule_counts, rule_asked, two_way_counts, two_way_asked, clause_count, read_clause, clause_asked, with_constants, with_symbol, with_line, with_clause, constants_line, symbol_line, rule_line, two_way_line, clause_line, line_of_kind, good_length, columns_asked, Draft, read_line, accepted, read_lines, empty_draft, read}
use Rattle.definitions.specs.Sheets.{Row, filled, row_of, is_kind, of_kind, first_size, constants_of}
use Rattle.theory.specs.Tests.{by-test, apart, and_left, and_right}
use Rattle.theory.specs.ListLaws.{in-along}
use Rattle.theory.specs.AskedLaws.{yes-injective, by-asked, rank-8, early-kind, accepted-read, bind-yes, ask-yes, yes-bind, count_yes, read_rule, read_two_way, is_rule_row, read_rule_line}

-- ── a line of each kind, from its columns behind the kind ──

counted-first : (q low high : ℕ) (ns : Row) (w : Parsed ℕ) → count q low high ns ≡ yes w → first_size ns ≡ w.found
unfolding first_size
counted-first q low high ns w e = let c = count_yes q low high ns w e in ap first_size c.split ∙ c.size

constants_line-yes : (s : Problem) (ns : Row) (p : Problem) → constants_line s ns ≡ yes p → p ≡ with_constants s (first_size ns)
unfolding constants_line constants_asked
constants_line-yes s ns p e =
    let (n, h, e₁) = bind-yes (constants_asked ns) _ p e in
    let (w, h₁, h₂) = bind-yes (count 8 1 32 ns) _ n h in
    let (_, h₃) = ask-yes 11 (is_empty w.left) _ n h₂ in
    cc (counted-first 8 1 32 ns w h₁)

symbol_line-yes : (s : Problem) (ns : Row) (p : Problem) → symbol_line s ns ≡ yes p → p ≡ with_symbol s (first_size ns)
unfolding symbol_line arity_asked
symbol_line-yes s ns p e =
    let (n, h, e₁) = bind-yes (arity_asked (length s.arities) ns) _ p e in
    let (w, h₁, h₂) = bind-yes (count 8 0 3 ns) _ n h in
    let (_, h₃) = ask-yes 9 (ltb (length s.arities) 16) _ n h₂ in
    let (_, h₄) = ask-yes 11 (is_empty w.left) _ n h₃ in
    cc (counted-first 8 0 3 ns w h₁)

rule_line-yes : (s : Problem) (ns : Row) (p : Problem) → rule_line s ns ≡ yes p
    → (r : Rule) × (read_rule s.constants s.arities ns ≡ yes r) × (p ≡ with_line s (one_way r))
unfolding rule_line rule_asked read_rule
rule_line-yes s ns p e =
    let (r, h, e₁) = bind-yes (rule_asked s.constants s.arities (counted s.rule_lines) ns) _ p e in
    let (counts, h₁, h₂) = bind-yes (rule_counts ns) _ r h in
    let (_, h₃) = ask-yes 9 (ltb (counted s.rule_lines) 32) _ r h₂ in
    (r, yes-bind (rule_counts ns) _ counts r h₁ h₃, sym (yes-injective e₁))

two_way_line-yes : (s : Problem) (ns : Row) (p : Problem) → two_way_line s ns ≡ yes p
    → (t : TwoWay) × (read_two_way s.constants s.arities ns ≡ yes t) × (p ≡ with_line s (two_way t))
unfolding two_way_line two_way_asked read_two_way
two_way_line-yes s ns p e =
    let (t, h, e₁) = bind-yes (two_way_asked s.constants s.arities (counted s.rule_lines) ns) _ p e in
    let (counts, h₁, h₂) = bind-yes (two_way_counts ns) _ t h in
    let (_, h₃) = ask-yes 9 (leb (counted s.rule_lines + ways counts.found.body) 32) _ t h₂ in
    (t, yes-bind (two_way_counts ns) _ counts t h₁ h₃, sym (yes-injective e₁))

clause_line-yes : (s : Problem) (ns : Row) (p : Problem) → clause_line s ns ≡ yes p
    → (c : Clause) × (read_clause s.constants s.arities ns ≡ yes c) × (p ≡ with_clause s c)
unfolding clause_line clause_asked read_clause
clause_line-yes s ns p e =
    let (c, h, e₁) = bind-yes (clause_asked s.constants s.arities (length s.clauses) ns) _ p e in
    let (n, h₁, h₂) = bind-yes (clause_count ns) _ c h in
    let (_, h₃) = ask-yes 9 (ltb (length s.clauses) 64) _ c h₂ in
    let (_, e₂) = ask-yes 13 (leb (length (goal_atoms (with_clause s c).clauses)) 64) _ p e₁ in
    (c, yes-bind (clause_count ns) _ n c h₁ h₃, sym (yes-injective e₂))

-- ── a line of any kind ──

-- what a line adds to the problem, by its kind, and which kinds stand before it
data Adds (before : ℕ) (s : Problem) (ns : Row) : ℕ → Problem → Type 0 where
  constants : before ≡ 0 → Adds before s ns 1 (with_constants s (first_size ns))
  symbol : 1 ≤ before → before ≤ 2 → Adds before s ns 2 (with_symbol s (first_size ns))
  rule : (r : Rule) → read_rule s.constants s.arities ns ≡ yes r → 1 ≤ before → Adds before s ns 3 (with_line s (one_way r))
  both : (t : TwoWay) → read_two_way s.constants s.arities ns ≡ yes t → 1 ≤ before → Adds before s ns 8 (with_line s (two_way t))
  clause : (c : Clause) → read_clause s.constants s.arities ns ≡ yes c → 1 ≤ before → Adds before s ns 4 (with_clause s c)

-- the first line
first-adds : (s : Problem) (ns : Row) (k : ℕ) (p : Problem) → 1 ≤ k → k ≤ 1 → line_of_kind k s ns ≡ yes p → Adds 0 s ns k p
unfolding line_of_kind
first-adds s ns k p l m e =
    let one : k ≡ 1 = omega arith in
    rw (one, constants_line-yes s ns p (rw one at e)) (constants refl)

-- a later line
later-adds : (before : ℕ) (s : Problem) (ns : Row) (k : ℕ) (p : Problem) → 1 ≤ before → rank before ≤ rank k → 2 ≤ k → rank k ≤ 4
    → line_of_kind k s ns ≡ yes p → Adds before s ns k p
unfolding line_of_kind
later-adds before s ns k p b bk l m e =
    by-test (eqb k 2)
    (λ t. let k≡2 = eqb-true k 2 t in rw (k≡2, symbol_line-yes s ns p (rw k≡2 at e)) (symbol b (early-kind before k bk (omega arith))))
    (λ t. by-test (eqb k 3)
    (λ u.
    let k≡3 = eqb-true k 3 u in
    let (r, h, q) = rule_line-yes s ns p (rw k≡3 at e) in
    rw (k≡3, q) (rule r h b))
    (λ u. elim (rank-8 k) [
      | inl x ↦ let k≡8 = x.0 in
          let (w, h, q) = two_way_line-yes s ns p (rw k≡8 at e) in
          rw (k≡8, q) (both w h b)
      | inr x ↦ let k≡4 : k ≡ 4 = omega (arith, x.1, eqb-false k 2 t, eqb-false k 3 u) in
          let (c, h, q) = clause_line-yes s ns p (rw k≡4 at e) in
          rw (k≡4, q) (clause c h b)
    ]))

-- the columns of an accepted line, its kind first, and what it adds
record LineRead (before : ℕ) (s : Problem) (row : Row) (k : ℕ) (p : Problem) : Type 0 where
  kind : Number
  rest : Row
  split : row ≡ kind ∷ rest
  sign : kind.negative ≡ false
  size : kind.size ≡ k
  adds : Adds before s rest k p

kind-read : (before : ℕ) (s : Problem) (ns : Row) (k : Parsed ℕ) (p : Problem) → kind_of before ns ≡ yes k
    → line_of_kind k.found s k.left ≡ yes p → LineRead before s ns k.found p
unfolding kind_of
kind-read zero s ns k p e h =
    let c = count_yes 7 1 1 ns k e in
    record {
      kind = c.column;
      rest = k.left;
      split = c.split;
      sign = c.sign;
      size = c.size;
      adds = first-adds s k.left k.found p c.least c.most h;
    }
kind-read (suc b) s ns k p e h =
    let (j, e₁, e₂) = bind-yes (count 7 2 8 ns) _ k e in
    let (t, e₃) = ask-yes 7 (leb (rank j.found) 4 && leb (rank (suc b)) (rank j.found)) _ k e₂ in
    let c = count_yes 7 2 8 ns k (e₁ ∙ e₃) in
    let found = ap (λ (w : Parsed ℕ). w.found) (yes-injective e₃) in
    let ranked : rank k.found ≤ 4 = rw found at (leb-true (rank j.found) 4 (and_left _ _ t)) in
    let no_lower : rank (suc b) ≤ rank k.found = rw found at (leb-true (rank (suc b)) (rank j.found) (and_right (leb (rank j.found) 4) _ t)) in
    record {
      kind = c.column;
      rest = k.left;
      split = c.split;
      sign = c.sign;
      size = c.size;
      adds = later-adds (suc b) s k.left k.found p (omega arith) no_lower c.least ranked h;
    }

line_read : (d : Draft) (l : Line) (e : Draft) → read_line d l ≡ yes e → LineRead d.before d.problem (row_of l) e.before e.problem
unfolding read_line columns_asked filled row_of
line_read d l e h =
    let (ns, c, h₁) = bind-yes (columns_asked l) _ e h in
    let (_, c₁) = ask-yes 4 l.ended _ ns c in
    let (_, c₂) = ask-yes 5 (good_length (length l.bytes)) _ ns c₁ in
    let (k, kind, h₂) = bind-yes (kind_of d.before ns) _ e h₁ in
    let (p, line, h₃) = bind-yes (line_of_kind k.found d.problem k.left) _ e h₂ in
    let row : row_of l ≡ ns = cc in
    rw (← (yes-injective h₃), row) (kind-read d.before d.problem ns k p kind line)

-- ── the lines from a given one on ──

-- the lists of rule lines or clauses before and after some rows: each row adds what it reads as
record Extends {A : Type 0} (reads : Row → Asked A) (rows : List Row) (old new : List A) : Type 0 where
  added : List A
  split : new ≡ old ++ added
  each : map reads rows ≡ map yes added

extends-one : {A : Type 0} (reads : Row → Asked A) (row : Row) (rows : List Row) (old : List A) (a : A) (new : List A)
    → reads row ≡ yes a → Extends reads rows (old ++ (a ∷ [])) new → Extends reads (row ∷ rows) old new
extends-one reads row rows old a new h x =
    record { added = a ∷ x.added; split = x.split ∙ append_assoc old (a ∷ []) x.added; each = cc x.each }

rule-row-says : (n : ℕ) (arities : List ℕ) (row : Row) (r : Rule) → is_kind 3 row ≡ true → read_rule n arities (drop 1 row) ≡ yes r
    → read_rule_line n arities row ≡ yes (one_way r)
unfolding read_rule_line
rule-row-says n arities row r k h = rw (k, read_rule_line) (yes-bind (read_rule n arities (drop 1 row)) _ r _ h refl)

two-way-row-says : (n : ℕ) (arities : List ℕ) (row : Row) (t : TwoWay) → is_kind 3 row ≡ false → read_two_way n arities (drop 1 row) ≡ yes t
    → read_rule_line n arities row ≡ yes (two_way t)
unfolding read_rule_line
two-way-row-says n arities row t k h = rw (k, read_rule_line) (yes-bind (read_two_way n arities (drop 1 row)) _ t _ h refl)

-- what the lines left to read say, sorted by kind: only the first line is of kind 1, and none of kind 2 follows kind 3, 8 or 4
record Rest (before : ℕ) (s : Problem) (ones twos rules fours : List Row) (p : Problem) : Type 0 where
  first : before ≡ 0 → s.constants ≡ 0 → first_size (joined (drop 1) ones) ≡ p.constants
  no-first : 1 ≤ before → ones ≡ []
  constants : 1 ≤ before → p.constants ≡ s.constants
  no_symbol : 3 ≤ before → twos ≡ []
  arities : p.arities ≡ s.arities ++ map (λ (r : Row). first_size (drop 1 r)) twos
  lines : Extends (read_rule_line p.constants p.arities) rules s.rule_lines p.rule_lines
  clauses : Extends (λ (r : Row). read_clause p.constants p.arities (drop 1 r)) fours s.clauses p.clauses

-- no line is left
rest-none : (before : ℕ) (s : Problem) → Rest before s [] [] [] [] s
unfolding joined first_size
rest-none before s =
    record {
      first = λ b c. sym c;
      no-first = λ b. refl;
      constants = λ b. refl;
      no_symbol = λ b. refl;
      arities = sym (append-nil s.arities);
      lines = record { added = []; split = sym (append-nil s.rule_lines); each = refl };
      clauses = record { added = []; split = sym (append-nil s.clauses); each = refl };
    }

-- the rows of kind j, with a row of kind k in front; those of kinds 3 and 8
front : ℕ → ℕ → Row → List Row → List Row
front j k row rows = elim (eqb k j) [ true ↦ row ∷ rows | false ↦ rows ]

front-rule : ℕ → Row → List Row → List Row
front-rule k row rows = elim (eqb k 3 || eqb k 8) [ true ↦ row ∷ rows | false ↦ rows ]

-- a row of kind k
record OfKind (k : ℕ) (kind : Number) : Type 0 where
  sign : kind.negative ≡ false
  size : kind.size ≡ k

is-kind : (j k : ℕ) (kind : Number) (ns : Row) → OfKind k kind → is_kind j (kind ∷ ns) ≡ eqb k j
unfolding is_kind
is-kind j k kind ns w = cc (w.sign, w.size)

-- one line more, in front
rest-one : (before : ℕ) (s : Problem) (kind : Number) (ns : Row) (k : ℕ) (t : Problem) (ones twos rules fours : List Row) (p : Problem)
    → OfKind k kind → Adds before s ns k t → Rest k t ones twos rules fours p
    → Rest before s (front 1 k (kind ∷ ns) ones) (front 2 k (kind ∷ ns) twos) (front-rule k (kind ∷ ns) rules) (front 4 k (kind ∷ ns) fours) p
unfolding with_constants with_symbol with_line with_clause front front-rule joined
rest-one before s kind ns k t ones twos rules fours p w (constants b) r =
    record {
      first = λ _ _. cc (r.no-first (omega arith), r.constants (omega arith), append-nil ns);
      no-first = λ c. absurd (omega arith);
      constants = λ c. absurd (omega arith);
      no_symbol = λ c. absurd (omega arith);
      arities = r.arities;
      lines = r.lines;
      clauses = r.clauses;
    }
rest-one before s kind ns k t ones twos rules fours p w (symbol b c) r =
    record {
      first = λ d _. absurd (omega arith);
      no-first = λ _. r.no-first (omega arith);
      constants = λ _. r.constants (omega arith);
      no_symbol = λ d. absurd (omega arith);
      arities = r.arities ∙ append_assoc s.arities (first_size ns ∷ []) (map (λ (r : Row). first_size (drop 1 r)) twos);
      lines = r.lines;
      clauses = r.clauses;
    }
rest-one before s kind ns k t ones twos rules fours p w (rule u h b) r =
    let n : p.constants ≡ s.constants = r.constants (omega arith) in
    let a : p.arities ≡ s.arities = cc (r.arities, r.no_symbol (omega arith), append-nil s.arities) in
    let says = rule-row-says p.constants p.arities (kind ∷ ns) u (is-kind 3 3 kind ns w) (rw (n, a) h) in
    record {
      first = λ d _. absurd (omega arith);
      no-first = λ _. r.no-first (omega arith);
      constants = λ _. n;
      no_symbol = λ _. r.no_symbol (omega arith);
      arities = r.arities;
      lines = extends-one (read_rule_line p.constants p.arities) (kind ∷ ns) rules s.rule_lines (one_way u) p.rule_lines says r.lines;
      clauses = r.clauses;
    }
rest-one before s kind ns k t ones twos rules fours p w (both u h b) r =
    let n : p.constants ≡ s.constants = r.constants (omega arith) in
    let a : p.arities ≡ s.arities = cc (r.arities, r.no_symbol (omega arith), append-nil s.arities) in
    let says = two-way-row-says p.constants p.arities (kind ∷ ns) u (is-kind 3 8 kind ns w) (rw (n, a) h) in
    record {
      first = λ d _. absurd (omega arith);
      no-first = λ _. r.no-first (omega arith);
      constants = λ _. n;
      no_symbol = λ _. r.no_symbol (omega arith);
      arities = r.arities;
      lines = extends-one (read_rule_line p.constants p.arities) (kind ∷ ns) rules s.rule_lines (two_way u) p.rule_lines says r.lines;
      clauses = r.clauses;
    }
rest-one before s kind ns k t ones twos rules fours p w (clause u h b) r =
    let n : p.constants ≡ s.constants = r.constants (omega arith) in
    let a : p.arities ≡ s.arities = cc (r.arities, r.no_symbol (omega arith), append-nil s.arities) in
    record {
      first = λ d _. absurd (omega arith);
      no-first = λ _. r.no-first (omega arith);
      constants = λ _. n;
      no_symbol = λ _. r.no_symbol (omega arith);
      arities = r.arities;
      lines = r.lines;
      clauses = extends-one (λ (r : Row). read_clause p.constants p.arities (drop 1 r)) (kind ∷ ns) fours s.clauses u p.clauses (cc) r.clauses;
    }

-- a row of kind k stands in front of the rows of its kind, and of no other
filter-kind : (j k : ℕ) (kind : Number) (ns : Row) (rows : List Row) → OfKind k kind
    → filter (is_kind j) ((kind ∷ ns) ∷ rows) ≡ front j k (kind ∷ ns) (filter (is_kind j) rows)
unfolding filter front
filter-kind j k kind ns rows w = cc (is-kind j k kind ns w)

filter-rule : (k : ℕ) (kind : Number) (ns : Row) (rows : List Row) → OfKind k kind
    → filter is_rule_row ((kind ∷ ns) ∷ rows) ≡ front-rule k (kind ∷ ns) (filter is_rule_row rows)
unfolding filter front-rule is_rule_row
filter-rule k kind ns rows w = cc (is-kind 3 k kind ns w, is-kind 8 k kind ns w)

-- what the rows say, before they are sorted by kind
abbrev RestOf : ℕ → Problem → List Row → Problem → Type 0
RestOf before s rows p = Rest before s (filter (is_kind 1) rows) (filter (is_kind 2) rows) (filter is_rule_row rows) (filter (is_kind 4) rows) p

rest-row : (before : ℕ) (s : Problem) (row : Row) (k : ℕ) (t : Problem) (rows : List Row) (p : Problem)
    → LineRead before s row k t → RestOf k t rows p → RestOf before s (row ∷ rows) p
rest-row before s row k t rows p l r =
    let w : OfKind k l.kind = record { sign = l.sign; size = l.size } in
    rw (
      l.split,
      filter-kind 1 k l.kind l.rest rows w,
      filter-kind 2 k l.kind l.rest rows w,
      filter-rule k l.kind l.rest rows w,
      filter-kind 4 k l.kind l.rest rows w,
    )
    (rest-one before s l.kind l.rest k t _ _ _ _ p w l.adds r)

-- from any draft on; the number of the line matters only to a refusal
lines-read : (d : Draft) (n : ℕ) (ls : List Line) (p : Problem) → read_lines d n ls ≡ accepted p → RestOf d.before d.problem (map row_of ls) p
unfolding read_lines filter
lines-read d n [] p e = let same : d.problem ≡ p = cc in rw (← same) (rest-none d.before d.problem)
lines-read d n (l ∷ ls) p e =
    by-asked (read_line d l)
    (λ q h. apart (cc))
    (λ f h. rest-row d.before d.problem (row_of l) f.before f.problem (map row_of ls) p (line_read d l f h) (lines-read f (suc n) ls p (cc)))

-- ── how many lines there are ──

-- a line of a later kind adds a symbol, a rule line or a clause
said : Problem → ℕ
said s = length s.arities + length s.rule_lines + length s.clauses

adds_one : (before : ℕ) (s : Problem) (ns : Row) (k : ℕ) (t : Problem) → Adds before s ns k t
    → (1 ≤ k) × (1 ≤ before → said t ≡ suc (said s)) × (before ≡ 0 → said t ≡ said s)
unfolding said with_constants with_symbol with_line with_clause
adds_one before s ns k t (constants b) = (omega arith, (λ l. absurd (omega arith)), (λ z. refl))
adds_one before s ns k t (symbol b c) = let e = length-append s.arities (first_size ns ∷ []) in (omega arith, (λ l. omega (arith, e)), (λ z. absurd (omega arith)))
adds_one before s ns k t (rule r h b) = let e = length-append s.rule_lines (one_way r ∷ []) in (omega arith, (λ l. omega (arith, e)), (λ z. absurd (omega arith)))
adds_one before s ns k t (both w h b) = let e = length-append s.rule_lines (two_way w ∷ []) in (omega arith, (λ l. omega (arith, e)), (λ z. absurd (omega arith)))
adds_one before s ns k t (clause c h b) = let e = length-append s.clauses (c ∷ []) in (omega arith, (λ l. omega (arith, e)), (λ z. absurd (omega arith)))

later-counted : (d : Draft) (n : ℕ) (ls : List Line) (p : Problem) → read_lines d n ls ≡ accepted p → 1 ≤ d.before → length ls + said d.problem ≡ said p
unfolding read_lines
later-counted d n [] p e b = let same : d.problem ≡ p = cc in rw same (omega arith)
later-counted d n (l ∷ ls) p e b =
    by-asked (read_line d l)
    (λ q h. apart (cc))
    (λ f h.
    let (kind, one, _) = adds_one _ _ _ _ _ (line_read d l f h).adds in
    omega (arith, one b, later-counted f (suc n) ls p (cc) kind))

-- the first line adds none
all-counted : (d : Draft) (n : ℕ) (ls : List Line) (p : Problem) → read_lines d n ls ≡ accepted p → d.before ≡ 0 → length ls + said d.problem ≤ suc (said p)
unfolding read_lines
all-counted d n [] p e z = let same : d.problem ≡ p = cc in rw same (omega arith)
all-counted d n (l ∷ ls) p e z =
    by-asked (read_line d l)
    (λ q h. apart (cc))
    (λ f h.
    let (kind, _, none) = adds_one _ _ _ _ _ (line_read d l f h).adds in
    omega (arith, none z, later-counted f (suc n) ls p (cc) kind))

-- ── the whole sheet ──

-- the rows of kinds 3 and 8, from the top
unfoldable pub rule_rows : List ℕ → List Row
rule_rows sheet = filter is_rule_row (map row_of (lines sheet))

-- what the lines of an accepted sheet say, each rule, two-way rule and clause against all constants and all symbols
pub record Says (sheet : List ℕ) (p : Problem) : Type 0 where
  pub constants : constants_of sheet ≡ p.constants
  pub arities : p.arities ≡ map (λ (r : Row). first_size (drop 1 r)) (of_kind 2 sheet)
  pub lines : map (read_rule_line p.constants p.arities) (rule_rows sheet) ≡ map yes p.rule_lines
  pub clauses : map (λ (r : Row). read_clause p.constants p.arities (drop 1 r)) (of_kind 4 sheet) ≡ map yes p.clauses

pub sheet-says : (sheet : List ℕ) (p : Problem) → read sheet ≡ accepted p → Says sheet p
unfolding empty_draft constants_of of_kind rule_rows
sheet-says sheet p e =
    let r = lines-read empty_draft 1 (lines sheet) p (accepted-read sheet p e).2 in
    record {
      constants = r.first refl refl;
      arities = r.arities;
      lines = r.lines.each ∙ ap (map yes) (sym r.lines.split);
      clauses = r.clauses.each ∙ ap (map yes) (sym r.clauses.split);
    }

-- an accepted sheet has one line besides those of its symbols, rule lines and clauses
pub line-count : (sheet : List ℕ) (p : Problem) → read sheet ≡ accepted p
    → length (lines sheet) ≤ suc (length p.arities + length p.rule_lines + length p.clauses)
unfolding empty_draft said
line-count sheet p e = omega (arith, all-counted empty_draft 1 (lines sheet) p (accepted-read sheet p e).2 refl)

-- rows that all read as something: each value comes from a row, and each row gives a value
module _ {A : Type 0} (reads : Row → Asked A) (rows : List Row) (values : List A) (each : map reads rows ≡ map yes values) where
  value_row : (a : A) → a ∈ values → (r : Row) × (r ∈ rows) × (reads r ≡ yes a)
  value_row a m = Memᴰ.of_map reads rows (in-along each (Memᴰ.map yes m))

  row-value : (r : Row) → r ∈ rows → (a : A) × (a ∈ values) × (reads r ≡ yes a)
  row-value r m = let (a, n, e) = Memᴰ.of_map yes values (in-along (sym each) (Memᴰ.map reads m)) in (a, n, sym e)

module _ (sheet : List ℕ) (p : Problem) (reads : read sheet ≡ accepted p) where
  pub line_row : (l : RuleLine) → l ∈ p.rule_lines
      → (row : Row) × (row ∈ rule_rows sheet) × (read_rule_line p.constants p.arities row ≡ yes l)
  line_row = value_row _ (rule_rows sheet) p.rule_lines (sheet-says sheet p reads).lines

  pub row_line : (row : Row) → row ∈ rule_rows sheet
      → (l : RuleLine) × (l ∈ p.rule_lines) × (read_rule_line p.constants p.arities row ≡ yes l)
  row_line = row-value _ (rule_rows sheet) p.rule_lines (sheet-says sheet p reads).lines

  pub clause-row : (c : Clause) → c ∈ p.clauses
      → (row : Row) × (row ∈ of_kind 4 sheet) × (read_clause p.constants p.arities (drop 1 row) ≡ yes c)
  clause-row = value_row _ (of_kind 4 sheet) p.clauses (sheet-says sheet p reads).clauses

  pub row-clause : (row : Row) → row ∈ of_kind 4 sheet
      → (c : Clause) × (c ∈ p.clauses) × (read_clause p.constants p.arities (drop 1 row) ≡ yes c)
  row-clause = row-value _ (of_kind 4 sheet) p.clauses (sheet-says sheet p reads).clauses
