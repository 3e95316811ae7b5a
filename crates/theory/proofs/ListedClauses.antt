-- A listing's lines of kinds 6 and 7, read back from its bytes by the sheet's own reader of columns, are the logged clauses and the set
-- literals in their order. Assumes nothing.
use Rattle.std.specs.Prelude.{ℕ, ◌≤◌, ◌≡◌, true, false, not}
use Rattle.std.proofs.Math.Path.{refl, ap, subst}
use Rattle.std.proofs.Common.{◌∙◌}
use Rattle.std.proofs.Math.Bool.{Bool, not-not}
use mathlib.Core.List.Memᴰ
use mathlib.Core.List.{List, [], ◌∷◌, ◌++◌, map, map-id, map-map, append-nil, append_assoc}
use native.Mathlib.Omega.{arith}
use Rattle.std.proofs.Math.ListN.{length}
use borrow.Author.Tests.{le-leb}
use Rattle.definitions.specs.Lists.{◌∈◌, is_empty, filter, joined}
use Rattle.definitions.specs.Words.{Literal, Clause, Problem}
use Rattle.definitions.specs.Sheet.{plus}
use Rattle.definitions.specs.Questions.{yes, ◌>>=◌, ◌>>◌, ask, within, count, clause_argument, arguments, literal, literals, literal_of, clause_literals, clause_count, clause_behind, read_clause}
use Rattle.definitions.specs.Search.{Logged, clause_of, State, done, search}
use Rattle.definitions.specs.Listing.{Field, count_line, literal_numbers, logged_row, logged_line, set_line, settings, listing_lines, listing}
use Rattle.definitions.specs.Sheets.{Row, is_kind, of_kind}
use Rattle.definitions.specs.Carried.{clause_on}
use Rattle.definitions.specs.Models.{literal_on, listed_literals}
use Rattle.definitions.specs.declared.Verdict.{Verdict}
use Rattle.theory.specs.ListLaws.{map-alike, joined_in, filter-append, filter-all, filter_none, Each, each-cons}
use Rattle.theory.specs.PlaceLaws.{filter_map}
use Rattle.theory.specs.WordLaws.{atom-ext, literal-ext}
use Rattle.theory.specs.AskedLaws.{yes-bind, yes-ask}
use Rattle.theory.specs.Limits.{LiteralLimits, Limits, Between, within-plus}
use Rattle.theory.specs.ListingLaws.{clause-length, logged-fit, set-fit, settings-in}
use Rattle.theory.specs.ColumnsRead.{NotMinusZero, plus-not-minus-zero, listed_row, rows-listed, row_read, other-kind}
use Rattle.theory.specs.Sizes.{literal-listable, table-limits}
use Rattle.theory.proofs.Sizes.{logged-limits, logged-listable}

-- ── a clause in columns ──

module _ (p : Problem) where
  literal-not-minus-zero : (l : Literal) → LiteralLimits p l → Each NotMinusZero (literal_numbers l)
  unfolding literal_numbers
  literal-not-minus-zero l w =
      each-cons NotMinusZero (λ _. w.symbol) (λ n m. let (c, k, e) = Memᴰ.of_map plus l.atom.args m in subst NotMinusZero e (plus-not-minus-zero c))

  arguments-back : (cs : List ℕ) (rest : Row) → Each (Between 1 p.constants) cs
      → arguments (clause_argument p.constants) (length cs) (map plus cs ++ rest) ≡ yes (record { found = cs; left = rest })
  unfolding arguments clause_argument plus ◌>>=◌ ◌>>◌ ask
  arguments-back [] rest h = refl
  arguments-back (c ∷ cs) rest h =
      cc (within-plus 1 p.constants c (h c (Memᴰ.head refl)), arguments-back cs rest (λ x m. h x (Memᴰ.tail m)))

  literal-back : (l : Literal) (rest : Row) → LiteralLimits p l
      → literal (clause_argument p.constants) literal_of p.arities (literal_numbers l ++ rest) ≡ yes (record { found = l; left = rest })
  unfolding literal literal_numbers literal_of ◌>>=◌ ◌>>◌ ask
  literal-back l rest w =
      let its : literal_of (not (not l.positive)) l.atom.symbol l.atom.args ≡ l = literal-ext (not-not l.positive) refl in
      let constants = arguments-back l.atom.args rest w.in_range in
      cc (le-leb 1 l.atom.symbol w.symbol, le-leb l.atom.symbol (length p.arities) w.declared, w.args)

  literals-back : (c : Clause) (rest : Row) → Each (LiteralLimits p) c
      → clause_literals p.constants p.arities (length c) (joined literal_numbers c ++ rest) ≡ yes (record { found = c; left = rest })
  unfolding clause_literals literals joined ◌>>=◌
  literals-back [] rest h = refl
  literals-back (l ∷ c) rest h =
      let behind = joined literal_numbers c ++ rest in
      let first = literal-back l behind (h l (Memᴰ.head refl)) in
      let later = literals-back c rest (λ x m. h x (Memᴰ.tail m)) in
      cc (append_assoc (literal_numbers l) (joined literal_numbers c) rest)

  clause-back : (c : Clause) → length c ≤ 8 → Each (LiteralLimits p) c
      → read_clause p.constants p.arities (plus (length c) ∷ joined literal_numbers c) ≡ yes c
  unfolding read_clause clause_count clause_behind count plus is_empty ◌>>◌ ask
  clause-back c few h =
      let all = rw (append-nil (joined literal_numbers c)) at (literals-back c [] h) in
      yes-bind (clause_count (plus (length c) ∷ joined literal_numbers c)) _ (record { found = length c; left = joined literal_numbers c }) c
      (yes-ask 8 (within 0 8 (plus (length c))) _ _ (within-plus 0 8 (length c) (omega arith, few)) refl)
      (yes-bind (clause_literals p.constants p.arities (length c) (joined literal_numbers c)) _ (record { found = c; left = [] }) c all refl)

-- ── the listing ──

-- only what stands between passes the test
kept-between : {A : Type 0} (p : A → Bool) (x : A) (ys zs : List A) → p x ≡ false → Each (λ y. p y ≡ true) ys → Each (λ z. p z ≡ false) zs
    → filter p (x ∷ ys ++ zs) ≡ ys
unfolding filter
kept-between p x ys zs fails passes fail = cc (filter-append p ys zs, filter-all p ys passes, filter_none p zs fail, append-nil ys)

-- only what stands behind
kept-behind : {A : Type 0} (p : A → Bool) (x : A) (ys zs : List A) → p x ≡ false → Each (λ y. p y ≡ false) ys → Each (λ z. p z ≡ true) zs
    → filter p (x ∷ ys ++ zs) ≡ zs
unfolding filter
kept-behind p x ys zs fails fail passes = cc (filter-append p ys zs, filter_none p ys fail, filter-all p zs passes)

-- the lines of a kind
kind-listed : (k : ℕ) (v : Verdict) (s : State) → of_kind k (listing v s) ≡ map listed_row (filter (λ line. is_kind k (listed_row line)) (listing_lines v s))
unfolding of_kind listing
kind-listed k v s = ap (filter (is_kind k)) (rows-listed (listing_lines v s)) ∙ filter_map (is_kind k) listed_row (listing_lines v s)

-- the columns of a set literal's line, and that they are read as the literal
set_row : Literal → Row
set_row l = plus 7 ∷ literal_numbers l

set-row-read : (l : Literal) → literal_on (set_row l) ≡ l
unfolding literal_on set_row literal_numbers plus
set-row-read l = literal-ext (not-not l.positive) (atom-ext refl (map-map _ plus l.atom.args ∙ map-id l.atom.args))

module _ (p : Problem) (limits : Limits p) (budget : ℕ) (v : Verdict) (s : State) (ends : search p budget ≡ done v s) where
  logged-row : (g : Logged) → g ∈ s.log → listed_row (logged_line g) ≡ logged_row g
  unfolding logged_line logged_row
  logged-row g m =
      row_read (logged_row g) (logged-fit g (logged-listable p limits budget v s ends g m)) (
      each-cons NotMinusZero (plus-not-minus-zero 6) (
      each-cons NotMinusZero (plus-not-minus-zero g.instance.rule) (
      each-cons NotMinusZero (plus-not-minus-zero (length (clause_of g))) (λ n k.
      let (l, i, j) = joined_in literal_numbers (clause_of g) n k in
      literal-not-minus-zero p l (logged-limits p limits budget v s ends g m l i) n j))))

  -- the listing's lines of kind 6 are those of the log, in its order
  pub logged-rows : of_kind 6 (listing v s) ≡ map logged_row s.log
  unfolding listing_lines count_line set_line is_kind logged_row plus
  logged-rows =
      let is_logged : List Field → Bool = λ line. is_kind 6 (listed_row line) in
      kind-listed 6 v s
      ∙ ap (map listed_row) (kept-between is_logged (count_line v s) (map logged_line s.log) (map set_line (settings v s))
      (other-kind 6 5 _ (omega arith) (λ e. omega arith))
      (λ line m.
      let (g, k, e) = Memᴰ.of_map logged_line s.log m in
      subst (λ line. is_logged line ≡ true) e (ap (is_kind 6) (logged-row g k)))
      (λ line m.
      let (l, k, e) = Memᴰ.of_map set_line (settings v s) m in
      subst (λ line. is_logged line ≡ false) e (other-kind 6 7 _ (omega arith) (λ e. omega arith))))
      ∙ map-map listed_row logged_line s.log
      ∙ map-alike _ _ s.log logged-row

  -- each reads as its clause
  pub row-clause-read : (g : Logged) → g ∈ s.log → clause_on p (logged_row g) ≡ yes (clause_of g)
  unfolding clause_on logged_row read_clause
  row-clause-read g m =
      let few : length (clause_of g) ≤ 8 = omega (arith, clause-length g, (logged-listable p limits budget v s ends g m).heads) in
      clause-back p (clause_of g) few (logged-limits p limits budget v s ends g m)

  -- together
  pub log-listed : map (clause_on p) (of_kind 6 (listing v s)) ≡ map (λ (g : Logged). yes (clause_of g)) s.log
  log-listed = ap (map (clause_on p)) logged-rows ∙ map-map (clause_on p) logged_row s.log ∙ map-alike _ _ s.log row-clause-read

  set-row : (l : Literal) → l ∈ settings v s → listed_row (set_line l) ≡ set_row l
  unfolding set_line set_row
  set-row l m =
      let w = table-limits p limits budget v s ends l (settings-in v s l m).0 in
      row_read (set_row l) (set-fit l (literal-listable p limits l w)) (each-cons NotMinusZero (plus-not-minus-zero 7) (literal-not-minus-zero p l w))

  -- its lines of kind 7 are those of the set literals, in table order
  set-rows : of_kind 7 (listing v s) ≡ map set_row (settings v s)
  unfolding listing_lines count_line logged_line logged_row is_kind set_row plus
  set-rows =
      let is_set : List Field → Bool = λ line. is_kind 7 (listed_row line) in
      kind-listed 7 v s
      ∙ ap (map listed_row) (kept-behind is_set (count_line v s) (map logged_line s.log) (map set_line (settings v s))
      (other-kind 7 5 _ (omega arith) (λ e. omega arith))
      (λ line m.
      let (g, k, e) = Memᴰ.of_map logged_line s.log m in
      subst (λ line. is_set line ≡ false) e (other-kind 7 6 _ (omega arith) (λ e. omega arith)))
      (λ line m.
      let (l, k, e) = Memᴰ.of_map set_line (settings v s) m in
      subst (λ line. is_set line ≡ true) e (ap (is_kind 7) (set-row l k))))
      ∙ map-map listed_row set_line (settings v s)
      ∙ map-alike _ _ (settings v s) set-row

  -- each reads as its literal
  pub settings-listed : listed_literals (listing v s) ≡ settings v s
  unfolding listed_literals
  settings-listed =
      ap (map literal_on) set-rows
      ∙ map-map literal_on set_row (settings v s)
      ∙ map-alike _ (λ l. l) (settings v s) (λ l m. set-row-read l)
      ∙ map-id (settings v s)
