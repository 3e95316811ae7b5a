-- The listing's length, line by line: every number fits its column, so a line is as long as its columns are wide.
-- And the answer stands in the second column: the first 8 bytes compute for every answer. Assumes nothing.
use Rattle.std.specs.Prelude.{ℕ, zero, suc, ◌+◌, ◌-◌, ◌*◌, ◌/◌, ◌%◌, ◌^◌, ◌≤◌, ◌<◌, ◌≡◌, refl, Bool, true, false, not, List, [], ◌∷◌, ◌++◌, map, ltb, length, get_or, take, drop, replicate}
use Rattle.std.proofs.Common.{sym, ◌∙◌, ap, subst, inl, inr, arith, pow-suc, length-append, ltb-false}
use mathlib.Core.List.Memᴰ
use Rattle.std.proofs.Math.Option.{Option, none, some}
use Rattle.std.proofs.lemmas.List.{length-map, length-replicate}
use Rattle.definitions.specs.Lists.{◌∈◌, joined, filter, list_of, lists_all}
use Rattle.definitions.specs.Words.{Atom, Literal, negate, plain, same_literal}
use Rattle.definitions.specs.Sheet.{Number, plus, number, decimal, sheet_all}
use Rattle.definitions.specs.Search.{State, Logged, clause_of, is_true}
use Rattle.definitions.specs.Listing.{Field, decimals, signed_decimals, right_justified, field_bytes, line_bytes, narrow, wide, answer_number, count_line, literal_numbers, logged_row, logged_line, set_line, set_literal, settings, listing_lines, listing, listing_all}
use Rattle.definitions.specs.declared.Verdict.{Verdict}
use Rattle.definitions.specs.declared.Verdict.TheVariants.{Unsat, Unknown, Spent, Full}
use Rattle.theory.specs.Tests.{by-test}
use Rattle.theory.specs.DistinctLaws.{distinct-length}
use Rattle.theory.specs.ListLaws.{filter-of, filter-in, filter-length, joined_of, joined_in, joined-append, joined_length, Each, each_nil, each-cons, each_append}
use Rattle.theory.specs.WordLaws.{as_plain, as-negated}

-- ── a column ──

-- the places of a column that are left for digits
unfoldable pub digit_room : Field → ℕ
digit_room f = elim f.number.negative [ true ↦ f.width - 1 | false ↦ f.width ]

-- the number has, with its sign, at most as many bytes as the column is wide; even 0 takes a digit
pub record FieldFits (f : Field) : Type 0 where
  pub some_digit : 1 ≤ digit_room f
  pub size : f.number.size < 10 ^ digit_room f

-- a number below 10 ^ k has at most k digits
pub decimals-length : (w n k : ℕ) → 1 ≤ k → n < 10 ^ k → length (decimals w n) ≤ k
unfolding decimals
decimals-length zero n k l h = omega arith
decimals-length (suc w) n zero l h = absurd (omega arith)
decimals-length (suc w) n (suc zero) l h =
    by-test (ltb n 10) (λ e. rw (e, decimals) (omega arith)) (λ e. absurd (omega (arith, ltb-false n 10 e)))
decimals-length (suc w) n (suc (suc k)) l h =
    by-test (ltb n 10)
    (λ e. rw (e, decimals) (omega arith))
    (λ e. let below = decimals-length w (n / 10) (suc k) (omega arith) (omega (arith, pow-suc 10 (suc k))) in
    rw (e, decimals) (omega (arith, length-append (decimals w (n / 10)) ((48 + n % 10) ∷ []), below)))

signed-length : (f : Field) → FieldFits f → length (signed_decimals f.width f.number) ≤ f.width
unfolding signed_decimals digit_room
signed-length f h =
    let digits = decimals-length f.width f.number.size (digit_room f) h.some_digit h.size in
    by-test f.number.negative
    (λ e. let room : digit_room f ≡ f.width - 1 = cc in rw (e, signed_decimals) (omega (arith, room, digits, h.some_digit)))
    (λ e. let room : digit_room f ≡ f.width = cc in rw (e, signed_decimals) (omega (arith, room, digits)))

-- a number that fits takes its column
pub field-fits-length : (f : Field) → FieldFits f → length (field_bytes f) ≡ f.width
unfolding field_bytes right_justified
field-fits-length f h =
    let bytes = signed_decimals f.width f.number in
    let blanks = f.width - length bytes in
    omega (arith, signed-length f h, length-append (replicate blanks 32) bytes, length-replicate {A = ℕ} blanks 32)

-- ── a line ──

-- the widths of the columns together
unfoldable pub total_width : List Field → ℕ
total_width [] = 0
total_width (f ∷ fs) = f.width + total_width fs

columns-length : (fs : List Field) → ((f : Field) → f ∈ fs → FieldFits f) → length (joined field_bytes fs) ≡ total_width fs
unfolding total_width joined
columns-length [] h = refl
columns-length (f ∷ fs) h =
    let first = field-fits-length f (h f (Memᴰ.head refl)) in
    let rest = columns-length fs (λ g m. h g (Memᴰ.tail m)) in
    omega (arith, length-append (field_bytes f) (joined field_bytes fs), first, rest)

pub line-length : (fs : List Field) → ((f : Field) → f ∈ fs → FieldFits f) → length (line_bytes fs) ≡ total_width fs + 1
unfolding line_bytes
line-length fs h = omega (arith, length-append (joined field_bytes fs) (10 ∷ []), columns-length fs h)

narrow-width : (ns : List Number) → total_width (map narrow ns) ≡ 4 * length ns
unfolding total_width narrow
narrow-width [] = refl
narrow-width (n ∷ ns) = omega (arith, narrow-width ns)

-- ── what is listed ──

-- a symbol fits its column with a minus too
pub record AtomListable (a : Atom) : Type 0 where
  pub symbol : a.symbol < 1000
  pub args : length a.args ≤ 3
  pub in_range : (c : ℕ) → c ∈ a.args → c < 10000

pub record LoggedListable (g : Logged) : Type 0 where
  pub rule : g.instance.rule < 10000
  pub heads : length g.instance.heads ≤ 3
  pub literal : (l : Literal) → l ∈ clause_of g → AtomListable l.atom

-- a state whose listing keeps its columns and its length
pub record Listable (s : State) : Type 0 where
  pub table : length s.table ≤ 256
  pub log : length s.log ≤ 512
  pub decisions : s.decisions < 10 ^ 12
  pub conflicts : s.conflicts < 10 ^ 12
  pub atoms : (a : Atom) → a ∈ s.table → AtomListable a
  pub clauses : (g : Logged) → g ∈ s.log → LoggedListable g
  pub settled : (a : Atom) → a ∈ s.table → is_true s.trail (plain a) ≡ true → is_true s.trail (negate (plain a)) ≡ true → ⊥

-- ── every number fits ──

-- a natural number of at most four digits fits a column
pub plus-fits : (n : ℕ) → n < 10000 → FieldFits (narrow (plus n))
unfolding narrow plus digit_room
plus-fits n h = record { some_digit = omega arith; size = h }

wide_fits : (n : ℕ) → n < 10 ^ 12 → FieldFits (wide n)
unfolding wide plus digit_room
wide_fits n h = record { some_digit = omega arith; size = h }

symbol-fits : (b : Bool) (n : ℕ) → n < 1000 → FieldFits (narrow (record { negative = b; size = n }))
unfolding narrow digit_room
symbol-fits true n h = record { some_digit = omega arith; size = h }
symbol-fits false n h = record { some_digit = omega arith; size = omega arith }

-- each of these columns fits
abbrev pub Fit : List Field → Type 0
Fit fs = Each FieldFits fs

literal-fit : (l : Literal) → AtomListable l.atom → Fit (map narrow (literal_numbers l))
unfolding literal_numbers
literal-fit l h =
    each-cons FieldFits (symbol-fits (not l.positive) l.atom.symbol h.symbol) (λ f m.
    let (n, k, e) = Memᴰ.of_map narrow (map plus l.atom.args) m in
    let (c, j, d) = Memᴰ.of_map plus l.atom.args k in
    subst FieldFits (ap narrow d ∙ e) (plus-fits c (h.in_range c j)))

literals-fit : (ls : List Literal) → ((l : Literal) → l ∈ ls → AtomListable l.atom) → Fit (map narrow (joined literal_numbers ls))
literals-fit ls h f m =
    let (n, k, e) = Memᴰ.of_map narrow (joined literal_numbers ls) m in
    let (l, i, j) = joined_in literal_numbers ls n k in
    subst FieldFits e (literal-fit l (h l i) (narrow n) (Memᴰ.map narrow j))

answer-small : (v : Verdict) → answer_number v < 10000
unfolding answer_number
answer-small Unsat = omega arith
answer-small Unknown = omega arith
answer-small Spent = omega arith
answer-small Full = omega arith

count-fit : (v : Verdict) (s : State) → Listable s → Fit (count_line v s)
unfolding count_line
count-fit v s h =
    each-cons FieldFits (plus-fits 5 (omega arith)) (
    each-cons FieldFits (plus-fits (answer_number v) (answer-small v)) (
    each-cons FieldFits (plus-fits (length s.table) (omega (arith, h.table))) (
    each-cons FieldFits (plus-fits (length s.log) (omega (arith, h.log))) (
    each-cons FieldFits (wide_fits s.decisions h.decisions) (
    each-cons FieldFits (wide_fits s.conflicts h.conflicts) (each_nil FieldFits))))))

taken-length : (o : Option Literal) → length (list_of o) ≤ 1
unfolding list_of
taken-length none = omega arith
taken-length (some l) = omega arith

-- the negated heads and at most one body literal
pub clause-length : (g : Logged) → length (clause_of g) ≤ length g.instance.heads + 1
unfolding clause_of
clause-length g =
    let heads = map negate g.instance.heads in
    let taken = list_of g.taken in
    let both = length-append heads taken in
    omega (arith, distinct-length same_literal (heads ++ taken), both, length-map g.instance.heads negate, taken-length g.taken)

-- each number of a logged clause's line fits its column
pub logged-fit : (g : Logged) → LoggedListable g → Fit (logged_line g)
unfolding logged_line logged_row
logged-fit g h =
    each-cons FieldFits (plus-fits 6 (omega arith)) (
    each-cons FieldFits (plus-fits g.instance.rule h.rule) (
    each-cons FieldFits (plus-fits (length (clause_of g)) (omega (arith, clause-length g, h.heads))) (
    literals-fit (clause_of g) h.literal)))

-- and of a set literal's line
pub set-fit : (l : Literal) → AtomListable l.atom → Fit (set_line l)
unfolding set_line
set-fit l h = each-cons FieldFits (plus-fits 7 (omega arith)) (literal-fit l h)

-- what is listed as set is true, and of an atom of the table
pub settings-in : (v : Verdict) (s : State) (l : Literal) → l ∈ settings v s → (l.atom ∈ s.table) × (is_true s.trail l ≡ true)
unfolding settings set_literal negate plain
settings-in Unsat s l m = absurd (Memᴰ.not-nil m)
settings-in Unknown s l m =
    let (a, k, j) = joined_in (set_literal s) s.table l m in
    let (i, h) = filter-in (is_true s.trail) (plain a ∷ negate (plain a) ∷ []) l j in
    let e : l.atom ≡ a = elim (Memᴰ.cases_cons i) [
      | inl q ↦ ap (λ x. x.atom) q
      | inr n ↦ ap (λ x. x.atom) (Memᴰ.eq_of_singleton n)
    ] in
    (rw e k, h)
settings-in Spent s l m = absurd (Memᴰ.not-nil m)
settings-in Full s l m = absurd (Memᴰ.not-nil m)

-- and all that is
pub in-settings : (s : State) (l : Literal) → l.atom ∈ s.table → is_true s.trail l ≡ true → l ∈ settings Unknown s
unfolding settings set_literal
in-settings s l m h =
    joined_of (set_literal s) s.table l.atom l m (filter-of (is_true s.trail) _ l (
    by-test l.positive (λ e. Memᴰ.head (as_plain l e)) (λ e. Memᴰ.tail (Memᴰ.head (as-negated l e)))) h)

set-listable : (v : Verdict) (s : State) → Listable s → (l : Literal) → l ∈ settings v s → AtomListable l.atom
set-listable v s h l m = h.atoms l.atom (settings-in v s l m).0

logged-lines-fit : (s : State) → Listable s → Each Fit (map logged_line s.log)
logged-lines-fit s h line m =
    let (g, k, e) = Memᴰ.of_map logged_line s.log m in
    subst Fit e (logged-fit g (h.clauses g k))

set-lines-fit : (v : Verdict) (s : State) → Listable s → Each Fit (map set_line (settings v s))
set-lines-fit v s h line m =
    let (l, k, e) = Memᴰ.of_map set_line (settings v s) m in
    subst Fit e (set-fit l (set-listable v s h l k))

pub listing-fits : (v : Verdict) (s : State) → Listable s → (line : List Field) → line ∈ listing_lines v s → (f : Field) → f ∈ line → FieldFits f
unfolding listing_lines
listing-fits v s h =
    each-cons Fit (count-fit v s h) (each_append Fit (map logged_line s.log) (logged-lines-fit s h) (set-lines-fit v s h))

-- ── the length ──

literal-length : (l : Literal) → AtomListable l.atom → length (literal_numbers l) ≤ 4
unfolding literal_numbers
literal-length l h = omega (arith, length-map l.atom.args plus, h.args)

count-length : (v : Verdict) (s : State) → Listable s → length (line_bytes (count_line v s)) ≡ 41
unfolding count_line total_width narrow wide
count-length v s h = line-length (count_line v s) (count-fit v s h)

-- a rule number, a count, and at most 4 literals with at most 4 numbers each
logged-length : (g : Logged) → LoggedListable g → length (line_bytes (logged_line g)) ≤ 77
unfolding logged_line logged_row
logged-length g h =
    let numbers = joined literal_numbers (clause_of g) in
    let columns = narrow-width (logged_row g) in
    let few = joined_length literal_numbers 4 (clause_of g) (λ l m. literal-length l (h.literal l m)) in
    omega (arith, line-length (logged_line g) (logged-fit g h), columns, few, clause-length g, h.heads)

set-length : (l : Literal) → AtomListable l.atom → length (line_bytes (set_line l)) ≤ 21
unfolding set_line
set-length l h =
    omega (arith, line-length (set_line l) (set-fit l h), narrow-width (plus 7 ∷ literal_numbers l), literal-length l h)

-- an atom has at most one line, since it isn't set both ways
atom-settings : (s : State) → Listable s → (a : Atom) → a ∈ s.table → length (set_literal s a) ≤ 1
unfolding set_literal filter
atom-settings s h a m =
    by-test (is_true s.trail (plain a))
    (λ p. by-test (is_true s.trail (negate (plain a))) (λ q. absurd (h.settled a m p q)) (λ q. rw (p, q, set_literal, filter) (omega arith)))
    (λ p. rw (p, set_literal, filter) (filter-length (is_true s.trail) (negate (plain a) ∷ [])))

settings-length : (v : Verdict) (s : State) → Listable s → length (settings v s) ≤ 256
unfolding settings
settings-length Unsat s h = omega arith
settings-length Unknown s h = omega (arith, joined_length (set_literal s) 1 s.table (atom-settings s h), h.table)
settings-length Spent s h = omega arith
settings-length Full s h = omega arith

logged-lines-length : (s : State) → Listable s → length (joined line_bytes (map logged_line s.log)) ≤ 77 * 512
logged-lines-length s h =
    let each : Each (λ line. length (line_bytes line) ≤ 77) (map logged_line s.log) = λ line m.
    let (g, k, e) = Memᴰ.of_map logged_line s.log m in
    subst (λ x. length (line_bytes x) ≤ 77) e (logged-length g (h.clauses g k)) in
    omega (arith, joined_length line_bytes 77 (map logged_line s.log) each, length-map s.log logged_line, h.log)

set-lines-length : (v : Verdict) (s : State) → Listable s → length (joined line_bytes (map set_line (settings v s))) ≤ 21 * 256
set-lines-length v s h =
    let each : Each (λ line. length (line_bytes line) ≤ 21) (map set_line (settings v s)) = λ line m.
    let (l, k, e) = Memᴰ.of_map set_line (settings v s) m in
    subst (λ x. length (line_bytes x) ≤ 21) e (set-length l (set-listable v s h l k)) in
    omega (arith, joined_length line_bytes 21 (map set_line (settings v s)) each, length-map (settings v s) set_line, settings-length v s h)

-- 41 + 77 * 512 + 21 * 256
pub listing-length : (v : Verdict) (s : State) → Listable s → length (listing v s) ≤ 44841
unfolding listing listing_lines joined
listing-length v s h =
    let logged = map logged_line s.log in
    let set = map set_line (settings v s) in
    let rest = length-append (line_bytes (count_line v s)) (joined line_bytes (logged ++ set)) in
    let parts = ap length (joined-append line_bytes logged set) ∙ length-append (joined line_bytes logged) (joined line_bytes set) in
    omega (arith, rest, parts, count-length v s h, logged-lines-length s h, set-lines-length v s h)

-- ── the answer ──

-- the second column holds the answer's number, whatever the state
pub answer-listed : (v : Verdict) (s : State) → decimal (take 4 (drop 4 (listing v s))) ≡ number (plus (answer_number v))
unfolding lists_all sheet_all listing_all
answer-listed Unsat s = refl
answer-listed Unknown s = refl
answer-listed Spent s = refl
answer-listed Full s = refl

verdict_of : ℕ → Verdict
verdict_of zero = Unsat
verdict_of (suc zero) = Unknown
verdict_of (suc (suc zero)) = Spent
verdict_of (suc (suc (suc n))) = Full

verdict_of-number : (v : Verdict) → verdict_of (answer_number v) ≡ v
unfolding verdict_of answer_number
verdict_of-number Unsat = refl
verdict_of-number Unknown = refl
verdict_of-number Spent = refl
verdict_of-number Full = refl

pub answer_number-injective : (v w : Verdict) → answer_number v ≡ answer_number w → v ≡ w
answer_number-injective v w e = sym (verdict_of-number v) ∙ ap verdict_of e ∙ verdict_of-number w

pub listed_answer : (v w : Verdict) (s : State) → decimal (take 4 (drop 4 (listing v s))) ≡ number (plus (answer_number w)) → v ≡ w
unfolding plus
listed_answer v w s e =
    let same : number (plus (answer_number v)) ≡ number (plus (answer_number w)) = sym (answer-listed v s) ∙ e in
    let q : plus (answer_number v) ≡ plus (answer_number w) = cc in
    answer_number-injective v w (ap (λ n. n.size) q)

-- the eighth byte is its digit, and tells the answer too
answer-byte : (v : Verdict) (s : State) → get_or (take 8 (listing v s)) 7 0 ≡ 48 + answer_number v
unfolding lists_all sheet_all listing_all
answer-byte Unsat s = refl
answer-byte Unknown s = refl
answer-byte Spent s = refl
answer-byte Full s = refl

pub listing_begins : (v w : Verdict) (s : State) (begin : List ℕ) → take 8 (listing v s) ≡ begin → get_or begin 7 0 ≡ 48 + answer_number w → v ≡ w
listing_begins v w s begin h e = answer_number-injective v w (omega (arith, answer-byte v s, ap (λ (bs : List ℕ). get_or bs 7 0) h, e))
