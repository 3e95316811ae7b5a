-- What an accepted walk over a sheet, a line and its columns says, and a refused one of its questions; and that it accepts the same with
-- more constants and more symbols. Assumes nothing.
use Prim.Native.Nat.{ℕ, zero, suc, ◌-◌, ◌%◌, ◌≤◌, ◌<◌}
use Rattle.std.specs.Prelude.{◌≡◌, refl, ◌⊎◌, Bool, not, ◌&&◌, ◌||◌, eqb, length, get_or, drop}
use Rattle.std.proofs.Common.{ap, subst, ◌∙◌, inl, inr, arith, length-append}
use Rattle.std.proofs.Math.Bool.{true, false}
use mathlib.Core.List.{List, [], ◌∷◌, ◌++◌}
use Rattle.std.proofs.Math.Dec.{leb}
use Rattle.std.proofs.Math.ListN.{get_or-append}
use borrow.Author.Tests.{eqb-true, eqb-false, leb-true, le-leb, not-true}
use Rattle.definitions.specs.Lists.{is_empty}
use Rattle.definitions.specs.Bounds.{sheet_bytes, longest_line}
use Rattle.definitions.specs.Words.{constant, Rule, TwoWay, RuleLine, one_way, two_way, Problem}
use Rattle.definitions.specs.Sheet.{lines, Number, plus}
use Rattle.definitions.specs.Questions.{Asked, no, yes, ◌>>=◌, ◌>>◌, ask, Parsed, within, count, rank, kind_of, rule_argument, clause_argument, arguments, literal, literals, pattern_of, literal_of, patterns, clause_literals, rule_counts, rule_behind, two_way_counts, two_way_behind, clause_behind, read_clause, good_length, accepted, read_lines, empty_draft, read}
use Rattle.definitions.specs.Sheets.{Row, is_kind}
use Rattle.theory.specs.Tests.{by-test, apart, and_left, and_right, and_intro}

-- ── every question of an accepted chain is answered yes ──

pub no≢yes : {A : Type 0} {q : ℕ} {a : A} {C : Type 0} → ◌≡◌ {A = Asked A} (no q) (yes a) → C
no≢yes e = apart (cc)

pub yes-injective : {A : Type 0} {a b : A} → ◌≡◌ {A = Asked A} (yes a) (yes b) → a ≡ b
yes-injective e = cc

pub by-asked : {A : Type 0} (m : Asked A) {C : Type 0} → ((q : ℕ) → m ≡ no q → C) → ((a : A) → m ≡ yes a → C) → C
by-asked (no q) n y = n q refl
by-asked (yes a) n y = y a refl

pub bind-yes : {A B : Type 0} (m : Asked A) (f : A → Asked B) (b : B) → (m >>= f) ≡ yes b → (a : A) × (m ≡ yes a) × (f a ≡ yes b)
unfolding ◌>>=◌
bind-yes (no q) f b e = no≢yes e
bind-yes (yes a) f b e = (a, refl, e)

pub ask-yes : {A : Type 0} (q : ℕ) (t : Bool) (m : Asked A) (a : A) → (ask q t >> m) ≡ yes a → (t ≡ true) × (m ≡ yes a)
unfolding ◌>>◌ ask
ask-yes q true m a e = (refl, e)
ask-yes q false m a e = no≢yes e

-- and a chain of answers yes is accepted
pub yes-bind : {A B : Type 0} (m : Asked A) (f : A → Asked B) (a : A) (b : B) → m ≡ yes a → f a ≡ yes b → (m >>= f) ≡ yes b
unfolding ◌>>=◌
yes-bind m f a b e h = cc

pub yes-ask : {A : Type 0} (q : ℕ) (t : Bool) (m : Asked A) (a : A) → t ≡ true → m ≡ yes a → (ask q t >> m) ≡ yes a
unfolding ◌>>◌ ask
yes-ask q t m a e h = cc

-- ── a question of a refused chain is answered no ──

pub bind-no : {A B : Type 0} (m : Asked A) (f : A → Asked B) (q : ℕ) → (m >>= f) ≡ no q → (m ≡ no q) ⊎ ((a : A) × (m ≡ yes a) × (f a ≡ no q))
unfolding ◌>>=◌
bind-no (no p) f q e = inl (cc)
bind-no (yes a) f q e = inr (a, refl, e)

pub ask-no : {A : Type 0} (q : ℕ) (t : Bool) (m : Asked A) (r : ℕ) → (ask q t >> m) ≡ no r → ((t ≡ false) × (r ≡ q)) ⊎ (m ≡ no r)
unfolding ◌>>◌ ask
ask-no q true m r e = inr e
ask-no q false m r e = inl (refl, (cc))

-- what holds of whatever number a chain is refused with
abbrev pub Refuses : {A : Type 0} → (ℕ → Type 0) → Asked A → Type 0
Refuses P m = (q : ℕ) → m ≡ no q → P q

module _ {A : Type 0} (P : ℕ → Type 0) where
  pub refuses-no : (q : ℕ) → P q → Refuses {A = A} P (no q)
  refuses-no q h r e = let same : q ≡ r = cc in subst P same h

  pub refuses-yes : (a : A) → Refuses P (yes a)
  refuses-yes a r e = apart (cc)

  pub refuses-ask : (q : ℕ) (t : Bool) (m : Asked A) → P q → Refuses P m → Refuses P (ask q t >> m)
  unfolding ◌>>◌ ask
  refuses-ask q true m p h = h
  refuses-ask q false m p h = refuses-no q p

  pub refuses-bind : {B : Type 0} (m : Asked B) (f : B → Asked A) → Refuses P m → ((b : B) → Refuses P (f b)) → Refuses P (m >>= f)
  unfolding ◌>>=◌
  refuses-bind (no p) f h g r e = h r (cc)
  refuses-bind (yes b) f h g r e = g b r e

-- ── a sheet, a line, a column ──

-- an accepted sheet is not too long and not empty, and its lines are accepted
pub accepted-read : (sheet : List ℕ) (p : Problem) → read sheet ≡ accepted p
    → (length sheet ≤ sheet_bytes) × (is_empty sheet ≡ false) × (read_lines empty_draft 1 (lines sheet) ≡ accepted p)
unfolding read
accepted-read sheet p e =
    by-test (leb (length sheet) sheet_bytes)
    (λ short. by-test (is_empty sheet) (λ empty. apart (cc)) (λ full. (leb-true (length sheet) sheet_bytes short, full, (cc))))
    (λ long. apart (cc))

-- what question 5 says of a length
pub good_length_lem : (n : ℕ) → good_length n ≡ true → (4 ≤ n) × (n ≤ longest_line) × (n % 4 ≡ 0)
unfolding good_length
good_length_lem n good =
    let between = and_left (leb 4 n && leb n longest_line) _ good in
    let whole = and_right (leb 4 n && leb n longest_line) _ good in
    (leb-true 4 n (and_left (leb 4 n) _ between), leb-true n longest_line (and_right (leb 4 n) _ between), eqb-true (n % 4) 0 whole)

-- ranks: 3 for kind 8, the kind for any other
pub rank-8 : (k : ℕ) → ((k ≡ 8) × (rank k ≡ 3)) ⊎ ((k ≡ 8 → ⊥) × (rank k ≡ k))
unfolding rank
rank-8 k = by-test (eqb k 8) (λ e. inl (eqb-true k 8 e, rw (e, rank))) (λ e. inr (eqb-false k 8 e, rw (e, rank)))

-- a line of kind 2 follows none of a later kind
pub early-kind : (before k : ℕ) → rank before ≤ rank k → k ≤ 2 → before ≤ 2
early-kind before k h l =
    elim (rank-8 before) [
      | inl x ↦ elim (rank-8 k) [ inl y ↦ omega arith | inr y ↦ absurd (omega (arith, x.1, y.1)) ]
      | inr x ↦ elim (rank-8 k) [ inl y ↦ omega arith | inr y ↦ omega (arith, x.1, y.1) ]
    ]

-- no column is no kind
pub kind-of-none : (before : ℕ) → kind_of before [] ≡ no 7
unfolding kind_of count ◌>>=◌
kind-of-none zero = refl
kind-of-none (suc before) = refl

-- ── a column that holds a count ──

-- the column is the first one, and its number is what was found
pub record CountColumn (low high : ℕ) (ns : List Number) (w : Parsed ℕ) : Type 0 where
  pub column : Number
  pub split : ns ≡ column ∷ w.left
  pub size : column.size ≡ w.found
  pub sign : column.negative ≡ false
  pub least : low ≤ w.found
  pub most : w.found ≤ high

pub count_yes : (q low high : ℕ) (ns : List Number) (w : Parsed ℕ) → count q low high ns ≡ yes w → CountColumn low high ns w
unfolding count within
count_yes q low high [] w e = no≢yes e
count_yes q low high (n ∷ ns) w e =
    let (t, f) = ask-yes q (within low high n) _ w e in
    let same = yes-injective f in
    let size : n.size ≡ w.found = ap (λ (v : Parsed ℕ). v.found) same in
    let left : ns ≡ w.left = ap (λ (v : Parsed ℕ). v.left) same in
    let inner : (not n.negative && leb low n.size) ≡ true = and_left (not n.negative && leb low n.size) (leb n.size high) t in
    let l = leb-true low n.size (and_right (not n.negative) (leb low n.size) inner) in
    let m = leb-true n.size high (and_right (not n.negative && leb low n.size) (leb n.size high) t) in
    record {
      column = n;
      split = cc;
      size = size;
      sign = not-true n.negative (and_left (not n.negative) (leb low n.size) inner);
      least = rw size at l;
      most = rw size at m;
    }

-- the first column is that number, without a minus
plus-of : (n : Number) → n.negative ≡ false → n ≡ plus n.size
unfolding plus
plus-of n e = rw (← e) refl

count-column : (q low high : ℕ) (ns : List Number) (w : Parsed ℕ) → count q low high ns ≡ yes w → ns ≡ plus w.found ∷ w.left
count-column q low high ns w e =
    let c = count_yes q low high ns w e in
    c.split ∙ ap (λ (n : Number). n ∷ w.left) (plus-of c.column c.sign ∙ ap plus c.size)

-- the kind is the first filled column
pub kind-first : (before : ℕ) (ns : List Number) (k : Parsed ℕ) → kind_of before ns ≡ yes k → ns ≡ plus k.found ∷ k.left
unfolding kind_of
kind-first zero ns k e = count-column 7 1 1 ns k e
kind-first (suc before) ns k e =
    let (j, c, f) = bind-yes (count 7 2 8 ns) _ k e in
    let (_, same) = ask-yes 7 (leb (rank j.found) 4 && leb (rank (suc before)) (rank j.found)) _ k f in
    count-column 7 2 8 ns k (c ∙ same)

-- ── more constants and more symbols ──

-- whatever the first accepts, the second accepts with the same value
abbrev pub Accepts : {A : Type 0} → Asked A → Asked A → Type 0
Accepts {A} m m' = (a : A) → m ≡ yes a → m' ≡ yes a

module _ {A B : Type 0} {m m' : Asked A} {f f' : A → Asked B} where
  bind-accepts : Accepts m m' → ((a : A) → Accepts (f a) (f' a)) → Accepts (m >>= f) (m' >>= f')
  bind-accepts first then b e = let (a, p, h) = bind-yes m f b e in yes-bind m' f' a b (first a p) (then a b h)

module _ {A : Type 0} (q : ℕ) {t t' : Bool} {m m' : Asked A} where
  ask-accepts : (t ≡ true → t' ≡ true) → (t ≡ true → Accepts m m') → Accepts (ask q t >> m) (ask q t' >> m')
  ask-accepts first then a e = let (p, h) = ask-yes q t m a e in yes-ask q t' m' a (first p) (then p a h)

module _ {A : Type 0} (f g : Number → Asked A) (accepts : (n : Number) → Accepts (f n) (g n)) where
  arguments-accepts : (k : ℕ) (ns : List Number) → Accepts (arguments f k ns) (arguments g k ns)
  unfolding arguments
  arguments-accepts zero ns = λ w e. e
  arguments-accepts (suc k) [] = λ w e. no≢yes e
  arguments-accepts (suc k) (n ∷ ns) = bind-accepts (accepts n) (λ a. bind-accepts (arguments-accepts k ns) (λ w v e. e))

  -- the symbols of the first list have the same arities in the longer one
  module _ {L : Type 0} (make : Bool → ℕ → List A → L) (arities more : List ℕ) where
    literal-accepts : (ns : List Number) → Accepts (literal f make arities ns) (literal g make (arities ++ more) ns)
    unfolding literal
    literal-accepts [] = λ w e. no≢yes e
    literal-accepts (n ∷ ns) = ask-accepts 10 declared (λ t. bind-accepts (same t) (λ w v e. e))
      where
        least : (leb 1 n.size && leb n.size (length arities)) ≡ true → 1 ≤ n.size
        least t = leb-true 1 n.size (and_left (leb 1 n.size) (leb n.size (length arities)) t)

        most : (leb 1 n.size && leb n.size (length arities)) ≡ true → n.size ≤ length arities
        most t = leb-true n.size (length arities) (and_right (leb 1 n.size) (leb n.size (length arities)) t)

        declared : (leb 1 n.size && leb n.size (length arities)) ≡ true → (leb 1 n.size && leb n.size (length (arities ++ more))) ≡ true
        declared t =
            and_intro (leb 1 n.size) (leb n.size (length (arities ++ more)))
            (le-leb 1 n.size (least t))
            (le-leb n.size (length (arities ++ more)) (omega (arith, most t, length-append arities more)))

        same : (leb 1 n.size && leb n.size (length arities)) ≡ true
            → Accepts (arguments f (get_or arities (n.size - 1) 0) ns) (arguments g (get_or (arities ++ more) (n.size - 1) 0) ns)
        same t =
            let below : n.size - 1 < length arities = omega (arith, least t, most t) in
            rw (get_or-append arities more 0 (n.size - 1) below) (arguments-accepts (get_or arities (n.size - 1) 0) ns)

    literals-accepts : (k : ℕ) (ns : List Number) → Accepts (literals f make arities k ns) (literals g make (arities ++ more) k ns)
    unfolding literals
    literals-accepts zero ns = λ w e. e
    literals-accepts (suc k) ns = bind-accepts (literal-accepts ns) (λ l. bind-accepts (literals-accepts k l.left) (λ w v e. e))

-- ── rules and clauses ──

leb-accepts : (s c d : ℕ) → c ≤ d → leb s c ≡ true → leb s d ≡ true
leb-accepts s c d h t = le-leb s d (omega (arith, h, leb-true s c t))

and-accepts : (a b c : Bool) → (b ≡ true → c ≡ true) → (a && b) ≡ true → (a && c) ≡ true
and-accepts a b c h t = and_intro a c (and_left a b t) (h (and_right a b t))

rule_argument-accepts : (c d : ℕ) → c ≤ d → (n : Number) → Accepts (rule_argument c n) (rule_argument d n)
unfolding rule_argument
rule_argument-accepts c d h n a e =
    by-test n.negative
    (λ s.
    let old : (ask 10 (leb 1 n.size && leb n.size c) >> yes (constant n.size)) ≡ yes a = cc in
    cc (ask-accepts 10 (and-accepts (leb 1 n.size) (leb n.size c) (leb n.size d) (leb-accepts n.size c d h)) (λ t a e. e) a old))
    (λ s. cc)

clause_argument-accepts : (c d : ℕ) → c ≤ d → (n : Number) → Accepts (clause_argument c n) (clause_argument d n)
unfolding clause_argument within
clause_argument-accepts c d h n =
    ask-accepts 10
    (and-accepts (not n.negative && leb 1 n.size) (leb n.size c) (leb n.size d) (leb-accepts n.size c d h))
    (λ t a e. e)

-- the rule, the two-way rule and the clause of the columns behind the kind, without question 9
unfoldable pub read_rule : ℕ → List ℕ → List Number → Asked Rule
read_rule constants arities ns = rule_counts ns >>= rule_behind constants arities

unfoldable pub read_two_way : ℕ → List ℕ → List Number → Asked TwoWay
read_two_way constants arities ns = two_way_counts ns >>= two_way_behind constants arities

-- a row of kind 3 or 8, its kind included
unfoldable pub is_rule_row : Row → Bool
is_rule_row r = is_kind 3 r || is_kind 8 r

unfoldable pub read_rule_line : ℕ → List ℕ → Row → Asked RuleLine
read_rule_line constants arities row =
    elim (is_kind 3 row) [
      | true ↦ read_rule constants arities (drop 1 row) >>= λ r. yes (one_way r)
      | false ↦ read_two_way constants arities (drop 1 row) >>= λ t. yes (two_way t)
    ]

-- a line reads the same with more constants and with more symbols behind those that there are
module _ (constants more : ℕ) (arities others : List ℕ) (h : constants ≤ more) where
  patterns-accepts : (k : ℕ) (ns : List Number) → Accepts (patterns constants arities k ns) (patterns more (arities ++ others) k ns)
  unfolding patterns
  patterns-accepts = literals-accepts (rule_argument constants) (rule_argument more) (rule_argument-accepts constants more h) pattern_of arities others

  pub read_rule-accepts : (ns : List Number) → Accepts (read_rule constants arities ns) (read_rule more (arities ++ others) ns)
  unfolding read_rule rule_behind
  read_rule-accepts ns =
      bind-accepts (λ w e. e)
      (λ counts. bind-accepts (patterns-accepts counts.found.heads counts.left)
      (λ heads. bind-accepts (patterns-accepts counts.found.body heads.left) (λ body r e. e)))

  pub read_two_way-accepts : (ns : List Number) → Accepts (read_two_way constants arities ns) (read_two_way more (arities ++ others) ns)
  unfolding read_two_way two_way_behind
  read_two_way-accepts ns =
      bind-accepts (λ w e. e)
      (λ counts. bind-accepts (patterns-accepts counts.found.kept counts.left)
      (λ kept. bind-accepts (patterns-accepts counts.found.rewritten kept.left)
      (λ rewritten. bind-accepts (patterns-accepts counts.found.body rewritten.left) (λ body t e. e))))

  pub read_rule_line-accepts : (row : Row) → Accepts (read_rule_line constants arities row) (read_rule_line more (arities ++ others) row)
  unfolding read_rule_line
  read_rule_line-accepts row =
      by-test (is_kind 3 row)
      (λ k. rw (k, read_rule_line) (bind-accepts (read_rule-accepts (drop 1 row)) (λ r l e. e)))
      (λ k. rw (k, read_rule_line) (bind-accepts (read_two_way-accepts (drop 1 row)) (λ t l e. e)))

  pub read_clause-accepts : (ns : List Number) → Accepts (read_clause constants arities ns) (read_clause more (arities ++ others) ns)
  unfolding read_clause clause_behind
  read_clause-accepts ns =
      bind-accepts (λ w e. e)
      (λ literal_count. bind-accepts (walk literal_count.found literal_count.left) (λ c r e. e))
    where
      walk : (k : ℕ) (ns : List Number) → Accepts (clause_literals constants arities k ns) (clause_literals more (arities ++ others) k ns)
      walk = unfold clause_literals in literals-accepts (clause_argument constants) (clause_argument more) (clause_argument-accepts constants more h) literal_of arities others
