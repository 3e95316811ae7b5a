-- Laws of the literals of a line: how a walk over them splits, what it finds and leaves, and what their slots say. Assumes nothing.
use Prim.Native.Nat.{ℕ, zero, suc, ◌+◌, ◌-◌, ◌≤◌}
use Rattle.std.specs.Prelude.{◌≡◌, Bool, not, ◌&&◌, get_or, drop}
use Rattle.std.proofs.Math.Path.{refl, sym, ap, subst}
use Rattle.std.proofs.Common.{◌∙◌, length-drop, drop-drop}
use Rattle.std.proofs.Math.Bool.{true, false}
use mathlib.Core.List.{List, [], ◌∷◌, ◌++◌, map, append_assoc}
use native.Mathlib.Omega.{arith}
use Rattle.std.proofs.Math.Dec.{leb}
use Rattle.std.proofs.Math.ListN.{length}
use Rattle.definitions.specs.Words.{Term, variable, constant, Pattern}
use Rattle.definitions.specs.Instances.{term_value, ground}
use Rattle.definitions.specs.Sheet.{Number}
use Rattle.definitions.specs.Questions.{Asked, no, yes, ◌>>=◌, ◌>>◌, ask, Parsed, within, rule_argument, clause_argument, arguments, literal, literals, pattern_of, literal_of, clause_literals}
use Rattle.theory.specs.Tests.{by-test, apart, true-and-false}
use Rattle.theory.specs.ListLaws.{Each, each_nil, each-cons}
use Rattle.theory.specs.AskedLaws.{no≢yes, yes-injective, by-asked, bind-yes, ask-yes}
use Rattle.theory.specs.Limits.{between, within-between}
use Rattle.literals.specs.SlotReads.{argument}
use Rattle.encoding.specs.SlotLaws.{WordTells, InSlot}

-- ── a walk in two parts ──

-- a walk with something found in front of it
unfoldable pub prefixed : {A : Type 0} → List A → Asked (Parsed (List A)) → Asked (Parsed (List A))
prefixed xs (no q) = no q
prefixed xs (yes w) = yes (record { found = xs ++ w.found; left = w.left })

pub prefixed-nil : {A : Type 0} (m : Asked (Parsed (List A))) → prefixed [] m ≡ m
unfolding prefixed
prefixed-nil (no q) = refl
prefixed-nil (yes w) = refl

pub prefixed-twice : {A : Type 0} (xs ys : List A) (m : Asked (Parsed (List A))) → prefixed xs (prefixed ys m) ≡ prefixed (xs ++ ys) m
unfolding prefixed
prefixed-twice xs ys (no q) = refl
prefixed-twice xs ys (yes w) = rw append_assoc

module _ {A L : Type 0} (argument : Number → Asked A) (make : Bool → ℕ → List A → L) (arities : List ℕ) where
  abbrev walk : ℕ → List Number → Asked (Parsed (List L))
  walk = literals argument make arities

  pub literals-split : (h b : ℕ) (ns : List Number)
      → literals argument make arities (h + b) ns
      ≡ (literals argument make arities h ns >>= λ u.
      literals argument make arities b u.left >>= λ w.
      yes (record { found = u.found ++ w.found; left = w.left }))
  unfolding literals ◌>>=◌
  literals-split zero b ns = let e : 0 + b ≡ b = omega arith in rw e (by-asked (walk b ns) (λ q f. cc) (λ w f. cc))
  literals-split (suc h) b ns =
      let e : suc h + b ≡ suc (h + b) = omega arith in
      rw e
      (by-asked (literal argument make arities ns)
      (λ q f. cc)
      (λ l f.
      let ih = literals-split h b l.left in
      by-asked (walk h l.left)
      (λ q g. cc)
      (λ u g. by-asked (walk b u.left) (λ q k. cc) (λ w k. cc))))

-- ── what a walk finds and leaves ──

-- the columns that are left when so many are passed
pub record RestAfter (passed : ℕ) (ns left : List Number) : Type 0 where
  pub enough : passed ≤ length ns
  pub rest : left ≡ drop passed ns

pub rest-length : (k : ℕ) (ns left : List Number) → RestAfter k ns left → k + length left ≡ length ns
rest-length k ns left r = omega (arith, r.enough, ap length r.rest, length-drop k ns)

rest_more : (j k : ℕ) (ms ns left : List Number) → RestAfter j ms ns → RestAfter k ns left → RestAfter (j + k) ms left
rest_more j k ms ns left f g =
    record {
      enough = omega (arith, g.enough, rest-length j ms ns f);
      rest = g.rest ∙ rw (f.rest, drop-drop);
    }

module _ {A : Type 0} (argument : Number → Asked A) where
  pub arguments-length : (k : ℕ) (ns : List Number) (w : Parsed (List A)) → arguments argument k ns ≡ yes w → length w.found ≡ k
  unfolding arguments
  arguments-length zero ns w e = ap (λ v. length v.found) (sym (yes-injective e))
  arguments-length (suc k) [] w e = no≢yes e
  arguments-length (suc k) (n ∷ ns) w e =
      let (a, p, f) = bind-yes (argument n) _ w e in
      let (v, r, g) = bind-yes (arguments argument k ns) _ w f in
      sym (ap (λ u. length u.found) (yes-injective g)) ∙ ap suc (arguments-length k ns v r)

  pub arguments-rest : (k : ℕ) (ns : List Number) (w : Parsed (List A)) → arguments argument k ns ≡ yes w → RestAfter k ns w.left
  unfolding arguments
  arguments-rest zero ns w e = record { enough = omega arith; rest = ap (λ v. v.left) (sym (yes-injective e)) }
  arguments-rest (suc k) [] w e = no≢yes e
  arguments-rest (suc k) (n ∷ ns) w e =
      let (a, p, f) = bind-yes (argument n) _ w e in
      let (v, r, g) = bind-yes (arguments argument k ns) _ w f in
      let h = arguments-rest k ns v r in
      record { enough = omega (arith, h.enough); rest = sym (ap (λ u. u.left) (yes-injective g)) ∙ h.rest }

module _ {A L : Type 0} (argument : Number → Asked A) (make : Bool → ℕ → List A → L) (arities : List ℕ) where
  -- a literal that is read: its own column, and its arguments behind it
  pub record LiteralRead (ns : List Number) (w : Parsed L) : Type 0 where
    pub column : Number
    pub behind : List Number
    pub split : ns ≡ column ∷ behind
    pub some : 1 ≤ column.size
    pub declared : column.size ≤ length arities
    pub args : Parsed (List A)
    pub read : arguments argument (get_or arities (column.size - 1) 0) behind ≡ yes args
    pub found : w.found ≡ make (not column.negative) column.size args.found
    pub left : w.left ≡ args.left

  pub literal-read : (ns : List Number) (w : Parsed L) → literal argument make arities ns ≡ yes w → LiteralRead ns w
  unfolding literal
  literal-read [] w e = no≢yes e
  literal-read (n ∷ ns) w e =
      let (t, f) = ask-yes 10 (leb 1 n.size && leb n.size (length arities)) _ w e in
      let (v, r, g) = bind-yes (arguments argument (get_or arities (n.size - 1) 0) ns) _ w f in
      let same = sym (yes-injective g) in
      let (some, declared) = between 1 (length arities) n.size t in
      record {
        column = n;
        behind = ns;
        split = refl;
        some = some;
        declared = declared;
        args = v;
        read = r;
        found = ap (λ (u : Parsed L). u.found) same;
        left = ap (λ (u : Parsed L). u.left) same;
      }

  pub literal-rest : (ns : List Number) (w : Parsed L) (r : LiteralRead ns w)
      → RestAfter (suc (get_or arities (r.column.size - 1) 0)) ns w.left
  literal-rest ns w r =
      let g = arguments-rest argument _ r.behind r.args r.read in
      record { enough = rw r.split (omega (arith, g.enough)); rest = r.left ∙ g.rest ∙ rw r.split }

  -- so many literals are found, and what is left is a rest
  pub record LiteralsRead (k : ℕ) (ns : List Number) (w : Parsed (List L)) : Type 0 where
    pub count : length w.found ≡ k
    pub passed : ℕ
    pub rest : RestAfter passed ns w.left

  pub literals-read : (k : ℕ) (ns : List Number) (w : Parsed (List L)) → literals argument make arities k ns ≡ yes w → LiteralsRead k ns w
  unfolding literals
  literals-read zero ns w e =
      let same = sym (yes-injective e) in
      record {
        count = ap (λ (v : Parsed (List L)). length v.found) same;
        passed = 0;
        rest = record { enough = omega arith; rest = ap (λ (v : Parsed (List L)). v.left) same };
      }
  literals-read (suc k) ns w e =
      let (l, p, f) = bind-yes (literal argument make arities ns) _ w e in
      let (v, r, g) = bind-yes (literals argument make arities k l.left) _ w f in
      let h = literals-read k l.left v r in
      let same = sym (yes-injective g) in
      let first = literal-rest ns l (literal-read ns l p) in
      let whole = rest_more _ h.passed ns l.left v.left first h.rest in
      record {
        count = ap (λ (u : Parsed (List L)). length u.found) same ∙ ap suc h.count;
        passed = _;
        rest = record { enough = whole.enough; rest = ap (λ (u : Parsed (List L)). u.left) same ∙ whole.rest };
      }

  -- a property of every literal that is read
  pub literals-each : (P : L → Type 0) → ((ns : List Number) (w : Parsed L) → LiteralRead ns w → P w.found)
      → (k : ℕ) (ns : List Number) (w : Parsed (List L)) → literals argument make arities k ns ≡ yes w → Each P w.found
  unfolding literals
  literals-each P each zero ns w e = subst (λ (v : Parsed (List L)). Each P v.found) (yes-injective e) (each_nil P)
  literals-each P each (suc k) ns w e =
      let (l, p, f) = bind-yes (literal argument make arities ns) _ w e in
      let (v, r, g) = bind-yes (literals argument make arities k l.left) _ w f in
      subst (λ (v : Parsed (List L)). Each P v.found) (yes-injective g)
      (each-cons P (each ns l (literal-read ns l p)) (literals-each P each k l.left v r))

  module _ (k : ℕ) (ns : List Number) (w : Parsed (List L)) (e : literals argument make arities k ns ≡ yes w) where
    pub literals-length : length w.found ≡ k
    literals-length = (literals-read k ns w e).count

    pub literals-fewer : length w.left ≤ length ns
    literals-fewer = let r = literals-read k ns w e in omega (arith, rest-length r.passed ns w.left r.rest)

-- ── refusals ──

-- whatever is refused is refused at this question
abbrev pub RefusesAt : {A : Type 0} → ℕ → Asked A → Type 0
RefusesAt r m = (q : ℕ) → m ≡ no q → q ≡ r

module _ {A : Type 0} (r : ℕ) where
  yes-refuses : (a : A) → RefusesAt r (yes a)
  yes-refuses a q e = apart (cc)

  no-refuses : RefusesAt {A = A} r (no r)
  no-refuses q e = cc

  ask-refuses : (t : Bool) (m : Asked A) → RefusesAt r m → RefusesAt r (ask r t >> m)
  unfolding ask ◌>>◌
  ask-refuses true m h = h
  ask-refuses false m h = no-refuses

  bind-refuses : {B : Type 0} (m : Asked B) (f : B → Asked A) → RefusesAt r m → ((b : B) → RefusesAt r (f b)) → RefusesAt r (m >>= f)
  unfolding ◌>>=◌
  bind-refuses (no q) f h g p e = h p (cc)
  bind-refuses (yes b) f h g p e = g b p e

module _ {A : Type 0} (a : Number → Asked A) (h : (n : Number) → RefusesAt 10 (a n)) where
  arguments-refuse : (k : ℕ) (ns : List Number) → RefusesAt 10 (arguments a k ns)
  unfolding arguments
  arguments-refuse zero ns = yes-refuses 10 _
  arguments-refuse (suc k) [] = no-refuses 10
  arguments-refuse (suc k) (n ∷ ns) =
      bind-refuses 10 (a n) _ (h n) λ x. bind-refuses 10 (arguments a k ns) _ (arguments-refuse k ns) λ w. yes-refuses 10 _

  module _ {L : Type 0} (make : Bool → ℕ → List A → L) (arities : List ℕ) where
    literal-refuses : (ns : List Number) → RefusesAt 10 (literal a make arities ns)
    unfolding literal
    literal-refuses [] = no-refuses 10
    literal-refuses (n ∷ ns) =
        ask-refuses 10 _ _ (bind-refuses 10 (arguments a (get_or arities (n.size - 1) 0) ns) _ (arguments-refuse _ ns) λ w. yes-refuses 10 _)

    pub literals-refuse : (k : ℕ) (ns : List Number) → RefusesAt 10 (literals a make arities k ns)
    unfolding literals
    literals-refuse zero ns = yes-refuses 10 _
    literals-refuse (suc k) ns =
        bind-refuses 10 (literal a make arities ns) _ (literal-refuses ns) λ l.
        bind-refuses 10 (literals a make arities k l.left) _ (literals-refuse k l.left) λ w. yes-refuses 10 _

argument-refuses : (rule : Bool) (constants : ℕ) (n : Number) → RefusesAt 10 (argument rule constants n)
unfolding argument rule_argument
argument-refuses true constants n =
    by-test n.negative
    (λ s. rw (s, rule_argument) (ask-refuses 10 _ _ (yes-refuses 10 _)))
    (λ s. rw (s, rule_argument) (ask-refuses 10 _ _ (yes-refuses 10 _)))
argument-refuses false constants n = ask-refuses 10 _ _ (yes-refuses 10 _)

pub literals-refusal : {L : Type 0} (rule : Bool) (constants : ℕ) (make : Bool → ℕ → List Term → L) (arities : List ℕ) (k : ℕ) (ns : List Number) (q : ℕ)
    → literals (argument rule constants) make arities k ns ≡ no q → q ≡ 10
literals-refusal rule constants make arities = literals-refuse (argument rule constants) (argument-refuses rule constants) make arities

-- ── the literals of a clause ──

-- two ways to read an argument and to make a literal, the second through the first
module _ {A B L M : Type 0} (f : A → B) (g : L → M) (a : Number → Asked A) (b : Number → Asked B)
    (make : Bool → ℕ → List A → L) (remake : Bool → ℕ → List B → M) (arities : List ℕ)
    (reads : (n : Number) → b n ≡ (a n >>= λ x. yes (f x)))
    (makes : (positive : Bool) (symbol : ℕ) (xs : List A) → remake positive symbol (map f xs) ≡ g (make positive symbol xs)) where
  arguments-map : (k : ℕ) (ns : List Number)
      → arguments b k ns ≡ (arguments a k ns >>= λ w. yes (record { found = map f w.found; left = w.left }))
  unfolding arguments ◌>>=◌
  arguments-map zero ns = refl
  arguments-map (suc k) [] = refl
  arguments-map (suc k) (n ∷ ns) =
      let first = reads n in
      let rest = arguments-map k ns in
      by-asked (a n) (λ q e. cc) (λ x e. by-asked (arguments a k ns) (λ q h. cc) (λ w h. cc))

  literal-map : (ns : List Number)
      → literal b remake arities ns ≡ (literal a make arities ns >>= λ w. yes (record { found = g w.found; left = w.left }))
  unfolding literal ◌>>=◌ ◌>>◌ ask
  literal-map [] = refl
  literal-map (n ∷ ns) =
      let rest = arguments-map (get_or arities (n.size - 1) 0) ns in
      by-test (leb 1 n.size && leb n.size (length arities))
      (λ t.
      by-asked (arguments a (get_or arities (n.size - 1) 0) ns)
      (λ q h. cc)
      (λ w h. cc (makes (not n.negative) n.size w.found)))
      (λ t. cc)

  literals-map : (k : ℕ) (ns : List Number)
      → literals b remake arities k ns ≡ (literals a make arities k ns >>= λ w. yes (record { found = map g w.found; left = w.left }))
  unfolding literals ◌>>=◌
  literals-map zero ns = refl
  literals-map (suc k) ns =
      let first = literal-map ns in
      by-asked (literal a make arities ns)
      (λ q e. cc)
      (λ l e. let rest = literals-map k l.left in by-asked (literals a make arities k l.left) (λ q h. cc) (λ w h. cc))

clause-argument : (constants : ℕ) (n : Number) → clause_argument constants n ≡ (argument false constants n >>= λ t. yes (term_value [] t))
unfolding clause_argument argument ask ◌>>◌ ◌>>=◌ term_value
clause-argument constants n = by-test (within 1 constants n) (λ t. cc) (λ t. cc)

-- a clause is read as patterns whose terms are constants
pub clause-literals : (constants : ℕ) (arities : List ℕ) (k : ℕ) (ns : List Number)
    → clause_literals constants arities k ns
    ≡ (literals (argument false constants) pattern_of arities k ns >>= λ w. yes (record { found = map (ground []) w.found; left = w.left }))
unfolding ground pattern_of literal_of clause_literals
clause-literals constants arities =
    literals-map (term_value []) (ground []) (argument false constants) (clause_argument constants) pattern_of literal_of arities
    (clause-argument constants)
    (λ positive symbol ts. refl)

-- ── the terms of a pattern ──

-- a variable is one of 6 and stands in rules alone, a constant is one of the sheet's
abbrev pub TermInRange : Bool → ℕ → Term → Type 0
TermInRange rule constants (variable v) = (rule ≡ true) × (1 ≤ v) × (v ≤ 6)
TermInRange rule constants (constant c) = (1 ≤ c) × (c ≤ constants)

pub argument-in-range : (rule : Bool) (constants : ℕ) (n : Number) (t : Term) → argument rule constants n ≡ yes t → TermInRange rule constants t
unfolding argument rule_argument
argument-in-range true constants n t e =
    by-test n.negative
    (λ s.
    let (b, f) = ask-yes 10 (leb 1 n.size && leb n.size constants) (yes (constant n.size)) t (cc) in
    subst (TermInRange true constants) (yes-injective f) (between 1 constants n.size b))
    (λ s.
    let (b, f) = ask-yes 10 (leb 1 n.size && leb n.size 6) (yes (variable n.size)) t (cc) in
    subst (TermInRange true constants) (yes-injective f) (let (l, h) = between 1 6 n.size b in (refl, l, h)))
argument-in-range false constants n t e =
    let (b, f) = ask-yes 10 (within 1 constants n) (yes (constant n.size)) t e in
    subst (TermInRange false constants) (yes-injective f) (within-between 1 constants n b)

-- in a clause every term is a constant
pub constant-only : (constants : ℕ) (t : Term) → TermInRange false constants t → (c : ℕ) × (t ≡ constant c) × (1 ≤ c) × (c ≤ constants)
constant-only constants (variable v) h = true-and-false h.0 refl
constant-only constants (constant c) h = (c, refl, h.0, h.1)

arguments-in-range : (rule : Bool) (constants k : ℕ) (ns : List Number) (w : Parsed (List Term))
    → arguments (argument rule constants) k ns ≡ yes w → Each (TermInRange rule constants) w.found
unfolding arguments
arguments-in-range rule constants zero ns w e =
    subst (λ (v : Parsed (List Term)). Each (TermInRange rule constants) v.found) (yes-injective e) (each_nil (TermInRange rule constants))
arguments-in-range rule constants (suc k) [] w e = no≢yes e
arguments-in-range rule constants (suc k) (n ∷ ns) w e =
    let (t, p, f) = bind-yes (argument rule constants n) _ w e in
    let (v, r, g) = bind-yes (arguments (argument rule constants) k ns) _ w f in
    subst (λ (u : Parsed (List Term)). Each (TermInRange rule constants) u.found) (yes-injective g)
    (each-cons (TermInRange rule constants) (argument-in-range rule constants n t p) (arguments-in-range rule constants k ns v r))

-- what a pattern that is read keeps: its symbol is declared, and it has so many terms as the symbol has arguments, each in range
pub record PatternRead (rule : Bool) (constants : ℕ) (arities : List ℕ) (x : Pattern) : Type 0 where
  pub symbol : 1 ≤ x.symbol
  pub declared : x.symbol ≤ length arities
  pub terms : length x.terms ≡ get_or arities (x.symbol - 1) 0
  pub in_range : Each (TermInRange rule constants) x.terms

pub patterns-read : (rule : Bool) (constants : ℕ) (arities : List ℕ) (k : ℕ) (ns : List Number) (w : Parsed (List Pattern))
    → literals (argument rule constants) pattern_of arities k ns ≡ yes w → Each (PatternRead rule constants arities) w.found
unfolding pattern_of
patterns-read rule constants arities =
    literals-each (argument rule constants) pattern_of arities (PatternRead rule constants arities)
    λ ns w r.
    rw r.found
    (record {
      symbol = r.some;
      declared = r.declared;
      terms = arguments-length (argument rule constants) _ r.behind r.args r.read;
      in_range = arguments-in-range rule constants _ r.behind r.args r.read;
    })

-- ── what is read has room in a slot ──

range-tells : (rule : Bool) (constants : ℕ) (t : Term) → TermInRange rule constants t → WordTells t
range-tells rule constants (variable v) h = (h.1, h.2)
range-tells rule constants (constant c) h = h.0

pub read-in-slot : (rule : Bool) (constants : ℕ) (arities : List ℕ) → ((i : ℕ) → get_or arities i 0 ≤ 3) → (x : Pattern) → PatternRead rule constants arities x → InSlot x
read-in-slot rule constants arities h x r =
    record {
      few = omega (arith, r.terms, h (x.symbol - 1));
      tells = λ t m. range-tells rule constants t (r.in_range t m);
    }
