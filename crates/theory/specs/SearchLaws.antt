-- What the tests of the search find: literals on the trail, what a clause asks for, what an instance gives. Assumes nothing.
use Rattle.std.specs.Prelude.{◌≡◌, ◌⊎◌, Bool, ◌&&◌, ◌||◌}
use Rattle.std.proofs.Math.Path.{refl}
use Rattle.std.proofs.Common.{sym, ◌∙◌, ap}
use Rattle.std.proofs.Math.Logic.{inl, inr}
use Rattle.std.proofs.Math.Bool.{true, false, not}
use Rattle.std.proofs.Math.Option.{Option, none, some}
use mathlib.Core.List.Memᴰ
use mathlib.Core.List.{List, [], ◌∷◌, ◌++◌, map}
use borrow.Author.Tests.{not-true}
use Rattle.definitions.specs.Lists.{◌∈◌, is_empty, any, all, filter, distinct, added, list_of, first_some}
use Rattle.definitions.specs.Words.{Atom, Literal, negate, plain, same_atom, same_literal, Clause, goal_atoms}
use Rattle.definitions.specs.Instances.{Instance, Task}
use Rattle.definitions.specs.Search.{Why, decided, flipped, forced, Entry, Trail, is_true, is_false, is_unset, Logged, clause_of, State, Act, conflict, force, not_false, act_on, is_goal, goal_act, logged_act, next_act, fires, next_instance, logged_of, enter, enter_taken, next_goal}
use Rattle.theory.specs.Tests.{by-test, by-option, apart, true-and-false, and_left, and_right, or_cases}
use Rattle.theory.specs.ListLaws.{empty-nil, First, find_first, find-in, find-passes, find_none, any_some, any_of, all-each, all_of, filter-of, filter-in, filter_none, first_some-in, first_some-none}
use Rattle.theory.specs.DistinctLaws.{distinct-in, distinct_of, all-distinct, distinct-twice}
use Rattle.theory.specs.WordLaws.{same_atom-eq, same_atom-refl, same_literal-eq, same_literal-refl, eq-same_literal, negate-negate, same-or-negated}

-- ── literals on the trail ──

-- a literal was set for one of three reasons; each case has the equation
pub by-why : (w : Why) {C : Type 0} → (w ≡ decided → C) → (w ≡ flipped → C) → (w ≡ forced → C) → C
by-why decided d f g = d refl
by-why flipped d f g = f refl
by-why forced d f g = g refl

-- no literal and its negation are both on the trail
abbrev pub Consistent : Trail → Type 0
Consistent t = (l : Literal) → is_true t l ≡ true → is_false t l ≡ true → ⊥

-- where a true literal stands
pub record TrueAt (t : Trail) (l : Literal) : Type 0 where
  pub entry : Entry
  pub inside : entry ∈ t
  pub its : entry.literal ≡ l

pub true-at : (t : Trail) (l : Literal) → is_true t l ≡ true → TrueAt t l
unfolding is_true
true-at t l h = let (e, m, q) = any_some _ t h in record { entry = e; inside = m; its = sym (same_literal-eq l e.literal q) }

pub at_true : (t : Trail) (l : Literal) → TrueAt t l → is_true t l ≡ true
unfolding is_true
at_true t l a = any_of _ t a.entry a.inside (rw a.its (same_literal-refl l))

pub entry-true : (t : Trail) (e : Entry) → e ∈ t → is_true t e.literal ≡ true
entry-true t e m = at_true t e.literal (record { entry = e; inside = m; its = refl })

pub true-more : (e : Entry) (t : Trail) (l : Literal) → is_true t l ≡ true → is_true (e ∷ t) l ≡ true
true-more e t l h = let a = true-at t l h in at_true (e ∷ t) l (record { entry = a.entry; inside = Memᴰ.tail a.inside; its = a.its })

pub true-cases : (e : Entry) (t : Trail) (l : Literal) → is_true (e ∷ t) l ≡ true → (e.literal ≡ l) ⊎ (is_true t l ≡ true)
true-cases e t l h =
    let a = true-at (e ∷ t) l h in
    elim (Memᴰ.cases_cons a.inside) [
      | inl q ↦ inl (ap (λ (x : Entry). x.literal) (sym q) ∙ a.its)
      | inr m ↦ inr (at_true t l (record { entry = a.entry; inside = m; its = a.its }))
    ]

-- an unset literal is neither true nor false, and its negation is unset too
pub unset-not-true : (t : Trail) (l : Literal) → is_unset t l ≡ true → is_true t l ≡ false
unfolding is_unset
unset-not-true t l h = not-true (is_true t l) (and_left (not (is_true t l)) (not (is_false t l)) h)

pub unset-not-false : (t : Trail) (l : Literal) → is_unset t l ≡ true → is_false t l ≡ false
unfolding is_unset
unset-not-false t l h = not-true (is_false t l) (and_right (not (is_true t l)) (not (is_false t l)) h)

pub unset-of : (t : Trail) (l : Literal) → is_true t l ≡ false → is_false t l ≡ false → is_unset t l ≡ true
unfolding is_unset
unset-of t l p q = cc

pub set_cases : (t : Trail) (l : Literal) → is_unset t l ≡ false → (is_true t l ≡ true) ⊎ (is_false t l ≡ true)
set_cases t l h =
    by-test (is_true t l) (λ p. inl p) (λ p. by-test (is_false t l) (λ q. inr q) (λ q. true-and-false (unset-of t l p q) h))

pub negated-false : (t : Trail) (l : Literal) → is_false t (negate l) ≡ is_true t l
unfolding is_false
negated-false t l = ap (is_true t) (negate-negate l)

pub unset-negate : (t : Trail) (l : Literal) → is_unset t l ≡ true → is_unset t (negate l) ≡ true
unfolding is_false
unset-negate t l h = unset-of t (negate l) (unset-not-false t l h) (negated-false t l ∙ unset-not-true t l h)

-- what is set stays set when more is
pub set_more : (e : Entry) (t : Trail) (l : Literal) → is_unset t l ≡ false → is_unset (e ∷ t) l ≡ false
unfolding is_false
set_more e t l h =
    by-test (is_unset (e ∷ t) l)
    (λ u. elim (set_cases t l h) [
      | inl p ↦ true-and-false (true-more e t l p) (unset-not-true (e ∷ t) l u)
      | inr p ↦ true-and-false (true-more e t (negate l) p) (unset-not-false (e ∷ t) l u)
    ])
    (λ u. u)

-- the atom of an unset literal is no entry's
pub unset-new : (t : Trail) (l : Literal) → is_unset t l ≡ true → (e : Entry) → e ∈ t → e.literal.atom ≡ l.atom → ⊥
unfolding is_false
unset-new t l h e m q =
    elim (same-or-negated e.literal l q) [
      | inl p ↦ true-and-false (at_true t l (record { entry = e; inside = m; its = p })) (unset-not-true t l h)
      | inr p ↦ true-and-false (at_true t (negate l) (record { entry = e; inside = m; its = p })) (unset-not-false t l h)
    ]

-- ── the clause of a logged instance ──

pub clause-head : (g : Logged) (h : Literal) → h ∈ g.instance.heads → negate h ∈ clause_of g
unfolding clause_of
clause-head g h m = distinct_of same_literal same_literal-eq _ (negate h) (Memᴰ.append_left (list_of g.taken) (Memᴰ.map negate m))

pub clause-taken : (g : Logged) (l : Literal) → g.taken ≡ some l → l ∈ clause_of g
unfolding clause_of list_of
clause-taken g l e =
    distinct_of same_literal same_literal-eq _ l (Memᴰ.append_right (map negate g.instance.heads) (rw (e, list_of) (Memᴰ.head refl)))

-- a literal already written is not repeated
pub clause-once : (g : Logged) → distinct same_literal (clause_of g) ≡ clause_of g
unfolding clause_of
clause-once g = distinct-twice same_literal same_literal-eq same_literal-refl (map negate g.instance.heads ++ list_of g.taken)

-- and whether it may set a created atom can be asked of the different heads
pub heads-once : (k : Task) (t : Trail) (g : Logged)
    → logged_act k t g ≡ act_on t (λ (l : Literal). is_goal k l || all (is_true t) (distinct same_literal g.instance.heads)) (not_false t (clause_of g))
unfolding logged_act
heads-once k t g =
    ap (λ (b : Bool). act_on t (λ (l : Literal). is_goal k l || b) (not_false t (clause_of g))) (sym (all-distinct same_literal same_literal-eq (is_true t) g.instance.heads))

-- a literal of it is a negated head, or the one taken
pub clause-cases : (g : Logged) (l : Literal) → l ∈ clause_of g → ((h : Literal) × (h ∈ g.instance.heads) × (l ≡ negate h)) ⊎ (g.taken ≡ some l)
unfolding clause_of list_of
clause-cases g l m =
    elim (Memᴰ.append_cases (map negate g.instance.heads) (distinct-in same_literal _ l m)) [
      | inl n ↦ let (h, k, q) = Memᴰ.of_map negate g.instance.heads n in inl (h, k, sym q)
      | inr n ↦ inr (from g.taken n)
    ]
  where
    from : (o : Option Literal) → l ∈ list_of o → o ≡ some l
    from none n = absurd (Memᴰ.not-nil n)
    from (some x) n = ap {B = Option Literal} some (sym (Memᴰ.eq_of_singleton n))

-- ── what a clause asks for ──

module _ (t : Trail) where
  pub not_false-of : (c : Clause) (l : Literal) → l ∈ c → is_false t l ≡ false → l ∈ not_false t c
  unfolding not_false
  not_false-of c l m h = distinct_of same_literal same_literal-eq _ l (filter-of _ c l m (cc))

  pub not_false-in : (c : Clause) (l : Literal) → l ∈ not_false t c → (l ∈ c) × (is_false t l ≡ false)
  unfolding not_false
  not_false-in c l m = let (n, h) = filter-in _ c l (distinct-in same_literal _ l m) in (n, not-true (is_false t l) h)

  -- every literal but this one is false
  abbrev pub Alone : Clause → Literal → Type 0
  Alone c l = (m : Literal) → m ∈ c → (is_false t m ≡ true) ⊎ (m ≡ l)

  -- what the different literals that are not false tell
  none_left : (c : Clause) → not_false t c ≡ [] → (l : Literal) → l ∈ c → is_false t l ≡ true
  none_left c e l m = by-test (is_false t l) (λ h. h) (λ h. absurd (Memᴰ.not-nil (rw e at (not_false-of c l m h))))

  one_left : (c : Clause) (l : Literal) → not_false t c ≡ l ∷ [] → Alone c l
  one_left c l e m n = by-test (is_false t m) (λ h. inl h) (λ h. inr (Memᴰ.eq_of_singleton (rw e at (not_false-of c m n h))))

  -- and which they are, where that is known
  left-none : (c : Clause) → ((l : Literal) → l ∈ c → is_false t l ≡ true) → not_false t c ≡ []
  left-none c h = empty (not_false t c) (λ l m. let (n, q) = not_false-in c l m in true-and-false (h l n) q)
    where
      empty : (ls : Clause) → ((l : Literal) → l ∈ ls → ⊥) → ls ≡ []
      empty [] f = refl
      empty (l ∷ ls) f = absurd (f l (Memᴰ.head refl))

  left_one : (c : Clause) (l : Literal) → l ∈ c → is_false t l ≡ false → Alone c l → not_false t c ≡ l ∷ []
  unfolding not_false distinct filter
  left_one c l m h a = single (filter (λ (x : Literal). not (is_false t x)) c) (filter-of _ c l m (cc)) only
    where
      only : (x : Literal) → x ∈ filter (λ (y : Literal). not (is_false t y)) c → x ≡ l
      only x n =
          let (j, q) = filter-in (λ (y : Literal). not (is_false t y)) c x n in
          elim (a x j) [ inl f ↦ true-and-false f (not-true (is_false t x) q) | inr e ↦ e ]

      -- equal literals are written once
      repeats : (ls : Clause) → ((x : Literal) → x ∈ ls → x ≡ l) → filter (λ (y : Literal). not (same_literal l y)) (distinct same_literal ls) ≡ []
      repeats ls f = filter_none _ (distinct same_literal ls) (λ x n. ap not (eq-same_literal l x (sym (f x (distinct-in same_literal ls x n)))))

      single : (ls : Clause) → l ∈ ls → ((x : Literal) → x ∈ ls → x ≡ l) → distinct same_literal ls ≡ l ∷ []
      single [] n f = absurd (Memᴰ.not-nil n)
      single (x ∷ xs) n f =
          let e : x ≡ l = f x (Memᴰ.head refl) in
          rw e (ap (λ (ks : Clause). l ∷ ks) (repeats xs (λ y j. f y (Memᴰ.tail j))))

  -- a conflict: every literal is false
  pub conflict-false : (may : Literal → Bool) (c : Clause) → act_on t may (not_false t c) ≡ some conflict → (l : Literal) → l ∈ c → is_false t l ≡ true
  unfolding act_on
  conflict-false may c e = cases (not_false t c) refl e
    where
      cases : (ls : Clause) → not_false t c ≡ ls → act_on t may ls ≡ some conflict → (l : Literal) → l ∈ c → is_false t l ≡ true
      cases [] q h = none_left c q
      cases (l ∷ []) q h = by-test (is_unset t l && may l) (λ b. apart (cc)) (λ b. apart (cc))
      cases (l ∷ m ∷ ls) q h = apart (cc)

  -- a unit: the literal is unset, it stands in the clause, every other one is false, and the clause may set it
  pub record IsUnit (may : Literal → Bool) (c : Clause) (l : Literal) : Type 0 where
    pub inside : l ∈ c
    pub unset : is_unset t l ≡ true
    pub allowed : may l ≡ true
    pub alone : Alone c l

  pub force-unit : (may : Literal → Bool) (c : Clause) (l : Literal) → act_on t may (not_false t c) ≡ some (force l) → IsUnit may c l
  unfolding act_on
  force-unit may c l e = cases (not_false t c) refl e
    where
      cases : (ls : Clause) → not_false t c ≡ ls → act_on t may ls ≡ some (force l) → IsUnit may c l
      cases [] q h = apart (cc)
      cases (x ∷ []) q h =
          by-test (is_unset t x && may x)
          (λ b. let z : x ≡ l = cc in
          let q' : not_false t c ≡ l ∷ [] = cc in
          let b' : (is_unset t l && may l) ≡ true = cc in
          record {
            inside = (not_false-in c l (rw q' (Memᴰ.head refl))).0;
            unset = and_left (is_unset t l) (may l) b';
            allowed = and_right (is_unset t l) (may l) b';
            alone = one_left c l q';
          })
          (λ b. apart (cc))
      cases (x ∷ y ∷ ls) q h = apart (cc)

  -- the other way round
  pub false-conflict : (may : Literal → Bool) (c : Clause) → ((l : Literal) → l ∈ c → is_false t l ≡ true) → act_on t may (not_false t c) ≡ some conflict
  unfolding act_on
  false-conflict may c h = cc (left-none c h)

  pub unit-force : (may : Literal → Bool) (c : Clause) (l : Literal) → IsUnit may c l → act_on t may (not_false t c) ≡ some (force l)
  unfolding act_on
  unit-force may c l u = cc (left_one c l u.inside (unset-not-false t l u.unset) u.alone, u.unset, u.allowed)

-- ── steps A, B and C ──

module _ (k : Task) where
  pub is_goal-in : (l : Literal) → is_goal k l ≡ true → l.atom ∈ goal_atoms k.clauses
  unfolding is_goal
  is_goal-in l h = let (a, m, q) = any_some _ (goal_atoms k.clauses) h in Memᴰ.cast (same_atom-eq l.atom a q) m

  pub in-is_goal : (l : Literal) → l.atom ∈ goal_atoms k.clauses → is_goal k l ≡ true
  unfolding is_goal
  in-is_goal l m = any_of _ (goal_atoms k.clauses) l.atom m (same_atom-refl l.atom)

  -- what a logged clause may set
  abbrev pub may_logged : Trail → Logged → Literal → Bool
  may_logged t g l = is_goal k l || all (is_true t) g.instance.heads

  -- the clause that acts: a goal clause, or one of the log
  pub act-from : (s : State) (a : Act) → next_act k s ≡ some a
      → ((c : Clause) × (c ∈ k.clauses) × (act_on s.trail (is_goal k) (not_false s.trail c) ≡ some a))
      ⊎ ((g : Logged) × (g ∈ s.log) × (act_on s.trail (may_logged s.trail g) (not_false s.trail (clause_of g)) ≡ some a))
  unfolding next_act goal_act logged_act
  act-from s a h =
      by-option (first_some (goal_act k s.trail) k.clauses)
      (λ e. inr (first_some-in (logged_act k s.trail) s.log a (cc)))
      (λ b e. inl (first_some-in (goal_act k s.trail) k.clauses a (cc)))

  -- no clause acts
  pub goal-quiet : (s : State) → next_act k s ≡ none → (c : Clause) → c ∈ k.clauses → act_on s.trail (is_goal k) (not_false s.trail c) ≡ none
  unfolding next_act goal_act
  goal-quiet s h =
      by-option (first_some (goal_act k s.trail) k.clauses)
      (λ e. first_some-none (goal_act k s.trail) k.clauses e)
      (λ b e. apart (cc))

  pub logged-quiet : (s : State) → next_act k s ≡ none → (g : Logged) → g ∈ s.log → act_on s.trail (may_logged s.trail g) (not_false s.trail (clause_of g)) ≡ none
  unfolding next_act logged_act
  logged-quiet s h =
      by-option (first_some (goal_act k s.trail) k.clauses)
      (λ e. first_some-none (logged_act k s.trail) s.log (cc))
      (λ b e. apart (cc))

  -- what a firing instance is, and what is taken of it
  pub record Fired (t : Trail) (i : Instance) : Type 0 where
    pub its : i ∈ k.instances
    pub heads : (h : Literal) → h ∈ i.heads → is_true t h ≡ true
    pub taken : (l : Literal) → (logged_of t i).taken ≡ some l → (l ∈ i.body) × (is_true t l ≡ false)
    pub bodiless : (logged_of t i).taken ≡ none → i.body ≡ []

  pub fired : (s : State) (i : Instance) → next_instance k s ≡ some i → Fired s.trail i
  unfolding next_instance fires logged_of is_empty
  fired s i e =
      record {
        its = find-in _ k.instances i e;
        heads = all-each _ i.heads (and_left (all (is_true s.trail) i.heads) _ passed);
        taken = λ l q. (find-in _ i.body l q, not-true (is_true s.trail l) (find-passes _ i.body l q));
        bodiless = λ q. elim (or_cases (is_empty i.body) (any (λ (l : Literal). not (is_true s.trail l)) i.body) (and_right (all (is_true s.trail) i.heads) _ passed)) [
          | inl h ↦ empty-nil i.body h
          | inr h ↦ let (l, m, p) = any_some _ i.body h in true-and-false p (find_none _ i.body q l m)
        ];
      }
    where
      passed : fires s.trail i ≡ true
      passed = find-passes _ k.instances i e

  -- an instance that does not fire though its heads are true has a body that is true
  pub rests-true : (s : State) → next_instance k s ≡ none → (i : Instance) → i ∈ k.instances → ((h : Literal) → h ∈ i.heads → is_true s.trail h ≡ true)
      → (i.body ≡ [] → ⊥) × ((l : Literal) → l ∈ i.body → is_true s.trail l ≡ true)
  unfolding next_instance fires is_empty
  rests-true s e i m hs =
      (λ q. true-and-false (cc (heads, empty q)) still, λ l n. by-test (is_true s.trail l) (λ h. h) (λ h. true-and-false (fire l n h) still))
    where
      still : fires s.trail i ≡ false
      still = find_none _ k.instances e i m

      heads : all (is_true s.trail) i.heads ≡ true
      heads = all_of _ i.heads hs

      empty : i.body ≡ [] → is_empty i.body ≡ true
      empty q = rw q refl

      fire : (l : Literal) → l ∈ i.body → is_true s.trail l ≡ false → fires s.trail i ≡ true
      fire l n h =
          let a : any (λ (x : Literal). not (is_true s.trail x)) i.body ≡ true = any_of _ i.body l n (ap not h) in
          by-test (is_empty i.body) (λ b. cc (heads, a)) (λ b. cc (heads, a))

  -- the goal atom that is decided: unset, and all before it are set
  pub goal-first : (s : State) (a : Atom) → next_goal k s ≡ some a → First (λ (x : Atom). is_unset s.trail (plain x)) (goal_atoms k.clauses) a
  unfolding next_goal
  goal-first s a e = find_first _ (goal_atoms k.clauses) a e

  pub goals-set : (s : State) → next_goal k s ≡ none → (a : Atom) → a ∈ goal_atoms k.clauses → is_unset s.trail (plain a) ≡ false
  unfolding next_goal
  goals-set s e = find_none _ (goal_atoms k.clauses) e

-- ── the table ──

pub enter-old : (table : List Atom) (x a : Atom) → a ∈ table → a ∈ enter table x
unfolding enter added
enter-old table x a m = by-test (any (same_atom x) table) (λ e. rw (e, added) m) (λ e. rw (e, added) (Memᴰ.append_left (x ∷ []) m))

pub enter-new : (table : List Atom) (x : Atom) → x ∈ enter table x
unfolding enter added
enter-new table x =
    by-test (any (same_atom x) table)
    (λ e. let (y, m, q) = any_some (same_atom x) table e in rw (e, added) (Memᴰ.cast (same_atom-eq x y q) m))
    (λ e. rw (e, added) (Memᴰ.append_right table (Memᴰ.head refl)))

pub enter_taken-old : (table : List Atom) (o : Option Literal) (a : Atom) → a ∈ table → a ∈ enter_taken table o
unfolding enter_taken
enter_taken-old table none a m = m
enter_taken-old table (some l) a m = enter-old table l.atom a m

pub enter_taken-new : (table : List Atom) (o : Option Literal) (l : Literal) → o ≡ some l → l.atom ∈ enter_taken table o
unfolding enter_taken
enter_taken-new table o l e = rw (e, enter_taken) (enter-new table l.atom)

-- an atom of the table was there, or is the one that entered
pub enter_taken-in : (table : List Atom) (o : Option Literal) (a : Atom) → a ∈ enter_taken table o → (a ∈ table) ⊎ ((l : Literal) × (o ≡ some l) × (a ≡ l.atom))
unfolding enter_taken enter added
enter_taken-in table none a m = inl m
enter_taken-in table (some l) a m =
    by-test (any (same_atom l.atom) table)
    (λ e. inl (rw (e, added) at m))
    (λ e. elim (Memᴰ.append_cases table (rw (e, added) at m)) [
      | inl n ↦ inl n
      | inr n ↦ inr (l, refl, Memᴰ.eq_of_singleton n)
    ])
