-- The invariant of the trail, over any kind of candidates: each entry is a decision on the first unset goal atom, or a literal
-- that every candidate with the decisions before it has. Unit propagation, decisions and backtracking keep it. Assumes nothing.
use Rattle.std.specs.Prelude.{◌≡◌, ◌⊎◌, true, false, List, [], ◌∷◌, ◌++◌}
use Rattle.std.proofs.Math.Path.{refl, subst}
use Rattle.std.proofs.Common.{sym, ap, ◌∙◌}
use Rattle.std.proofs.Math.Logic.{inl, inr}
use Rattle.std.proofs.Math.Option.{Option, none, some}
use mathlib.Core.List.Memᴰ
use Rattle.definitions.specs.Lists.{◌∈◌}
use Rattle.definitions.specs.Words.{Atom, Literal, negate, plain, Clause, goal_atoms}
use Rattle.definitions.specs.Instances.{Instance, Task}
use Rattle.definitions.specs.Search.{Why, decided, flipped, forced, Entry, Trail, is_true, is_unset, Logged, clause_of, State, Act, conflict, force, next_goal, backtrack}
use Rattle.theory.specs.Tests.{apart}
use Rattle.theory.specs.ListLaws.{at_split, in-along}
use Rattle.theory.specs.WordLaws.{negate-atom}
use Rattle.theory.specs.SearchLaws.{true-at, unset-negate, goal-first}

-- candidates for an answer: the literals that each has, what it is that rules one out, and the logged clauses that it has
-- to obey. One that is ruled out has every literal, so that nothing need be shown of it
pub record World : Type 1 where
  pub Candidate : Type 0
  pub has : Candidate → Literal → Type 0
  pub out : Candidate → Type 0
  pub out-has : (x : Candidate) (l : Literal) → out x → has x l
  pub obeyed : Logged → Type 0

-- an instance whose heads are all true gives the literal
pub record Gave (k : Task) (t : Trail) (l : Literal) : Type 0 where
  pub instance : Instance
  pub its : instance ∈ k.instances
  pub heads : (h : Literal) → h ∈ instance.heads → is_true t h ≡ true
  pub inside : l ∈ instance.body

-- the entry is a decision: a goal atom, at true, with every goal atom before it set
pub record Decision (k : Task) (t : Trail) (e : Entry) : Type 0 where
  pub is : e.why ≡ decided
  pub positive : e.literal ≡ plain e.literal.atom
  pub before : List Atom
  pub after : List Atom
  pub split : goal_atoms k.clauses ≡ before ++ (e.literal.atom ∷ after)
  pub settled : (a : Atom) → a ∈ before → is_unset t (plain a) ≡ false

-- a logged clause comes from its instance
pub record LogOk (k : Task) (g : Logged) : Type 0 where
  pub its : g.instance ∈ k.instances
  pub taken : (l : Literal) → g.taken ≡ some l → l ∈ g.instance.body
  pub bodiless : g.taken ≡ none → g.instance.body ≡ []

flipped≢decided : flipped ≡ decided → ⊥
flipped≢decided q = apart (cc)

forced≢decided : forced ≡ decided → ⊥
forced≢decided q = apart (cc)

pub decision-goal : (k : Task) (t : Trail) (e : Entry) → Decision k t e → e.literal.atom ∈ goal_atoms k.clauses
decision-goal k t e d = in-along d.split (at_split d.before d.after)

module _ (k : Task) (W : World) where
  -- the candidate has every decision of the trail
  abbrev pub Agrees : W.Candidate → Trail → Type 0
  Agrees x t = (e : Entry) → e ∈ t → e.why ≡ decided → W.has x e.literal

  -- every candidate with these decisions has the literal
  abbrev pub Must : Trail → Literal → Type 0
  Must t l = (x : W.Candidate) → Agrees x t → W.has x l

  -- every candidate with these decisions is ruled out
  abbrev pub Never : Trail → Type 0
  Never t = (x : W.Candidate) → Agrees x t → W.out x

  -- a candidate that makes every literal of the clause false is ruled out
  abbrev pub Refutes : Clause → Type 0
  Refutes c = (x : W.Candidate) → ((l : Literal) → l ∈ c → W.has x (negate l)) → W.out x

  -- a literal set by a clause or after a conflict: it follows from the decisions, and a created atom's was given by an instance
  pub record Consequence (t : Trail) (e : Entry) : Type 0 where
    pub isnt : e.why ≡ decided → ⊥
    pub must : Must t e.literal
    pub source : (e.literal.atom ∈ goal_atoms k.clauses) ⊎ Gave k t e.literal

  pub data Ok : Trail → Type 0 where
    bare : Ok []
    next : {e : Entry} {t : Trail} → is_unset t e.literal ≡ true → Decision k t e ⊎ Consequence t e → Ok t → Ok (e ∷ t)

  -- what is asked of candidates: each has one literal of every goal atom, a goal clause or a logged clause that it makes false rules it
  -- out, and with the heads of a logged clause it has the literal that was taken
  pub record Laws : Type 0 where
    pub total : (x : W.Candidate) (l : Literal) → l.atom ∈ goal_atoms k.clauses → W.has x l ⊎ W.has x (negate l)
    pub goals : (c : Clause) → c ∈ k.clauses → Refutes c
    pub logged : (g : Logged) → W.obeyed g → Refutes (clause_of g)
    pub gives : (g : Logged) → W.obeyed g → (l : Literal) → g.taken ≡ some l → (x : W.Candidate)
        → ((h : Literal) → h ∈ g.instance.heads → W.has x h) → W.has x l

  -- ── what is true, every candidate with the decisions has ──

  agrees-tail : (x : W.Candidate) (e : Entry) (t : Trail) → Agrees x (e ∷ t) → Agrees x t
  agrees-tail x e t a d m w = a d (Memᴰ.tail m) w

  agrees-more : (x : W.Candidate) (e : Entry) (t : Trail) → (e.why ≡ decided → W.has x e.literal) → Agrees x t → Agrees x (e ∷ t)
  agrees-more x e t h a d m w =
      elim (Memᴰ.cases_cons m) [
        | inl q ↦ subst (λ (y : Entry). W.has x y.literal) (sym q) (h (sym (ap (λ (y : Entry). y.why) q) ∙ w))
        | inr n ↦ a d n w
      ]

  entry-had : {t : Trail} → Ok t → (x : W.Candidate) → Agrees x t → (e : Entry) → e ∈ t → W.has x e.literal
  entry-had bare x a e m = absurd (Memᴰ.not-nil m)
  entry-had (next {e = d} {t = t} u r o) x a e m =
      elim (Memᴰ.cases_cons m) [
        | inl q ↦ latest q r
        | inr n ↦ entry-had o x (agrees-tail x d t a) e n
      ]
    where
      latest : e ≡ d → Decision k t d ⊎ Consequence t d → W.has x e.literal
      latest q (inl c) = a e m (ap (λ (y : Entry). y.why) q ∙ c.is)
      latest q (inr c) = subst (λ (y : Entry). W.has x y.literal) (sym q) (c.must x (agrees-tail x d t a))

  pub true-must : {t : Trail} → Ok t → (l : Literal) → is_true t l ≡ true → Must t l
  true-must {t} o l h x a = let p = true-at t l h in subst (W.has x) p.its (entry-had o x a p.entry p.inside)

  -- ── what the steps come to ──

  pub record UnitOk (t : Trail) (l : Literal) : Type 0 where
    pub unset : is_unset t l ≡ true
    pub must : Must t l
    pub source : (l.atom ∈ goal_atoms k.clauses) ⊎ Gave k t l

  -- what step A found: the decisions rule out everything, or a literal that follows from them
  abbrev pub ActOk : Trail → Act → Type 0
  ActOk t conflict = Never t
  ActOk t (force l) = UnitOk t l

  -- what backtracking comes to: every candidate is ruled out, or the trail is as it should be
  abbrev pub BacktrackOk : Option Trail → Type 0
  BacktrackOk none = (x : W.Candidate) → W.out x
  BacktrackOk (some t) = Ok t

  module _ (laws : Laws) where
    -- ── backtracking ──

    -- no candidate with the decisions before it has the decision, so each has its negation
    flip-ok : (e : Entry) (t : Trail) → Decision k t e → is_unset t e.literal ≡ true → Ok t → Never (e ∷ t)
        → Ok (record { literal = negate e.literal; why = flipped } ∷ t)
    flip-ok e t d u o no_one =
        next (unset-negate t e.literal u) (inr (record { isnt = flipped≢decided; must = must; source = inl (rw negate-atom goal) })) o
      where
        goal : e.literal.atom ∈ goal_atoms k.clauses
        goal = decision-goal k t e d

        must : Must t (negate e.literal)
        must x a =
            elim (laws.total x e.literal goal) [
              | inl y ↦ W.out-has x (negate e.literal) (no_one x (agrees-more x e t (λ w. y) a))
              | inr y ↦ y
            ]

    never-before : (e : Entry) (t : Trail) → (e.why ≡ decided → ⊥) → Never (e ∷ t) → Never t
    never-before e t f n x a = n x (agrees-more x e t (λ w. absurd (f w)) a)

    pub backtrack-ok : {t : Trail} → Ok t → Never t → BacktrackOk (backtrack t)
    unfolding backtrack
    backtrack-ok bare n = λ x. n x (λ e m w. absurd (Memᴰ.not-nil m))
    backtrack-ok (next {e = e} {t = t} u r o) n = from-why (λ (h : Never t). backtrack-ok o h) e.why refl r
      where
        from-why : (Never t → BacktrackOk (backtrack t)) → (w : Why) → e.why ≡ w → Decision k t e ⊎ Consequence t e
            → BacktrackOk (elim w [ decided ↦ some (record { literal = negate e.literal; why = flipped } ∷ t) | flipped ↦ backtrack t | forced ↦ backtrack t ])
        from-why rec decided w (inl d) = flip-ok e t d u o n
        from-why rec decided w (inr c) = absurd (c.isnt w)
        from-why rec flipped w (inl d) = let q = d.is in apart (cc)
        from-why rec flipped w (inr c) = rec (never-before e t c.isnt n)
        from-why rec forced w (inl d) = let q = d.is in apart (cc)
        from-why rec forced w (inr c) = rec (never-before e t c.isnt n)

  -- ── the entries that steps A and C add ──

  pub unit-next : {t : Trail} {l : Literal} → UnitOk t l → Ok t → Ok (record { literal = l; why = forced } ∷ t)
  unit-next u o = next u.unset (inr (record { isnt = forced≢decided; must = u.must; source = u.source })) o

  pub decision-next : (s : State) (a : Atom) → next_goal k s ≡ some a → Ok s.trail → Ok (record { literal = plain a; why = decided } ∷ s.trail)
  unfolding plain
  decision-next s a e o =
      let f = goal-first k s a e in
      next f.pass (inl (record { is = refl; positive = refl; before = f.before; after = f.after; split = f.split; settled = f.fail })) o
