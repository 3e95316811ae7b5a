-- Step A keeps the invariant of the trail: what a clause sets follows from the decisions, and a created atom's literal was given by an
-- instance. Assumes nothing.
use Rattle.std.specs.Prelude.{◌≡◌, true, false}
use Rattle.std.proofs.Math.Path.{subst}
use Rattle.std.proofs.Common.{sym, ap, ◌∙◌}
use Rattle.std.proofs.Math.Logic.{inl, inr}
use Rattle.std.proofs.Math.Option.{some}
use Rattle.definitions.specs.Lists.{◌∈◌, all}
use Rattle.definitions.specs.Words.{Literal, negate, Clause, goal_atoms}
use Rattle.definitions.specs.Instances.{Task}
use Rattle.definitions.specs.Search.{Trail, is_true, is_false, is_unset, Logged, clause_of, State, Act, conflict, force, is_goal, next_act}
use Rattle.theory.specs.Tests.{true-and-false, or_cases}
use Rattle.theory.specs.ListLaws.{all-each}
use Rattle.theory.specs.WordLaws.{negate-negate, goal-of}
use Rattle.theory.specs.SearchLaws.{unset-not-false, clause-cases, conflict-false, IsUnit, force-unit, Alone, is_goal-in, may_logged, act-from}
use Rattle.theory.specs.Trail.{World, LogOk, Ok, Laws, Must, Never, Refutes, true-must, UnitOk, ActOk}

module _ (k : Task) (W : World) (laws : Laws k W) where
  module _ {t : Trail} (o : Ok k W t) where
    conflict-never : (c : Clause) → Refutes k W c → ((l : Literal) → l ∈ c → is_false t l ≡ true) → Never k W t
    unfolding is_false
    conflict-never c r f x a = r x (λ l m. true-must k W o (negate l) (f l m) x a)

    -- a literal of a goal atom that stands alone is had, since its negation would refute the clause
    alone-must : (c : Clause) → Refutes k W c → (l : Literal) → Alone t c l → l.atom ∈ goal_atoms k.clauses → Must k W t l
    unfolding is_false
    alone-must c r l f g x a =
        elim (laws.total x l g) [
          | inl y ↦ y
          | inr y ↦ W.out-has x l (r x (λ m n. elim (f m n) [
            | inl s ↦ true-must k W o (negate m) s x a
            | inr e ↦ subst (λ (z : Literal). W.has x (negate z)) (sym e) y
          ]))
        ]

    goal-act : (c : Clause) → c ∈ k.clauses → (l : Literal) → IsUnit t (is_goal k) c l → UnitOk k W t l
    goal-act c i l u =
        let g = goal-of k.clauses c l i u.inside in
        record { unset = u.unset; must = alone-must c (laws.goals c i) l u.alone g; source = inl g }

    -- where all heads are true, the unset literal is the one that the instance gives
    taken_of : (g : Logged) (l : Literal) → l ∈ clause_of g → is_unset t l ≡ true → all (is_true t) g.instance.heads ≡ true → g.taken ≡ some l
    unfolding is_false
    taken_of g l m u h =
        elim (clause-cases g l m) [
          | inl r ↦ true-and-false (all-each (is_true t) g.instance.heads h r.0 r.1) (subst (λ (y : Literal). is_true t y ≡ false) (ap negate r.2 ∙ negate-negate r.0) (unset-not-false t l u))
          | inr e ↦ e
        ]

    logged-act : (g : Logged) → W.obeyed g → LogOk k g → (l : Literal) → IsUnit t (may_logged k t g) (clause_of g) l → UnitOk k W t l
    logged-act g obeyed ok l u =
        elim (or_cases (is_goal k l) (all (is_true t) g.instance.heads) u.allowed) [
          | inl w ↦ let a = is_goal-in k l w in record { unset = u.unset; must = alone-must (clause_of g) (laws.logged g obeyed) l u.alone a; source = inl a }
          | inr w ↦ let q = taken_of g l u.inside u.unset w in
              let true-heads = all-each (is_true t) g.instance.heads w in
              record {
                unset = u.unset;
                must = λ x a. laws.gives g obeyed l q x (λ h m. true-must k W o h (true-heads h m) x a);
                source = inr (record { instance = g.instance; its = ok.its; heads = true-heads; inside = ok.taken l q });
              }
        ]

  pub act-ok : (s : State) → Ok k W s.trail → ((g : Logged) → g ∈ s.log → LogOk k g) → ((g : Logged) → g ∈ s.log → W.obeyed g)
      → (a : Act) → next_act k s ≡ some a → ActOk k W s.trail a
  act-ok s o ok obeyed conflict e =
      elim (act-from k s conflict e) [
        | inl r ↦ conflict-never o r.0 (laws.goals r.0 r.1) (conflict-false s.trail (is_goal k) r.0 r.2)
        | inr r ↦ conflict-never o (clause_of r.0) (laws.logged r.0 (obeyed r.0 r.1)) (conflict-false s.trail (may_logged k s.trail r.0) (clause_of r.0) r.2)
      ]
  act-ok s o ok obeyed (force l) e =
      elim (act-from k s (force l) e) [
        | inl r ↦ goal-act o r.0 r.1 l (force-unit s.trail (is_goal k) r.0 l r.2)
        | inr r ↦ logged-act o r.0 (obeyed r.0 r.1) (ok r.0 r.1) l (force-unit s.trail (may_logged k s.trail r.0) (clause_of r.0) l r.2)
      ]
