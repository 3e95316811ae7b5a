-- The candidates are choices: each has the literals of its closure, and is ruled out if it breaks a goal clause or leads to
-- a clash. What the invariant asks of candidates holds of them. Assumes nothing.
use Rattle.std.specs.Prelude.{◌⊎◌}
use Rattle.std.proofs.Common.{sym, subst, inl, inr}
use Rattle.definitions.specs.Lists.{◌∈◌}
use Rattle.definitions.specs.Words.{Literal, negate, Clause, goal_atoms}
use Rattle.definitions.specs.Instances.{Instance, Task}
use Rattle.definitions.specs.Meaning.{Choice, Makes, Closure, chosen, derived, both_signs, false_body, Fails}
use Rattle.definitions.specs.Search.{Logged, clause_of}
use Rattle.theory.specs.Tests.{by-option}
use Rattle.theory.specs.ListLaws.{all-or-else}
use Rattle.theory.specs.WordLaws.{negate-negate, negate-atom, makes_one, goal-of}
use Rattle.theory.specs.SearchLaws.{clause-head, clause-taken}
use Rattle.theory.specs.Trail.{World, LogOk, Refutes, Laws}

module _ (k : Task) where
  abbrev pub choice_world : World
  choice_world = record { Candidate = Choice; has = λ σ l. Closure k σ l ⊎ Fails k σ; out = Fails k; out-has = λ σ l f. inr f; obeyed = LogOk k }

  -- a choice whose closure has the negation of each literal of a goal clause breaks it, or has both signs of one
  goal-refutes : (c : Clause) → c ∈ k.clauses → Refutes k choice_world c
  goal-refutes c i σ h =
      elim (all-or-else (λ (l : Literal). Makes σ (negate l)) c false-or-clash) [
        | inl f ↦ inl (record { clause = c; inside = i; all_false = f })
        | inr f ↦ f
      ]
    where
      false-or-clash : (l : Literal) → l ∈ c → Makes σ (negate l) ⊎ Fails k σ
      false-or-clash l m =
          elim (makes_one σ l) [
            | inl y ↦ elim (h l m) [
              | inl n ↦ inr (inr (both_signs l (chosen (goal-of k.clauses c l i m) y) n))
              | inr f ↦ inr f
            ]
            | inr n ↦ inl n
          ]

  -- the heads are all in the closure, or the choice fails
  heads-or-fails : (σ : Choice) (i : Instance) → ((h : Literal) → h ∈ i.heads → Closure k σ h ⊎ Fails k σ)
      → ((h : Literal) → h ∈ i.heads → Closure k σ h) ⊎ Fails k σ
  heads-or-fails σ i h = all-or-else (Closure k σ) i.heads h

  logged-refutes : (g : Logged) → LogOk k g → Refutes k choice_world (clause_of g)
  logged-refutes g ok σ h =
      elim (heads-or-fails σ g.instance (λ l m. subst (λ (x : Literal). Closure k σ x ⊎ Fails k σ) (negate-negate l) (h (negate l) (clause-head g l m)))) [
        | inl hs ↦ by-option g.taken
            (λ e. inr (false_body g.instance ok.its hs (ok.bodiless e)))
            (λ l e. elim (h l (clause-taken g l e)) [
              | inl n ↦ inr (both_signs l (derived g.instance ok.its hs (ok.taken l e)) n)
              | inr f ↦ f
            ])
        | inr f ↦ f
      ]

  pub choice-laws : Laws k choice_world
  choice-laws =
      record {
        total = λ σ l m. elim (makes_one σ l) [ inl y ↦ inl (inl (chosen m y)) | inr y ↦ inr (inl (chosen (subst (λ a. a ∈ goal_atoms k.clauses) (sym (negate-atom l)) m) y)) ];
        goals = goal-refutes;
        logged = logged-refutes;
        gives = λ g ok l e σ h. elim (heads-or-fails σ g.instance h) [
          | inl hs ↦ inl (derived g.instance ok.its hs (ok.taken l e))
          | inr f ↦ inr f
        ];
      }
