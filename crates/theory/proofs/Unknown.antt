-- What UNKNOWN tells: the setting of the goal atoms is the first choice that fails in neither way, and what is true is its
-- closure. Assumes nothing.
use Rattle.std.specs.Prelude.{ℕ, ◌≡◌, ◌⊎◌, true}
use Rattle.std.proofs.Common.{sym, subst}
use Rattle.std.proofs.Math.Logic.{inl, inr}
use Rattle.std.proofs.Math.Option.{none}
use mathlib.Core.List.Memᴰ
use Rattle.definitions.specs.Lists.{◌∈◌}
use Rattle.definitions.specs.Words.{Literal, goal_atoms}
use Rattle.definitions.specs.Instances.{Task}
use Rattle.definitions.specs.Meaning.{Closure, chosen, derived}
use Rattle.definitions.specs.Search.{Entry, Trail, is_true, State, next_act, next_instance, next_goal, done, search_task}
use Rattle.definitions.specs.Verdicts.{setting, FirstChoice}
use Rattle.definitions.specs.declared.Verdict.TheVariants.{Unknown}
use Rattle.theory.specs.SearchLaws.{true-at, entry-true, goals-set}
use Rattle.theory.specs.Trail.{Gave, Decision, decision-goal, Consequence, Ok, bare, next}
use Rattle.theory.specs.Choices.{choice_world}
use Rattle.theory.proofs.Choices.{search-tells}
use Rattle.theory.specs.Unknown.{true-makes, consistent, closure-true, fails-in-neither, earlier-fails}

module _ (k : Task) where
  module _ (t : Trail) (o : Ok k (choice_world k) t) where
    -- what is true is in the closure of the setting: a goal atom's literal is chosen, a created one's was given by an instance
    entry-closure : {u : Trail} → Ok k (choice_world k) u → ((e : Entry) → e ∈ u → e ∈ t) → (e : Entry) → e ∈ u → Closure k (setting t) e.literal
    entry-closure bare w e m = absurd (Memᴰ.not-nil m)
    entry-closure (next {e = d} {t = u} f r ok) w e m =
        elim (Memᴰ.cases_cons m) [
          | inl q ↦ latest q r (λ x n. entry-closure ok (λ y j. w y (Memᴰ.tail j)) x n)
          | inr n ↦ entry-closure ok (λ y j. w y (Memᴰ.tail j)) e n
        ]
      where
        goal : e.literal.atom ∈ goal_atoms k.clauses → Closure k (setting t) e.literal
        goal a = chosen a (true-makes t (consistent k o) e.literal (entry-true t e (w e m)))

        given : ((x : Entry) → x ∈ u → Closure k (setting t) x.literal) → (l : Literal) → Gave k u l → Closure k (setting t) l
        given rec l g =
            derived g.instance g.its (λ h n. let p = true-at u h (g.heads h n) in subst (Closure k (setting t)) p.its (rec p.entry p.inside)) g.inside

        from : ((x : Entry) → x ∈ u → Closure k (setting t) x.literal) → e ≡ d → (d.literal.atom ∈ goal_atoms k.clauses) ⊎ Gave k u d.literal → Closure k (setting t) e.literal
        from rec q (inl a) = goal (subst (λ (x : Entry). x.literal.atom ∈ goal_atoms k.clauses) (sym q) a)
        from rec q (inr g) = subst (λ (x : Entry). Closure k (setting t) x.literal) (sym q) (given rec d.literal g)

        latest : e ≡ d → Decision k u d ⊎ Consequence k (choice_world k) u d → ((x : Entry) → x ∈ u → Closure k (setting t) x.literal) → Closure k (setting t) e.literal
        latest q (inl c) rec = from rec q (inl (decision-goal k u d c))
        latest q (inr c) rec = from rec q c.source

    true-closure : (l : Literal) → is_true t l ≡ true → Closure k (setting t) l
    true-closure l h = let p = true-at t l h in subst (Closure k (setting t)) p.its (entry-closure o (λ e m. m) p.entry p.inside)

  module _ (s : State) (o : Ok k (choice_world k) s.trail) (a : next_act k s ≡ none) (b : next_instance k s ≡ none) (c : next_goal k s ≡ none) where
    first-choice : FirstChoice k s.trail
    first-choice =
        record { set = goals-set k s c; neither = fails-in-neither k s o a b c; earlier = earlier-fails k s o a b c; sound = true-closure s.trail o; complete = closure-true k s o a b c }

  -- UNKNOWN: the setting is the first choice that does neither, and what is true is its closure
  pub unknown-means : (budget : ℕ) (s : State) → search_task k budget ≡ done Unknown s → FirstChoice k s.trail
  unknown-means budget s e = let (inv, (a, b, c)) = search-tells k budget Unknown s e in first-choice s inv.trailed a b c
