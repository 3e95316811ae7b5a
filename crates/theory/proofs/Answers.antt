-- Every step keeps the invariant of a state, so UNSAT rules out every candidate, where candidates obey the log. Assumes nothing.
use Rattle.std.specs.Prelude.{ℕ, ◌≡◌, [], ◌∷◌}
use Rattle.std.proofs.Common.{sym}
use Rattle.std.proofs.Math.Path.{subst}
use Rattle.std.proofs.Math.Logic.{inl, inr}
use Rattle.std.proofs.Math.Option.{some}
use mathlib.Core.List.Memᴰ
use Rattle.definitions.specs.Lists.{◌∈◌}
use Rattle.definitions.specs.Instances.{Instance, Task}
use Rattle.definitions.specs.Search.{Logged, State, start, conflict, force, next_act, next_instance, logged_of, backtrack, set_unit, log_instance, decide, after_conflict, Outcome, more, done, enough, search_task}
use Rattle.definitions.specs.declared.Verdict.{Verdict}
use Rattle.theory.specs.SearchLaws.{fired}
use Rattle.theory.specs.Steps.{Step, unit, undone, refuted, logs, overflows, decides, overspends, rests, After, run-keeps}
use Rattle.theory.specs.Trail.{World, LogOk, Ok, Laws, BacktrackOk, backtrack-ok, unit-next, decision-next}
use Rattle.theory.proofs.Trail.{act-ok}
use Rattle.theory.specs.Answers.{LogsOk, Inv, start-inv, Obeyed, Tells, InvTells}

-- ── the log ──

module _ (k : Task) (s : State) where
  log-ok : (i : Instance) → next_instance k s ≡ some i → LogOk k (logged_of s.trail i)
  unfolding logged_of
  log-ok i e = let f = fired k s i e in record { its = f.its; taken = λ l q. (f.taken l q).0; bodiless = f.bodiless }

  log-more : (g : Logged) → LogsOk k s → LogOk k g → LogsOk k (log_instance s g)
  unfolding log_instance
  log-more g ok new x m =
      elim (Memᴰ.append_cases s.log m) [
        | inl n ↦ ok x n
        | inr n ↦ subst (LogOk k) (sym (Memᴰ.eq_of_singleton n)) new
      ]

  -- no clause leaves the log, and those that enter it come from an instance
  abbrev Grown : State → Type 0
  Grown u = ((g : Logged) → g ∈ s.log → g ∈ u.log) × LogsOk k u

  step-log : (budget : ℕ) → LogsOk k s → (o : Outcome) → Step k budget s o → After Grown (λ v u. Grown u) o
  unfolding set_unit log_instance decide after_conflict
  step-log budget ok o (unit l a) = (λ g m. m, ok)
  step-log budget ok o (undone t a e) = (λ g m. m, ok)
  step-log budget ok o (refuted a e) = (λ g m. m, ok)
  step-log budget ok o (logs i a e h) = (λ g m. Memᴰ.append_left (logged_of s.trail i ∷ []) m, log-more (logged_of s.trail i) ok (log-ok i e))
  step-log budget ok o (overflows i a e h) = (λ g m. m, ok)
  step-log budget ok o (decides a n m e h) = (λ g m. m, ok)
  step-log budget ok o (overspends a n m e h) = (λ g m. m, ok)
  step-log budget ok o (rests n m e) = (λ g m. m, ok)

-- ── the invariant ──

module _ (k : Task) (W : World) where
  module _ (laws : Laws k W) where
    module _ (budget : ℕ) (s : State) (obeyed : Obeyed k W s) (v : Inv k W s) where
      backtracked : next_act k s ≡ some conflict → BacktrackOk k W (backtrack s.trail)
      backtracked a = backtrack-ok k W laws v.trailed (act-ok k W laws s v.trailed v.log_ok obeyed conflict a)

      step-trail : (o : Outcome) → Step k budget s o → After (λ u. Ok k W u.trail) (λ w u. Ok k W u.trail × Tells k W w u) o
      unfolding set_unit log_instance decide after_conflict
      step-trail o (unit l a) = unit-next k W (act-ok k W laws s v.trailed v.log_ok obeyed (force l) a) v.trailed
      step-trail o (undone t a e) = subst (BacktrackOk k W) e (backtracked a)
      step-trail o (refuted a e) = (v.trailed, subst (BacktrackOk k W) e (backtracked a))
      step-trail o (logs i a e h) = v.trailed
      step-trail o (overflows i a e h) = (v.trailed, tt)
      step-trail o (decides a n m e h) = decision-next k W s a e v.trailed
      step-trail o (overspends a n m e h) = (v.trailed, tt)
      step-trail o (rests n m e) = (v.trailed, (n, m, e))

      pub step-inv : (o : Outcome) → Step k budget s o → After (Inv k W) (InvTells k W) o
      step-inv (more u) d = record { trailed = step-trail (more u) d; log_ok = (step-log k s budget v.log_ok (more u) d).1 }
      step-inv (done w u) d =
          let (trailed, tells) = step-trail (done w u) d in
          (record { trailed = trailed; log_ok = (step-log k s budget v.log_ok (done w u) d).1 }, tells)

    -- ── a search ──

    -- the log is of instances, and where it is obeyed the invariant holds
    abbrev Follows : State → Type 0
    Follows s = LogsOk k s × (Obeyed k W s → Inv k W s)

    abbrev FollowsTells : Verdict → State → Type 0
    FollowsTells v s = LogsOk k s × (Obeyed k W s → InvTells k W v s)

    -- where the log of a later state is obeyed, so is that of an earlier one
    step_follows : (budget : ℕ) (s : State) → Follows s → (o : Outcome) → Step k budget s o → After Follows FollowsTells o
    step_follows budget s (ok, inv) (more u) d =
        let (kept, more-ok) = step-log k s budget ok (more u) d in
        (more-ok, λ obeyed. let now : Obeyed k W s = λ g m. obeyed g (kept g m) in step-inv budget s now (inv now) (more u) d)
    step_follows budget s (ok, inv) (done w u) d =
        let (kept, more-ok) = step-log k s budget ok (done w u) d in
        (more-ok, λ obeyed. let now : Obeyed k W s = λ g m. obeyed g (kept g m) in step-inv budget s now (inv now) (done w u) d)

    pub search-inv : (budget : ℕ) (v : Verdict) (s : State) → search_task k budget ≡ done v s → LogsOk k s × (Obeyed k W s → InvTells k W v s)
    unfolding search_task
    search-inv budget v s e =
        subst (After Follows FollowsTells) e (run-keeps k budget Follows FollowsTells (step_follows budget) (enough budget) (start k) ((start-inv k W).log_ok, λ obeyed. start-inv k W))
