-- Every step keeps all that holds of the states of a search: for a proof that follows the search step by step. Assumes nothing.
use Rattle.std.specs.Prelude.{ℕ, ◌≤◌, ◌≡◌, List, ◌++◌, length}
use Rattle.std.proofs.Common.{ap, ◌∙◌, subst, append_assoc}
use Rattle.std.proofs.Math.Option.{Option, none, some}
use Rattle.definitions.specs.Lists.{Different}
use Rattle.definitions.specs.Words.{Atom, Literal, goal_atoms}
use Rattle.definitions.specs.Instances.{Task}
use Rattle.definitions.specs.Search.{State, start, logged_of, enter_taken, set_unit, log_instance, decide, after_conflict, Outcome, more, done, enough, search_task}
use Rattle.definitions.specs.declared.Verdict.{Verdict}
use Rattle.theory.specs.TableLaws.{enter-different, enter_behind}
use Rattle.theory.specs.Steps.{Step, unit, undone, refuted, logs, overflows, decides, overspends, rests, After, run-keeps}
use Rattle.theory.specs.Ends.{step_fits}
use Rattle.theory.proofs.Choices.{inv-step}
use Rattle.theory.specs.Sources.{step-sourced}
use Rattle.theory.specs.Invariants.{Tabled, Sound, start-sound}

taken-tabled : (k : Task) (s : State) (o : Option Literal) → Tabled k s
    → (created : List Atom) × (enter_taken s.table o ≡ goal_atoms k.clauses ++ created) × Different (enter_taken s.table o)
unfolding enter_taken
taken-tabled k s none t = (t.created, t.split, t.different)
taken-tabled k s (some l) t =
    let (new, e) = enter_behind s.table l.atom in
    (t.created ++ new, e ∙ ap (λ atoms. atoms ++ new) t.split ∙ append_assoc (goal_atoms k.clauses) t.created new, enter-different s.table l.atom t.different)

step-tabled : (k : Task) (budget : ℕ) (s : State) → Tabled k s → (o : Outcome) → Step k budget s o → After (Tabled k) (λ v s. Tabled k s) o
unfolding set_unit log_instance decide after_conflict
step-tabled k budget s t o (unit l a) = record { created = t.created; split = t.split; different = t.different }
step-tabled k budget s t o (undone u a e) = record { created = t.created; split = t.split; different = t.different }
step-tabled k budget s t o (refuted a e) = record { created = t.created; split = t.split; different = t.different }
step-tabled k budget s t o (logs i a e h) =
    let (c, p, d) = taken-tabled k s (logged_of s.trail i).taken t in
    record { created = c; split = p; different = d }
step-tabled k budget s t o (overflows i a e h) = t
step-tabled k budget s t o (decides a n m e h) = record { created = t.created; split = t.split; different = t.different }
step-tabled k budget s t o (overspends a n m e h) = t
step-tabled k budget s t o (rests n m e) = t

pub step-sound : (k : Task) (budget : ℕ) (s : State) → Sound k s → (o : Outcome) → Step k budget s o → After (Sound k) (λ v s. Sound k s) o
step-sound k budget s c (more u) d =
    record { fits = step_fits k budget s c.fits (more u) d; inv = inv-step k budget s c.inv (more u) d; sourced = step-sourced k budget s c.sourced (more u) d; tabled = step-tabled k budget s c.tabled (more u) d }
step-sound k budget s c (done v u) d =
    record { fits = step_fits k budget s c.fits (done v u) d; inv = (inv-step k budget s c.inv (done v u) d).0; sourced = step-sourced k budget s c.sourced (done v u) d; tabled = step-tabled k budget s c.tabled (done v u) d }

-- so they hold where a search ends
pub search-sound : (k : Task) (budget : ℕ) (v : Verdict) (s : State) → length (goal_atoms k.clauses) ≤ 256 → search_task k budget ≡ done v s → Sound k s
unfolding search_task
search-sound k budget v s h e =
    subst (After (Sound k) (λ v s. Sound k s)) e
    (run-keeps k budget (Sound k) (λ v s. Sound k s) (step-sound k budget) (enough budget) (start k) (start-sound k h))
