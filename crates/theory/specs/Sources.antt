-- Where the atoms of the table come from: a goal clause, or the body of an instance. Assumes nothing.
use Rattle.std.specs.Prelude.{ℕ, ◌≡◌, ◌⊎◌}
use Rattle.std.proofs.Common.{subst, inl, inr}
use Rattle.definitions.specs.Lists.{◌∈◌}
use Rattle.definitions.specs.Words.{Atom, Literal, goal_atoms}
use Rattle.definitions.specs.Instances.{Instance, Task}
use Rattle.definitions.specs.Search.{State, start, logged_of, set_unit, log_instance, decide, after_conflict, Outcome, done, enough, search_task}
use Rattle.definitions.specs.declared.Verdict.{Verdict}
use Rattle.theory.specs.SearchLaws.{fired, enter_taken-in}
use Rattle.theory.specs.Steps.{Step, unit, undone, refuted, logs, overflows, decides, overspends, rests, After, run-keeps}

-- the atom stands in the body of an instance
pub record InBody (k : Task) (a : Atom) : Type 0 where
  pub instance : Instance
  pub its : instance ∈ k.instances
  pub literal : Literal
  pub inside : literal ∈ instance.body
  pub atom : a ≡ literal.atom

abbrev pub Sourced : Task → State → Type 0
Sourced k s = (a : Atom) → a ∈ s.table → (a ∈ goal_atoms k.clauses) ⊎ InBody k a

pub step-sourced : (k : Task) (budget : ℕ) (s : State) → Sourced k s → (o : Outcome) → Step k budget s o → After (Sourced k) (λ v s. Sourced k s) o
unfolding set_unit log_instance decide after_conflict
step-sourced k budget s c o (unit l a) = c
step-sourced k budget s c o (undone t a e) = c
step-sourced k budget s c o (refuted a e) = c
step-sourced k budget s c o (logs i a e h) = λ x m.
    elim (enter_taken-in s.table (logged_of s.trail i).taken x m) [
      | inl n ↦ c x n
      | inr r ↦ let f = fired k s i e in
          inr (record { instance = i; its = f.its; literal = r.0; inside = (f.taken r.0 r.1).0; atom = r.2 })
    ]
step-sourced k budget s c o (overflows i a e h) = c
step-sourced k budget s c o (decides a n m e h) = c
step-sourced k budget s c o (overspends a n m e h) = c
step-sourced k budget s c o (rests n m e) = c

pub search-sourced : (k : Task) (budget : ℕ) (v : Verdict) (s : State) → search_task k budget ≡ done v s → Sourced k s
unfolding search_task start
search-sourced k budget v s e =
    subst (After (Sourced k) (λ v s. Sourced k s)) e (run-keeps k budget (Sourced k) (λ v s. Sourced k s) (step-sourced k budget) (enough budget) (start k) (λ a m. inl m))
