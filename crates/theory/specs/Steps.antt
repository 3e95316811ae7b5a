-- The kinds of a step, and induction over a run: each invariant is then proved kind by kind. Assumes nothing.
use Prim.Native.Nat.{ℕ, zero, suc, ◌<◌}
use Rattle.std.specs.Prelude.{◌≡◌, Bool}
use Rattle.std.proofs.Math.Path.{refl}
use Rattle.std.proofs.Math.Bool.{true, false}
use Rattle.std.proofs.Math.Option.{Option, none, some}
use Rattle.std.proofs.Common.{arith}
use Rattle.std.proofs.Math.Dec.{ltb}
use Rattle.definitions.specs.Words.{Atom, Literal}
use Rattle.definitions.specs.Instances.{Instance, Task}
use Rattle.definitions.specs.Search.{Trail, State, Act, conflict, force, next_act, next_instance, logged_of, next_goal, backtrack, set_unit, log_instance, decide, after_conflict, Outcome, more, done, on_conflict, on_act, has_room, on_logged, on_goal, step, run}
use Rattle.definitions.specs.declared.Verdict.{Verdict}
use Rattle.definitions.specs.declared.Verdict.TheVariants.{Unsat, Unknown, Spent, Full}

module _ (k : Task) (budget : ℕ) (s : State) where
  -- what a step leads to, with what it found: a unit, a conflict that is undone or not, an instance that is logged or
  -- finds no room, a decision that is made or would exceed the budget, nothing at all
  pub data Step : Outcome → Type 0 where
    unit : (l : Literal) → next_act k s ≡ some (force l) → Step (more (set_unit s l))
    undone : (t : Trail) → next_act k s ≡ some conflict → backtrack s.trail ≡ some t → Step (more (after_conflict s t))
    refuted : next_act k s ≡ some conflict → backtrack s.trail ≡ none → Step (done Unsat (after_conflict s s.trail))
    logs : (i : Instance) → next_act k s ≡ none → next_instance k s ≡ some i → has_room s (logged_of s.trail i) ≡ true
        → Step (more (log_instance s (logged_of s.trail i)))
    overflows : (i : Instance) → next_act k s ≡ none → next_instance k s ≡ some i → has_room s (logged_of s.trail i) ≡ false
        → Step (done Full s)
    decides : (a : Atom) → next_act k s ≡ none → next_instance k s ≡ none → next_goal k s ≡ some a → ltb s.decisions budget ≡ true
        → Step (more (decide s a))
    overspends : (a : Atom) → next_act k s ≡ none → next_instance k s ≡ none → next_goal k s ≡ some a → ltb s.decisions budget ≡ false
        → Step (done Spent s)
    rests : next_act k s ≡ none → next_instance k s ≡ none → next_goal k s ≡ none → Step (done Unknown s)

  from-conflict : (o : Option Trail) → backtrack s.trail ≡ o → next_act k s ≡ some conflict
      → Step (elim o [ some t ↦ more (after_conflict s t) | none ↦ done Unsat (after_conflict s s.trail) ])
  from-conflict none e a = refuted a e
  from-conflict (some t) e a = undone t a e

  from-act : (a : Act) → next_act k s ≡ some a → Step (on_act s a)
  unfolding on_act on_conflict
  from-act conflict e = from-conflict (backtrack s.trail) refl e
  from-act (force l) e = unit l e

  from-instance : (i : Instance) → next_act k s ≡ none → next_instance k s ≡ some i → Step (on_logged s (logged_of s.trail i))
  unfolding on_logged
  from-instance i a e = room (has_room s (logged_of s.trail i)) refl
    where
      room : (b : Bool) → has_room s (logged_of s.trail i) ≡ b
          → Step (elim b [ true ↦ more (log_instance s (logged_of s.trail i)) | false ↦ done Full s ])
      room true h = logs i a e h
      room false h = overflows i a e h

  from-goal : (a : Atom) → next_act k s ≡ none → next_instance k s ≡ none → next_goal k s ≡ some a → Step (on_goal budget s a)
  unfolding on_goal
  from-goal a n m e = budgeted (ltb s.decisions budget) refl
    where
      budgeted : (b : Bool) → ltb s.decisions budget ≡ b → Step (elim b [ true ↦ more (decide s a) | false ↦ done Spent s ])
      budgeted true h = decides a n m e h
      budgeted false h = overspends a n m e h

  without-instance : (o : Option Atom) → next_goal k s ≡ o → next_act k s ≡ none → next_instance k s ≡ none
      → Step (elim o [ some a ↦ on_goal budget s a | none ↦ done Unknown s ])
  without-instance none e n m = rests n m e
  without-instance (some a) e n m = from-goal a n m e

  without-act : (o : Option Instance) → next_instance k s ≡ o → next_act k s ≡ none
      → Step (elim o [ some i ↦ on_logged s (logged_of s.trail i) | none ↦ elim (next_goal k s) [ some a ↦ on_goal budget s a | none ↦ done Unknown s ] ])
  without-act none e n = without-instance (next_goal k s) refl n e
  without-act (some i) e n = from-instance i n e

  -- every step is of one of these kinds
  pub kind : Step (step k budget s)
  unfolding step
  kind = by-act (next_act k s) refl
    where
      by-act : (o : Option Act) → next_act k s ≡ o
          → Step (elim o [ some a ↦ on_act s a | none ↦ elim (next_instance k s) [ some i ↦ on_logged s (logged_of s.trail i) | none ↦ elim (next_goal k s) [ some a ↦ on_goal budget s a | none ↦ done Unknown s ] ] ])
      by-act none e = without-act (next_instance k s) refl e
      by-act (some a) e = from-act a e

-- what holds after a step: the invariant of the next state, or what the answer tells
abbrev pub After : (State → Type 0) → (Verdict → State → Type 0) → Outcome → Type 0
After Inv Tells (more s) = Inv s
After Inv Tells (done v s) = Tells v s

-- an invariant that every kind of step keeps holds to the end
module _ (k : Task) (budget : ℕ) (Inv : State → Type 0) (Tells : Verdict → State → Type 0) where
  pub run-keeps : ((s : State) → Inv s → (o : Outcome) → Step k budget s o → After Inv Tells o)
      → (n : ℕ) (s : State) → Inv s → After Inv Tells (run k budget n s)
  unfolding run
  run-keeps keeps zero s v = v
  run-keeps keeps (suc n) s v = on (step k budget s) (keeps s v (step k budget s) (kind k budget s)) (λ s' w. run-keeps keeps n s' w)
    where
      on : (o : Outcome) → After Inv Tells o → ((s' : State) → Inv s' → After Inv Tells (run k budget n s'))
          → After Inv Tells (elim o [ more s' ↦ run k budget n s' | done v s' ↦ done v s' ])
      on (more s') w rec = rec s' w
      on (done u s') w rec = w

-- where moreover a number falls with every step, a run of more steps than that number ends
abbrev pub Falls : (State → Type 0) → (State → ℕ) → State → Outcome → Type 0
Falls Inv size s (more s') = Inv s' × (size s' < size s)
Falls Inv size s (done v s') = Unit {0}

pub record IsDone (o : Outcome) : Type 0 where
  pub verdict : Verdict
  pub state : State
  pub is : o ≡ done verdict state

module _ (k : Task) (budget : ℕ) (Inv : State → Type 0) (size : State → ℕ) where
  pub run_ends : ((s : State) → Inv s → (o : Outcome) → Step k budget s o → Falls Inv size s o)
      → (n : ℕ) (s : State) → Inv s → size s < n → IsDone (run k budget n s)
  unfolding run
  run_ends falls zero s v h = absurd (omega arith)
  run_ends falls (suc n) s v h =
      on (step k budget s) (falls s v (step k budget s) (kind k budget s)) (λ s' w l. run_ends falls n s' w l)
    where
      on : (o : Outcome) → Falls Inv size s o → ((s' : State) → Inv s' → size s' < n → IsDone (run k budget n s'))
          → IsDone (elim o [ more s' ↦ run k budget n s' | done v s' ↦ done v s' ])
      on (more s') d rec = rec s' d.0 (omega (arith, d.1))
      on (done u s') d rec = record { verdict = u; state = s'; is = refl }
