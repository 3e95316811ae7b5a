-- The invariant of a state, over any kind of candidates: what is set is decided or follows, and the log is of instances. Assumes nothing.
use Rattle.std.specs.Prelude.{◌≡◌}
use Rattle.std.proofs.Math.Option.{none}
use mathlib.Core.List.Memᴰ
use Rattle.definitions.specs.Lists.{◌∈◌}
use Rattle.definitions.specs.Instances.{Task}
use Rattle.definitions.specs.Search.{Logged, State, start, next_act, next_instance, next_goal}
use Rattle.definitions.specs.declared.Verdict.{Verdict}
use Rattle.definitions.specs.declared.Verdict.TheVariants.{Unsat, Unknown, Spent, Full}
use Rattle.theory.specs.Trail.{World, LogOk, Ok, bare}

-- every logged clause comes from an instance
abbrev pub LogsOk : Task → State → Type 0
LogsOk k s = (g : Logged) → g ∈ s.log → LogOk k g

module _ (k : Task) (W : World) where
  pub record Inv (s : State) : Type 0 where
    pub trailed : Ok k W s.trail
    pub log_ok : LogsOk k s

  pub start-inv : Inv (start k)
  unfolding start
  start-inv = record { trailed = bare; log_ok = λ g m. absurd (Memᴰ.not-nil m) }

  -- candidates have to obey the log of the state
  abbrev pub Obeyed : State → Type 0
  Obeyed s = (g : Logged) → g ∈ s.log → W.obeyed g

  -- what UNSAT tells of the candidates, and UNKNOWN of the state
  abbrev pub Tells : Verdict → State → Type 0
  Tells Unsat s = (x : W.Candidate) → W.out x
  Tells Unknown s = (next_act k s ≡ none) × (next_instance k s ≡ none) × (next_goal k s ≡ none)
  Tells Spent s = Unit {0}
  Tells Full s = Unit {0}

  -- the invariant, to the end, and what the answer tells
  abbrev pub InvTells : Verdict → State → Type 0
  InvTells v s = Inv s × Tells v s
