-- All that holds of every state of a search, as of the first. Assumes nothing.
use Rattle.std.specs.Prelude.{◌≤◌, ◌≡◌, List, [], ◌++◌, length}
use Rattle.std.proofs.Common.{sym, inl, append-nil}
use Rattle.definitions.specs.Lists.{Different}
use Rattle.definitions.specs.Words.{Atom, goal_atoms}
use Rattle.definitions.specs.Instances.{Task}
use Rattle.definitions.specs.Search.{State, start}
use Rattle.theory.specs.TableLaws.{goal-atoms-different}
use Rattle.theory.specs.Ends.{Fits, start_fits}
use Rattle.theory.specs.Answers.{Inv, start-inv}
use Rattle.theory.specs.Choices.{choice_world}
use Rattle.theory.specs.Sources.{Sourced}

-- ── the table ──

-- the goal atoms stand first, and no atom stands twice
pub record Tabled (k : Task) (s : State) : Type 0 where
  pub created : List Atom
  pub split : s.table ≡ goal_atoms k.clauses ++ created
  pub different : Different s.table

start-tabled : (k : Task) → Tabled k (start k)
unfolding start
start-tabled k = record { created = []; split = sym (append-nil (goal_atoms k.clauses)); different = goal-atoms-different k.clauses }

-- ── all of them ──

pub record Sound (k : Task) (s : State) : Type 0 where
  pub fits : Fits k s
  pub inv : Inv k (choice_world k) s
  pub sourced : Sourced k s
  pub tabled : Tabled k s

pub start-sound : (k : Task) → length (goal_atoms k.clauses) ≤ 256 → Sound k (start k)
unfolding start
start-sound k h = record { fits = start_fits k h; inv = start-inv k (choice_world k); sourced = λ a m. inl m; tabled = start-tabled k }
