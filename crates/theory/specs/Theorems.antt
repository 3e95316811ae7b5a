-- The search of an accepted sheet comes to an answer at every budget, and so every call does. Assumes nothing.
use Rattle.std.specs.Prelude.{ℕ, ◌≤◌, ◌≡◌, refl, List, length}
use Rattle.std.proofs.Math.Option.{Option, none, some}
use Rattle.std.proofs.Common.{arith}
use Rattle.definitions.specs.Words.{Problem, goal_atoms}
use Rattle.definitions.specs.Instances.{task_of}
use Rattle.definitions.specs.Questions.{Reading, refused, accepted, read}
use Rattle.definitions.specs.Search.{Outcome, search}
use Rattle.definitions.specs.Call.{refusal, unended, searched, answered, Lending, first_short, after_lending}
use Rattle.theory.specs.Tests.{apart}
use Rattle.theory.specs.Steps.{IsDone}
use Rattle.theory.specs.Ends.{search-ends}
use Rattle.theory.specs.Limits.{accepted-limits}

module _ (sheet : List ℕ) (p : Problem) (reads : read sheet ≡ accepted p) (budget : ℕ) where
  goals : length (goal_atoms (task_of p).clauses) ≤ 256
  unfolding task_of
  goals = omega (arith, (accepted-limits sheet p reads).goals)

  -- it ends: the search comes to one of the four answers, within its steps
  pub search-comes-to-an-answer : IsDone (search p budget)
  unfolding search
  search-comes-to-an-answer = search-ends (task_of p) budget goals

-- so every call, on whatever bytes, at whatever budget and with whatever is lent, is refused or comes to one of the four answers
pub call-comes-to-an-end : (ls : List Lending) (sheet : List ℕ) (budget : ℕ) → after_lending ls sheet budget ≡ unended → ⊥
unfolding after_lending answered searched
call-comes-to-an-end ls sheet budget e = from-lent (first_short ls) e
  where
    from-outcome : (o : Outcome) → IsDone o → searched o ≡ unended → ⊥
    from-outcome o d h = let q = d.is in apart (cc)

    from-reading : (r : Reading) → read sheet ≡ r → answered r budget ≡ unended → ⊥
    from-reading (refused q n) r h = apart (cc)
    from-reading (accepted p) r h = from-outcome (search p budget) (search-comes-to-an-answer sheet p r budget) h

    from-lent : (short : Option ℕ) → elim short [ none ↦ answered (read sheet) budget | some q ↦ refusal q 0 ] ≡ unended → ⊥
    from-lent none h = from-reading (read sheet) refl h
    from-lent (some q) h = apart (cc)
