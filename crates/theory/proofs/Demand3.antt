-- Demand 3 for calls: what a call answers is what the search comes to, and a sheet that keeps another includes its problem.
-- Assumes nothing.
use Rattle.std.specs.Prelude.{ℕ, List}
use Rattle.definitions.specs.Meaning.{Assignment, Satisfies}
use Rattle.definitions.specs.Sheets.{Accepted, Answers, Keeps}
use Rattle.definitions.specs.declared.Verdict.TheVariants.{Unsat, Unknown}
use Rattle.theory.specs.Larger.{Includes}
use Rattle.theory.specs.Limits.{accepted-from-lines}
use Rattle.theory.specs.Inclusion.{keeps-includes}
use Rattle.theory.specs.CallAnswers.{answer-from-search, its-search}
use Rattle.theory.proofs.Larger.{larger-never-unknown, larger-unsatisfiable}

-- a sheet that some call answers UNSAT, and a second accepted sheet that keeps it
module _ (first second : List ℕ) (budget : ℕ) (room : List ℕ) (unsat : Answers first budget room Unsat) (accepts : Accepted second) (keeps : Keeps first second) where
  includes : Includes (answer-from-search first budget room Unsat unsat).problem accepts.problem
  includes =
      let f = answer-from-search first budget room Unsat unsat in
      keeps-includes first second f.problem accepts.problem f.reads accepts.reads keeps

  -- no true/false assignment satisfies all clauses of the second and every filling of all its rules, two-way rules as equivalences
  pub never-satisfied : (v : Assignment) → Satisfies v accepts.problem → ⊥
  never-satisfied =
      let f = answer-from-search first budget room Unsat unsat in
      larger-unsatisfiable f.problem accepts.problem includes (accepted-from-lines second accepts.problem accepts.reads) budget f.state f.comes

  -- and no call, at whatever budget and room, answers the second UNKNOWN
  pub never-unknown : (b : ℕ) (r : List ℕ) → Answers second b r Unknown → ⊥
  never-unknown b r unknown =
      let f = answer-from-search first budget room Unsat unsat in
      let g = answer-from-search second b r Unknown unknown in
      larger-never-unknown f.problem accepts.problem includes budget b f.state g.state f.comes (its-search second b r accepts.problem accepts.reads Unknown g)
