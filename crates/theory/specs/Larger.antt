-- Demand 3 on problems: what it is that one task or problem is among another, and that an assignment respects a task. Assumes nothing.
use Rattle.std.specs.Prelude.{ℕ, ◌≤◌, ◌≡◌, List, [], ◌++◌}
use Rattle.definitions.specs.Lists.{◌∈◌}
use Rattle.definitions.specs.Words.{Literal, Clause, Rule, Problem}
use Rattle.definitions.specs.Instances.{Instance, Task}
use Rattle.definitions.specs.Meaning.{Assignment, Makes, SatisfiesClauses}
use Rattle.theory.specs.InstanceLaws.{Renumbered}

-- the clauses and instances of one task are among those of another
pub record Among (k m : Task) : Type 0 where
  pub clauses : (c : Clause) → c ∈ k.clauses → c ∈ m.clauses
  pub instances : (i : Instance) → i ∈ k.instances → Renumbered i m.instances

-- an assignment makes the heads of an instance only with its body, which then isn't false
pub record Respects (v : Assignment) (k : Task) : Type 0 where
  pub clauses : SatisfiesClauses v k.clauses
  pub instances : (i : Instance) → i ∈ k.instances → ((h : Literal) → h ∈ i.heads → Makes v h)
      → (i.body ≡ [] → ⊥) × ((l : Literal) → l ∈ i.body → Makes v l)

-- one problem holds another: at least as many constants, the same symbols first, each rule and each clause
pub record Includes (p q : Problem) : Type 0 where
  pub constants : p.constants ≤ q.constants
  pub arities : (more : List ℕ) × (q.arities ≡ p.arities ++ more)
  pub rules : (r : Rule) → r ∈ p.rules → r ∈ q.rules
  pub clauses : (c : Clause) → c ∈ p.clauses → c ∈ q.clauses
