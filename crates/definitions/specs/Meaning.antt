-- Document 01, "Words": choices, their closure and its clashes; assignments that satisfy a problem, with document 02, 7/14. Assumes nothing.
use Rattle.std.specs.Prelude.{ℕ, ◌≡◌, ◌⊎◌, Bool, true, false, List, [], ◌∷◌, ◌++◌}
use Rattle.definitions.specs.Lists.{◌∈◌}
use Rattle.definitions.specs.Words.{Atom, Literal, negate, Clause, Pattern, Rule, TwoWay, forward, RuleLine, one_way, two_way, Problem, goal_atoms}
use Rattle.definitions.specs.Instances.{Substitution, ground, variables, substitutions, Instance, Task}

-- true or false for every atom
abbrev pub Assignment : Type 0
Assignment = Atom → Bool

-- the literal is true
abbrev pub Makes : Assignment → Literal → Type 0
Makes v l = v l.atom ≡ l.positive

-- "choice": true or false for each goal atom; what it says of other atoms is never asked
abbrev pub Choice : Type 0
Choice = Assignment

module _ (k : Task) (σ : Choice) where
  -- "closure": the least set of literals that holds the choice and, with all head literals of an instance, its body
  pub data Closure : Literal → Type 0 where
    chosen : {l : Literal} → l.atom ∈ goal_atoms k.clauses → Makes σ l → Closure l
    derived : {l : Literal} (i : Instance) → i ∈ k.instances → ((h : Literal) → h ∈ i.heads → Closure h) → l ∈ i.body → Closure l

  -- "clash": an atom with both signs in the closure, or a false body whose heads are all there
  pub data Clash : Type 0 where
    both_signs : (l : Literal) → Closure l → Closure (negate l) → Clash
    false_body : (i : Instance) → i ∈ k.instances → ((h : Literal) → h ∈ i.heads → Closure h) → i.body ≡ [] → Clash

  -- the choice breaks a goal clause: every literal of it is false
  pub record Breaks : Type 0 where
    pub clause : Clause
    pub inside : clause ∈ k.clauses
    pub all_false : (l : Literal) → l ∈ clause → Makes σ (negate l)

  -- the choice does one of the two
  abbrev pub Fails : Type 0
  Fails = Breaks ⊎ Clash

-- the order of choices: at the first goal atom where they differ, the earlier one has true
pub record Earlier (k : Task) (τ σ : Choice) : Type 0 where
  pub before : List Atom
  pub at : Atom
  pub after : List Atom
  pub split : goal_atoms k.clauses ≡ before ++ (at ∷ after)
  pub alike : (a : Atom) → a ∈ before → τ a ≡ σ a
  pub earlier : τ at ≡ true
  pub later : σ at ≡ false

-- an assignment "satisfies" a clause if some literal of it is true
pub record SatisfiesClause (v : Assignment) (c : Clause) : Type 0 where
  pub literal : Literal
  pub inside : literal ∈ c
  pub holds : Makes v literal

-- clauses if it satisfies each,
abbrev pub SatisfiesClauses : Assignment → List Clause → Type 0
SatisfiesClauses v cs = (c : Clause) → c ∈ cs → SatisfiesClause v c

-- and a filling of a rule if some head literal is false, or the body isn't empty and all its literals are true
pub data SatisfiesFilling (v : Assignment) (r : Rule) (f : Substitution) : Type 0 where
  head_false : (p : Pattern) → p ∈ r.heads → Makes v (negate (ground f p)) → SatisfiesFilling v r f
  body_true : (r.body ≡ [] → ⊥) → ((p : Pattern) → p ∈ r.body → Makes v (ground f p)) → SatisfiesFilling v r f

-- literals of a rule that all hold in a filling
abbrev pub AllHold : Assignment → Substitution → List Pattern → Type 0
AllHold v f ps = (p : Pattern) → p ∈ ps → Makes v (ground f p)

-- a body that holds in it; an empty one means false
abbrev pub BodyHolds : Assignment → Substitution → List Pattern → Type 0
BodyHolds v f ps = (ps ≡ [] → ⊥) × AllHold v f ps

-- 7/14: a two-way rule "holds as an equivalence" in a filling if, where its kept heads hold, "the rewritten heads all hold exactly if the
-- body does"
pub record Equivalence (v : Assignment) (t : TwoWay) (f : Substitution) : Type 0 where
  pub forth : AllHold v f t.kept → AllHold v f t.rewritten → BodyHolds v f t.body
  pub back : AllHold v f t.kept → BodyHolds v f t.body → AllHold v f t.rewritten

-- every filling of a rule, with so many constants
abbrev pub SatisfiesRule : Assignment → ℕ → Rule → Type 0
SatisfiesRule v n r = (f : Substitution) → f ∈ substitutions n (variables r) → SatisfiesFilling v r f

-- what is asked of an assignment for a line: that every filling of its rule is satisfied, or that the two-way rule holds as an equivalence in
-- every filling
abbrev pub SatisfiesLine : Assignment → ℕ → RuleLine → Type 0
SatisfiesLine v n (one_way r) = SatisfiesRule v n r
SatisfiesLine v n (two_way t) = (f : Substitution) → f ∈ substitutions n (variables (forward t)) → Equivalence v t f

-- it satisfies all clauses of a problem and every filling of all its rules, two-way rules as equivalences
pub record Satisfies (v : Assignment) (p : Problem) : Type 0 where
  pub clauses : SatisfiesClauses v p.clauses
  pub lines : (l : RuleLine) → l ∈ p.rule_lines → SatisfiesLine v p.constants l
