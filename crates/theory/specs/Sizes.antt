-- Symbols, constants and rule numbers in instances and in the table of a search keep the limits of the sheet, so what they make can be
-- listed. Assumes nothing.
use Rattle.std.specs.Prelude.{ℕ, ◌-◌, ◌≤◌, ◌≡◌, refl, ◌++◌, map}
use Rattle.std.proofs.Common.{sym, ◌∙◌, arith, eq-eqb}
use Rattle.std.proofs.Math.Path.{ap, subst}
use Rattle.std.proofs.Math.Logic.{inl, inr}
use mathlib.Core.List.Memᴰ
use Rattle.std.proofs.lemmas.List.{map-append}
use Rattle.std.proofs.Math.ListN.{length, length-map}
use Rattle.definitions.specs.Lists.{◌∈◌, up_from}
use Rattle.definitions.specs.Words.{Literal, Term, variable, constant, Pattern, Rule, Problem}
use Rattle.definitions.specs.Instances.{Substitution, term_value, ground, is_variable, occurs_in, variables, substitutions, Instance, task_of}
use Rattle.definitions.specs.Search.{State, done, search}
use Rattle.definitions.specs.declared.Verdict.{Verdict}
use Rattle.theory.specs.ListLaws.{any_of, filter-of, Each, each_append}
use Rattle.theory.specs.PlaceLaws.{in-up_from}
use Rattle.theory.specs.WordLaws.{goal-from}
use Rattle.theory.specs.InstanceLaws.{substitution-sound, only-fillings, filled-rule, filled-heads, filled-body}
use Rattle.theory.specs.Sources.{search-sourced}
use Rattle.theory.specs.Limits.{TermLimits, PatternLimits, LiteralLimits, Within, Limits, arity-limit, Between}
use Rattle.theory.specs.ListingLaws.{AtomListable}

-- an instance has its rule's heads
pub instance-heads : {rule_limit clause_limit : ℕ} (p : Problem) → Within rule_limit clause_limit p → (i : Instance) → i ∈ (task_of p).instances → length i.heads ≤ 3
instance-heads p limits i m =
    let f = only-fillings p i m in
    omega (arith, ap length (filled-heads f), length-map f.rule.heads (ground f.filling), (limits.each_rule f.rule (filled-rule f).1).heads)

-- a variable of a literal of the rule is one of the rule's
pub variable-in : (r : Rule) (x : Pattern) → x ∈ r.heads ++ r.body → (v : ℕ) → variable v ∈ x.terms → 1 ≤ v → v ≤ 6 → v ∈ variables r
unfolding variables occurs_in is_variable
variable-in r x m v n l h =
    filter-of _ (up_from 1 6) v (in-up_from 1 6 v l (omega arith)) (any_of _ (r.heads ++ r.body) x m (any_of _ x.terms (variable v) n (eq-eqb v v refl)))

-- a filled literal of a rule keeps the limits
module _ (p : Problem) (r : Rule) (f : Substitution) (inside : f ∈ substitutions p.constants (variables r)) (x : Pattern) (its : x ∈ r.heads ++ r.body) where
  term-limits : (t : Term) → t ∈ x.terms → TermLimits p t → Between 1 p.constants (term_value f t)
  unfolding term_value
  term-limits (variable v) m l = substitution-sound p.constants (variables r) f inside v (variable-in r x its v m l.0 l.1)
  term-limits (constant c) m l = l

  pub filled-limits : PatternLimits p x → LiteralLimits p (ground f x)
  unfolding ground
  filled-limits l =
      record {
        symbol = l.symbol;
        declared = l.declared;
        args = length-map x.terms (term_value f) ∙ l.terms;
        in_range = λ c m. let (t, n, q) = Memᴰ.of_map (term_value f) x.terms m in subst (Between 1 p.constants) q (term-limits t n (l.in_range t n));
      }

module _ (p : Problem) (limits : Limits p) where
  -- a literal that keeps the limits can be listed
  pub literal-listable : (l : Literal) → LiteralLimits p l → AtomListable l.atom
  literal-listable l w =
      record {
        symbol = omega (arith, w.declared, limits.symbols);
        args = omega (arith, w.args, arity-limit p limits (l.atom.symbol - 1));
        in_range = λ c m. omega (arith, (w.in_range c m).1, limits.constants);
      }

  -- the literals of an instance keep the limits
  pub instance-limits : (i : Instance) → i ∈ (task_of p).instances → Each (LiteralLimits p) (i.heads ++ i.body)
  instance-limits i m l n =
      let f = only-fillings p i m in
      let r = limits.each_rule f.rule (filled-rule f).1 in
      let patterns = f.rule.heads ++ f.rule.body in
      let both : i.heads ++ i.body ≡ map (ground f.filling) patterns
      = cc (filled-heads f, filled-body f, map-append (ground f.filling) f.rule.heads f.rule.body) in
      let (x, j, q) = Memᴰ.of_map (ground f.filling) patterns (rw both at n) in
      subst (LiteralLimits p) q (
      filled-limits p f.rule f.filling f.inside x j (each_append (PatternLimits p) f.rule.heads r.each_head r.each_body x j))

  -- the limits are of a literal's atom
  pub same-limits : (l m : Literal) → l.atom ≡ m.atom → LiteralLimits p l → LiteralLimits p m
  same-limits l m e w =
      record { symbol = rw (← e) w.symbol; declared = rw (← e) w.declared; args = rw (← e) w.args; in_range = rw (← e) w.in_range }

  -- where a search ends, with whatever budget
  module _ (budget : ℕ) (v : Verdict) (s : State) (e : search p budget ≡ done v s) where
    -- the literals of the table's atoms keep the limits: each atom is from a goal clause or from the body of an instance
    pub table-limits : (l : Literal) → l.atom ∈ s.table → LiteralLimits p l
    unfolding search task_of
    table-limits l m =
        elim (search-sourced (task_of p) budget v s e l.atom m) [
          | inl g ↦ let c = goal-from p.clauses l.atom g in
              same-limits c.literal l c.atom ((limits.each_clause c.clause c.its).each_literal c.literal c.inside)
          | inr b ↦ let inside = Memᴰ.append_right b.instance.heads b.inside in
              same-limits b.literal l (sym b.atom) (instance-limits b.instance b.its b.literal inside)
        ]
