-- The limits by which the arrays hold a problem, and how long the parts are that they hold. Assumes nothing.
use Rattle.std.specs.Prelude.{ℕ, ◌+◌, ◌*◌, ◌<◌, ◌≡◌, refl, List, [], ◌∷◌, ◌++◌, map, length, replicate}
use Rattle.std.proofs.Math.Path.{ap}
use Rattle.std.proofs.Common.{subst, arith, length-append, length-take-le}
use Rattle.std.proofs.lemmas.List.{length-map}
use Rattle.encoding.specs.Lengths.{atom_codes}
use Rattle.definitions.specs.Lists.{◌∈◌, joined}
use Rattle.definitions.specs.Words.{Atom, Literal, plain, Clause, Rule, Problem, goal_atoms}
use Rattle.theory.specs.WordLaws.{goal-from}
use Rattle.theory.specs.Limits.{LiteralLimits, Limits, Searchable, limits-searchable}
use Rattle.encoding.specs.Slots.{slot_words, rule_words}
use Rattle.encoding.specs.Encoding.{literal_word, clause_words, starts_from, atom_code, sizes_of}
use Rattle.encoding.specs.declared.Sizes.{Sizes}
use Rattle.encoding.specs.CodeLaws.{CodeLimits, AtomLimits, code-small}

-- the limits by which the arrays hold a problem's clauses
pub record Encodable (p : Problem) : Type 0 where
  pub codes : CodeLimits p.constants p.arities
  pub literals : (c : Clause) → c ∈ p.clauses → (l : Literal) → l ∈ c → LiteralLimits p l

pub searchable-encodable : (p : Problem) → Searchable p → Encodable p
searchable-encodable p h =
    record {
      codes = record { few = h.constants; symbols = h.symbols; each_arity = h.each_arity };
      literals = λ c m. (h.each_clause c m).each_literal;
    }

pub limits-encodable : (p : Problem) → Limits p → Encodable p
limits-encodable p h = searchable-encodable p (limits-searchable p h)

pub literal-atom : (p : Problem) (l : Literal) → LiteralLimits p l → AtomLimits p.constants p.arities l.atom
literal-atom p l h = record { symbol = h.symbol; declared = h.declared; args = h.args; in_range = h.in_range }

pub plain-limits : (p : Problem) (a : Atom) → LiteralLimits p (plain a) → AtomLimits p.constants p.arities a
unfolding plain
plain-limits p a h = literal-atom p (plain a) h

-- the codes of a table are codes of the problem
pub codes-limited : (p : Problem) → Searchable p → (table : List Atom) → ((a : Atom) → a ∈ table → LiteralLimits p (plain a))
    → (a : Atom) → a ∈ table → atom_code a < atom_codes
codes-limited p h table limited a m = code-small p.constants p.arities (searchable-encodable p h).codes a (plain-limits p a (limited a m))

pub goal-limits : (p : Problem) → Encodable p → (a : Atom) → a ∈ goal_atoms p.clauses → AtomLimits p.constants p.arities a
goal-limits p h a m =
    let g = goal-from p.clauses a m in
    subst (AtomLimits p.constants p.arities) g.atom (literal-atom p g.literal (h.literals g.clause g.its g.literal g.inside))

pub words-length : (gs : List Atom) (cs : List Clause) → length (joined (clause_words gs) cs) ≡ length (joined (λ (c : Clause). c) cs)
unfolding joined clause_words
words-length gs [] = refl
words-length gs (c ∷ cs) =
    omega (arith, words-length gs cs, length-map c (literal_word gs), length-append (map (literal_word gs) c) (joined (clause_words gs) cs), length-append c (joined (λ (x : Clause). x) cs))

-- ── lengths ──

pub starts-length : {A : Type 0} (at : ℕ) (cs : List (List A)) → length (starts_from at cs) ≡ length cs + 1
unfolding starts_from
starts-length at [] = refl
starts-length at (c ∷ cs) = omega (arith, starts-length (at + length c) cs)

pub rule-length : (r : Rule) → length (rule_words r) ≡ 22
unfolding rule_words
rule-length r =
    let ws = slot_words (r.heads ++ r.body) in
    omega (arith, length-take-le 20 (ws ++ replicate 20 0) (omega (arith, length-append ws (replicate 20 0))))

pub rules-length : (rs : List Rule) → length (joined rule_words rs) ≡ 22 * length rs
unfolding joined
rules-length [] = refl
rules-length (r ∷ rs) = omega (arith, length-append (rule_words r) (joined rule_words rs), rule-length r, rules-length rs)

-- ── sizes ──

module _ (p : Problem) {sizes : Sizes} (e : sizes ≡ sizes_of p) where
  pub its-clauses : sizes.clauses ≡ length p.clauses
  unfolding sizes_of
  its-clauses = ap (λ (x : Sizes). x.clauses) e

  pub its-goals : sizes.atoms ≡ length (goal_atoms p.clauses)
  unfolding sizes_of
  its-goals = ap (λ (x : Sizes). x.atoms) e
