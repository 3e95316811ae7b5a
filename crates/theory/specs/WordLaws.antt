-- The tests for sameness answer true just at equal terms; a literal and its negation; goal atoms. Assumes nothing.
use Rattle.std.specs.Prelude.{ℕ, ◌≡◌, refl, ◌⊎◌, Bool, true, false, not, List, [], ◌∷◌, eqb}
use Rattle.std.proofs.Common.{sym, ◌∙◌, ap, inl, inr, true≢false, eqb-true, eq-eqb}
use Rattle.std.specs.Bool.{beq}
use Rattle.std.proofs.Math.Bool.{not-not}
use Rattle.std.proofs.lemmas.Bool.{false≢true}
use mathlib.Core.List.Memᴰ
use Rattle.definitions.specs.Lists.{◌∈◌, joined}
use Rattle.definitions.specs.Words.{Atom, Literal, negate, plain, same_args, same_atom, same_literal, Clause, goal_atoms}
use Rattle.definitions.specs.Meaning.{Assignment, Makes}
use Rattle.theory.specs.Tests.{by-test, apart}
use Rattle.theory.specs.ListLaws.{joined_of, joined_in}
use Rattle.theory.specs.DistinctLaws.{distinct-in, distinct_of}

pub atom-ext : {a b : Atom} → a.symbol ≡ b.symbol → a.args ≡ b.args → a ≡ b
atom-ext p q = λ i. record { symbol = p i; args = q i }

pub literal-ext : {l m : Literal} → l.positive ≡ m.positive → l.atom ≡ m.atom → l ≡ m
literal-ext p q = λ i. record { positive = p i; atom = q i }

pub same_args-eq : (xs ys : List ℕ) → same_args xs ys ≡ true → xs ≡ ys
unfolding same_args
same_args-eq [] [] h = refl
same_args-eq [] (y ∷ ys) h = apart (cc)
same_args-eq (x ∷ xs) [] h = apart (cc)
same_args-eq (x ∷ xs) (y ∷ ys) h = by-test (eqb x y) (λ e. cc (eqb-true x y e, same_args-eq xs ys (cc))) (λ e. apart (cc))

pub same_args-refl : (xs : List ℕ) → same_args xs xs ≡ true
unfolding same_args
same_args-refl [] = refl
same_args-refl (x ∷ xs) = cc (eq-eqb x x refl, same_args-refl xs)

pub same_atom-eq : (a b : Atom) → same_atom a b ≡ true → a ≡ b
unfolding same_atom
same_atom-eq a b h =
    by-test (eqb a.symbol b.symbol)
    (λ e. atom-ext (eqb-true a.symbol b.symbol e) (same_args-eq a.args b.args (cc)))
    (λ e. apart (cc))

pub same_atom-refl : (a : Atom) → same_atom a a ≡ true
unfolding same_atom
same_atom-refl a = cc (eq-eqb a.symbol a.symbol refl, same_args-refl a.args)

pub beq-eq : (a b : Bool) → beq a b ≡ true → a ≡ b
beq-eq true true h = refl
beq-eq true false h = apart (cc)
beq-eq false true h = apart (cc)
beq-eq false false h = refl

pub beq-refl : (a : Bool) → beq a a ≡ true
beq-refl true = refl
beq-refl false = refl

pub same_literal-eq : (l m : Literal) → same_literal l m ≡ true → l ≡ m
unfolding same_literal
same_literal-eq l m h =
    by-test (beq l.positive m.positive)
    (λ e. literal-ext (beq-eq l.positive m.positive e) (same_atom-eq l.atom m.atom (cc)))
    (λ e. apart (cc))

pub same_literal-refl : (l : Literal) → same_literal l l ≡ true
unfolding same_literal
same_literal-refl l = cc (beq-refl l.positive, same_atom-refl l.atom)

pub eq-same_literal : (l m : Literal) → l ≡ m → same_literal l m ≡ true
eq-same_literal l m e = rw (← e) (same_literal-refl l)

-- ── a literal and its negation ──

pub negate-negate : (l : Literal) → negate (negate l) ≡ l
unfolding negate
negate-negate l = literal-ext (not-not l.positive) refl

pub negate-atom : (l : Literal) → (negate l).atom ≡ l.atom
unfolding negate
negate-atom l = refl

pub plain-atom : (a : Atom) → (plain a).atom ≡ a
unfolding plain
plain-atom a = refl

pub negate-differs : (l : Literal) → negate l ≡ l → ⊥
unfolding negate
negate-differs l e = differs l.positive (ap (λ (x : Literal). x.positive) e)
  where
    differs : (b : Bool) → not b ≡ b → ⊥
    differs true q = false≢true q
    differs false q = true≢false q

-- two literals of one atom
pub same-or-negated : (l m : Literal) → l.atom ≡ m.atom → (l ≡ m) ⊎ (l ≡ negate m)
unfolding negate
same-or-negated l m e = signs l.positive m.positive refl refl
  where
    signs : (a b : Bool) → l.positive ≡ a → m.positive ≡ b → (l ≡ m) ⊎ (l ≡ negate m)
    signs true true p q = inl (literal-ext (cc) e)
    signs true false p q = inr (literal-ext (cc) e)
    signs false true p q = inr (literal-ext (cc) e)
    signs false false p q = inl (literal-ext (cc) e)

-- a literal is its atom, or that negated
pub as_plain : (l : Literal) → l.positive ≡ true → l ≡ plain l.atom
unfolding plain
as_plain l e = literal-ext e refl

pub as-negated : (l : Literal) → l.positive ≡ false → l ≡ negate (plain l.atom)
unfolding plain negate
as-negated l e = literal-ext e refl

-- ── assignments ──

pub makes_one : (v : Assignment) (l : Literal) → Makes v l ⊎ Makes v (negate l)
unfolding negate
makes_one v l = signs (v l.atom) l.positive
  where
    signs : (a b : Bool) → (a ≡ b) ⊎ (a ≡ not b)
    signs true true = inl refl
    signs true false = inr refl
    signs false true = inr refl
    signs false false = inl refl

pub makes-not-both : (v : Assignment) (l : Literal) → Makes v l → Makes v (negate l) → ⊥
unfolding negate
makes-not-both v l p q = differs l.positive (sym p ∙ q)
  where
    differs : (b : Bool) → b ≡ not b → ⊥
    differs true e = true≢false e
    differs false e = false≢true e

-- ── goal atoms ──

pub goal-of : (cs : List Clause) (c : Clause) (l : Literal) → c ∈ cs → l ∈ c → l.atom ∈ goal_atoms cs
unfolding goal_atoms
goal-of cs c l m n =
    distinct_of same_atom same_atom-eq _ l.atom (Memᴰ.map (λ (x : Literal). x.atom) (joined_of (λ (c : Clause). c) cs c l m n))

-- a clause and its literal that a goal atom comes from
pub record GoalFrom (cs : List Clause) (a : Atom) : Type 0 where
  pub clause : Clause
  pub its : clause ∈ cs
  pub literal : Literal
  pub inside : literal ∈ clause
  pub atom : literal.atom ≡ a

pub goal-from : (cs : List Clause) (a : Atom) → a ∈ goal_atoms cs → GoalFrom cs a
unfolding goal_atoms
goal-from cs a m =
    let (l, n, q) = Memᴰ.of_map (λ (x : Literal). x.atom) (joined (λ (c : Clause). c) cs) (distinct-in same_atom _ a m) in
    let (c, k, j) = joined_in (λ (c : Clause). c) cs l n in
    record { clause = c; its = k; literal = l; inside = j; atom = q }
