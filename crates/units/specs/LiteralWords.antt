-- The words of literals: two numbers for each atom, by its position. Assumes nothing.
use Rattle.std.specs.Prelude.{◌+◌, ◌*◌, ◌/◌, ◌%◌, ◌≤◌, ◌<◌, ◌≡◌, true, false, not, List, eqb, length}
use Rattle.std.proofs.Math.Path.{refl}
use Rattle.std.proofs.Common.{sym, ◌∙◌, ap, arith, eq-eqb, ne_eqb}
use Rattle.definitions.specs.Lists.{◌∈◌, distinct}
use Rattle.theory.specs.Tests.{by-test, true-and-false}
use Rattle.theory.specs.DistinctLaws.{distinct-map}
use Rattle.theory.specs.WordLaws.{literal-ext, same_literal-eq, eq-same_literal}
use Rattle.definitions.specs.Words.{Atom, Literal, negate, plain, same_literal, Clause, position}
use Rattle.theory.specs.TableLaws.{position-inside, position-injective}
use Rattle.encoding.specs.Signs.{word_of, word_of-half}
use Rattle.encoding.specs.Encoding.{literal_word, clause_words}

module _ (table : List Atom) where
  pub word-plain : (a : Atom) → literal_word table (plain a) ≡ 2 * position table a
  unfolding literal_word word_of plain
  word-plain a = refl

  pub word-negated : (a : Atom) → literal_word table (negate (plain a)) ≡ 2 * position table a + 1
  unfolding literal_word word_of plain negate
  word-negated a = refl

  -- the parts of a word: the position, and the sign
  pub word-positive : (l : Literal) → l.positive ≡ true → literal_word table l ≡ 2 * position table l.atom
  unfolding literal_word word_of
  word-positive l e = cc

  pub word-negative : (l : Literal) → l.positive ≡ false → literal_word table l ≡ 2 * position table l.atom + 1
  unfolding literal_word word_of
  word-negative l e = cc

  -- words of different literals differ
  word-injective : (l m : Literal) → l.atom ∈ table → m.atom ∈ table → literal_word table l ≡ literal_word table m → l ≡ m
  word-injective l m j k e =
      by-test l.positive
      (λ p. by-test m.positive
      (λ q. literal-ext (p ∙ sym q) (position-injective table l.atom m.atom j k (omega (arith, word-positive l p, word-positive m q))))
      (λ q. absurd (omega (arith, word-positive l p, word-negative m q))))
      (λ p. by-test m.positive
      (λ q. absurd (omega (arith, word-negative l p, word-positive m q)))
      (λ q. literal-ext (p ∙ sym q) (position-injective table l.atom m.atom j k (omega (arith, word-negative l p, word-negative m q)))))

  pub word-near : (l : Literal) → (2 * position table l.atom ≤ literal_word table l) × (literal_word table l ≤ 2 * position table l.atom + 1)
  word-near l =
      by-test l.positive
      (λ p. (omega (arith, word-positive l p), omega (arith, word-positive l p)))
      (λ p. (omega (arith, word-negative l p), omega (arith, word-negative l p)))

  pub word-half : (l : Literal) → literal_word table l / 2 ≡ position table l.atom
  unfolding literal_word
  word-half l = word_of-half (not l.positive) (position table l.atom)

  pub word_small : (l : Literal) → length table ≤ 256 → l.atom ∈ table → literal_word table l < 512
  word_small l h m = omega (arith, word-near l, position-inside table l.atom m)

  -- the word of a positive literal is even, and the next one is its negation's
  pub word_even : (l : Literal) → l ≡ plain l.atom → literal_word table l % 2 ≡ 0
  word_even l q = omega (arith, ap (literal_word table) q, word-plain l.atom)

  pub word_next : (l : Literal) → l ≡ plain l.atom → literal_word table (negate l) ≡ literal_word table l + 1
  word_next l q = omega (arith, ap (λ (m : Literal). literal_word table (negate m)) q, ap (literal_word table) q, word-plain l.atom, word-negated l.atom)

-- the words of the different literals are the different words
pub words-distinct : (table : List Atom) (ls : Clause) → ((y : Literal) → y ∈ ls → y.atom ∈ table)
    → distinct eqb (clause_words table ls) ≡ clause_words table (distinct same_literal ls)
unfolding clause_words
words-distinct table ls atoms =
    distinct-map (literal_word table) same_literal eqb ls
    (λ x y m n. by-test (same_literal x y)
    (λ e. eq-eqb (literal_word table x) (literal_word table y) (ap (literal_word table) (same_literal-eq x y e)) ∙ sym e)
    (λ e. ne_eqb (literal_word table x) (literal_word table y)
    (λ q. true-and-false (eq-same_literal x y (word-injective table x y (atoms x m) (atoms y n) q)) e)
    ∙ sym e))
