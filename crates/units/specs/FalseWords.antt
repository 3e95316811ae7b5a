-- The words of a clause that are not false are those of its literals that are not false. Assumes nothing.
use Rattle.std.specs.Prelude.{ℕ, ◌≡◌, Bool, true, false, eqb, List, [], ◌∷◌, map}
use Rattle.std.proofs.Math.Path.{refl, ap}
use Rattle.std.proofs.Common.{sym, ◌∙◌}
use Rattle.std.proofs.Math.Bool.{not}
use mathlib.Core.List.Memᴰ
use Rattle.definitions.specs.Lists.{◌∈◌, all, filter, distinct}
use Rattle.definitions.specs.Words.{Atom, Literal, negate, same_literal, Clause}
use Rattle.definitions.specs.Search.{Trail, is_true, is_false, is_unset, not_false}
use Rattle.theory.specs.Tests.{by-test, true-and-false}
use Rattle.theory.specs.ListLaws.{all-each}
use Rattle.theory.specs.DistinctLaws.{distinct-in, filter-distinct}
use Rattle.theory.specs.PlaceLaws.{filter_alike, filter_map}
use Rattle.theory.specs.WordLaws.{negate-atom, same_literal-eq}
use Rattle.theory.specs.SearchLaws.{Consistent, unset-not-false, negated-false}
use Rattle.encoding.specs.Encoding.{literal_word, clause_words}
use Rattle.encoding.specs.Standing.{Valued}
use Rattle.encoding.specs.Values.{Values, false_word}
use Rattle.encoding.specs.WordTruths.{false-word}
use Rattle.units.specs.LiteralWords.{words-distinct}
use Rattle.units.specs.Units.{not_false_words}

-- the different words that pass are those of the different literals that do
pub words_left : (table : List Atom) (c : Clause) → ((l : Literal) → l ∈ c → l.atom ∈ table) → (p : ℕ → Bool) (q : Literal → Bool)
    → ((l : Literal) → l.atom ∈ table → p (literal_word table l) ≡ q l) → filter p (distinct eqb (clause_words table c)) ≡ clause_words table (filter q (distinct same_literal c))
unfolding clause_words
words_left table c m p q alike =
    let different = distinct same_literal c in
    ap (filter p) (words-distinct table c m)
    ∙ filter_map p (literal_word table) different
    ∙ ap (map (literal_word table)) (filter_alike (λ (l : Literal). p (literal_word table l)) q different (λ l n. alike l (m l (distinct-in same_literal c l n))))

module _ (table : List Atom) (t : Trail) (values : Values) (consistent : Consistent t) (valued : Valued table t values) where
  -- a head is true just where the word of its negation is false, and so are all heads
  head-false : (h : Literal) → h.atom ∈ table → false_word values (literal_word table (negate h)) ≡ is_true t h
  head-false h m = false-word table t values valued consistent (negate h) (Memᴰ.cast (negate-atom h) m) ∙ negated-false t h

  pub heads-false : (hs : List Literal) → ((h : Literal) → h ∈ hs → h.atom ∈ table)
      → all (false_word values) (clause_words table (map negate hs)) ≡ all (is_true t) hs
  unfolding all clause_words
  heads-false [] m = refl
  heads-false (h ∷ hs) m = cc (head-false h (m h (Memᴰ.head refl)), heads-false hs (λ x n. m x (Memᴰ.tail n)))

  -- where an unset literal's word is among the words, they are not all false
  pub not-all : (l : Literal) → l.atom ∈ table → is_unset t l ≡ true → (ws : List ℕ) → literal_word table l ∈ ws → all (false_word values) ws ≡ false
  not-all l m u ws n =
      by-test (all (false_word values) ws)
      (λ e. true-and-false (all-each (false_word values) ws e (literal_word table l) n) (false-word table t values valued consistent l m ∙ unset-not-false t l u))
      (λ e. e)

  -- the different words that are not false are those of the different literals that are not
  pub not-false-words : (c : Clause) → ((l : Literal) → l ∈ c → l.atom ∈ table) → not_false_words values (clause_words table c) ≡ clause_words table (not_false t c)
  unfolding not_false_words not_false
  not-false-words c m =
      words_left table c m (λ (w : ℕ). not (false_word values w)) (λ (l : Literal). not (is_false t l)) (λ l n. ap not (false-word table t values valued consistent l n))
      ∙ ap (clause_words table) (sym (filter-distinct same_literal same_literal-eq (λ (l : Literal). not (is_false t l)) c))
