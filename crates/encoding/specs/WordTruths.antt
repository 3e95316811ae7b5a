-- What the values say where they are those of the trail: an atom's two bits are what the trail says of it, and the value of a literal's word is
-- the literal test. Assumes nothing.
use Rattle.std.specs.Prelude.{◌*◌, ◌/◌, ◌%◌, ◌≤◌, ◌≡◌, true, false, List, ◌++◌, length, ℤ, ◌*ℤ◌}
use Rattle.std.proofs.Common.{◌∙◌}
use Rattle.std.proofs.Math.Path.{ap}
use Rattle.std.proofs.Math.Bool.{not, not-not}
use Rattle.std.proofs.Math.Option.{some}
use native.Mathlib.Omega.{arith}
use Rattle.std.proofs.Math.ListN.{get_elem?}
use Rattle.definitions.specs.Lists.{◌∈◌, Different}
use Rattle.definitions.specs.Words.{Atom, Literal, plain, position}
use Rattle.definitions.specs.Search.{Trail, is_true, is_false, is_unset}
use Rattle.definitions.specs.LiteralTest.{truth, literal_sign, literal_test}
use Rattle.theory.specs.Tests.{by-test}
use Rattle.theory.specs.PlaceLaws.{get_elem-in, get_elem-left}
use Rattle.theory.specs.TableLaws.{position_at}
use Rattle.theory.specs.SearchLaws.{Consistent, unset-of}
use Rattle.theory.specs.TruthLaws.{truth-true, truth-false, truth-unset, by-truth, test-truth}
use Rattle.encoding.specs.Signs.{word_of, word_of-half, word-bit}
use Rattle.encoding.specs.Encoding.{literal_word}
use Rattle.encoding.specs.Values.{Values, goals_set, goals_true, same_value, is_true_value, is_false_value, set_bit, true_bit, state_of, unset_at, word_sign, literal_value, true_word, false_word}
use Rattle.encoding.specs.StateWords.{tells_set, tells_true, set_told, true-told}
use Rattle.encoding.specs.ValueLaws.{even-sign, odd_sign}
use Rattle.encoding.specs.Standing.{Valued, GoalWords, TrueWords}

-- the tests of a value are those of the trail
module _ (t : Trail) (l : Literal) where
  truth-is-true : is_true_value (truth t l) ≡ is_true t l
  unfolding truth is_true_value same_value
  truth-is-true = by-test (is_true t l) (λ e. cc) (λ e. by-test (is_false t l) (λ f. cc) (λ f. cc))

  truth-tells-set : tells_set (truth t l) ≡ not (is_unset t l)
  unfolding truth is_unset tells_set is_true_value is_false_value same_value
  truth-tells-set = by-test (is_true t l) (λ e. cc) (λ e. by-test (is_false t l) (λ f. cc) (λ f. cc))

  truth-tells-true : tells_true (truth t l) ≡ is_true t l
  unfolding truth tells_true is_true_value same_value state_of
  truth-tells-true = by-test (is_true t l) (λ e. cc) (λ e. by-test (is_false t l) (λ f. cc) (λ f. cc))

truth-is-false : (t : Trail) → Consistent t → (l : Literal) → is_false_value (truth t l) ≡ is_false t l
unfolding is_false_value same_value
truth-is-false t consistent l = by-truth t consistent l (λ p q. cc (truth-true t l p)) (λ p q. cc (truth-false t l p q)) (λ p q. cc (truth-unset t l (unset-of t l p q)))

-- ── words ──

pub literal-sign : (table : List Atom) (l : Literal) → word_sign (literal_word table l) ≡ literal_sign l
unfolding literal_word word_of literal_sign
literal-sign table l =
    by-test l.positive
    (λ p. rw p (even-sign _ (word-bit false (position table l.atom))))
    (λ p. rw p (odd_sign _ (word-bit true (position table l.atom))))

module _ (table : List Atom) (t : Trail) (values : Values) (valued : Valued table t values) where
  set-bit : (a : Atom) → a ∈ table → set_bit values (position table a) ≡ not (is_unset t (plain a))
  set-bit a m = set_told values (position table a) ∙ ap tells_set (valued a m) ∙ truth-tells-set t (plain a)

  true-bit : (a : Atom) → a ∈ table → true_bit values (position table a) ≡ is_true t (plain a)
  true-bit a m = true-told values (position table a) ∙ ap tells_true (valued a m) ∙ truth-tells-true t (plain a)

  pub unset-at : (a : Atom) → a ∈ table → unset_at values (position table a) ≡ is_unset t (plain a)
  unfolding unset_at
  unset-at a m = ap not (set-bit a m) ∙ not-not (is_unset t (plain a))

  -- a literal's word has the value that the literal test gives
  pub value-test : (l : Literal) → l.atom ∈ table → literal_value values (literal_word table l) ≡ literal_test t l
  unfolding literal_value literal_test literal_word
  value-test l m = rw (literal-sign table l, word_of-half (not l.positive) (position table l.atom)) (ap (λ (z : ℤ). literal_sign l *ℤ z) (valued l.atom m))

  -- the goal atoms stand first in the table, so their bits are the low ones of the first two words
  pub goal-words : Different table → (goals created : List Atom) → table ≡ goals ++ created → length goals ≤ 64 → GoalWords goals t (goals_set values) (goals_true values)
  unfolding set_bit true_bit
  goal-words different goals created split few k a its =
      let stands : get_elem? table k ≡ some a = rw split (get_elem-left goals created k a its) in
      let m = (get_elem-in table k a stands).1 in
      let small = (get_elem-in goals k a its).0 in
      let place = position_at table different k a stands in
      let low : k % 64 ≡ k = omega arith in
      let first : 2 * (k / 64) ≡ 0 = omega arith in
      (rw (place, low, first) at (set-bit a m), rw (place, low, first) at (true-bit a m))

  module _ (consistent : Consistent t) where
    value-truth : (l : Literal) → l.atom ∈ table → literal_value values (literal_word table l) ≡ truth t l
    value-truth l m = value-test l m ∙ test-truth t consistent l

    pub true-word : TrueWords table t values
    unfolding true_word
    true-word l m = ap is_true_value (value-truth l m) ∙ truth-is-true t l

    pub false-word : (l : Literal) → l.atom ∈ table → false_word values (literal_word table l) ≡ is_false t l
    unfolding false_word
    false-word l m = ap is_false_value (value-truth l m) ∙ truth-is-false t consistent l
