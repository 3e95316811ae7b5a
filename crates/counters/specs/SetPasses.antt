-- A literal is set in two passes: its own weight goes from 1 to 257, then its negation's from 1 to 0. Undone, both go backwards. Assumes nothing.
use Rattle.std.specs.Prelude.{ℕ, ◌+◌, ◌-◌, ◌/◌, ◌%◌, ◌≤◌, ◌<◌, ◌≡◌, refl, true, false, eqb, ◌*ℤ◌}
use Rattle.std.proofs.Common.{sym, ◌∙◌, arith, eqb-true, eq-eqb, ne_eqb}
use Rattle.std.proofs.Math.Path.{ap}
use Rattle.std.proofs.lemmas.Bool.{eqb-false}
use Rattle.definitions.specs.LiteralTest.{Value, unset_value, true_value, false_value}
use Rattle.theory.specs.Tests.{by-test}
use Rattle.bits.specs.Bits.{by_bit}
use Rattle.encoding.specs.Values.{Values, same_value, is_false_value, is_true_value, value_at, word_sign, other_sign, literal_value}
use Rattle.encoding.specs.ValueLaws.{even-sign, odd_sign, by_sign, other-even, other-odd}
use Rattle.counters.specs.Weights.{weight, weighs, weighs-as, weighs-small, WeightStep}

-- ── between the passes x weighs as afterwards, all other words as before ──

unfoldable pub halfway : (ℕ → ℕ) → (ℕ → ℕ) → ℕ → ℕ → ℕ
halfway f g x w = elim (eqb w x) [ true ↦ g w | false ↦ f w ]

halfway-here : (f g : ℕ → ℕ) (x : ℕ) → halfway f g x x ≡ g x
unfolding halfway
halfway-here f g x = rw (eq-eqb x x refl, halfway)

halfway-other : (f g : ℕ → ℕ) (x w : ℕ) → (w ≡ x → ⊥) → halfway f g x w ≡ f w
unfolding halfway
halfway-other f g x w n = rw (ne_eqb w x n, halfway)

pub halfway-small : (before after : Values) (x w : ℕ) → halfway (weighs before) (weighs after) x w ≤ 257
unfolding halfway
halfway-small before after x w = by-test (eqb w x) (λ e. rw (e, halfway) (weighs-small after w)) (λ e. rw (e, halfway) (weighs-small before w))

-- ── a literal and its negation ──

module _ (x : ℕ) where
  -- the other sign, by this one
  by-other : {C : Type 0} → (x % 2 ≡ 0 → x + 1 ≡ other_sign x → C) → (x % 2 ≡ 1 → x - 1 ≡ other_sign x → C) → C
  by-other even odd = by_bit x (λ z. even z (other-even x z)) (λ o. odd o (other-odd x (λ z. omega arith)))

  other-atom : other_sign x / 2 ≡ x / 2
  other-atom = by-other (λ z e. omega arith) (λ o e. omega arith)

  other-apart : other_sign x ≡ x → ⊥
  other-apart q = by-other (λ z e. omega arith) (λ o e. omega arith)

  pub other-small : x < 512 → other_sign x < 512
  other-small l = by-other (λ z e. omega arith) (λ o e. omega arith)

  only_two : (w : ℕ) → w / 2 ≡ x / 2 → (w ≡ x → ⊥) → w ≡ other_sign x
  only_two w q n = by-other (λ z e. omega (arith, n)) (λ o e. omega (arith, n))

  opposed : word_sign (other_sign x) *ℤ word_sign x ≡ false_value
  opposed =
      by-other
      (λ z e. rw (odd_sign (other_sign x) (omega arith), even-sign x z))
      (λ o e. rw (even-sign (other_sign x) (omega arith), odd_sign x o))

  squared : word_sign x *ℤ word_sign x ≡ true_value
  squared = by_sign x (λ s. s *ℤ s ≡ true_value) refl refl

  no-state : word_sign x *ℤ unset_value ≡ unset_value
  no-state = by_sign x (λ s. s *ℤ unset_value ≡ unset_value) refl refl

-- ── the passes ──

-- the literal is unset under the first values, true under the second, and they say the same of every other atom
pub record SetsLiteral (before after : Values) (x : ℕ) : Type 0 where
  pub unset : value_at before (x / 2) ≡ unset_value
  pub its : value_at after (x / 2) ≡ word_sign x
  pub others : (i : ℕ) → (x / 2 ≡ i → ⊥) → value_at after i ≡ value_at before i

module _ {before after : Values} {x : ℕ} (s : SetsLiteral before after x) where
  unset-weighs : (w : ℕ) → w / 2 ≡ x / 2 → weighs before w ≡ 1
  unfolding weight literal_value is_false_value is_true_value same_value
  unset-weighs w q = weighs-as before w unset_value (rw (q, s.unset) (no-state w))

  set-weighs : weighs after x ≡ 257
  unfolding weight literal_value is_false_value is_true_value same_value
  set-weighs = weighs-as after x true_value (rw s.its (squared x))

  other-weighs : weighs after (other_sign x) ≡ 0
  unfolding weight literal_value is_false_value is_true_value same_value
  other-weighs = weighs-as after (other_sign x) false_value (rw (other-atom x, s.its) (opposed x))

  elsewhere : (w : ℕ) → (w ≡ x → ⊥) → (w ≡ other_sign x → ⊥) → weighs after w ≡ weighs before w
  unfolding weighs literal_value
  elsewhere w n m = ap (λ (v : Value). weight (word_sign w *ℤ v)) (s.others (w / 2) (λ q. m (only_two x w (sym q) n)))

  pub first-pass : WeightStep (weighs before) (halfway (weighs before) (weighs after) x) x 256 0
  first-pass = record {
    same = halfway-other (weighs before) (weighs after) x;
    here =
        let a = halfway-here (weighs before) (weighs after) x in
        let b = set-weighs in
        let c = unset-weighs x refl in
        omega arith;
  }

  pub second-pass : WeightStep (halfway (weighs before) (weighs after) x) (weighs after) (other_sign x) 0 1
  second-pass = record {
    same = λ w n. by-test (eqb w x)
        (λ e. let q = eqb-true w x e in rw q (sym (halfway-here (weighs before) (weighs after) x)))
        (λ e. let m = eqb-false w x e in elsewhere w m n ∙ sym (halfway-other (weighs before) (weighs after) x w m));
    here =
        let a = halfway-other (weighs before) (weighs after) x (other_sign x) (other-apart x) in
        let b = other-weighs in
        let c = unset-weighs (other_sign x) (other-atom x) in
        omega arith;
  }
