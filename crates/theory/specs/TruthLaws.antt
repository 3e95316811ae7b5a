-- What a literal is as a value, by the trail, and that the literal test finds it: in every state of a search the product of sign and
-- state tells true, false and unset apart. Assumes nothing.
use Rattle.std.specs.Prelude.{◌≡◌, true, false, ℤ, pos, negsuc, ◌*ℤ◌}
use Rattle.std.proofs.Math.Path.{sym, ap}
use Rattle.std.proofs.Common.{◌∙◌}
use Rattle.std.proofs.Math.IntN.{neg_ℤ, one, *ℤ-one, *ℤ-negsuc, *ℤ_comm}
use Rattle.definitions.specs.Words.{Literal, negate, plain}
use Rattle.definitions.specs.Search.{Trail, is_true, is_false, is_unset}
use Rattle.definitions.specs.LiteralTest.{unset_value, true_value, false_value, truth, atom_state, literal_sign, literal_test, TellsApart}
use Rattle.theory.specs.Tests.{by-test, apart, true-and-false}
use Rattle.theory.specs.WordLaws.{as_plain, as-negated}
use Rattle.theory.specs.SearchLaws.{Consistent, unset-not-true, unset-not-false, unset-of, unset-negate, negated-false}

-- ── truth ──

module _ (t : Trail) (l : Literal) where
  pub truth-true : is_true t l ≡ true → truth t l ≡ true_value
  unfolding truth
  truth-true p = cc

  pub truth-false : is_true t l ≡ false → is_false t l ≡ true → truth t l ≡ false_value
  unfolding truth
  truth-false p q = cc

  pub truth-unset : is_unset t l ≡ true → truth t l ≡ unset_value
  unfolding truth
  truth-unset u = cc (unset-not-true t l u, unset-not-false t l u)

-- a literal is true, false or unset
pub by-truth : (t : Trail) → Consistent t → (l : Literal) → {C : Type 0} → (is_true t l ≡ true → is_false t l ≡ false → C)
    → (is_true t l ≡ false → is_false t l ≡ true → C) → (is_true t l ≡ false → is_false t l ≡ false → C) → C
by-truth t clean l a b c =
    by-test (is_true t l)
    (λ p. by-test (is_false t l) (λ q. absurd (clean l p q)) (λ q. a p q))
    (λ p. by-test (is_false t l) (λ q. b p q) (λ q. c p q))

-- ── the test ──

pub one-times : (z : ℤ) → pos 1 *ℤ z ≡ z
unfolding one
one-times z = *ℤ_comm (pos 1) z ∙ *ℤ-one z

pub minus-one-times : (z : ℤ) → negsuc 0 *ℤ z ≡ neg_ℤ z
unfolding one
minus-one-times z = *ℤ_comm (negsuc 0) z ∙ *ℤ-negsuc z 0 ∙ ap neg_ℤ (*ℤ-one z)

module _ (t : Trail) (clean : Consistent t) (l : Literal) where
  -- the value of the negation
  truth-negate : neg_ℤ (truth t l) ≡ truth t (negate l)
  unfolding is_false
  truth-negate =
      by-truth t clean l
      (λ p q. ap neg_ℤ (truth-true t l p) ∙ sym (truth-false t (negate l) q (negated-false t l ∙ p)))
      (λ p q. ap neg_ℤ (truth-false t l p q) ∙ sym (truth-true t (negate l) q))
      (λ p q. let u = unset-of t l p q in ap neg_ℤ (truth-unset t l u) ∙ sym (truth-unset t (negate l) (unset-negate t l u)))

-- the product of its sign and its atom's state is what the literal is
pub test-truth : (t : Trail) → Consistent t → (l : Literal) → literal_test t l ≡ truth t l
unfolding literal_test literal_sign
test-truth t clean l =
    by-test l.positive
    (λ p. rw p (one-times (atom_state t l.atom)) ∙ ap (truth t) (sym (as_plain l p)))
    (λ p. rw p (minus-one-times (atom_state t l.atom)) ∙ truth-negate t clean (plain l.atom) ∙ ap (truth t) (sym (as-negated l p)))

-- it gives 1, -1 or 0 exactly when the literal is true, false or unset
pub tells-apart : (t : Trail) → Consistent t → (l : Literal) → TellsApart t l
tells-apart t clean l =
    by-truth t clean l
    (λ p q. let e = test-truth t clean l ∙ truth-true t l p in
    record {
      when_true = (λ _. p, λ _. e);
      when_false = (λ f. apart (cc), λ f. true-and-false f q);
      when-unset = (λ u. apart (cc), λ u. true-and-false p (unset-not-true t l u));
    })
    (λ p q. let e = test-truth t clean l ∙ truth-false t l p q in
    record {
      when_true = (λ h. apart (cc), λ h. true-and-false h p);
      when_false = (λ _. q, λ _. e);
      when-unset = (λ u. apart (cc), λ u. true-and-false q (unset-not-false t l u));
    })
    (λ p q. let u = unset-of t l p q in
    let e = test-truth t clean l ∙ truth-unset t l u in
    record {
      when_true = (λ h. apart (cc), λ h. true-and-false h p);
      when_false = (λ f. apart (cc), λ f. true-and-false f q);
      when-unset = (λ _. u, λ _. e);
    })
