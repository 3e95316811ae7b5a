-- `slots::term_word` meets its contract, by the law of each way through its tests. Assumes nothing.
use Rattle.std.proofs.Common.{arith, ◌≡◌, ◌%◌, ne_eqb}
use Rattle.std.proofs.lemmas.Bool.{eqb-false}
use Rattle.theory.specs.Tests.{apart}
use Rattle.theory.specs.WordLaws.{beq-refl, beq-eq}
use Rattle.encoding.specs.Signs.{number_of}
use Rattle.literals.proofs.Arguments.{no_size, low-variable, low-constant, out_of_range}
use Rattle.literals.proofs.slots.term_word.Goals as goal
use Rattle.literals.proofs.slots.term_word.Goals.{else-rule-via-then-rule+then-not-negative+else-size-le-VARIABLES, else-rule-via-then-rule+else-not-negative, else-rule-via-else-rule, else-rule-negative-via-then-rule-negative+else-size-constants, else-rule-negative-via-else-rule-negative}

pub returns-then-size-eq0 : goal.returns-then-size-eq0
unfolding number_of
returns-then-size-eq0 c = no_size _ _ _ _ (omega (arith, c.from-size.ensures))

pub returns-then-size-le-VARIABLES : goal.returns-then-size-le-VARIABLES
unfolding number_of
returns-then-size-le-VARIABLES c =
    rw c.from-size.ensures (low-variable _ _ _ _ c.if-rule.true (ne_eqb (c.args.word % 2) 1 c.if-not-negative.true) (omega (arith, c.from-size.ensures)) (omega (arith, c.from-size.ensures)))

pub returns-then-size-constants : goal.returns-then-size-constants
unfolding number_of
returns-then-size-constants c =
    rw c.from-size.ensures (low-constant _ _ _ _ (beq-eq _ _ c.if-rule-negative.true) (omega (arith, c.from-size.ensures)) (omega (arith, c.from-size.ensures)))

pub returns : goal.returns
unfolding number_of
returns c =
    out_of_range _ _ _ _ (omega (arith, c.from-size.ensures))
    (λ r n.
    let odd : c.args.word % 2 ≡ 1 → ⊥ = eqb-false (c.args.word % 2) 1 n in
    elim c.else-rule.branch [
      | else-rule-via-then-rule+then-not-negative+else-size-le-VARIABLES w ↦ omega (arith, c.from-size.ensures, w.if-size-le-VARIABLES.false)
      | else-rule-via-then-rule+else-not-negative w ↦ absurd (odd w.if-not-negative.false)
      | else-rule-via-else-rule w ↦ apart (cc (w.if-rule.false))
    ])
    (λ e. elim c.else-rule-negative.branch [
      | else-rule-negative-via-then-rule-negative+else-size-constants w ↦ omega (arith, c.from-size.ensures, w.if-size-constants.false)
      | else-rule-negative-via-else-rule-negative w ↦ apart (let same = beq-refl c.args.rule in cc (w.if-rule-negative.false))
    ])
