-- What a clause that asks does, in the code's terms: its words, the loop over them, and what its number says. Assumes nothing.
use Rattle.std.specs.Prelude.{ℕ, ◌+◌, ◌≤◌, ◌<◌, ◌≡◌, refl, Bool, true, false, Option, Some, None, MatchOption, List, [], ◌∷◌, length, get_or}
use Rattle.std.proofs.Common.{sym, ◌∙◌, arith, cond, ltb, ltb-true, ltb-false}
use Rattle.std.specs.Bool.{then_some}
use Rattle.std.specs.List.{position_or_len}
use Rattle.theory.specs.Tests.{by-test}
use Rattle.encoding.specs.Values.{Values, false_word, true_word}
use Rattle.units.specs.Units.{clause_at, may_set, not_false_words, act_on_words, act_at, ClausesFit}
use Rattle.units.specs.declared.UnitAct.{UnitAct}
use Rattle.units.specs.declared.UnitAct.TheVariants.{Conflict, Force, Nothing}
use Rattle.counters.specs.Counters.{read_whole}
use Rattle.counters.specs.ClauseWords.{ClauseWords}
use Rattle.counters.specs.ByNumber.{first_open, open_word, may_set_at, zero_left, one_left, may-by-place}

-- ── the first word that is not false ──

module _ (values : Values) where
  open-few : (words : List ℕ) → first_open values words ≤ length words
  unfolding first_open
  open-few [] = omega arith
  open-few (w ∷ ws) = by-test (false_word values w) (λ f. rw (f, first_open) (omega (arith, open-few ws))) (λ f. rw (f, first_open) (omega arith))

  open-is : (words : List ℕ) → first_open values words ≡ position_or_len (open_word values) words
  unfolding first_open
  open-is [] = refl
  open-is (w ∷ ws) = by-test (false_word values w) (λ f. rw (f, first_open) (omega (arith, open-is ws))) (λ f. rw (f, first_open))

  pub open-place : (words : List ℕ) {o : Option ℕ}
      → o ≡ cond (ltb (position_or_len (open_word values) words) (length words)) (Some (position_or_len (open_word values) words)) None
      → MatchOption o (first_open values words ≡ length words) (λ at. (first_open values words ≡ at) × (at < length words))
  open-place words is =
      let n = position_or_len (open_word values) words in
      let e = open-is words in
      by-test (ltb n (length words))
      (λ t. rw (is, t) (e, ltb-true n (length words) t))
      (λ t. rw (is, t) (omega (arith, e, open-few words, ltb-false n (length words) t)))

-- ── what it asks for ──

pub act-conflict : (values : Values) (starts literals heads : List ℕ) (given goals c : ℕ) → read_whole values (clause_at starts literals c) ≡ 0
    → Conflict ≡ act_at values starts literals heads given goals c
unfolding act_at act_on_words
act-conflict values starts literals heads given goals c z = cc (zero_left values (clause_at starts literals c) z)

module _ {starts literals heads : List ℕ} {given : ℕ} (c : ℕ) (fit : ClausesFit starts literals heads given (c + 1)) (values : Values)
    (one : read_whole values (clause_at starts literals c) ≡ 1) {words : List ℕ} (its : ClauseWords starts literals c words) where
  abbrev clause : List ℕ
  clause = clause_at starts literals c

  pub one-open : first_open values words ≡ length words → ⊥
  one-open h = let none = rw its.is at h in omega (arith, none, (one_left values clause one).0)

  -- its one word that is not false stands at a place
  module _ (goals : ℕ) {before : ℕ} (place : first_open values words ≡ before) {r : Bool}
      (may : r ≡ may_set_at heads given goals c (get_or words before 0) before) where
    abbrev act : UnitAct
    act = act_at values starts literals heads given goals c

    found : first_open values clause ≡ before
    found = rw its.is at place

    alone : (before < length clause) × (not_false_words values clause ≡ get_or clause before 0 ∷ []) × (true_word values (get_or clause before 0) ≡ false)
    alone = rw found at (one_left values clause one)

    may-is : may_set values starts literals heads given goals c (get_or clause before 0) ≡ r
    may-is = (rw found at (may-by-place values goals c (get_or clause before 0) fit (one_left values clause one).0)) ∙ sym (rw its.is at may)

    forces : r ≡ true → act ≡ Force (get_or words before 0)
    unfolding act_at act_on_words
    forces h = rw its.is (cc (alone.1, alone.2, may-is))

    rests : r ≡ false → act ≡ Nothing
    unfolding act_at act_on_words
    rests h = cc (alone.1, alone.2, may-is)

    pub act-forced : {o : Option ℕ} → o ≡ then_some r (get_or words before 0) → MatchOption o (act ≡ Nothing) (λ w. act ≡ Force w)
    act-forced is = by-test r (λ t. rw (is, t) (forces t)) (λ t. rw (is, t) (rests t))
