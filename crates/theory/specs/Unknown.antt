-- Where the search is left with no step: the setting of the goal atoms fails in neither way, each earlier choice fails, and what is in the
-- setting's closure is true. Assumes nothing.
use Rattle.std.specs.Prelude.{◌≡◌, ◌⊎◌, true, false, ◌∷◌}
use Rattle.std.proofs.Common.{sym, ap, subst, ◌∙◌}
use Rattle.std.proofs.Math.Logic.{inl, inr}
use Rattle.std.proofs.Math.Bool.{false≢true}
use Rattle.std.proofs.Math.Option.{none}
use mathlib.Core.List.Memᴰ
use Rattle.definitions.specs.Lists.{◌∈◌, any}
use Rattle.definitions.specs.Words.{Atom, Literal, negate, plain, goal_atoms}
use Rattle.definitions.specs.Instances.{Task}
use Rattle.definitions.specs.Meaning.{Choice, Makes, Closure, chosen, derived, both_signs, false_body, Breaks, Fails, Earlier}
use Rattle.definitions.specs.Search.{decided, Entry, Trail, is_true, is_false, is_unset, State, is_goal, next_act, next_instance, next_goal}
use Rattle.definitions.specs.Verdicts.{setting}
use Rattle.theory.specs.Tests.{by-test, true-and-false, none≢some}
use Rattle.theory.specs.ListLaws.{at_split, in-along, splits}
use Rattle.theory.specs.WordLaws.{negate-negate, negate-atom, negate-differs, as_plain, as-negated, goal-of}
use Rattle.theory.specs.SearchLaws.{Consistent, entry-true, true-cases, unset-not-true, unset-not-false, unset-negate, set_cases, set_more, false-conflict, goal-quiet, rests-true, goals-set}
use Rattle.theory.specs.Trail.{Decision, decision-goal, Consequence, Agrees, Ok, bare, next}
use Rattle.theory.specs.Choices.{choice_world}

-- what is true is what the setting makes, where no atom has both signs
pub true-makes : (t : Trail) → Consistent t → (l : Literal) → is_true t l ≡ true → Makes (setting t) l
unfolding setting is_false
true-makes t apart l h =
    by-test l.positive
    (λ e. subst (λ (x : Literal). is_true t x ≡ true) (as_plain l e) h ∙ sym e)
    (λ e. by-test (is_true t (plain l.atom))
    (λ p. absurd (apart (plain l.atom) p (subst (λ (x : Literal). is_true t x ≡ true) (as-negated l e) h)))
    (λ p. p ∙ sym e))

-- what it makes of an atom that is set is true
pub makes-true : (t : Trail) (l : Literal) → is_unset t (plain l.atom) ≡ false → Makes (setting t) l → is_true t l ≡ true
unfolding setting is_false
makes-true t l u y =
    by-test l.positive
    (λ e. rw (as_plain l e) (y ∙ e))
    (λ e. elim (set_cases t (plain l.atom) u) [
      | inl h ↦ true-and-false h (y ∙ e)
      | inr h ↦ rw (as-negated l e) h
    ])

module _ (k : Task) where
  pub consistent : {t : Trail} → Ok k (choice_world k) t → Consistent t
  unfolding is_true is_false any
  consistent bare l p q = false≢true p
  consistent (next {e = e} {t = t} u r o) l p q =
      elim (true-cases e t l p) [
        | inl h ↦ elim (true-cases e t (negate l) q) [
          | inl j ↦ negate-differs l (sym j ∙ h)
          | inr j ↦ true-and-false j (subst (λ (x : Literal). is_false t x ≡ false) h (unset-not-false t e.literal u))
        ]
        | inr h ↦ elim (true-cases e t (negate l) q) [
          | inl j ↦ true-and-false h (subst (λ (x : Literal). is_true t x ≡ false) (ap negate j ∙ negate-negate l) (unset-not-false t e.literal u))
          | inr j ↦ consistent o l h j
        ]
      ]

  -- how a true literal came on the trail, and the trail before it
  record Born (t : Trail) (l : Literal) : Type 0 where
    entry : Entry
    before : Trail
    its : entry.literal ≡ l
    ok : Ok k (choice_world k) before
    unset : is_unset before entry.literal ≡ true
    reason : Decision k before entry ⊎ Consequence k (choice_world k) before entry
    within : (e : Entry) → e ∈ before → e ∈ t

  born : {t : Trail} → Ok k (choice_world k) t → (l : Literal) → is_true t l ≡ true → Born t l
  unfolding is_true any
  born bare l p = absurd (false≢true p)
  born (next {e = e} {t = t} u r o) l p =
      elim (true-cases e t l p) [
        | inl h ↦ record { entry = e; before = t; its = h; ok = o; unset = u; reason = r; within = λ x m. Memᴰ.tail m }
        | inr h ↦ let b = born o l h in
            record { entry = b.entry; before = b.before; its = b.its; ok = b.ok; unset = b.unset; reason = b.reason; within = λ x m. Memᴰ.tail (b.within x m) }
      ]

  -- all goal atoms before a decision's are set
  decision-of : {t : Trail} → Ok k (choice_world k) t → (e : Entry) → e ∈ t → e.why ≡ decided → Decision k t e
  decision-of bare e m w = absurd (Memᴰ.not-nil m)
  decision-of (next {e = d} {t = t} u r o) e m w =
      elim (Memᴰ.cases_cons m) [ inl q ↦ latest q r | inr n ↦ later e (decision-of o e n w) ]
    where
      later : (x : Entry) → Decision k t x → Decision k (d ∷ t) x
      later x c =
          record { is = c.is; positive = c.positive; before = c.before; after = c.after; split = c.split; settled = λ a n. set_more d t (plain a) (c.settled a n) }

      latest : e ≡ d → Decision k t d ⊎ Consequence k (choice_world k) t d → Decision k (d ∷ t) e
      latest q (inl c) = subst (Decision k (d ∷ t)) (sym q) (later d c)
      latest q (inr c) = absurd (c.isnt (sym (ap (λ (x : Entry). x.why) q) ∙ w))

  -- ── no step is left ──

  module _ (s : State) (o : Ok k (choice_world k) s.trail) (a : next_act k s ≡ none) (b : next_instance k s ≡ none) (c : next_goal k s ≡ none) where
    pub closure-true : (l : Literal) → Closure k (setting s.trail) l → is_true s.trail l ≡ true
    closure-true l (chosen m y) = makes-true s.trail l (goals-set k s c l.atom m) y
    closure-true l (derived i m hs n) = (rests-true k s b i m (λ h j. closure-true h (hs h j))).1 l n

    -- a goal clause that the setting breaks would be a conflict of step A
    broken-acts : (f : Breaks k (setting s.trail)) → (l : Literal) → l ∈ f.clause → is_false s.trail l ≡ true
    unfolding is_false
    broken-acts f l m =
        makes-true s.trail (negate l)
        (subst (λ (x : Atom). is_unset s.trail (plain x) ≡ false) (sym (negate-atom l)) (goals-set k s c l.atom (goal-of k.clauses f.clause l f.inside m)))
        (f.all_false l m)

    pub fails-in-neither : Fails k (setting s.trail) → ⊥
    unfolding is_false
    fails-in-neither (inl f) =
        none≢some (sym (goal-quiet k s a f.clause f.inside) ∙ false-conflict s.trail (is_goal k) f.clause (broken-acts f))
    fails-in-neither (inr (both_signs l p q)) = consistent o l (closure-true l p) (closure-true (negate l) q)
    fails-in-neither (inr (false_body i m hs e)) = (rests-true k s b i m (λ h j. closure-true h (hs h j))).0 e

    -- an earlier choice has true where the setting has false; the setting's literal there is no decision, and it was forced
    -- by decisions that the earlier choice shares
    pub earlier-fails : (τ : Choice) → Earlier k τ (setting s.trail) → Fails k τ
    unfolding setting is_false
    earlier-fails τ y =
        elim (set_cases s.trail (plain y.at) (goals-set k s c y.at goal)) [
          | inl h ↦ true-and-false h y.later
          | inr h ↦ from (born o (negate (plain y.at)) h)
        ]
      where
        goal : y.at ∈ goal_atoms k.clauses
        goal = in-along y.split (at_split y.before y.after)

        from : Born s.trail (negate (plain y.at)) → Fails k τ
        from w = reason w.reason
          where
            unset : is_unset w.before (plain y.at) ≡ true
            unset = subst (λ (x : Literal). is_unset w.before x ≡ true) (ap negate w.its ∙ negate-negate (plain y.at)) (unset-negate w.before w.entry.literal w.unset)

            shares : Agrees k (choice_world k) τ w.before
            shares e m q = side (decision-of w.ok e m q)
              where
                side : Decision k w.before e → Closure k τ e.literal ⊎ Fails k τ
                side d =
                    elim (splits y.before d.before y.after d.after (sym y.split ∙ d.split)) [
                      | inl n ↦ inl (chosen (decision-goal k w.before e d) (y.alike e.literal.atom n ∙ true-makes s.trail (consistent o) e.literal (entry-true s.trail e (w.within e m))))
                      | inr r ↦ elim r [
                        | inl p ↦ true-and-false (entry-true w.before e m) (subst (λ (x : Literal). is_true w.before x ≡ false) (ap plain p ∙ sym d.positive) (unset-not-true w.before (plain y.at) unset))
                        | inr n ↦ true-and-false unset (d.settled y.at n)
                      ]
                    ]

            reason : Decision k w.before w.entry ⊎ Consequence k (choice_world k) w.before w.entry → Fails k τ
            reason (inl d) = absurd (unfold plain negate in false≢true (ap (λ (x : Literal). x.positive) (sym w.its ∙ d.positive)))
            reason (inr q) =
                elim (subst (λ (x : Literal). Closure k τ x ⊎ Fails k τ) w.its (q.must τ shares)) [
                  | inl n ↦ inr (both_signs (plain y.at) (unfold plain in chosen goal y.earlier) n)
                  | inr f ↦ f
                ]
