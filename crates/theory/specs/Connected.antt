-- What question 14 asks, of every head and in plain words: that it shares a variable with another. Assumes nothing.
use Rattle.std.specs.Prelude.{ℕ, ◌≡◌, refl, true}
use Rattle.std.proofs.Common.{sym, ap, ◌∙◌}
use Rattle.std.proofs.Math.Logic.{inl, inr}
use Rattle.std.proofs.Math.Bool.{false}
use mathlib.Core.List.{List, [], ◌∷◌, ◌++◌, append-nil, append_assoc}
use Rattle.definitions.specs.Lists.{◌∈◌, is_empty, any}
use Rattle.definitions.specs.Words.{Term, variable, constant, Pattern, Rule, Problem}
use Rattle.definitions.specs.Instances.{occurs_in}
use Rattle.definitions.specs.Questions.{is_shared, linked, each_linked, connected, accepted, read}
use Rattle.definitions.specs.Sheets.{HeadAmong, Shares, Apart}
use Rattle.theory.specs.Tests.{by-test, apart, true-and-false, and_left, and_right, or_cases, or_right}
use Rattle.theory.specs.ListLaws.{empty-nil, any_some, any_none}
use Rattle.theory.specs.Limits.{accepted-limits}

module _ {r : Rule} (h : HeadAmong r) where
  abbrev others : List Pattern
  others = h.before ++ h.behind

  shared-term : (t : Term) → t ∈ h.head.terms → is_shared others t ≡ true → Shares h
  unfolding is_shared
  shared-term (variable v) m e = record { shared = v; here = m; there = e }
  shared-term (constant c) m e = apart cc

  linked-shares : linked others h.head ≡ true → Shares h
  unfolding linked
  linked-shares e =
      elim (or_cases (is_empty others) (any (is_shared others) h.head.terms) e) [
        | inl n ↦ absurd (h.several (empty-nil others n))
        | inr s ↦ let (t, m, q) = any_some (is_shared others) h.head.terms s in shared-term t m q
      ]

-- ── a head that is linked ──

-- each of a list of heads is, to those passed before the list and those beside it
each-linked : (passed before : List Pattern) (x : Pattern) (behind : List Pattern) → each_linked passed (before ++ x ∷ behind) ≡ true
    → linked ((passed ++ before) ++ behind) x ≡ true
unfolding each_linked
each-linked passed [] x behind e = rw append-nil (and_left (linked (passed ++ behind) x) _ e)
each-linked passed (b ∷ before) x behind e =
    rw (← (append_assoc passed (b ∷ []) before)) (each-linked (passed ++ (b ∷ [])) before x behind (and_right (linked (passed ++ (before ++ x ∷ behind)) b) _ e))

-- of two or three heads of an accepted sheet's rule, each shares a variable with another
pub connected-heads : (sheet : List ℕ) (p : Problem) → read sheet ≡ accepted p → (r : Rule) → r ∈ p.rules → (h : HeadAmong r) → Shares h
unfolding connected
connected-heads sheet p reads r m h =
    linked-shares h
    (each-linked [] h.before h.head h.behind (ap (each_linked []) (sym h.heads) ∙ ((accepted-limits sheet p reads).each_rule r m).is_connected))

-- ── a head that is apart ──

-- where a list of heads is not linked
record Unlinked (passed heads : List Pattern) : Type 0 where
  pub head : Pattern
  pub before : List Pattern
  pub behind : List Pattern
  pub split : heads ≡ before ++ head ∷ behind
  pub unlinked : linked ((passed ++ before) ++ behind) head ≡ false

some-unlinked : (passed heads : List Pattern) → each_linked passed heads ≡ false → Unlinked passed heads
unfolding each_linked
some-unlinked passed [] e = apart cc
some-unlinked passed (x ∷ behind) e =
    by-test (linked (passed ++ behind) x)
    (λ t.
    let u = some-unlinked (passed ++ (x ∷ [])) behind cc in
    record {
      head = u.head;
      before = x ∷ u.before;
      behind = u.behind;
      split = ap (λ (l : List Pattern). x ∷ l) u.split;
      unlinked = rw (append_assoc passed (x ∷ []) u.before) at u.unlinked;
    })
    (λ f. record { head = x; before = []; behind = behind; split = refl; unlinked = rw append-nil f })

module _ (others : List Pattern) (x : Pattern) (e : linked others x ≡ false) where
  others-some : others ≡ [] → ⊥
  unfolding linked is_empty
  others-some n = let z : linked [] x ≡ false = rw n at e in apart cc

  none-shared : (v : ℕ) → variable v ∈ x.terms → occurs_in others v ≡ false
  unfolding linked is_shared
  none-shared v m =
      by-test (any (is_shared others) x.terms)
      (λ t. true-and-false (or_right (is_empty others) _ t) e)
      (λ f. any_none (is_shared others) x.terms f (variable v) m)

-- a rule that is not connected has a head apart
pub head_apart : (r : Rule) → connected r ≡ false → (h : HeadAmong r) × Apart h
unfolding connected
head_apart r e =
    let u = some-unlinked [] r.heads e in
    let among : HeadAmong r =
    record { head = u.head; before = u.before; behind = u.behind; heads = u.split; several = others-some (u.before ++ u.behind) u.head u.unlinked } in
    (among, none-shared (u.before ++ u.behind) u.head u.unlinked)
