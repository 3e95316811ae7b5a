-- An instance that did not fire does not fire once a literal is set that is none of its heads. Assumes nothing.
use Rattle.std.specs.Prelude.{◌≡◌, false, ◌||◌}
use Rattle.std.proofs.Math.Path.{refl}
use Rattle.std.proofs.Math.Logic.{inl, inr}
use Rattle.std.proofs.Math.Bool.{Bool, true, not}
use mathlib.Core.List.{List, [], ◌∷◌}
use Rattle.definitions.specs.Lists.{is_empty, any, all}
use Rattle.definitions.specs.Words.{Literal, same_literal}
use Rattle.definitions.specs.Instances.{Instance}
use Rattle.definitions.specs.Search.{Entry, Trail, is_true, fires}
use Rattle.theory.specs.SearchLaws.{true-more}
use Rattle.theory.specs.Tests.{by-test, true-and-false, and_left, and_right, and_intro, or_cases, or_left, or_right}

module _ (e : Entry) (t : Trail) where
  true-less : (l : Literal) → same_literal l e.literal ≡ false → is_true (e ∷ t) l ≡ true → is_true t l ≡ true
  unfolding is_true any
  true-less l n h = rw n at h

  heads-less : (ls : List Literal) → any (λ (l : Literal). same_literal l e.literal) ls ≡ false → all (is_true (e ∷ t)) ls ≡ true → all (is_true t) ls ≡ true
  unfolding any all
  heads-less [] n h = refl
  heads-less (l ∷ ls) n h =
      by-test (same_literal l e.literal)
      (λ y. true-and-false (or_left (same_literal l e.literal) (any (λ (m : Literal). same_literal m e.literal) ls) y) n)
      (λ y.
      and_intro (is_true t l) (all (is_true t) ls)
      (true-less l y (and_left (is_true (e ∷ t) l) (all (is_true (e ∷ t)) ls) h))
      (heads-less ls (rw y at n) (and_right (is_true (e ∷ t) l) (all (is_true (e ∷ t)) ls) h)))

  open-less : (ls : List Literal) → any (λ (l : Literal). not (is_true (e ∷ t) l)) ls ≡ true → any (λ (l : Literal). not (is_true t l)) ls ≡ true
  unfolding any
  open-less [] h = h
  open-less (l ∷ ls) h = by-test (is_true t l) (λ y. rw y (open-less ls (rw (true-more e t l y) at h))) (λ y. rw y)

  pub stays-quiet : (i : Instance) → any (λ (l : Literal). same_literal l e.literal) i.heads ≡ false → fires t i ≡ false → fires (e ∷ t) i ≡ false
  unfolding fires
  stays-quiet i n h =
      let empty = is_empty i.body in
      let untrue : Trail → Bool = λ u. any (λ (l : Literal). not (is_true u l)) i.body in
      by-test (fires (e ∷ t) i)
      (λ y.
      let heads = heads-less i.heads n (and_left (all (is_true (e ∷ t)) i.heads) (empty || untrue (e ∷ t)) y) in
      let body : (empty || untrue t) ≡ true =
      elim (or_cases empty (untrue (e ∷ t)) (and_right (all (is_true (e ∷ t)) i.heads) (empty || untrue (e ∷ t)) y)) [
        | inl z ↦ or_left empty (untrue t) z
        | inr z ↦ or_right empty (untrue t) (open-less i.body z)
      ] in
      true-and-false (and_intro (all (is_true t) i.heads) (empty || untrue t) heads body) h)
      (λ y. y)
