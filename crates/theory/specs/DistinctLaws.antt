-- The different elements of a list, each where it stands first, and one element more. Assumes nothing.
use Rattle.std.specs.Prelude.{◌≡◌, ◌≤◌, true, length, take}
use Rattle.std.proofs.Math.Path.{refl}
use Rattle.std.proofs.Common.{sym, ap, ◌∙◌, take_at, take_all}
use Rattle.std.proofs.Math.Logic.{inl, inr}
use Rattle.std.proofs.Math.Bool.{Bool, not}
use mathlib.Core.List.Memᴰ
use mathlib.Core.List.{List, [], ◌∷◌, ◌++◌, map, append-nil}
use native.Mathlib.Omega.{arith}
use Rattle.std.proofs.Math.ListN.{length-append}
use Rattle.std.proofs.lemmas.Bool.{not-true}
use Rattle.definitions.specs.Lists.{◌∈◌, any, all, filter, distinct, added, Different}
use Rattle.theory.specs.Tests.{by-test, true-and-false}
use Rattle.theory.specs.ListLaws.{any_some, any_of, any_none, none_any, all-each, all_of, filter-of, filter-in, filter-length, filter-append, filter-all, filter-both}
use Rattle.theory.specs.PlaceLaws.{filter-different, filter_alike, filter_map}

-- ── its elements ──

module _ {A : Type 0} (same : A → A → Bool) where
  pub distinct-in : (xs : List A) (x : A) → x ∈ distinct same xs → x ∈ xs
  unfolding distinct
  distinct-in [] x m = absurd (Memᴰ.not-nil m)
  distinct-in (y ∷ ys) x m =
      elim (Memᴰ.cases_cons m) [
        | inl q ↦ Memᴰ.head q
        | inr n ↦ Memᴰ.tail (distinct-in ys x (filter-in _ (distinct same ys) x n).0)
      ]

  pub distinct-length : (xs : List A) → length (distinct same xs) ≤ length xs
  unfolding distinct
  distinct-length [] = omega arith
  distinct-length (y ∷ ys) = omega (arith, distinct-length ys, filter-length (λ x. not (same y x)) (distinct same ys))

  module _ (eq : (x y : A) → same x y ≡ true → x ≡ y) where
    pub distinct_of : (xs : List A) (x : A) → x ∈ xs → x ∈ distinct same xs
    unfolding distinct
    distinct_of (y ∷ ys) x (Memᴰ.head q) = Memᴰ.head q
    distinct_of (y ∷ ys) x (Memᴰ.tail m) =
        by-test (same y x)
        (λ e. Memᴰ.head (sym (eq y x e)))
        (λ e. Memᴰ.tail (filter-of _ (distinct same ys) x (distinct_of ys x m) (cc)))
    distinct_of [] x m = elim m [ ]

    -- a test passes all elements where it passes the different ones
    pub all-distinct : (p : A → Bool) (xs : List A) → all p (distinct same xs) ≡ all p xs
    all-distinct p xs =
        by-test (all p xs)
        (λ e. all_of p (distinct same xs) (λ x m. all-each p xs e x (distinct-in xs x m)) ∙ sym e)
        (λ e. by-test (all p (distinct same xs))
        (λ d. true-and-false (all_of p xs (λ x m. all-each p (distinct same xs) d x (distinct_of xs x m))) e)
        (λ d. d ∙ sym e))

    -- and some element where it passes one of these
    pub any-distinct : (p : A → Bool) (xs : List A) → any p (distinct same xs) ≡ any p xs
    any-distinct p xs =
        by-test (any p xs)
        (λ e. let (x, m, q) = any_some p xs e in any_of p (distinct same xs) x (distinct_of xs x m) q ∙ sym e)
        (λ e. none_any p (distinct same xs) (λ x m. any_none p xs e x (distinct-in xs x m)) ∙ sym e)

    -- the different ones of those that pass are those that pass of the different ones
    pub filter-distinct : (p : A → Bool) (xs : List A) → distinct same (filter p xs) ≡ filter p (distinct same xs)
    unfolding distinct filter
    filter-distinct p [] = refl
    filter-distinct p (x ∷ xs) =
        let others : A → Bool = λ y. not (same x y) in
        let rest = filter-distinct p xs in
        by-test (p x)
        (λ e. cc (rest, filter-both others p (distinct same xs)))
        (λ e. let kept : filter others (filter p (distinct same xs)) ≡ filter p (distinct same xs)
        = filter-all others (filter p (distinct same xs)) (λ y m. by-test (same x y)
        (λ q. true-and-false (filter-in p (distinct same xs) y m).1 (ap p (sym (eq x y q)) ∙ e))
        (λ q. cc)) in
        cc (rest, filter-both others p (distinct same xs), kept))

-- they differ; where all differ, they are the list itself
pub distinct-different : {A : Type 0} (same : A → A → Bool) → ((x : A) → same x x ≡ true) → (xs : List A) → Different (distinct same xs)
unfolding distinct
distinct-different same itself [] = tt
distinct-different same itself (x ∷ xs) = (
  λ m. true-and-false (itself x) (not-true (same x x) (filter-in (λ y. not (same x y)) (distinct same xs) x m).1),
  filter-different (λ y. not (same x y)) (distinct same xs) (distinct-different same itself xs),
)

distinct-all : {A : Type 0} (same : A → A → Bool) → ((x y : A) → same x y ≡ true → x ≡ y) → (xs : List A) → Different xs → distinct same xs ≡ xs
unfolding distinct
distinct-all same eq [] d = refl
distinct-all same eq (x ∷ xs) d =
    let others = filter-all (λ y. not (same x y)) xs (λ y m. by-test (same x y) (λ e. absurd (d.0 (Memᴰ.cast (eq x y e) m))) (λ e. cc)) in
    cc (distinct-all same eq xs d.1, others)

pub distinct-twice : {A : Type 0} (same : A → A → Bool) → ((x y : A) → same x y ≡ true → x ≡ y) → ((x : A) → same x x ≡ true) → (xs : List A)
    → distinct same (distinct same xs) ≡ distinct same xs
distinct-twice same eq itself xs = distinct-all same eq (distinct same xs) (distinct-different same itself xs)

-- what is made of the different elements, where different elements make different things
pub distinct-map : {A B : Type 0} (f : A → B) (same : A → A → Bool) (same' : B → B → Bool) (xs : List A)
    → ((x y : A) → x ∈ xs → y ∈ xs → same' (f x) (f y) ≡ same x y) → distinct same' (map f xs) ≡ map f (distinct same xs)
unfolding distinct
distinct-map f same same' [] h = refl
distinct-map f same same' (x ∷ xs) h =
    let rest = distinct same xs in
    let alike : distinct same' (map f xs) ≡ map f rest = distinct-map f same same' xs (λ y z m n. h y z (Memᴰ.tail m) (Memᴰ.tail n)) in
    cc (
      alike,
      filter_map (λ y. not (same' (f x) y)) f rest,
      filter_alike (λ y. not (same' (f x) (f y))) (λ y. not (same x y)) rest
          (λ y m. ap not (h x y (Memᴰ.head refl) (Memᴰ.tail (distinct-in same xs y m)))),
    )

-- ── one element more ──

module _ {A : Type 0} (same : A → A → Bool) (xs : List A) (x : A) where
  -- the others stand first
  pub added-front : take (length xs) (added same xs x) ≡ xs
  unfolding added
  added-front =
      by-test (any (same x) xs)
      (λ e. rw (e, added) (take_all (length xs) xs (omega arith)))
      (λ e. rw (e, added) (take_at xs (x ∷ []) (length xs) refl))

  pub added-length : length xs ≤ length (added same xs x)
  unfolding added
  added-length =
      by-test (any (same x) xs) (λ e. rw (e, added) (omega arith)) (λ e. rw (e, added) (omega (arith, length-append xs (x ∷ []))))

module _ {A : Type 0} (same : A → A → Bool) (eq : (x y : A) → same x y ≡ true → x ≡ y) (itself : (x : A) → same x x ≡ true) where
  pub by-member : (x : A) (xs : List A) {C : Type 0} → (x ∈ xs → C) → ((x ∈ xs → ⊥) → C) → C
  by-member x xs known new =
      by-test (any (same x) xs)
      (λ e. let (y, m, q) = any_some (same x) xs e in known (Memᴰ.cast (eq x y q) m))
      (λ e. new (λ m. true-and-false (itself x) (any_none (same x) xs e x m)))

  pub added-known : (xs : List A) (x : A) → x ∈ xs → added same xs x ≡ xs
  unfolding added
  added-known xs x m = cc (any_of (same x) xs x m (itself x))

  pub added_new : (xs : List A) (x : A) → (x ∈ xs → ⊥) → added same xs x ≡ xs ++ (x ∷ [])
  unfolding added
  added_new xs x out =
      by-test (any (same x) xs)
      (λ e. let (y, m, q) = any_some (same x) xs e in absurd (out (Memᴰ.cast (eq x y q) m)))
      (λ e. cc)

  -- a new element of a list is the last of the different ones
  pub distinct-added : (xs : List A) (x : A) → distinct same (xs ++ (x ∷ [])) ≡ added same (distinct same xs) x
  unfolding distinct added any filter
  distinct-added [] x = refl
  distinct-added (y ∷ ys) x =
      let others : A → Bool = λ z. not (same y z) in
      let rest = distinct same ys in
      let more : distinct same (ys ++ (x ∷ [])) ≡ added same rest x = distinct-added ys x in
      by-test (same y x)
      (λ e. let here = added-known (y ∷ filter others rest) x (Memᴰ.head (sym (eq y x e))) in
      by-member x rest
      (λ m. cc (more, here, added-known rest x m))
      (λ out. cc (more, here, added_new rest x out, filter-append others rest (x ∷ []), append-nil (filter others rest))))
      (λ e. by-member x rest
      (λ m. cc (more, added-known rest x m, added-known (y ∷ filter others rest) x (Memᴰ.tail (filter-of others rest x m (cc)))))
      (λ out. let fresh : x ∈ y ∷ filter others rest → ⊥ = λ m. elim (Memᴰ.cases_cons m) [
        | inl q ↦ true-and-false (rw q (itself y)) e
        | inr k ↦ out (filter-in others rest x k).0
      ] in
      cc (more, added_new rest x out, added_new (y ∷ filter others rest) x fresh, filter-append others rest (x ∷ []))))
