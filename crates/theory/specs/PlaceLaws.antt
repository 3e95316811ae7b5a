-- Lists by place: the element at a place, rising numbers, words joined in equal lengths, lists that agree place by place, and
-- kept and first elements. Assumes nothing.
use Prim.Native.Nat.{ℕ, zero, suc, ◌+◌, ◌*◌, ◌≤◌, ◌<◌}
use Rattle.std.specs.Prelude.{◌≡◌, ◌⊎◌, Bool, eqb}
use Rattle.std.proofs.Math.Path.{refl, ap}
use Rattle.std.proofs.Common.{sym, ◌∙◌, inl, inr, eqb-true}
use Rattle.std.proofs.Math.Option.{none, some}
use mathlib.Core.List.Memᴰ
use mathlib.Core.List.{List, [], ◌∷◌, ◌++◌, map}
use native.Mathlib.Omega.{arith}
use Rattle.std.proofs.Math.ListN.{length, get_or, get_elem?, length-append, get_or-append}
use Rattle.std.proofs.Math.Seq.{get_or-append-add}
use Rattle.std.proofs.lemmas.Bool.{eqb-false}
use Rattle.definitions.specs.Lists.{◌∈◌, is_empty, any, all, filter, find, joined, up_from, Different}
use Rattle.theory.specs.Tests.{by-test, apart, none≢some, some-injective}
use Rattle.theory.specs.ListLaws.{filter-in}

-- ── the element at a place ──

-- an element that is found stands in the list, and each place below the length has one
pub get_elem-in : {A : Type 0} (l : List A) (i : ℕ) (x : A) → get_elem? l i ≡ some x → (i < length l) × (x ∈ l)
get_elem-in [] i x e = none≢some e
get_elem-in (y ∷ l) zero x e = (omega arith, Memᴰ.head (sym (some-injective e)))
get_elem-in (y ∷ l) (suc i) x e = let (h, m) = get_elem-in l i x e in (omega arith, Memᴰ.tail m)

pub get_elem-of : {A : Type 0} (l : List A) (i : ℕ) → i < length l → (x : A) × (get_elem? l i ≡ some x)
get_elem-of [] i h = absurd (omega arith)
get_elem-of (y ∷ l) zero h = (y, refl)
get_elem-of (y ∷ l) (suc i) h = get_elem-of l i (omega arith)

-- and each element has its place
pub get_elem-at : {A : Type 0} {x : A} {l : List A} → x ∈ l → (i : ℕ) × (get_elem? l i ≡ some x)
get_elem-at (Memᴰ.head e) = (0, ap some (sym e))
get_elem-at (Memᴰ.tail m) = let (i, e) = get_elem-at m in (suc i, e)

pub get_elem-left : {A : Type 0} (xs ys : List A) (i : ℕ) (x : A) → get_elem? xs i ≡ some x → get_elem? (xs ++ ys) i ≡ some x
get_elem-left [] ys i x e = none≢some e
get_elem-left (y ∷ xs) ys zero x e = e
get_elem-left (y ∷ xs) ys (suc i) x e = get_elem-left xs ys i x e

pub get_elem-right : {A : Type 0} (xs ys : List A) (i : ℕ) → get_elem? (xs ++ ys) (length xs + i) ≡ get_elem? ys i
get_elem-right [] ys i = let here : 0 + i ≡ i = omega arith in cc
get_elem-right (x ∷ xs) ys i = let behind : suc (length xs) + i ≡ suc (length xs + i) = omega arith in cc (get_elem-right xs ys i)

pub get_d-in : {A : Type 0} (l : List A) (i : ℕ) (d : A) → i < length l → get_or l i d ∈ l
get_d-in [] i d h = absurd (omega arith)
get_d-in (x ∷ l) zero d h = Memᴰ.head refl
get_d-in (x ∷ l) (suc i) d h = Memᴰ.tail (get_d-in l i d (omega arith))

-- ── rising numbers ──

pub up_from-append : (a m k : ℕ) → up_from a (m + k) ≡ up_from a m ++ up_from (a + m) k
unfolding up_from
up_from-append a zero k = let size : 0 + k ≡ k = omega arith in let next : a + 0 ≡ a = omega arith in cc
up_from-append a (suc m) k =
    let size : suc m + k ≡ suc (m + k) = omega arith in
    let next : suc a + m ≡ a + suc m = omega arith in
    cc (up_from-append (suc a) m k)

-- two functions that agree along two ranges
pub map-up_from : {A : Type 0} (g h : ℕ → A) (a b k : ℕ) → ((j : ℕ) → j < k → g (a + j) ≡ h (b + j)) → map g (up_from a k) ≡ map h (up_from b k)
unfolding up_from
map-up_from g h a b zero e = refl
map-up_from g h a b (suc k) e =
    let a0 : a + 0 ≡ a = omega arith in
    let b0 : b + 0 ≡ b = omega arith in
    cc (e 0 (omega arith), map-up_from g h (suc a) (suc b) k later)
  where
    later : (j : ℕ) → j < k → g (suc a + j) ≡ h (suc b + j)
    later j l =
        let aj : suc a + j ≡ a + suc j = omega arith in
        let bj : suc b + j ≡ b + suc j = omega arith in
        cc (e (suc j) (omega arith))

-- what is made from each place of a list is what is made from the element there
pub map-places : {A B : Type 0} (f : ℕ → B) (g : A → B) (a : ℕ) (xs : List A) → ((i : ℕ) (x : A) → get_elem? xs i ≡ some x → f (a + i) ≡ g x)
    → map f (up_from a (length xs)) ≡ map g xs
unfolding up_from
map-places f g a [] h = refl
map-places f g a (x ∷ xs) h =
    let here : a + 0 ≡ a = omega arith in
    cc (h 0 x refl, map-places f g (suc a) xs (λ i y e. let next : suc a + i ≡ a + suc i = omega arith in ap f next ∙ h (suc i) y e))

-- and stands at that place
pub get_d-places : {A : Type 0} (f : ℕ → A) (d : A) (a n i : ℕ) → i < n → get_or (map f (up_from a n)) i d ≡ f (a + i)
unfolding up_from
get_d-places f d a zero i l = absurd (omega arith)
get_d-places f d a (suc n) zero l = let e : a + 0 ≡ a = omega arith in rw e
get_d-places f d a (suc n) (suc i) l = let e : suc a + i ≡ a + suc i = omega arith in get_d-places f d (suc a) n i (omega arith) ∙ rw e

-- a rising list of numbers holds just those in its range
pub up_from-in : (first n c : ℕ) → c ∈ up_from first n → (first ≤ c) × (c < first + n)
unfolding up_from
up_from-in first zero c m = absurd (Memᴰ.not-nil m)
up_from-in first (suc n) c m =
    elim (Memᴰ.cases_cons m) [
      | inl q ↦ (omega arith, omega arith)
      | inr k ↦ let (a, b) = up_from-in (suc first) n c k in (omega arith, omega arith)
    ]

first-or-later : (a b : ℕ) → a ≤ b → (a ≡ b) ⊎ (suc a ≤ b)
first-or-later a b h = by-test (eqb a b) (λ e. inl (eqb-true a b e)) (λ e. inr (let n = eqb-false a b e in omega arith))

pub in-up_from : (first n c : ℕ) → first ≤ c → c < first + n → c ∈ up_from first n
unfolding up_from
in-up_from first zero c a b = absurd (omega arith)
in-up_from first (suc n) c a b =
    elim (first-or-later first c a) [ inl q ↦ Memᴰ.head (sym q) | inr l ↦ Memᴰ.tail (in-up_from (suc first) n c l (omega arith)) ]

-- rising numbers differ, and so do those that are kept of them
pub up_from-different : (a k : ℕ) → Different (up_from a k)
unfolding up_from
up_from-different a zero = tt
up_from-different a (suc k) = (λ m. omega (arith, (up_from-in (suc a) k a m).0), up_from-different (suc a) k)

pub filter-different : {A : Type 0} (p : A → Bool) (xs : List A) → Different xs → Different (filter p xs)
unfolding filter
filter-different p [] d = tt
filter-different p (x ∷ xs) d =
    by-test (p x)
    (λ e. rw (e, filter) (λ m. d.0 (filter-in p xs x m).0, filter-different p xs d.1))
    (λ e. rw (e, filter) (filter-different p xs d.1))

-- ── joined lists ──

-- lists of equally many words
module _ {A : Type 0} (f : A → List ℕ) (w : ℕ) (size : (x : A) → length (f x) ≡ w) where
  pub joined-size : (xs : List A) → length (joined f xs) ≡ w * length xs
  unfolding joined
  joined-size [] = omega arith
  joined-size (x ∷ xs) = omega (arith, length-append (f x) (joined f xs), size x, joined-size xs)

  pub joined_at : (xs : List A) (i : ℕ) (x : A) → get_elem? xs i ≡ some x → (j : ℕ) → j < w → get_or (joined f xs) (w * i + j) 0 ≡ get_or (f x) j 0
  unfolding joined
  joined_at [] i x e j h = none≢some e
  joined_at (y ∷ ys) zero x e j h =
      let at : w * 0 + j ≡ j = omega arith in
      cc (get_or-append (f y) (joined f ys) 0 j (omega (arith, size y)), some-injective e)
  joined_at (y ∷ ys) (suc i) x e j h =
      let at : w * suc i + j ≡ length (f y) + (w * i + j) = omega (arith, size y) in
      ap (λ (k : ℕ). get_or (f y ++ joined f ys) k 0) at ∙ get_or-append-add (f y) (joined f ys) (w * i + j) 0 ∙ joined_at ys i x e j h

-- ── lists that agree place by place ──

-- tests that agree on related elements agree on lists of such elements
module _ {A B : Type 0} (R : A → B → Type 0) where
  abbrev pub Alike : List A → List B → Type 0
  Alike [] [] = Unit {0}
  Alike [] (y ∷ ys) = ⊥
  Alike (x ∷ xs) [] = ⊥
  Alike (x ∷ xs) (y ∷ ys) = R x y × Alike xs ys

  pub is_empty-alike : (xs : List A) (ys : List B) → Alike xs ys → is_empty xs ≡ is_empty ys
  unfolding is_empty
  is_empty-alike [] [] h = refl
  is_empty-alike [] (y ∷ ys) h = absurd h
  is_empty-alike (x ∷ xs) [] h = absurd h
  is_empty-alike (x ∷ xs) (y ∷ ys) h = refl

  module _ (f : A → Bool) (g : B → Bool) (same : (x : A) (y : B) → R x y → f x ≡ g y) where
    pub any-alike : (xs : List A) (ys : List B) → Alike xs ys → any f xs ≡ any g ys
    unfolding any
    any-alike [] [] h = refl
    any-alike [] (y ∷ ys) h = absurd h
    any-alike (x ∷ xs) [] h = absurd h
    any-alike (x ∷ xs) (y ∷ ys) h = cc (same x y h.0, any-alike xs ys h.1)

    pub all_alike : (xs : List A) (ys : List B) → Alike xs ys → all f xs ≡ all g ys
    unfolding all
    all_alike [] [] h = refl
    all_alike [] (y ∷ ys) h = absurd h
    all_alike (x ∷ xs) [] h = absurd h
    all_alike (x ∷ xs) (y ∷ ys) h = cc (same x y h.0, all_alike xs ys h.1)

-- ── kept and first elements ──

pub filter_alike : {A : Type 0} (f g : A → Bool) (xs : List A) → ((x : A) → x ∈ xs → f x ≡ g x) → filter f xs ≡ filter g xs
unfolding filter
filter_alike f g [] h = refl
filter_alike f g (x ∷ xs) h =
    let here = h x (Memᴰ.head refl) in
    let rest = filter_alike f g xs (λ y m. h y (Memᴰ.tail m)) in
    by-test (g x) (λ e. cc) (λ e. cc)

pub filter_map : {A B : Type 0} (p : B → Bool) (f : A → B) (xs : List A) → filter p (map f xs) ≡ map f (filter (λ x. p (f x)) xs)
unfolding filter
filter_map p f [] = refl
filter_map p f (x ∷ xs) = let rest = filter_map p f xs in by-test (p (f x)) (λ e. cc) (λ e. cc)

module _ {A : Type 0} (passes : A → Bool) where
  pub find-append-some : (xs ys : List A) (x : A) → find passes xs ≡ some x → find passes (xs ++ ys) ≡ some x
  unfolding find
  find-append-some [] ys x e = none≢some e
  find-append-some (z ∷ xs) ys x e = by-test (passes z) (λ h. cc) (λ h. cc (find-append-some xs ys x (cc)))

  pub find-append-none : (xs ys : List A) → find passes xs ≡ none → find passes (xs ++ ys) ≡ find passes ys
  unfolding find
  find-append-none [] ys e = refl
  find-append-none (z ∷ xs) ys e = by-test (passes z) (λ h. apart (cc)) (λ h. cc (find-append-none xs ys (cc)))
