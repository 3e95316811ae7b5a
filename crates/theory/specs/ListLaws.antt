-- What the tests and walks over lists find. Assumes nothing.
use Rattle.std.specs.Prelude.{ℕ, ◌*◌, ◌≤◌, ◌≡◌, ◌⊎◌, Bool, false, ◌||◌, length}
use Rattle.std.proofs.Math.Path.{refl}
use Rattle.std.proofs.Common.{sym, ap, subst, length-append}
use Rattle.std.proofs.Math.Logic.{inl, inr}
use Rattle.std.proofs.Math.Bool.{true}
use Rattle.std.proofs.Math.Option.{Option, none, some}
use mathlib.Core.List.Memᴰ
use mathlib.Core.List.{List, [], ◌∷◌, ◌++◌, map, cons≢nil, head-eq_of_cons-eq, tail-eq_of_cons-eq}
use native.Mathlib.Omega.{arith}
use Rattle.definitions.specs.Lists.{◌∈◌, is_empty, any, all, filter, find, first_some, joined, Different}
use Rattle.theory.specs.Tests.{by-test, by-option, apart, none≢some}

-- an element of a list that is split
pub at_split : {A : Type 0} (pre : List A) {x : A} (post : List A) → x ∈ pre ++ (x ∷ post)
at_split pre post = Memᴰ.append_right pre (Memᴰ.head refl)

pub in-along : {A : Type 0} {x : A} {l k : List A} → l ≡ k → x ∈ k → x ∈ l
in-along {x = x} e m = subst (λ l. x ∈ l) (sym e) m

-- what maps to nothing is nothing
pub map-nil : {A B : Type 0} (g : A → B) (l : List A) → map g l ≡ [] → l ≡ []
map-nil g [] e = refl
map-nil g (x ∷ xs) e = absurd (cons≢nil e)

-- functions that agree on the elements
pub map-alike : {A B : Type 0} (f g : A → B) (xs : List A) → ((x : A) → x ∈ xs → f x ≡ g x) → map f xs ≡ map g xs
map-alike f g [] h = refl
map-alike f g (x ∷ xs) h = cc (h x (Memᴰ.head refl), map-alike f g xs (λ y m. h y (Memᴰ.tail m)))

-- where a list has its element
pub record Split {A : Type 0} (x : A) (l : List A) : Type 0 where
  pub before : List A
  pub after : List A
  pub split : l ≡ before ++ (x ∷ after)

pub in_split : {A : Type 0} {x : A} {l : List A} → x ∈ l → Split x l
in_split (Memᴰ.head {xs = xs} e) = record { before = []; after = xs; split = ap (λ y. y ∷ xs) (sym e) }
in_split (Memᴰ.tail {x = y} m) =
    let r = in_split m in
    record { before = y ∷ r.before; after = r.after; split = ap (λ l. y ∷ l) r.split }

pub empty-nil : {A : Type 0} (l : List A) → is_empty l ≡ true → l ≡ []
unfolding is_empty
empty-nil [] e = refl
empty-nil (x ∷ l) e = apart (cc)

-- the length tells whether a list is empty
pub none-empty : {A : Type 0} (l : List A) → length l ≡ 0 → is_empty l ≡ true
unfolding is_empty
none-empty [] e = refl
none-empty (x ∷ l) e = absurd (omega arith)

pub some-full : {A : Type 0} (l : List A) → (length l ≡ 0 → ⊥) → is_empty l ≡ false
unfolding is_empty
some-full [] h = absurd (h refl)
some-full (x ∷ l) h = refl

pub full-some : {A : Type 0} (l : List A) → is_empty l ≡ false → 1 ≤ length l
unfolding is_empty
full-some [] e = apart (cc)
full-some (x ∷ l) e = omega arith

module _ {A : Type 0} (p : A → Bool) where
  -- the first element that passes, and that none before it does
  pub record First (xs : List A) (x : A) : Type 0 where
    pub before : List A
    pub after : List A
    pub split : xs ≡ before ++ (x ∷ after)
    pub fail : (y : A) → y ∈ before → p y ≡ false
    pub pass : p x ≡ true

  pub find_first : (xs : List A) (x : A) → find p xs ≡ some x → First xs x
  unfolding find
  find_first [] x h = none≢some h
  find_first (y ∷ ys) x h =
      by-test (p y)
      (λ e. record { before = []; after = ys; split = cc; fail = λ z m. absurd (Memᴰ.not-nil m); pass = cc })
      (λ e. let f = find_first ys x (cc) in record { before = y ∷ f.before; after = f.after; split = cc; fail = λ z m. elim (Memᴰ.cases_cons m) [ inl q ↦ cc | inr n ↦ f.fail z n ]; pass = f.pass })

  pub find-in : (xs : List A) (x : A) → find p xs ≡ some x → x ∈ xs
  find-in xs x h = let f = find_first xs x h in in-along f.split (at_split f.before f.after)

  pub find-passes : (xs : List A) (x : A) → find p xs ≡ some x → p x ≡ true
  find-passes xs x h = (find_first xs x h).pass

  pub find_none : (xs : List A) → find p xs ≡ none → (x : A) → x ∈ xs → p x ≡ false
  unfolding find
  find_none [] h x m = absurd (Memᴰ.not-nil m)
  find_none (y ∷ ys) h x (Memᴰ.head q) = by-test (p y) (λ e. apart (cc)) (λ e. cc)
  find_none (y ∷ ys) h x (Memᴰ.tail m) = by-test (p y) (λ e. apart (cc)) (λ e. find_none ys (cc) x m)

  pub any_some : (xs : List A) → any p xs ≡ true → (x : A) × (x ∈ xs) × (p x ≡ true)
  unfolding any
  any_some [] h = apart (cc)
  any_some (y ∷ ys) h =
      by-test (p y)
      (λ e. (y, Memᴰ.head refl, e))
      (λ e. let (x, m, q) = any_some ys (cc) in (x, Memᴰ.tail m, q))

  pub any_of : (xs : List A) (x : A) → x ∈ xs → p x ≡ true → any p xs ≡ true
  unfolding any
  any_of (y ∷ ys) x (Memᴰ.head q) h = cc
  any_of (y ∷ ys) x (Memᴰ.tail m) h = by-test (p y) (λ e. cc) (λ e. cc (any_of ys x m h))
  any_of [] x m h = elim m [ ]

  pub any_none : (xs : List A) → any p xs ≡ false → (x : A) → x ∈ xs → p x ≡ false
  any_none xs h x m = by-test (p x) (λ e. cc (any_of xs x m e)) (λ e. e)

  pub none_any : (xs : List A) → ((x : A) → x ∈ xs → p x ≡ false) → any p xs ≡ false
  none_any xs h = by-test (any p xs) (λ e. let (x, m, q) = any_some xs e in cc (h x m)) (λ e. e)

  pub any_append : (xs ys : List A) → any p (xs ++ ys) ≡ (any p xs || any p ys)
  unfolding any
  any_append [] ys = refl
  any_append (x ∷ xs) ys = let h = any_append xs ys in by-test (p x) (λ e. cc) (λ e. cc)

  pub all-each : (xs : List A) → all p xs ≡ true → (x : A) → x ∈ xs → p x ≡ true
  unfolding all
  all-each (y ∷ ys) h x (Memᴰ.head q) = by-test (p y) (λ e. cc) (λ e. cc)
  all-each (y ∷ ys) h x (Memᴰ.tail m) = by-test (p y) (λ e. all-each ys (cc) x m) (λ e. cc)
  all-each [] h x m = elim m [ ]

  pub all_of : (xs : List A) → ((x : A) → x ∈ xs → p x ≡ true) → all p xs ≡ true
  unfolding all
  all_of [] h = refl
  all_of (y ∷ ys) h = cc (h y (Memᴰ.head refl), all_of ys (λ x m. h x (Memᴰ.tail m)))

  pub all-fails : (xs : List A) → all p xs ≡ false → (x : A) × (x ∈ xs) × (p x ≡ false)
  unfolding all
  all-fails [] h = apart (cc)
  all-fails (y ∷ ys) h =
      by-test (p y)
      (λ e. let (x, m, f) = all-fails ys (cc) in (x, Memᴰ.tail m, f))
      (λ e. (y, Memᴰ.head refl, e))

  pub filter-of : (xs : List A) (x : A) → x ∈ xs → p x ≡ true → x ∈ filter p xs
  unfolding filter
  filter-of (y ∷ ys) x (Memᴰ.head q) h =
      let e : p y ≡ true = cc in
      rw (e, filter) (Memᴰ.head q)
  filter-of (y ∷ ys) x (Memᴰ.tail m) h =
      by-test (p y) (λ e. rw (e, filter) (Memᴰ.tail (filter-of ys x m h))) (λ e. rw (e, filter) (filter-of ys x m h))
  filter-of [] x m h = elim m [ ]

  pub filter-in : (xs : List A) (x : A) → x ∈ filter p xs → (x ∈ xs) × (p x ≡ true)
  unfolding filter
  filter-in [] x m = absurd (Memᴰ.not-nil m)
  filter-in (y ∷ ys) x m =
      by-test (p y)
      (λ e. elim (Memᴰ.cases_cons (rw (e, filter) at m)) [
        | inl q ↦ (Memᴰ.head q, cc)
        | inr n ↦ let (k, h) = filter-in ys x n in (Memᴰ.tail k, h)
      ])
      (λ e. let (k, h) = filter-in ys x (rw (e, filter) at m) in (Memᴰ.tail k, h))

  pub filter-length : (xs : List A) → length (filter p xs) ≤ length xs
  unfolding filter
  filter-length [] = omega arith
  filter-length (y ∷ ys) =
      let h = filter-length ys in
      by-test (p y) (λ e. rw (e, filter) (omega arith)) (λ e. rw (e, filter) (omega arith))

  pub filter-append : (xs ys : List A) → filter p (xs ++ ys) ≡ filter p xs ++ filter p ys
  unfolding filter
  filter-append [] ys = refl
  filter-append (x ∷ xs) ys = let h = filter-append xs ys in by-test (p x) (λ e. cc) (λ e. cc)

  pub filter-all : (xs : List A) → ((x : A) → x ∈ xs → p x ≡ true) → filter p xs ≡ xs
  unfolding filter
  filter-all [] h = refl
  filter-all (x ∷ xs) h = cc (h x (Memᴰ.head refl), filter-all xs (λ y m. h y (Memᴰ.tail m)))

  pub filter_none : (xs : List A) → ((x : A) → x ∈ xs → p x ≡ false) → filter p xs ≡ []
  unfolding filter
  filter_none [] h = refl
  filter_none (x ∷ xs) h = cc (h x (Memᴰ.head refl), filter_none xs (λ y m. h y (Memᴰ.tail m)))

-- two tests, in either order
pub filter-both : {A : Type 0} (p q : A → Bool) (xs : List A) → filter p (filter q xs) ≡ filter q (filter p xs)
unfolding filter
filter-both p q [] = refl
filter-both p q (x ∷ xs) =
    let rest = filter-both p q xs in
    by-test (p x) (λ a. by-test (q x) (λ b. cc rest) (λ b. cc rest)) (λ a. by-test (q x) (λ b. cc rest) (λ b. cc rest))

module _ {A B : Type 0} (f : A → Option B) where
  pub first_some-in : (xs : List A) (b : B) → first_some f xs ≡ some b → (x : A) × (x ∈ xs) × (f x ≡ some b)
  unfolding first_some
  first_some-in [] b h = none≢some h
  first_some-in (y ∷ ys) b h =
      by-option (f y)
      (λ e. let (x, m, q) = first_some-in ys b (cc) in (x, Memᴰ.tail m, q))
      (λ c e. (y, Memᴰ.head refl, cc))

  pub first_some-none : (xs : List A) → first_some f xs ≡ none → (x : A) → x ∈ xs → f x ≡ none
  unfolding first_some
  first_some-none [] h x m = absurd (Memᴰ.not-nil m)
  first_some-none (y ∷ ys) h x (Memᴰ.head q) = by-option (f y) (λ e. cc) (λ b e. apart (cc))
  first_some-none (y ∷ ys) h x (Memᴰ.tail m) = by-option (f y) (λ e. first_some-none ys (cc) x m) (λ b e. apart (cc))

  -- elements that give nothing may be left out
  pub first_some-filter : (p : A → Bool) (xs : List A) → ((x : A) → x ∈ xs → p x ≡ false → f x ≡ none) → first_some f (filter p xs) ≡ first_some f xs
  unfolding first_some filter
  first_some-filter p [] h = refl
  first_some-filter p (x ∷ xs) h =
      let rest = first_some-filter p xs (λ y m. h y (Memᴰ.tail m)) in
      by-test (p x) (λ e. by-option (f x) (λ q. cc rest) (λ b q. cc)) (λ e. cc (rest, h x (Memᴰ.head refl) e))

module _ {A B : Type 0} (f : A → List B) where
  pub joined_of : (xs : List A) (x : A) (y : B) → x ∈ xs → y ∈ f x → y ∈ joined f xs
  unfolding joined
  joined_of (z ∷ zs) x y (Memᴰ.head q) n = Memᴰ.append_left (joined f zs) (rw q at n)
  joined_of (z ∷ zs) x y (Memᴰ.tail m) n = Memᴰ.append_right (f z) (joined_of zs x y m n)
  joined_of [] x y m n = elim m [ ]

  pub joined_in : (xs : List A) (y : B) → y ∈ joined f xs → (x : A) × (x ∈ xs) × (y ∈ f x)
  unfolding joined
  joined_in [] y m = absurd (Memᴰ.not-nil m)
  joined_in (z ∷ zs) y m =
      elim (Memᴰ.append_cases (f z) m) [
        | inl n ↦ (z, Memᴰ.head refl, n)
        | inr n ↦ let (x, k, j) = joined_in zs y n in (x, Memᴰ.tail k, j)
      ]

  pub joined-append : (xs ys : List A) → joined f (xs ++ ys) ≡ joined f xs ++ joined f ys
  unfolding joined
  joined-append [] ys = refl
  joined-append (x ∷ xs) ys = cc (joined-append xs ys, mathlib.Core.List.append_assoc (f x) (joined f xs) (joined f ys))

pub different-more : {A : Type 0} (l : List A) (x : A) → Different l → (x ∈ l → ⊥) → Different (l ++ (x ∷ []))
different-more [] x d n = (λ m. Memᴰ.not-nil m, tt)
different-more (y ∷ l) x d n = (
  λ m. elim (Memᴰ.append_cases l m) [
    | inl k ↦ d.0 k
    | inr k ↦ n (Memᴰ.head (sym (mathlib.Core.List.Memᴰ.eq_of_singleton k)))
  ],
  different-more l x d.1 (λ m. n (Memᴰ.tail m)),
)

-- different elements of a list are no more than its elements
module _ {A : Type 0} where
  without : {a b : A} (p r : List A) → (b ≡ a → ⊥) → b ∈ p ++ (a ∷ r) → b ∈ p ++ r
  without p r d m =
      elim (Memᴰ.append_cases p m) [
        | inl n ↦ Memᴰ.append_left r n
        | inr n ↦ elim (Memᴰ.cases_cons n) [ inl e ↦ absurd (d e) | inr k ↦ Memᴰ.append_right p k ]
      ]

  pub pigeonhole : (xs ys : List A) → Different xs → ((x : A) → x ∈ xs → x ∈ ys) → length xs ≤ length ys
  pigeonhole [] ys d h = omega arith
  pigeonhole (x ∷ xs) ys d h =
      let s = in_split (h x (Memᴰ.head refl)) in
      let below : length xs ≤ length (s.before ++ s.after) = pigeonhole xs (s.before ++ s.after) d.1 (λ y m. without s.before s.after (λ e. d.0 (Memᴰ.cast (sym e) m)) (subst (λ l. y ∈ l) s.split (h y (Memᴰ.tail m)))) in
      omega (arith, below, length-append s.before s.after, length-append s.before (x ∷ s.after), ap length s.split)

-- something holds of every element, or the other thing is found
pub all-or-else : {A : Type 0} (P : A → Type 0) {F : Type 0} (xs : List A) → ((x : A) → x ∈ xs → P x ⊎ F) → ((x : A) → x ∈ xs → P x) ⊎ F
all-or-else P [] h = inl (λ x m. absurd (Memᴰ.not-nil m))
all-or-else P (y ∷ ys) h =
    elim (h y (Memᴰ.head refl)) [
      | inl p ↦ elim (all-or-else P ys (λ x m. h x (Memᴰ.tail m))) [
        | inl ps ↦ inl (λ x m. elim (Memᴰ.cases_cons m) [ inl q ↦ subst P (sym q) p | inr n ↦ ps x n ])
        | inr f ↦ inr f
      ]
      | inr f ↦ inr f
    ]

-- two splits of one list
pub splits : {A : Type 0} (p q : List A) {a b : A} (r s : List A) → p ++ (a ∷ r) ≡ q ++ (b ∷ s) → (b ∈ p) ⊎ ((a ≡ b) ⊎ (a ∈ q))
splits [] [] r s e = inr (inl (head-eq_of_cons-eq e))
splits [] (y ∷ q) r s e = inr (inr (Memᴰ.head (head-eq_of_cons-eq e)))
splits (x ∷ p) [] r s e = inl (Memᴰ.head (sym (head-eq_of_cons-eq e)))
splits (x ∷ p) (y ∷ q) r s e =
    elim (splits p q r s (tail-eq_of_cons-eq e)) [
      | inl m ↦ inl (Memᴰ.tail m)
      | inr c ↦ elim c [ inl h ↦ inr (inl h) | inr m ↦ inr (inr (Memᴰ.tail m)) ]
    ]

-- every element has the property
abbrev pub Each : {A : Type 0} → (A → Type 0) → List A → Type 0
Each {A = A} P l = (a : A) → a ∈ l → P a

module _ {A : Type 0} (P : A → Type 0) where
  pub each_nil : Each P []
  each_nil a m = absurd (Memᴰ.not-nil m)

  pub each-cons : {x : A} {l : List A} → P x → Each P l → Each P (x ∷ l)
  each-cons h g a m = elim (Memᴰ.cases_cons m) [ inl e ↦ subst P (sym e) h | inr n ↦ g a n ]

  pub each_append : (l : List A) {k : List A} → Each P l → Each P k → Each P (l ++ k)
  each_append l g h a m = elim (Memᴰ.append_cases l m) [ inl n ↦ g a n | inr n ↦ h a n ]

-- lists of at most so many elements each, joined
pub joined_length : {A B : Type 0} (f : A → List B) (m : ℕ) (xs : List A) → ((x : A) → x ∈ xs → length (f x) ≤ m)
    → length (joined f xs) ≤ m * length xs
unfolding joined
joined_length f m [] h = omega arith
joined_length f m (x ∷ xs) h =
    omega (arith, length-append (f x) (joined f xs), h x (Memᴰ.head refl), joined_length f m xs (λ y n. h y (Memᴰ.tail n)))
