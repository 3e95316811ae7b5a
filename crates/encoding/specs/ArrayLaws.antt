-- Lists as arrays: what stands at a place of a repeated element, of a list whose elements have something in common, after a store, in a part, and in an
-- array with a list at its front. Assumes nothing.
use Rattle.std.specs.Prelude.{ℕ, zero, suc, ◌+◌, ◌-◌, ◌≤◌, ◌<◌, ◌≡◌, refl, length, get_or, set, take, drop, replicate}
use Rattle.std.proofs.Common.{sym, ◌∙◌, ap, add-one, arith, length-drop, take-append-drop, drop-cons, get_or-drop, length-take-le, take-suc}
use Rattle.std.proofs.Math.Option.{some}
use mathlib.Core.List.Memᴰ
use mathlib.Core.List.{List, [], ◌∷◌, ◌++◌, map, head-eq_of_cons-eq, tail-eq_of_cons-eq}
use Rattle.std.proofs.Math.Numerals.{add-two, add-three, add-four}
use Rattle.std.proofs.Math.ListN.{get_elem?}
use Rattle.std.proofs.Math.Seq.{take-append-add}
use Rattle.definitions.specs.Lists.{◌∈◌}
use Rattle.theory.specs.Tests.{apart, none≢some, some-injective}
use Rattle.encoding.specs.CountLaws.{left-none, by_order}

pub get_d-repeated : {A : Type 0} (d : A) (n i : ℕ) → get_or (replicate n d) i d ≡ d
get_d-repeated d zero i = refl
get_d-repeated d (suc n) zero = refl
get_d-repeated d (suc n) (suc i) = get_d-repeated d n i

-- what holds of the default and of every element holds at every place
pub get_d-each : {A : Type 0} (P : A → Type 0) (l : List A) (i : ℕ) (d : A) → P d → ((x : A) → x ∈ l → P x) → P (get_or l i d)
get_d-each P [] i d h g = h
get_d-each P (x ∷ l) zero d h g = g x (Memᴰ.head refl)
get_d-each P (x ∷ l) (suc i) d h g = get_d-each P l i d h (λ y m. g y (Memᴰ.tail m))

-- what holds of a word that is stored, and at a place before, holds there afterwards
pub get_d-set-each : (P : ℕ → Type 0) (l : List ℕ) (i v k : ℕ) → P v → P (get_or l k 0) → P (get_or (set l i v) k 0)
get_d-set-each P [] i v k h g = g
get_d-set-each P (x ∷ l) zero v zero h g = h
get_d-set-each P (x ∷ l) zero v (suc k) h g = g
get_d-set-each P (x ∷ l) (suc i) v zero h g = g
get_d-set-each P (x ∷ l) (suc i) v (suc k) h g = get_d-set-each P l i v k h g

-- the words from one place up to another: the first of them, and those behind it
pub part-cons : (l : List ℕ) (end i : ℕ) → i < end → end ≤ length l
    → take (end - i) (drop i l) ≡ get_or l i 0 ∷ take (end - (i + 1)) (drop (i + 1) l)
part-cons l end i h fits =
    let more : end - i ≡ suc (end - (i + 1)) = omega arith in
    let next : i + 1 ≡ suc i = omega arith in
    rw (more, drop-cons l i 0 (omega arith), next)

-- and the last of them behind the others
pub part-snoc : (l : List ℕ) (from i : ℕ) → from ≤ i → i < length l → take (i + 1 - from) (drop from l) ≡ take (i - from) (drop from l) ++ (get_or l i 0 ∷ [])
part-snoc l from i h fits =
    let more : i + 1 - from ≡ suc (i - from) = omega arith in
    let place : from + (i - from) ≡ i = omega arith in
    let size = length-drop from l in
    rw (more, take-suc (drop from l) (i - from) 0 (omega arith), get_or-drop from l (i - from) 0, place)

pub part-nil : (l : List ℕ) (end i : ℕ) → end ≤ i → take (end - i) (drop i l) ≡ []
part-nil l end i h = rw (left-none h)

-- a list stands at the front of an array, and each element has its word there
pub front_at : {A B : Type 0} (f : A → B) (xs : List A) (array : List B) → take (length xs) array ≡ map f xs
    → (i : ℕ) (x : A) (d : B) → get_elem? xs i ≡ some x → get_or array i d ≡ f x
front_at f [] array h i x d e = none≢some e
front_at f (y ∷ xs) [] h i x d e = apart (cc)
front_at f (y ∷ xs) (w ∷ array) h zero x d e = head-eq_of_cons-eq h ∙ ap f (some-injective e)
front_at f (y ∷ xs) (w ∷ array) h (suc i) x d e = front_at f xs array (tail-eq_of_cons-eq h) i x d e

-- where each word is at most the next, it is at most every one behind it
pub get_d-rising : (l : List ℕ) (n : ℕ) → ((i : ℕ) → i < n → get_or l i 0 ≤ get_or l (i + 1) 0) → (i : ℕ) → i ≤ n → get_or l i 0 ≤ get_or l n 0
get_d-rising l zero up i h = let e : i ≡ 0 = omega arith in rw e (omega arith)
get_d-rising l (suc n) up i h =
    by_order i n
    (λ b. let next : n + 1 ≡ suc n = omega arith in omega (arith, get_d-rising l n (λ j k. up j (omega arith)) i b, rw next at (up n (omega arith))))
    (λ b. let e : i ≡ suc n = omega arith in rw e (omega arith))

-- four words at a time: those at a place, and that fewer are left
module _ (l : List ℕ) (at : ℕ) where
  pub drop-four : at + 3 < length l → drop at l ≡ get_or l at 0 ∷ get_or l (at + 1) 0 ∷ get_or l (at + 2) 0 ∷ get_or l (at + 3) 0 ∷ drop (at + 4) l
  drop-four h =
      rw (add-one at, add-two at, add-three at, add-four at)
      (drop-cons l at 0 (omega arith)
      ∙ rw (drop-cons l (suc at) 0 (omega arith), drop-cons l (suc (suc at)) 0 (omega arith), drop-cons l (suc (suc (suc at))) 0 (omega arith)))

  pub take-four : at + 3 < length l → take (at + 4) l ≡ take at l ++ (get_or l at 0 ∷ get_or l (at + 1) 0 ∷ get_or l (at + 2) 0 ∷ get_or l (at + 3) 0 ∷ [])
  take-four h =
      ap (λ (n : ℕ). take (n + 4) l) (sym (length-take-le at l (omega arith)))
      ∙ ap (take (length (take at l) + 4)) (sym (take-append-drop at l))
      ∙ take-append-add (take at l) (drop at l) 4
      ∙ ap (λ (r : List ℕ). take at l ++ take 4 r) (drop-four h)

  pub drop-few : length l ≤ at + 3 → length (drop at l) ≤ 3
  drop-few h = omega (arith, length-drop at l)
