-- Tests and walks over lists, each in the order of the list. Assumes nothing.
use Rattle.std.specs.Prelude.{ℕ, zero, suc, Bool, true, false, not, ◌&&◌, ◌||◌}
use Rattle.std.proofs.Math.Option.{Option, none, some}
use mathlib.Core.List.{List, [], ◌∷◌, ◌++◌, Memᴰ}

infix 4 ◌∈◌
-- the element stands in the list
abbrev pub ◌∈◌ : {A : Type 0} → A → List A → Type 0
a ∈ l = Memᴰ a l

-- no element stands twice
abbrev pub Different : {A : Type 0} → List A → Type 0
Different [] = Unit {0}
Different (x ∷ xs) = (x ∈ xs → ⊥) × Different xs

module _ {A : Type 0} where
  unfoldable pub is_empty : List A → Bool
  is_empty [] = true
  is_empty (x ∷ xs) = false

  -- some element passes the test
  unfoldable pub any : (A → Bool) → List A → Bool
  any p [] = false
  any p (x ∷ xs) = p x || any p xs

  -- every element passes the test
  unfoldable pub all : (A → Bool) → List A → Bool
  all p [] = true
  all p (x ∷ xs) = p x && all p xs

  -- the elements that pass the test
  unfoldable pub filter : (A → Bool) → List A → List A
  filter p [] = []
  filter p (x ∷ xs) = elim (p x) [ true ↦ x ∷ filter p xs | false ↦ filter p xs ]

  -- the first element that passes the test
  unfoldable pub find : (A → Bool) → List A → Option A
  find p [] = none
  find p (x ∷ xs) = elim (p x) [ true ↦ some x | false ↦ find p xs ]

  -- the list without the repeats of an earlier element
  unfoldable pub distinct : (A → A → Bool) → List A → List A
  distinct same [] = []
  distinct same (x ∷ xs) = x ∷ filter (λ y. not (same x y)) (distinct same xs)

  -- one element more, behind the others, unless it is one of them
  unfoldable pub added : (A → A → Bool) → List A → A → List A
  added same xs x = elim (any (same x) xs) [ true ↦ xs | false ↦ xs ++ (x ∷ []) ]

  -- the value, if there is one
  unfoldable pub list_of : Option A → List A
  list_of none = []
  list_of (some a) = a ∷ []

module _ {A B : Type 0} where
  -- what the function gives at the first element where it gives something
  unfoldable pub first_some : (A → Option B) → List A → Option B
  first_some f [] = none
  first_some f (x ∷ xs) = elim (f x) [ none ↦ first_some f xs | some b ↦ some b ]

  -- the lists that the function gives, joined in order
  unfoldable pub joined : (A → List B) → List A → List B
  joined f [] = []
  joined f (x ∷ xs) = f x ++ joined f xs

-- so many numbers, rising from the first
unfoldable pub up_from : ℕ → ℕ → List ℕ
up_from first zero = []
up_from first (suc n) = first ∷ up_from (suc first) n

-- names every definition of this module, for a theorem that computes with all of them
unfoldable pub lists_all : Unit {0}
unfolding is_empty any all filter find distinct added list_of first_some joined up_from
lists_all = tt
