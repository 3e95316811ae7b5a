-- Lists place by place: what is made for each place of a list and joined. Assumes nothing.
use Rattle.std.specs.Prelude.{ℕ, ◌+◌, ◌-◌, ◌≤◌, ◌<◌, ◌≡◌, refl, List, [], ◌∷◌, map, length}
use Rattle.std.proofs.Common.{sym, ◌∙◌, ap, arith}
use Rattle.std.proofs.Math.Option.{some}
use Rattle.std.proofs.Math.ListN.{get_elem?}
use Rattle.definitions.specs.Lists.{joined, up_from}
use Rattle.theory.specs.ListLaws.{joined-append}
use Rattle.theory.specs.PlaceLaws.{map-places}
use Rattle.encoding.specs.CountLaws.{up_from-more, up_from-none}
use Rattle.listing.specs.Puts.{Parts}

pub joined-map : {A B C : Type 0} (f : B → List C) (g : A → B) (xs : List A) → joined f (map g xs) ≡ joined (λ x. f (g x)) xs
unfolding joined
joined-map f g [] = refl
joined-map f g (x ∷ xs) = cc (joined-map f g xs)

pub joined-joined : {A B C : Type 0} (f : B → List C) (g : A → List B) (xs : List A) → joined f (joined g xs) ≡ joined (λ x. joined f (g x)) xs
unfolding joined
joined-joined f g [] = refl
joined-joined f g (x ∷ xs) = cc (joined-append f (g x) (joined g xs), joined-joined f g xs)

-- from any first place, and from place 0
pub joined-places-from : {A B : Type 0} (f : ℕ → List B) (g : A → List B) (a : ℕ) (xs : List A)
    → ((i : ℕ) (x : A) → get_elem? xs i ≡ some x → f (a + i) ≡ g x) → joined f (up_from a (length xs)) ≡ joined g xs
joined-places-from f g a xs h =
    sym (joined-map (λ l. l) f (up_from a (length xs))) ∙ ap (joined (λ l. l)) (map-places f g a xs h) ∙ joined-map (λ l. l) g xs

pub joined-places : {A B : Type 0} (f : ℕ → List B) (g : A → List B) (xs : List A) → ((i : ℕ) (x : A) → get_elem? xs i ≡ some x → f i ≡ g x)
    → joined f (up_from 0 (length xs)) ≡ joined g xs
joined-places f g xs h = joined-places-from f g 0 xs (λ i x e. let z : 0 + i ≡ i = omega arith in ap f z ∙ h i x e)

-- what a loop puts: the lists of so many numbers from the i-th on
module _ (f : ℕ → List ℕ) (n i : ℕ) where
  pub joined-first : i < n → Parts (joined f (up_from i (n - i))) (f i) (joined f (up_from (i + 1) (n - (i + 1))))
  unfolding joined
  joined-first h = record { whole = rw (up_from-more h) }

  pub joined-none : n ≤ i → joined f (up_from i (n - i)) ≡ []
  unfolding joined
  joined-none h = rw (up_from-none h)
