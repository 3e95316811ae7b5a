-- A list, latest first, in the front of an array, earliest first: pushed, popped and read at its places. And how its words are cleared. Assumes nothing.
use Rattle.std.specs.Prelude.{ℕ, suc, ◌+◌, ◌-◌, ◌≤◌, ◌<◌, ◌≡◌, refl, eqb, length, get_or, set, take, drop, List, [], ◌∷◌, ◌++◌, map, reverse}
use Rattle.std.proofs.Common.{sym, ◌∙◌, ap, subst, arith, length-take, length-drop, take-suc, take_at, take-take, take-suc-set, get_or-take, get_or-drop, eqb-true}
use mathlib.Core.List.Memᴰ
use mathlib.Core.List.{reverse-cons, map-append}
use Rattle.std.proofs.lemmas.List.{length-map, length-reverse, get_or_at}
use Rattle.std.proofs.lemmas.Bool.{eqb-false}
use Rattle.definitions.specs.Lists.{◌∈◌}
use Rattle.theory.specs.Tests.{by-test}
use Rattle.encoding.specs.Values.{Values, unassigned}
use Rattle.encoding.specs.ValueLaws.{length-unassigned, unassigned-either}
use Rattle.units.specs.TrailWords.{cleared}

module _ {A : Type 0} (f : A → ℕ) where
  abbrev pub Stacked : List A → List ℕ → Type 0
  Stacked t xs = take (length t) xs ≡ map f (reverse t)

  pub latest-last : (e : A) (t : List A) → map f (reverse (e ∷ t)) ≡ map f (reverse t) ++ (f e ∷ [])
  latest-last e t = ap (map f) (reverse-cons e t) ∙ map-append f (reverse t) (e ∷ [])

  stack-length : (t : List A) → length (map f (reverse t)) ≡ length t
  stack-length t = length-map (reverse t) f ∙ length-reverse t

  pub push : (e : A) (t : List A) (xs : List ℕ) → length t < length xs → Stacked t xs → Stacked (e ∷ t) (set xs (length t) (f e))
  push e t xs h s = take-suc-set xs (length t) (f e) h ∙ ap (λ (r : List ℕ). r ++ (f e ∷ [])) s ∙ sym (latest-last e t)

  pub fits : (t : List A) (xs : List ℕ) → Stacked t xs → length t ≤ length xs
  fits t xs s = omega (arith, ap length s, stack-length t, length-take (length t) xs)

  pub pop : (e : A) (t : List A) (xs : List ℕ) → Stacked (e ∷ t) xs → Stacked t xs
  pop e t xs s =
      sym (take-take (length t) (suc (length t)) xs (omega arith))
      ∙ ap (take (length t)) (s ∙ latest-last e t)
      ∙ take_at (map f (reverse t)) (f e ∷ []) (length t) (stack-length t)

  pub pop-all : (above t : List A) (xs : List ℕ) → Stacked (above ++ t) xs → Stacked t xs
  pop-all [] t xs s = s
  pop-all (e ∷ above) t xs s = pop-all above t xs (pop e (above ++ t) xs s)

  pub top : (e : A) (t : List A) (xs : List ℕ) → Stacked (e ∷ t) xs → get_or xs (length t) 0 ≡ f e
  top e t xs s =
      sym (get_or-take (suc (length t)) xs (length t) 0 (omega arith))
      ∙ ap (λ (r : List ℕ). get_or r (length t) 0) (s ∙ latest-last e t)
      ∙ get_or_at (map f (reverse t)) (f e) [] 0 (length t) (stack-length t)

  -- what holds of all entries holds of all places in use
  pub each-place : (P : ℕ → Type 0) (t : List A) (xs : List ℕ) → Stacked t xs → ((e : A) → e ∈ t → P (f e)) → (i : ℕ) → i < length t → P (get_or xs i 0)
  each-place P [] xs s h i k = let z : ⊥ = omega arith in absurd z
  each-place P (e ∷ t) xs s h i k =
      by-test (eqb i (length t))
      (λ q. subst P (sym (ap (λ (n : ℕ). get_or xs n 0) (eqb-true i (length t) q) ∙ top e t xs s)) (h e (Memᴰ.head refl)))
      (λ q. let r = eqb-false i (length t) q in each-place P t xs (pop e t xs s) (λ d m. h d (Memᴰ.tail m)) i (omega arith))

-- it is read alike by functions that agree on it
pub same-words : {A : Type 0} (f g : A → ℕ) (t : List A) → ((e : A) → e ∈ t → f e ≡ g e) → map f (reverse t) ≡ map g (reverse t)
same-words f g [] h = refl
same-words f g (e ∷ t) h =
    cc (latest-last f e t, latest-last g e t, h e (Memᴰ.head refl), same-words f g t (λ d m. h d (Memᴰ.tail m)))

-- a part of an array with one place more
part-more : (xs : List ℕ) (n m : ℕ) → n ≤ m → m < length xs → take (suc m - n) (drop n xs) ≡ take (m - n) (drop n xs) ++ (get_or xs m 0 ∷ [])
part-more xs n m h k =
    let e : suc m - n ≡ suc (m - n) = omega arith in
    let f : n + (m - n) ≡ m = omega arith in
    let g : get_or (drop n xs) (m - n) 0 ≡ get_or xs m 0 = get_or-drop n xs (m - n) 0 ∙ ap (λ (i : ℕ). get_or xs i 0) f in
    ap (λ (i : ℕ). take i (drop n xs)) e
    ∙ take-suc (drop n xs) (m - n) 0 (omega (arith, length-drop n xs))
    ∙ ap (λ (v : ℕ). take (m - n) (drop n xs) ++ (v ∷ [])) g

-- ── clearing ──

pub length-cleared : (values : Values) (ws : List ℕ) → length (cleared values ws) ≡ length values
unfolding cleared
length-cleared values [] = refl
length-cleared values (w ∷ ws) = length-cleared (unassigned values w) ws ∙ length-unassigned values w

cleared-last : (values : Values) (ws : List ℕ) (w : ℕ) → cleared values (ws ++ (w ∷ [])) ≡ unassigned (cleared values ws) w
unfolding cleared
cleared-last values [] w = refl
cleared-last values (v ∷ ws) w = cleared-last (unassigned values v) ws w

cleared-first : (values : Values) (ws : List ℕ) (v : ℕ) → cleared (unassigned values v) ws ≡ unassigned (cleared values ws) v
unfolding cleared
cleared-first values [] v = refl
cleared-first values (w ∷ ws) v = ap (λ (u : Values). cleared u ws) (unassigned-either values v w) ∙ cleared-first (unassigned values w) ws v

-- clearing a part of the trail, its last place first
pub cleared-latest : (values : Values) (trail : List ℕ) (n m : ℕ) {w : ℕ} → n ≤ m → m < length trail → get_or trail m 0 ≡ w
    → cleared values (take (suc m - n) (drop n trail)) ≡ cleared (unassigned values w) (take (m - n) (drop n trail))
cleared-latest values trail n m h k q =
    ap (cleared values) (part-more trail n m h k)
    ∙ cleared-last values (take (m - n) (drop n trail)) (get_or trail m 0)
    ∙ sym (cleared-first values (take (m - n) (drop n trail)) (get_or trail m 0))
    ∙ ap (λ (v : ℕ). cleared (unassigned values v) (take (m - n) (drop n trail))) q
