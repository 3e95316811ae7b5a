-- Codes tell atoms apart, so that the index finds each atom's position in the table. Assumes nothing.
use Prim.Native.Nat.{ℕ, zero, suc, ◌+◌, ◌-◌, ◌*◌, ◌≤◌, ◌<◌}
use Rattle.std.specs.Prelude.{◌≡◌, true, false}
use Rattle.std.proofs.Math.Path.{refl, sym, ap}
use Rattle.std.proofs.Common.{◌∙◌, arith, length-set, ext_get_or, get_or-set_same}
use Rattle.std.proofs.Math.Logic.{inl, inr}
use mathlib.Core.List.Memᴰ
use mathlib.Core.List.{List, [], ◌∷◌, ◌++◌}
use Rattle.std.proofs.Math.ListN.{length, get_or, set}
use Rattle.std.proofs.lemmas.List.{length-replicate}
use Rattle.std.proofs.Math.Seq.{get_or-set_other}
use Rattle.encoding.specs.Lengths.{atom_codes}
use Rattle.definitions.specs.Lists.{◌∈◌, Different}
use Rattle.definitions.specs.Words.{Atom, same_atom, position}
use Rattle.theory.specs.Tests.{by-test, true-and-false}
use Rattle.theory.specs.WordLaws.{atom-ext, same_atom-eq, same_atom-refl}
use Rattle.encoding.specs.ArrayLaws.{get_d-repeated, get_d-each, get_d-set-each}
use Rattle.encoding.specs.Encoding.{place, code_of, atom_code, index_from, empty_index}

-- ── codes ──

-- the limits of a problem by which codes tell its atoms apart
pub record CodeLimits (constants : ℕ) (arities : List ℕ) : Type 0 where
  pub few : constants ≤ 32
  pub symbols : length arities ≤ 16
  pub each_arity : (n : ℕ) → n ∈ arities → n ≤ 3

-- the atom's symbol is declared, and it has as many constants as the arity of the symbol
pub record AtomLimits (constants : ℕ) (arities : List ℕ) (a : Atom) : Type 0 where
  pub symbol : 1 ≤ a.symbol
  pub declared : a.symbol ≤ length arities
  pub args : length a.args ≡ get_or arities (a.symbol - 1) 0
  pub in_range : (c : ℕ) → c ∈ a.args → (1 ≤ c) × (c ≤ constants)

-- four digits of base 32, the first of them unbounded
digits-injective :
    (s x y z t u v w : ℕ) → x < 32 → y < 32 → z < 32 → u < 32 → v < 32 → w < 32
    → ((s * 32 + x) * 32 + y) * 32 + z ≡ ((t * 32 + u) * 32 + v) * 32 + w
    → (s ≡ t) × (x ≡ u) × (y ≡ v) × (z ≡ w)
digits-injective s x y z t u v w hx hy hz hu hv hw e = omega arith

one_less : (m n : ℕ) → 1 ≤ m → 1 ≤ n → m - 1 ≡ n - 1 → m ≡ n
one_less m n h g e = omega arith

module _ (constants : ℕ) (arities : List ℕ) (limits : CodeLimits constants arities) where
  pub arity-at-most : (n : ℕ) → get_or arities n 0 ≤ 3
  arity-at-most n = get_d-each (λ k. k ≤ 3) arities n 0 (omega arith) limits.each_arity

  -- a constant is from 1 to 32, and so is the 1 that stands for one the atom lacks
  pub argument-at : (a : Atom) → AtomLimits constants arities a → (i : ℕ) → (1 ≤ get_or a.args i 1) × (get_or a.args i 1 ≤ 32)
  argument-at a h i =
      get_d-each (λ c. (1 ≤ c) × (c ≤ 32)) a.args i 1 (omega arith) (λ c m. omega (arith, h.in_range c m, limits.few))

  place-small : (a : Atom) → AtomLimits constants arities a → (i : ℕ) → place a.args i < 32
  unfolding place
  place-small a h i = omega (arith, argument-at a h i)

  pub code-small : (a : Atom) → AtomLimits constants arities a → atom_code a < atom_codes
  unfolding atom_code code_of
  code-small a h =
      omega (arith, h.symbol, h.declared, limits.symbols, place-small a h 0, place-small a h 1, place-small a h 2)

  -- an atom's code is its own
  pub code-injective : (a b : Atom) → AtomLimits constants arities a → AtomLimits constants arities b → atom_code a ≡ atom_code b → a ≡ b
  unfolding atom_code code_of place
  code-injective a b h g e =
      let (s, x, y, z) = digits-injective (a.symbol - 1) (place a.args 0) (place a.args 1) (place a.args 2) (b.symbol - 1) (place b.args 0) (place b.args 1) (place b.args 2)
      (place-small a h 0) (place-small a h 1) (place-small a h 2) (place-small b g 0) (place-small b g 1) (place-small b g 2) e in
      let symbol : a.symbol ≡ b.symbol = one_less a.symbol b.symbol h.symbol g.symbol s in
      let lengths : length a.args ≡ length b.args = h.args ∙ ap (λ n. get_or arities (n - 1) 0) symbol ∙ sym g.args in
      let few : length a.args ≤ 3 = omega (arith, h.args, arity-at-most (a.symbol - 1)) in
      let at : (i : ℕ) → place a.args i ≡ place b.args i → get_or a.args i 1 ≡ get_or b.args i 1 =
      λ i q. one_less (get_or a.args i 1) (get_or b.args i 1) (argument-at a h i).0 (argument-at b g i).0 q in
      atom-ext symbol (ext_get_or 1 a.args b.args lengths (three (length a.args) few (λ i. get_or a.args i 1 ≡ get_or b.args i 1) (at 0 x) (at 1 y) (at 2 z)))
    where
      three : (n : ℕ) → n ≤ 3 → (P : ℕ → Type 0) → P 0 → P 1 → P 2 → (i : ℕ) → i < n → P i
      three n h P p0 p1 p2 zero l = p0
      three n h P p0 p1 p2 (suc zero) l = p1
      three n h P p0 p1 p2 (suc (suc zero)) l = p2
      three n h P p0 p1 p2 (suc (suc (suc i))) l = absurd (omega arith)

-- ── the index ──

position_here : (b : Atom) (bs : List Atom) (a : Atom) → same_atom b a ≡ true → position (b ∷ bs) a ≡ 0
unfolding position
position_here b bs a e = cc

position_later : (b : Atom) (bs : List Atom) (a : Atom) → same_atom b a ≡ false → position (b ∷ bs) a ≡ suc (position bs a)
unfolding position
position_later b bs a e = cc

pub set-bounded : (l : List ℕ) (i v bound : ℕ) → ((k : ℕ) → get_or l k 0 ≤ bound) → v ≤ bound → (k : ℕ) → get_or (set l i v) k 0 ≤ bound
set-bounded l i v bound h g k = get_d-set-each (λ n. n ≤ bound) l i v k g (h k)

index-bounded : (n : ℕ) (gs : List Atom) (index : List ℕ) → ((k : ℕ) → get_or index k 0 ≤ n) → (k : ℕ) → get_or (index_from n gs index) k 0 ≤ n + length gs
unfolding index_from
index-bounded n [] index h k = omega (arith, h k)
index-bounded n (g ∷ gs) index h k =
    omega (arith, index-bounded (suc n) gs (set index (atom_code g) (suc n)) (set-bounded index (atom_code g) (suc n) (suc n) (λ j. omega (arith, h j)) (omega arith)) k)

-- an atom behind the others
pub index-more :
    (n : ℕ) (gs : List Atom) (a : Atom) (index : List ℕ)
    → index_from n (gs ++ (a ∷ [])) index ≡ set (index_from n gs index) (atom_code a) (n + length gs + 1)
unfolding index_from
index-more n [] a index = let e : suc n ≡ n + 0 + 1 = omega arith in rw e
index-more n (g ∷ gs) a index =
    let e : suc n + length gs + 1 ≡ n + suc (length gs) + 1 = omega arith in
    rw e at (index-more (suc n) gs a (set index (atom_code g) (suc n)))

pub empty-at : (k : ℕ) → get_or empty_index k 0 ≡ 0
unfolding empty_index
empty-at k = get_d-repeated 0 atom_codes k

empty-size : length empty_index ≡ atom_codes
unfolding empty_index
empty-size = length-replicate {A = ℕ} atom_codes 0

-- the index names only atoms of the table
pub index-within : (gs : List Atom) (code : ℕ) → get_or (index_from 0 gs empty_index) code 0 ≤ length gs
index-within gs code = omega (arith, index-bounded 0 gs empty_index (λ k. omega (arith, empty-at k)) code)

module _ (constants : ℕ) (arities : List ℕ) (limits : CodeLimits constants arities) where
  -- an atom outside the list keeps the entry at its code
  index-outside :
      (n : ℕ) (gs : List Atom) (index : List ℕ) → ((g : Atom) → g ∈ gs → AtomLimits constants arities g)
      → (a : Atom) → AtomLimits constants arities a → (a ∈ gs → ⊥) → get_or (index_from n gs index) (atom_code a) 0 ≡ get_or index (atom_code a) 0
  unfolding index_from
  index-outside n [] index l a h out = refl
  index-outside n (g ∷ gs) index l a h out =
      let differs : atom_code a ≡ atom_code g → ⊥ =
      λ e. out (Memᴰ.head (code-injective constants arities limits a g h (l g (Memᴰ.head refl)) e)) in
      index-outside (suc n) gs (set index (atom_code g) (suc n)) (λ x m. l x (Memᴰ.tail m)) a h (λ m. out (Memᴰ.tail m))
      ∙ get_or-set_other index (atom_code g) (atom_code a) (suc n) 0 differs

  index-inside :
      (n : ℕ) (gs : List Atom) (index : List ℕ) → ((g : Atom) → g ∈ gs → AtomLimits constants arities g) → Different gs → length index ≡ atom_codes
      → (a : Atom) → a ∈ gs → get_or (index_from n gs index) (atom_code a) 0 ≡ suc (n + position gs a)
  unfolding index_from
  index-inside n [] index l d size a m = absurd (Memᴰ.not-nil m)
  index-inside n (g ∷ gs) index l d size a m =
      let later = set index (atom_code g) (suc n) in
      by-test (same_atom g a)
      (λ e.
      let q : g ≡ a = same_atom-eq g a e in
      let h : AtomLimits constants arities a = l a m in
      let inside : atom_code g < length index = omega (arith, size, code-small constants arities limits g (l g (Memᴰ.head refl))) in
      let here : n + position (g ∷ gs) a ≡ n = omega (arith, position_here g gs a e) in
      index-outside (suc n) gs later (λ x k. l x (Memᴰ.tail k)) a h (λ k. d.0 (Memᴰ.cast q k))
      ∙ rw (← q) (get_or-set_same index (atom_code g) (suc n) 0 inside)
      ∙ ap suc (sym here))
      (λ e.
      elim (Memᴰ.cases_cons m) [
        | inl q ↦ true-and-false (rw (← q) (same_atom-refl a)) e
        | inr k ↦
            let there : suc n + position gs a ≡ n + position (g ∷ gs) a = omega (arith, position_later g gs a e) in
            index-inside (suc n) gs later (λ x j. l x (Memᴰ.tail j)) d.1 (length-set index (atom_code g) (suc n) ∙ size) a k
            ∙ ap suc there
      ])

  module _ (gs : List Atom) (each : (g : Atom) → g ∈ gs → AtomLimits constants arities g) where
    pub index-known : Different gs → (a : Atom) → a ∈ gs → get_or (index_from 0 gs empty_index) (atom_code a) 0 ≡ suc (position gs a)
    index-known d a m = index-inside 0 gs empty_index each d empty-size a m ∙ ap suc (let e : 0 + position gs a ≡ position gs a = omega arith in e)

    pub index-new : (a : Atom) → AtomLimits constants arities a → (a ∈ gs → ⊥) → get_or (index_from 0 gs empty_index) (atom_code a) 0 ≡ 0
    index-new a h out = index-outside 0 gs empty_index each a h out ∙ empty-at (atom_code a)
