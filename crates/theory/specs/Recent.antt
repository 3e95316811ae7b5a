-- Entries of the trail that a rule has not seen: setting literals keeps that what fires of it has a head among them. Assumes nothing.
use Rattle.std.specs.Prelude.{ℕ, zero, suc, ◌-◌, ◌≤◌, ◌<◌, ◌≡◌, Bool, true, false, List, [], ◌∷◌, ◌++◌, take}
use Rattle.std.proofs.Math.Path.{refl, ap}
use Rattle.std.proofs.Common.{sym, ◌∙◌, inl, inr, arith}
use mathlib.Core.List.Memᴰ
use Rattle.std.proofs.Math.ListN.{length, length-append}
use Rattle.definitions.specs.Lists.{◌∈◌, any}
use Rattle.definitions.specs.Words.{Literal, same_literal}
use Rattle.definitions.specs.Instances.{Instance}
use Rattle.definitions.specs.Search.{Entry, Trail, is_true, fires}
use Rattle.theory.specs.Quiet.{stays-quiet}
use Rattle.theory.specs.ListLaws.{any_some, any_of}
use Rattle.theory.specs.Tests.{by-test, true-and-false, or_left, or_right}

-- the entries from one place on; the latest stands first
unfoldable pub recent : ℕ → Trail → Trail
recent mark t = take (length t - mark) t

-- an instance that fires has a head among them
abbrev pub Marked : ℕ → Trail → Instance → Type 0
Marked mark t i = fires t i ≡ true → any (is_true (recent mark t)) i.heads ≡ true

-- ── an entry at a place ──

pub record EntryAt (t : Trail) (place : ℕ) (e : Entry) : Type 0 where
  pub newer : Trail
  pub older : Trail
  pub split : t ≡ newer ++ (e ∷ older)
  pub below : place ≡ length older

entry-taken : (n : ℕ) (t : Trail) (e : Entry) → e ∈ take n t → (newer : Trail) × (older : Trail) × (t ≡ newer ++ (e ∷ older)) × (length newer < n)
entry-taken zero t e m = absurd (Memᴰ.not-nil m)
entry-taken (suc n) [] e m = absurd (Memᴰ.not-nil m)
entry-taken (suc n) (d ∷ t) e m =
    elim (Memᴰ.cases_cons m) [
      | inl q ↦ ([], t, ap (λ (x : Entry). x ∷ t) (sym q), omega arith)
      | inr k ↦ let (newer, older, q, l) = entry-taken n t e k in (d ∷ newer, older, ap (λ (u : Trail). d ∷ u) q, omega arith)
    ]

taken-entry : (n : ℕ) (newer older : Trail) (e : Entry) → length newer < n → e ∈ take n (newer ++ (e ∷ older))
taken-entry zero newer older e l = absurd (omega arith)
taken-entry (suc n) [] older e l = Memᴰ.head refl
taken-entry (suc n) (d ∷ newer) older e l = Memᴰ.tail (taken-entry n newer older e (omega arith))

-- a literal is true by the entries from a place on where one of them sets it
module _ (mark : ℕ) (t : Trail) (ls : List Literal) where
  pub recent-entry : any (is_true (recent mark t)) ls ≡ true
      → (e : Entry) × (place : ℕ) × EntryAt t place e × (mark ≤ place) × (any (λ (l : Literal). same_literal l e.literal) ls ≡ true)
  unfolding recent is_true
  recent-entry h =
      let (l, m, true-here) = any_some (is_true (recent mark t)) ls h in
      let (e, k, same) = any_some (λ (x : Entry). same_literal l x.literal) (recent mark t) true-here in
      let (newer, older, q, below) = entry-taken (length t - mark) t e k in (
        e,
        length older,
        record { newer = newer; older = older; split = q; below = refl },
        omega (arith, below, ap length q, length-append newer (e ∷ older)),
        any_of (λ (x : Literal). same_literal x e.literal) ls l m same,
      )

  pub entry-recent : (e : Entry) (place : ℕ) → EntryAt t place e → mark ≤ place → any (λ (l : Literal). same_literal l e.literal) ls ≡ true
      → any (is_true (recent mark t)) ls ≡ true
  unfolding recent is_true
  entry-recent e place at l h =
      let (x, m, same) = any_some (λ (x : Literal). same_literal x e.literal) ls h in
      let inside : e ∈ recent mark t =
      rw at.split
      (taken-entry (length (at.newer ++ (e ∷ at.older)) - mark) at.newer at.older e (omega (arith, at.below, length-append at.newer (e ∷ at.older)))) in
      any_of (is_true (recent mark t)) ls x m (any_of (λ (d : Entry). same_literal x d.literal) (recent mark t) e inside same)

-- ── literals are set ──

any-wider : (p q : Literal → Bool) → ((l : Literal) → p l ≡ true → q l ≡ true) → (ls : List Literal) → any p ls ≡ true → any q ls ≡ true
any-wider p q h ls e = let (l, m, t) = any_some p ls e in any_of q ls l m (h l t)

recent-more : (mark : ℕ) (e : Entry) (t : Trail) → mark ≤ length t → recent mark (e ∷ t) ≡ e ∷ recent mark t
unfolding recent
recent-more mark e t l = let q : suc (length t) - mark ≡ suc (length t - mark) = omega arith in rw q

marked-set : (mark : ℕ) (e : Entry) (t : Trail) (i : Instance) → mark ≤ length t → Marked mark t i → Marked mark (e ∷ t) i
unfolding is_true any
marked-set mark e t i l h f =
    let here : Literal → Bool = λ (x : Literal). same_literal x e.literal in
    rw (recent-more mark e t l)
    (by-test (any here i.heads)
    (λ y. any-wider here (is_true (e ∷ recent mark t)) (λ x a. or_left (here x) (is_true (recent mark t) x) a) i.heads y)
    (λ n.
    let before : fires t i ≡ true = by-test (fires t i) (λ y. y) (λ y. true-and-false f (stays-quiet e t i n y)) in
    any-wider (is_true (recent mark t)) (is_true (e ∷ recent mark t)) (λ x a. or_right (here x) (is_true (recent mark t) x) a) i.heads (h before)))

marked_more : (mark : ℕ) (newer older : Trail) (i : Instance) → mark ≤ length older → Marked mark older i → Marked mark (newer ++ older) i
marked_more mark [] older i l h = h
marked_more mark (e ∷ newer) older i l h =
    marked-set mark e (newer ++ older) i (omega (arith, length-append newer older)) (marked_more mark newer older i l h)

recent-newer : (newer older : Trail) → recent (length older) (newer ++ older) ≡ newer
unfolding recent
recent-newer [] older = let z : length older - length older ≡ 0 = omega arith in rw z
recent-newer (e ∷ newer) older =
    recent-more (length older) e (newer ++ older) (omega (arith, length-append newer older)) ∙ ap (λ (u : Trail). e ∷ u) (recent-newer newer older)

-- ── which rules are awake ──

module _ (is : List Instance) where
  -- what fires is of a rule that is awake, and has a head among the entries that the rule has not seen; rules by their numbers
  abbrev pub Awake : (ℕ → Bool) → (ℕ → ℕ) → Trail → Type 0
  Awake awake seen t =
      (i : Instance) → i ∈ is → fires t i ≡ true → (awake i.rule ≡ true) × (any (is_true (recent (seen i.rule) t)) i.heads ≡ true)

  -- literals are set: the rules with a head among them are awake then, and those that slept have seen the entries before them
  pub awake-more : (newer older : Trail) (awake awake' : ℕ → Bool) (seen seen' : ℕ → ℕ)
      → ((i : Instance) → i ∈ is → awake i.rule ≡ true → (awake' i.rule ≡ true) × (seen' i.rule ≡ seen i.rule) × (seen i.rule ≤ length older))
      → ((i : Instance) → i ∈ is → awake i.rule ≡ false → any (is_true newer) i.heads ≡ true → (awake' i.rule ≡ true) × (seen' i.rule ≡ length older))
      → Awake awake seen older → Awake awake' seen' (newer ++ older)
  awake-more newer older awake awake' seen seen' kept new h i m f =
      by-test (awake i.rule)
      (λ a.
      let (still, same, low) = kept i m a in
      (still, rw same (marked_more (seen i.rule) newer older i low (λ g. (h i m g).1) f)))
      (λ a.
      let quiet : fires older i ≡ false = by-test (fires older i) (λ g. true-and-false (h i m g).0 a) (λ g. g) in
      let its : any (is_true (recent (length older) (newer ++ older))) i.heads ≡ true = marked_more (length older) newer older i (omega arith) (λ g. true-and-false g quiet) f in
      let (wakes, from) = new i m a (rw (recent-newer newer older) at its) in
      (wakes, rw from its))
