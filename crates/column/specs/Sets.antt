-- Laws of overwriting a part of a list, `sets` of lib.Seq: runs that touch are one, and a run at the start replaces the front. Assumes nothing.
use Rattle.std.specs.Prelude.{ℕ, suc, ◌+◌, ◌-◌, ◌<◌, ◌≤◌, ◌≡◌, refl, List, [], ◌∷◌, ◌++◌, length, set, take, drop}
use Rattle.std.proofs.Common.{◌∙◌, append_assoc, arith}
use Rattle.std.proofs.lemmas.List.Edits.{sets, sets-eq}
use Rattle.std.proofs.lemmas.List.{set_comm, drop-drop, length-drop}
use Rattle.std.proofs.Math.Seq.{take-append_seam, length-take-le}
use borrow.Rule.Slice.PartMut.{put_mid}

module _ {A : Type 0} where
  -- two runs, the second behind the first, are one
  pub sets-append : (l : List A) (i : ℕ) (a b : List A) → sets (sets l i a) (i + length a) b ≡ sets l i (a ++ b)
  sets-append l i [] b = let e : i + 0 ≡ i = omega arith in rw e
  sets-append l i (x ∷ a) b =
      let e : i + suc (length a) ≡ suc i + length a = omega arith in
      rw e (sets-append (set l i x) (suc i) a b)

  -- a run from the start with what stands behind it, at a place that was counted
  pub sets_more : (l a b : List A) (n : ℕ) → n ≡ length a → sets (sets l 0 a) n b ≡ sets l 0 (a ++ b)
  sets_more l a b n e = let q : n ≡ 0 + length a = omega arith in rw q (sets-append l 0 a b)

  -- a store in front of a run may come first
  set_before : (l : List A) (i j : ℕ) (x : A) (b : List A) → i < j → set (sets l j b) i x ≡ sets (set l i x) j b
  set_before l i j x [] h = refl
  set_before l i j x (y ∷ b) h =
      set_before (set l j y) i (suc j) x b (omega arith) ∙ rw (set_comm l j i y x (λ e. omega arith))

  -- two runs, the second in front of the first, are one
  pub sets-before : (l : List A) (i : ℕ) (a b : List A) → sets (sets l (i + length a) b) i a ≡ sets l i (a ++ b)
  sets-before l i [] b = let e : i + 0 ≡ i = omega arith in rw e
  sets-before l i (x ∷ a) b =
      let e : i + suc (length a) ≡ suc i + length a = omega arith in
      rw (e, set_before l i (suc i + length a) x b (omega arith)) (sets-before (set l i x) (suc i) a b)

  -- a run at the start: its elements, and behind them those that were there
  module _ (l bytes : List A) (h : length bytes ≤ length l) where
    pub sets-front : sets l 0 bytes ≡ bytes ++ drop (length bytes) l
    sets-front = let e : 0 + length bytes ≡ length bytes = omega arith in rw e at (sets-eq bytes l 0 (omega arith))

    pub sets-taken : take (length bytes) (sets l 0 bytes) ≡ bytes
    sets-taken = rw sets-front (take-append_seam bytes (drop (length bytes) l))

  -- a part of a list in whose place other elements stand
  pub sets-part : (l bytes part : List A) (at size : ℕ) → size ≡ length bytes → part ≡ bytes → at + length bytes ≤ length l
      → put_mid at (at + size - at) l part ≡ sets l at bytes
  sets-part l bytes part at size s e fits =
      let k : at + length bytes - at ≡ length bytes = omega arith in
      rw (s, e, k, drop-drop (length bytes) at l, sets-eq bytes l at fits, append_assoc)

  pub part-length : (l bytes : List A) (at size : ℕ) → size ≡ length bytes → at + length bytes ≤ length l → length (take (at + size - at) (drop at l)) ≡ length bytes
  part-length l bytes at size s fits =
      let k : at + size - at ≡ length bytes = omega arith in
      rw k (length-take-le (length bytes) (drop at l) (omega (arith, length-drop at l)))
