-- Laws of lines and rows, for the reader of lines: a line is cut off at its LF, a word stands for its number and back,
-- and a row of words is taken off from the front. Assumes nothing.
use Rattle.std.specs.Prelude.{ℕ, zero, suc, ◌<◌, ◌≤◌, ◌≡◌, refl, true, false, ◌&&◌, List, [], ◌∷◌, ◌++◌, eqb, leb, length, get_or, take, drop, set}
use Rattle.std.proofs.Common.{◌∙◌, arith, take-suc-set}
use Rattle.std.proofs.lemmas.List.{map-append}
use Rattle.std.proofs.Math.ListN.{length-take, length-map, drop_of_length-le, get_or-map}
use Rattle.std.proofs.Math.Seq.{length-take-le, drop-cons, get_or-take}
use Rattle.definitions.specs.Sheet.{put_byte, lines, Number}
use Rattle.definitions.specs.Questions.{yes, ◌>>=◌, ◌>>◌, ask, within, count, kind_of, rank}
use Rattle.theory.specs.Tests.{by-test, apart}
use Rattle.theory.specs.AskedLaws.{kind-of-none}
use Rattle.theory.specs.Limits.{within-between}
use Rattle.encoding.specs.Signs.{number_of, numbers}
use Rattle.rows.specs.Rows.{line_length, kind_here, row_kind, kind_asked}

-- ── lines ──

pub line_length-le : (bs : List ℕ) → line_length bs ≤ length bs
unfolding line_length
line_length-le [] = omega arith
line_length-le (b ∷ bs) =
    let h = line_length-le bs in
    by-test (eqb b 10) (λ t. rw (t, line_length) (omega arith)) (λ t. rw (t, line_length) (omega arith))

pub lines_none : lines [] ≡ []
unfolding lines
lines_none = refl

pub lines-ended : (bs : List ℕ) → line_length bs < length bs
    → lines bs ≡ record { bytes = take (line_length bs) bs; ended = true } ∷ lines (drop (suc (line_length bs)) bs)
unfolding lines put_byte line_length
lines-ended [] h = let z : ⊥ = omega arith in absurd z
lines-ended (b ∷ bs) h =
    by-test (eqb b 10)
    (λ t. cc)
    (λ t. let k = rw (t, line_length) at h in cc (lines-ended bs (omega arith)))

pub lines-unended : (b : ℕ) (bs : List ℕ) → line_length (b ∷ bs) ≡ length (b ∷ bs)
    → lines (b ∷ bs) ≡ record { bytes = b ∷ bs; ended = false } ∷ []
unfolding lines put_byte line_length
lines-unended b [] h = by-test (eqb b 10) (λ t. let k = rw (t, line_length) at h in apart (omega arith)) (λ t. cc)
lines-unended b (c ∷ bs) h =
    by-test (eqb b 10)
    (λ t. let k = rw (t, line_length) at h in apart (omega arith))
    (λ t. let k = rw (t, line_length) at h in cc (lines-unended c bs (omega arith)))

-- ── the kind of a line ──

pub kind_asked-positive : (k : ℕ) (ns : List Number) → 1 ≤ k → kind_asked k ns ≡ yes (record { found = k; left = ns })
unfolding kind_asked
kind_asked-positive zero ns h = apart (omega arith)
kind_asked-positive (suc k) ns h = refl

kind-first : (before : ℕ) (n : Number) (ns : List Number) → kind_of before (n ∷ ns) ≡ kind_asked (kind_here before n) ns
unfolding kind_of count kind_here kind_asked ask ◌>>=◌ ◌>>◌
kind-first zero n ns =
    by-test (within 1 1 n)
    (λ t. let e : n.size ≡ 1 = omega (arith, within-between 1 1 n t) in cc)
    (λ t. cc)
kind-first (suc before) n ns =
    by-test (within 2 8 n)
    (λ t.
    let e = kind_asked-positive n.size ns (omega (arith, within-between 2 8 n t)) in
    by-test (leb (rank n.size) 4 && leb (rank (suc before)) (rank n.size)) (λ u. cc) (λ u. cc))
    (λ t. cc)

pub kind-of-row : (before : ℕ) (ns : List Number) → kind_of before ns ≡ kind_asked (row_kind before ns) (drop 1 ns)
unfolding row_kind kind_asked
kind-of-row before [] = kind-of-none before
kind-of-row before (n ∷ ns) = kind-first before n ns

-- ── rows ──

module _ (n : ℕ) (row : List ℕ) where
  pub numbers-length : n ≤ length row → length (numbers n row) ≡ n
  unfolding numbers
  numbers-length h = length-map (take n row) number_of ∙ length-take-le n row h

  pub numbers-cons : (i : ℕ) → n ≤ length row → i < n → drop i (numbers n row) ≡ number_of (get_or row i 0) ∷ drop (suc i) (numbers n row)
  unfolding numbers
  numbers-cons i h k =
      drop-cons (numbers n row) i (number_of 0) (omega (arith, numbers-length h)) ∙ cc (get_or-map number_of (take n row) i 0, get_or-take n row i 0 k)

  pub numbers-end : (i : ℕ) → n ≤ i → drop i (numbers n row) ≡ []
  unfolding numbers
  numbers-end i h = drop_of_length-le (numbers n row) {i = i} (omega (arith, length-map (take n row) number_of, length-take n row))

pub numbers-set : (row : List ℕ) (i w : ℕ) → i < length row → numbers (suc i) (set row i w) ≡ numbers i row ++ (number_of w ∷ [])
unfolding numbers
numbers-set row i w h = rw (take-suc-set row i w h) (map-append number_of (take i row) (w ∷ []))
