-- Columns of 4 bytes one behind the other, and how many digits a number has. Assumes nothing.
use Rattle.std.proofs.Common.{◌≡◌, ap, ◌∙◌, ℕ, suc, false, ◌+◌, ◌/◌, ◌≤◌, ◌<◌, List, [], ◌∷◌, ◌++◌, map, length, get_or, drop, length-append, append-nil, arith}
use Rattle.std.proofs.Math.Seq.{drop-cons, drop-length}
use Rattle.std.specs.Prelude.{ltb}
use lib.ListN.{drop_of_length-le}
use Rattle.definitions.specs.Lists.{joined}
use Rattle.definitions.specs.Sheet.{Number, plus}
use Rattle.definitions.specs.Listing.{field_bytes, narrow, decimals}
use Rattle.theory.specs.Tests.{by-test}
use Rattle.column.specs.Sets.{sets-front}
use Rattle.column.specs.Places.{PutLast}
use Rattle.column.specs.Widths.{decimals-last, decimals-more, decimals-exact}
use Rattle.listing.specs.Puts.{Parts}
use Rattle.listing.specs.Lines.{column_bytes}

-- a column, and those behind it
pub columns-cons : (n : Number) (ns : List Number) → column_bytes (n ∷ ns) ≡ column_bytes (n ∷ []) ++ column_bytes ns
unfolding column_bytes joined
columns-cons n ns = rw (append-nil (field_bytes (narrow n)))

-- the numbers from the i-th on
module _ (sizes : List ℕ) (i : ℕ) where
  pub numbers-first : i < length sizes
      → Parts (column_bytes (map plus (drop i sizes))) (column_bytes (record { negative = false; size = get_or sizes i 0 } ∷ [])) (column_bytes (map plus (drop (i + 1) sizes)))
  unfolding plus
  numbers-first h =
      let e : i + 1 ≡ suc i = omega arith in
      record { whole = rw (e, drop-cons sizes i 0 h) (columns-cons (plus (get_or sizes i 0)) (map plus (drop (suc i) sizes))) }

  pub numbers-none : length sizes ≤ i → column_bytes (map plus (drop i sizes)) ≡ []
  unfolding column_bytes joined
  numbers-none h = rw (drop_of_length-le sizes h)

-- ── the digits of a number ──

one_place : (n : ℕ) → length (decimals 1 n) ≡ 1
unfolding decimals
one_place n = by-test (ltb n 10) (λ e. cc) (λ e. cc)

module _ (n : ℕ) where
  pub one-digit : n < 10 → 1 ≡ length (decimals 3 n)
  one-digit h = rw (decimals-last 2 n h)

  pub two-digits : 10 ≤ n → n < 100 → 2 ≡ length (decimals 3 n)
  two-digits l h = rw (decimals-more 2 n l, decimals-last 1 (n / 10) (omega arith))

  pub three-digits : 100 ≤ n → 3 ≡ length (decimals 3 n)
  three-digits l =
      rw (decimals-more 2 n (omega arith), length-append, decimals-more 1 (n / 10) (omega arith), length-append, one_place (n / 10 / 10))

  -- in as many places as there are digits, nothing is left before them
  pub digits-whole : {field : List ℕ} {left : ℕ} {after : List ℕ} → length field ≡ length (decimals 3 n)
      → PutLast field (length field) (decimals (length field) n) left after → after ≡ decimals 3 n
  digits-whole {field} {left} e put =
      let same : decimals (length field) n ≡ decimals 3 n = ap (λ (w : ℕ). decimals w n) e ∙ decimals-exact 3 n in
      let none : left ≡ 0 = omega (arith, put.count, ap length same) in
      put.stored ∙ rw (none, same, sets-front field (decimals 3 n) (omega arith), ← e, drop-length, append-nil)
