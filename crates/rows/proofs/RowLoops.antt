-- The loops over a line's bytes and over its columns: one turn and the end of each, in the code's terms.
use Prim.Native.Nat.{ℕ, zero, suc, ◌+◌, ◌-◌, ◌*◌, ◌<◌, ◌≤◌}
use mathlib.Core.Path.{◌≡◌, refl, sym, ◌∙◌}
use mathlib.Core.Bool.{Bool}
use mathlib.Core.List.{List, [], ◌∷◌, ◌++◌, append-nil, append_assoc}
use native.Mathlib.Numerals.{add-one}
use native.Mathlib.Omega.{arith}
use lib.ListN.{length, get_or, set, take, drop, length-set}
use lib.Seq.{drop-cons}
use borrow.Author.Tests.{ne_eqb}
use Rattle.std.specs.Prelude.{Result, Ok, Err, IsErrAnd}
use Rattle.definitions.specs.declared.Question.{Question}
use Rattle.definitions.specs.declared.Question.TheVariants.{Columns}
use Rattle.definitions.specs.Sheet.{Number, number, nothing, fault, decimal}
use Rattle.definitions.specs.Questions.{Asked, no, yes, ◌>>=◌, in_front, columns}
use Rattle.encoding.specs.Signs.{word_of, numbers}
use Rattle.rows.specs.Rows.{line_length, row_asked}
use Rattle.encoding.specs.Signs.{number_word_lem}
use Rattle.rows.specs.RowLaws.{numbers-set}

-- ── the bytes of a line ──

pub line_length-first : (s : List ℕ) (k : ℕ) → k < length s → get_or s k 0 ≡ 10 → ((j : ℕ) → j < k → get_or s j 0 ≡ 10 → ⊥) → line_length s ≡ k
unfolding line_length
line_length-first [] k h e before = absurd (omega arith)
line_length-first (b ∷ s) zero h e before = cc
line_length-first (b ∷ s) (suc k) h e before =
    cc (ne_eqb b 10 (before 0 (omega arith)), line_length-first s k (omega arith) e (λ j l. before (suc j) (omega arith)))

pub line_length-whole : (s : List ℕ) → ((j : ℕ) → j < length s → get_or s j 0 ≡ 10 → ⊥) → line_length s ≡ length s
unfolding line_length
line_length-whole [] none = refl
line_length-whole (b ∷ s) none =
    cc (ne_eqb b 10 (none 0 (omega arith)), line_length-whole s (λ j l. none (suc j) (omega arith)))

-- ── the columns of a line ──

-- numbers that were read, and behind them those of the rest
behind : List Number → Asked (List Number) → Asked (List Number)
behind ns (no q) = no q
behind ns (yes ms) = yes (ns ++ ms)

-- what a line's columns come to, with numbers in place of those before a column
pub row_from : List ℕ → ℕ → ℕ → ℕ → List Number → Asked (List Number)
row_from s from count i ns = behind ns (columns (take (4 * (count - i)) (drop (from + 4 * i) s)))

behind-behind : (ns ms : List Number) (rest : Asked (List Number)) → behind ns (behind ms rest) ≡ behind (ns ++ ms) rest
unfolding behind
behind-behind ns ms (no q) = refl
behind-behind ns ms (yes ks) = rw (append_assoc ns ms ks)

number_behind : (n : Number) (rest : Asked (List Number)) → in_front (number n) rest ≡ behind (n ∷ []) rest
unfolding behind in_front ◌>>=◌
number_behind n (no q) = refl
number_behind n (yes ns) = refl

behind-none : (rest : Asked (List Number)) → behind [] rest ≡ rest
unfolding behind
behind-none (no q) = refl
behind-none (yes ns) = refl

four-more : (s : List ℕ) (at k : ℕ) → at + 4 ≤ length s
    → columns (take (4 * suc k) (drop at s)) ≡ in_front (decimal (take 4 (drop at s))) (columns (take (4 * k) (drop (at + 4) s)))
unfolding columns
four-more s at k h =
    let e : 4 * suc k ≡ suc (suc (suc (suc (4 * k)))) = omega arith in
    let f : at + 4 ≡ suc (suc (suc (suc at))) = omega arith in
    rw (e, f, drop-cons s at 0 (omega arith), drop-cons s (suc at) 0 (omega arith), drop-cons s (suc (suc at)) 0 (omega arith), drop-cons s (suc (suc (suc at))) 0 (omega arith))

-- up to a column: the filled ones before it stand in the row, and what is still to be read comes behind them
pub record RowUpTo (s : List ℕ) (from count i filled : ℕ) (row : List ℕ) : Type 0 where
  pub inside : i ≤ count
  pub counted : filled ≤ i
  pub wide : length row ≡ 34
  pub rest : row_from s from count i (numbers filled row) ≡ columns (take (4 * count) (drop from s))

pub row-start : (s : List ℕ) (from count : ℕ) (row : List ℕ) → length row ≡ 34 → RowUpTo s from count 0 0 row
unfolding row_from numbers
row-start s from count row wide =
    let e : count - 0 ≡ count = omega arith in
    let f : from + 4 * 0 ≡ from = omega arith in
    record { inside = omega arith; counted = omega arith; wide = wide; rest = rw (e, f) (behind-none _) }

pub row-end : {s : List ℕ} {from count i filled : ℕ} {row : List ℕ} → RowUpTo s from count i filled row → count ≤ i → columns (take (4 * count) (drop from s)) ≡ yes (numbers filled row)
unfolding row_from behind columns
row-end {s} {from} {count} {i} {filled} {row} up_to h =
    let f : 4 * (count - i) ≡ 0 = omega arith in
    sym up_to.rest ∙ rw f (rw (append-nil (numbers filled row)))

module _ (s : List ℕ) (from count i : ℕ) (fits : from + 4 * count ≤ length s) (h : i < count) where
  row_cons :
      columns (take (4 * (count - i)) (drop (from + 4 * i) s))
      ≡ in_front (decimal (take 4 (drop (from + 4 * i) s))) (columns (take (4 * (count - (i + 1))) (drop (from + 4 * (i + 1)) s)))
  row_cons =
      let e : count - i ≡ suc (count - (i + 1)) = omega arith in
      let f : from + 4 * (i + 1) ≡ from + 4 * i + 4 = omega arith in
      rw (e, f) (four-more s (from + 4 * i) (count - (i + 1)) (omega arith))

  module _ {filled : ℕ} {row : List ℕ} (up_to : RowUpTo s from count i filled row) where
    -- a number is put behind the others,
    pub row_number : count ≤ 34 → (negative : Bool) (size w : ℕ) → w ≡ word_of negative size
        → decimal (take 4 (drop (from + 4 * i) s)) ≡ number (record { negative = negative; size = size })
        → RowUpTo s from count (i + 1) (filled + 1) (set row filled w)
    unfolding row_from
    row_number few negative size w same e =
        record {
          inside = omega arith;
          counted = omega (arith, up_to.counted);
          wide = simp length-set up_to.wide;
          rest = rw same (turn ∙ up_to.rest);
        }
      where
        below : filled < length row
        below = omega (arith, up_to.counted, up_to.wide)

        turn : row_from s from count (i + 1) (numbers (filled + 1) (set row filled (word_of negative size))) ≡ row_from s from count i (numbers filled row)
        turn =
            rw (row_cons, e, number_behind (record { negative = negative; size = size }) _, behind-behind, ← number_word_lem negative size, ← numbers-set row filled (word_of negative size) below, add-one filled)

    -- a blank column is passed over,
    pub row-blank : decimal (take 4 (drop (from + 4 * i) s)) ≡ nothing → RowUpTo s from count (i + 1) filled row
    unfolding row_from in_front
    row-blank e =
        record {
          inside = omega arith;
          counted = omega (arith, up_to.counted);
          wide = up_to.wide;
          rest = turn ∙ up_to.rest;
        }
      where
        turn : row_from s from count (i + 1) (numbers filled row) ≡ row_from s from count i (numbers filled row)
        turn = rw (row_cons, e)

    -- and a fault ends the line
    pub row-fault : decimal (take 4 (drop (from + 4 * i) s)) ≡ fault → {q : Question} → q ≡ Columns → (r : Result ℕ Question) → IsErrAnd r (λ d. d ≡ q)
        → columns (take (4 * count) (drop from s)) ≡ row_asked r row
    unfolding row_from behind in_front row_asked
    row-fault e six (Ok n) same = absurd same
    row-fault e six (Err d) same = let f : d ≡ Columns = cc in rw f (sym up_to.rest ∙ rw (row_cons, e))
