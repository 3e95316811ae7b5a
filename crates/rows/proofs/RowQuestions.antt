-- Questions 4 to 7 of a line, as the reader of its start asks them: by the line's place, its length, its columns and its kind.
use Prim.Native.Nat.{ℕ, ◌-◌, ◌*◌, ◌/◌, ◌≤◌}
use mathlib.Core.Path.{◌≡◌, ◌∙◌}
use mathlib.Core.Bool.{true, false}
use mathlib.Core.List.{List, map}
use native.Mathlib.Omega.{arith}
use lib.Dec.{ltb}
use lib.ListN.{length, take, drop, length-drop}
use lib.Seq.{length-take-le}
use borrow.Author.Tests.{lt-ltb, le-ltb}
use Rattle.definitions.specs.Questions.{◌>>=◌, ◌>>◌, ask, columns, good_length, columns_asked}
use Rattle.theory.specs.AskedLaws.{good_length_lem}
use Rattle.encoding.specs.Signs.{number_of, numbers}
use Rattle.rows.specs.Rows.{line_at, row_kind, kind_asked, row_asked, start_of, start_asked}
use Rattle.rows.specs.RowLaws.{kind_asked-positive, kind-of-row}
use Rattle.std.specs.Prelude.{Option, Some, None, Result, Ok, Err, IsErrAnd}
use Rattle.definitions.specs.declared.Question.{Question}
use Rattle.definitions.specs.declared.Question.TheVariants.{LineEnd, LineLength, Kind}
use Rattle.rows.specs.Kinds.{number_of_kind, kind_number}
use Rattle.rows.specs.declared.Kind as declared
use Rattle.rows.specs.declared.Kind.TheVariants.{Constants, Symbol, Rule, Clause, TwoWay}
use Rattle.rows.specs.declared.LineStart.{LineStart}

-- ── question 5 ──

module _ (n : ℕ) where
  -- such a line is made of columns, at most 34
  pub good-columns : good_length n ≡ true → (4 * (n / 4) ≡ n) × (n / 4 ≤ 34)
  good-columns good = let (_, most, whole) = good_length_lem n good in (omega arith, omega arith)

some-kind : (k : declared.Kind) → 1 ≤ number_of_kind k
some-kind Constants = omega arith
some-kind Symbol = omega arith
some-kind Rule = omega arith
some-kind Clause = omega arith
some-kind TwoWay = omega arith

-- ── the questions of a line, one after the other ──

pub no_end : (s : List ℕ) (from end before : ℕ) (row : List ℕ) → end ≡ length s → start_of before (line_at s from end) ≡ start_asked (Err LineEnd) row
unfolding start_of columns_asked start_asked ask ◌>>◌ ◌>>=◌
no_end s from end before row h = cc (le-ltb end (length s) (omega arith))

module _ (s : List ℕ) (from end before : ℕ) (row : List ℕ) (start : from ≤ end) (within : end ≤ length s) (ended : end ≡ length s → ⊥) where
  cut-length : length (take (end - from) (drop from s)) ≡ end - from
  cut-length = length-take-le (end - from) (drop from s) (omega (arith, length-drop from s))

  ends : ltb end (length s) ≡ true
  ends = lt-ltb end (length s) (omega arith)

  pub bad-length : good_length (end - from) ≡ false → start_of before (line_at s from end) ≡ start_asked (Err LineLength) row
  unfolding start_of columns_asked start_asked ask ◌>>◌ ◌>>=◌
  bad-length h = cc (ends, cut-length)

  module _ (good : good_length (end - from) ≡ true) (read : Result ℕ Question) (asked : columns (take (4 * ((end - from) / 4)) (drop from s)) ≡ row_asked read row) where
    good-line : columns_asked (line_at s from end) ≡ row_asked read row
    unfolding columns_asked ask ◌>>◌
    good-line = let e = (good-columns (end - from) good).0 in cc (ends, cut-length)

    pub bad-column : {q : Question} → read ≡ Err q → (r : Result LineStart Question) → IsErrAnd r (λ d. d ≡ q) → start_of before (line_at s from end) ≡ start_asked r row
    unfolding start_of row_asked start_asked ◌>>=◌
    bad-column f (Ok start) same = absurd same
    bad-column f (Err d) same = cc good-line

    module _ (filled : ℕ) (kind : Option declared.Kind) (f : read ≡ Ok filled) (found : kind_number kind ≡ row_kind before (map number_of (take filled row))) where
      by_kind : start_of before (line_at s from end) ≡ kind_asked (kind_number kind) (drop 1 (numbers filled row))
      unfolding start_of row_asked ◌>>=◌ numbers
      by_kind = cc (good-line, kind-of-row before (numbers filled row))

      pub bad_kind : kind ≡ None → start_of before (line_at s from end) ≡ start_asked (Err Kind) row
      unfolding kind_asked start_asked
      bad_kind z = cc by_kind

      pub line-start : {k : declared.Kind} → kind ≡ Some k → start_of before (line_at s from end) ≡ start_asked (Ok (record { kind = k; filled = filled })) row
      unfolding start_asked
      line-start {k} some = rw some at by_kind ∙ kind_asked-positive (number_of_kind k) _ (some-kind k)
