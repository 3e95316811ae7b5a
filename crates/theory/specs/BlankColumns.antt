-- Document 02, 3/14: blank columns change nothing but questions 2 and 5, and a line of blanks has no kind. Assumes nothing.
use Rattle.std.specs.Prelude.{ℕ, suc, ◌%◌, ◌*◌, ◌+◌, ◌-◌, ◌≤◌, ◌≡◌, refl, Bool, true, false, ◌&&◌, eqb, leb, length}
use Rattle.std.proofs.Math.Path.{sym, ap}
use Rattle.std.proofs.Common.{◌∙◌, le_refl}
use mathlib.Core.List.{List, [], ◌∷◌, ◌++◌, map, map-map, append-nil}
use native.Mathlib.Omega.{arith}
use Rattle.std.proofs.lemmas.List.{length-map}
use borrow.Author.Tests.{eqb-true, le-leb}
use Rattle.definitions.specs.Lists.{is_empty, all, filter}
use Rattle.definitions.specs.Bounds.{sheet_bytes, longest_line}
use Rattle.definitions.specs.Words.{Problem}
use Rattle.definitions.specs.Sheet.{Line, put_byte, lines, nothing, is_digit, digits, natural, signed, decimal}
use Rattle.definitions.specs.Questions.{Asked, no, yes, ◌>>=◌, ◌>>◌, ask, in_front, columns, columns_asked, Draft, read_line, accepted, read_lines, empty_draft, read}
use Rattle.definitions.specs.Call.{Lending, first_short, after_lending}
use Rattle.definitions.specs.Sheets.{Row, filled, row_of, is_kind, of_kind, constants_of, Keeps, passes, FilledAlike, blank_column, is_blank}
use Rattle.theory.specs.Tests.{by-test, by-option, apart, and_left, and_right}
use Rattle.theory.specs.AskedLaws.{by-asked, accepted-read, good_length_lem, kind-of-none}
use Rattle.theory.specs.Reading.{line-count}
use Rattle.theory.specs.Limits.{some-line, accepted-limits, accepted-from-lines}
use Rattle.theory.specs.TwoWayLaws.{lines-counted}

-- ── what is read as nothing ──

digits-something : (negative : Bool) (n : ℕ) (bs : List ℕ) → digits negative n bs ≡ nothing → ⊥
unfolding digits
digits-something negative n [] e = apart (cc)
digits-something negative n (b ∷ bs) e = by-test (is_digit b) (λ t. digits-something negative (n * 10 + (b - 48)) bs (cc)) (λ t. apart (cc))

natural-something : (negative : Bool) (bs : List ℕ) → natural negative bs ≡ nothing → ⊥
unfolding natural
natural-something negative [] e = apart (cc)
natural-something negative (b ∷ bs) e = by-test (leb 49 b) (λ t. digits-something negative 0 (b ∷ bs) (cc)) (λ t. apart (cc))

signed-something : (b : ℕ) (bs : List ℕ) → signed (b ∷ bs) ≡ nothing → ⊥
unfolding signed
signed-something b bs e =
    by-test (eqb b 45)
    (λ t. natural-something true bs (cc))
    (λ t. by-test (eqb b 48 && is_empty bs) (λ u. apart (cc)) (λ u. natural-something false (b ∷ bs) (cc)))

-- only blanks are
pub nothing-blank : (bs : List ℕ) → decimal bs ≡ nothing → is_blank bs ≡ true
unfolding decimal is_blank all
nothing-blank [] e = refl
nothing-blank (b ∷ bs) e = by-test (eqb b 32) (λ t. cc (nothing-blank bs (cc))) (λ t. absurd (signed-something b bs (cc)))

-- ── a blank column among others ──

-- it is passed over wherever it stands
pub passed_over : (front back : List ℕ) → length front % 4 ≡ 0 → columns (front ++ blank_column ++ back) ≡ columns (front ++ back)
unfolding columns in_front decimal blank_column
passed_over [] back h = refl
passed_over (a ∷ []) back h = apart (omega arith)
passed_over (a ∷ b ∷ []) back h = apart (omega arith)
passed_over (a ∷ b ∷ c ∷ []) back h = apart (omega arith)
passed_over (a ∷ b ∷ c ∷ d ∷ front) back h = ap (in_front (decimal (a ∷ b ∷ c ∷ d ∷ []))) (passed_over front back (omega arith))

-- ── a line of blanks ──

blank-columns : (bs : List ℕ) → length bs % 4 ≡ 0 → is_blank bs ≡ true → columns bs ≡ yes []
unfolding columns in_front decimal is_blank all
blank-columns [] h e = refl
blank-columns (a ∷ []) h e = apart (omega arith)
blank-columns (a ∷ b ∷ []) h e = apart (omega arith)
blank-columns (a ∷ b ∷ c ∷ []) h e = apart (omega arith)
blank-columns (a ∷ b ∷ c ∷ d ∷ bs) h e =
    let e₁ = and_right (eqb a 32) _ e in
    let e₂ = and_right (eqb b 32) _ e₁ in
    let e₃ = and_right (eqb c 32) _ e₂ in
    let rest = blank-columns bs (omega arith) (and_right (eqb d 32) _ e₃) in
    rw (
      eqb-true a 32 (and_left (eqb a 32) _ e),
      eqb-true b 32 (and_left (eqb b 32) _ e₁),
      eqb-true c 32 (and_left (eqb c 32) _ e₂),
      eqb-true d 32 (and_left (eqb d 32) _ e₃),
    )
    rest

-- what 4 to 6 say of a line that passes 4 and 5
passed-columns : (l : Line) → passes l ≡ true → columns_asked l ≡ filled l
unfolding passes filled columns_asked ask ◌>>◌
passed-columns l p = cc (and_left l.ended _ p, and_right l.ended _ p)

passed_length : (l : Line) → passes l ≡ true → (length l.bytes ≤ longest_line) × (length l.bytes % 4 ≡ 0)
unfolding passes
passed_length l p = let good = good_length_lem (length l.bytes) (and_right l.ended _ p) in (good.1, good.2)

pub blank-line : (d : Draft) (l : Line) → passes l ≡ true → is_blank l.bytes ≡ true → read_line d l ≡ no 7
unfolding read_line filled ◌>>=◌
blank-line d l p e = cc (passed-columns l p, blank-columns l.bytes (passed_length l p).1 e, kind-of-none d.before)

-- ── lines that are filled alike ──

alike-lines : (d : Draft) (n : ℕ) (ls ms : List Line) → all passes ls ≡ true → all passes ms ≡ true → map filled ls ≡ map filled ms
    → read_lines d n ls ≡ read_lines d n ms
unfolding all read_lines
alike-lines d n [] [] p q e = refl
alike-lines d n [] (m ∷ ms) p q e = apart (cc)
alike-lines d n (l ∷ ls) [] p q e = apart (cc)
alike-lines d n (l ∷ ls) (m ∷ ms) p q e =
    by-asked (read_line d l)
    (λ r g. cc line)
    (λ f g. cc (line, alike-lines f (suc n) ls ms (and_right (passes l) _ p) (and_right (passes m) _ q) (cc)))
  where
    line : read_line d l ≡ read_line d m
    line = unfold read_line in cc (passed-columns l (and_left (passes l) _ p), passed-columns m (and_left (passes m) _ q))

filled-empty : (ls : List Line) → is_empty (map filled ls) ≡ is_empty ls
unfolding is_empty
filled-empty [] = refl
filled-empty (l ∷ ls) = refl

empty-lines : (sheet : List ℕ) → is_empty (map filled (lines sheet)) ≡ is_empty sheet
unfolding is_empty lines
empty-lines [] = refl
empty-lines (b ∷ bs) = filled-empty (lines (b ∷ bs)) ∙ some-line (b ∷ bs) refl

-- ── how long a sheet is ──

-- the bytes of some lines, each with LF
total : List Line → ℕ
total [] = 0
total (l ∷ ls) = suc (length l.bytes) + total ls

lines-total : (bs : List ℕ) → length bs ≤ total (lines bs)
unfolding lines total
lines-total [] = omega arith
lines-total (b ∷ bs) =
    let h = lines-total bs in
    by-test (eqb b 10) (λ t. rw (t, lines) (omega arith)) (λ t. rw (t, lines) (put (lines bs) h))
  where
    put : (ls : List Line) → length bs ≤ total ls → suc (length bs) ≤ total (put_byte b ls)
    put [] h = unfold put_byte in omega arith
    put (l ∷ ls) h = unfold put_byte in omega arith

passed-total : (ls : List Line) → all passes ls ≡ true → total ls ≤ 137 * length ls
unfolding total all
passed-total [] p = omega arith
passed-total (l ∷ ls) p = omega (arith, (passed_length l (and_left (passes l) _ p)).0, passed-total ls (and_right (passes l) _ p))

passed-bytes : (sheet : List ℕ) → all passes (lines sheet) ≡ true → length sheet ≤ 137 * length (lines sheet)
passed-bytes sheet p = omega (arith, lines-total sheet, passed-total (lines sheet) p)

-- ── sheets that are filled alike ──

module _ (first second : List ℕ) (alike : FilledAlike first second) where
  -- they are read alike: the same refusal at the same line, or the same problem
  pub same-reading : length first ≤ sheet_bytes → length second ≤ sheet_bytes → read first ≡ read second
  unfolding read
  same-reading h k =
      let empty : is_empty first ≡ is_empty second = sym (empty-lines first) ∙ ap is_empty alike.same ∙ empty-lines second in
      let rest = alike-lines empty_draft 1 (lines first) (lines second) alike.first_passes alike.second_passes alike.same in
      let short = le-leb (length first) sheet_bytes h in
      let fits = le-leb (length second) sheet_bytes k in
      by-test (is_empty first) (λ t. cc) (λ t. cc)

  -- an accepted one needs no room for blanks: it has at most 113 lines, of at most 137 bytes with LF
  pub same-accepted : (p : Problem) → read first ≡ accepted p → read second ≡ accepted p
  same-accepted p reads =
      let limits = accepted-limits first p reads in
      let few = line-count first p reads in
      let count : length (lines first) ≡ length (lines second) =
      sym (length-map (lines first) filled) ∙ ap length alike.same ∙ length-map (lines second) filled in
      let fits : length second ≤ sheet_bytes = omega (arith, passed-bytes second alike.second_passes, limits.symbols, lines-counted p.rule_lines, (accepted-from-lines first p reads).few, limits.clauses) in
      sym (same-reading (accepted-read first p reads).0 fits) ∙ reads

  -- and so every call comes to the same, whatever is lent
  pub same-results : length first ≤ sheet_bytes → length second ≤ sheet_bytes → (ls : List Lending) (budget : ℕ)
      → after_lending ls first budget ≡ after_lending ls second budget
  unfolding after_lending
  same-results h k ls budget = let Alike-read = same-reading h k in by-option (first_short ls) (λ t. cc) (λ q t. cc)

  -- what one says the other one keeps
  same_rows : (k : ℕ) → of_kind k first ≡ of_kind k second
  unfolding of_kind
  same_rows k = ap (λ rows. filter (is_kind k) rows) (sym (rows first) ∙ ap (map as_row) alike.same ∙ rows second)
    where
      as_row : Asked Row → Row
      as_row asked = elim asked [ no q ↦ [] | yes ns ↦ ns ]

      rows : (sheet : List ℕ) → map as_row (map filled (lines sheet)) ≡ map row_of (lines sheet)
      rows sheet = unfold row_of in map-map as_row filled (lines sheet)

  pub same-keeps : Keeps first second
  unfolding constants_of
  same-keeps =
      record {
        constants = rw (same_rows 1) (le_refl _);
        symbols = ([], rw (same_rows 2) (sym (append-nil _)));
        rules = λ r m. rw (same_rows 3) at m;
        two_ways = λ r m. rw (same_rows 8) at m;
        clauses = λ r m. rw (same_rows 4) at m;
      }
