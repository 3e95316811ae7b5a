-- What is written in columns is read back by the sheet's reader: a number, a line of numbers, and the lines of a listing. Assumes nothing.
use Rattle.std.specs.Prelude.{ℕ, zero, suc, ◌+◌, ◌-◌, ◌*◌, ◌/◌, ◌%◌, ◌^◌, ◌≤◌, ◌<◌, ◌≡◌, Bool, true, false, List, [], ◌∷◌, ◌++◌, map, ltb, length, replicate}
use Rattle.std.proofs.Math.Path.{refl}
use Rattle.std.proofs.Common.{ap, ◌∙◌, append_assoc, arith, pow-suc, ltb-true, le-leb, ne_eqb}
use Rattle.std.proofs.lemmas.Bool.{false≢true}
use mathlib.Core.List.Memᴰ
use Rattle.definitions.specs.Lists.{is_empty, joined}
use Rattle.definitions.specs.Sheet.{put_byte, lines, Number, plus, number, is_digit, digits, natural, signed, decimal}
use Rattle.definitions.specs.Questions.{yes, ◌>>=◌, in_front, columns}
use Rattle.definitions.specs.Listing.{Field, decimals, signed_decimals, right_justified, field_bytes, line_bytes, narrow}
use Rattle.definitions.specs.Sheets.{Row, filled, row_of, is_kind}
use Rattle.theory.specs.Tests.{by-test, apart}
use Rattle.theory.specs.ListLaws.{joined_in, Each, each_nil, each-cons, each_append}
use Rattle.theory.specs.AskedLaws.{by-asked}
use Rattle.theory.specs.CnfText.{digit-is, begins}
use Rattle.theory.specs.ListingLaws.{digit_room, FieldFits, field-fits-length, plus-fits, Fit}

-- ── a column ──

-- digits that are read, and then others
digits_append : (negative : Bool) (m n : ℕ) (bs cs : List ℕ) → digits negative m bs ≡ number (record { negative = negative; size = n })
    → digits negative m (bs ++ cs) ≡ digits negative n cs
unfolding digits
digits_append negative m n [] cs e =
    let its : ◌≡◌ {A = Number} (record { negative = negative; size = m }) (record { negative = negative; size = n }) = cc in
    ap (λ (k : ℕ). digits negative k cs) (ap (λ (k : Number). k.size) its)
digits_append negative m n (b ∷ bs) cs e =
    by-test (is_digit b) (λ t. cc (digits_append negative (m * 10 + (b - 48)) n bs cs (cc))) (λ t. apart (cc))

one-digit : (negative : Bool) (m d : ℕ) → d < 10 → digits negative m ((48 + d) ∷ []) ≡ number (record { negative = negative; size = m * 10 + d })
unfolding digits
one-digit negative m d h =
    let digit = digit-is d h in
    let value : 48 + d - 48 ≡ d = omega arith in
    cc

digits-read : (negative : Bool) (w n : ℕ) → n < 10 ^ w → digits negative 0 (decimals w n) ≡ number (record { negative = negative; size = n })
unfolding digits decimals
digits-read negative zero n h = let none : 0 ≡ n = omega arith in ap (λ (k : ℕ). number (record { negative = negative; size = k })) none
digits-read negative (suc w) n h =
    by-test (ltb n 10)
    (λ e. let value : 0 * 10 + n ≡ n = omega arith in cc (one-digit negative 0 n (ltb-true n 10 e)))
    (λ e.
    let value : n / 10 * 10 + n % 10 ≡ n = omega arith in
    let front = digits-read negative w (n / 10) (omega (arith, pow-suc 10 w)) in
    cc (digits_append negative 0 (n / 10) (decimals w (n / 10)) ((48 + n % 10) ∷ []) front, one-digit negative (n / 10) (n % 10) (omega arith)))

signed-read : (w : ℕ) (negative : Bool) (n : ℕ) → (negative ≡ true → 1 ≤ n) → n < 10 ^ suc w
    → decimal (signed_decimals (suc w) (record { negative = negative; size = n })) ≡ number (record { negative = negative; size = n })
unfolding decimal signed natural signed_decimals
signed-read w true n proper h =
    let (b, bs, is, low) = begins w n (proper refl) h in
    let nonzero = le-leb 49 b (omega arith) in
    cc (digits-read true (suc w) n h)
signed-read w false zero proper h = unfold decimals plus is_empty in refl
signed-read w false (suc n) proper h =
    let (b, bs, is, low) = begins w (suc n) (omega arith) h in
    let nonzero = le-leb 49 b (omega arith) in
    cc (digits-read false (suc w) (suc n) h, ne_eqb b 32 (λ e. omega arith), ne_eqb b 45 (λ e. omega arith), ne_eqb b 48 (λ e. omega arith))

blanks-passed : (k : ℕ) (bs : List ℕ) → decimal (replicate k 32 ++ bs) ≡ decimal bs
unfolding decimal
blanks-passed zero bs = refl
blanks-passed (suc k) bs = blanks-passed k bs

-- a number that is not -0
abbrev pub NotMinusZero : Number → Type 0
NotMinusZero n = n.negative ≡ true → 1 ≤ n.size

-- one without a minus is not
pub plus-not-minus-zero : (n : ℕ) → NotMinusZero (plus n)
unfolding plus
plus-not-minus-zero n e = absurd (false≢true e)

column-read : (n : Number) → FieldFits (narrow n) → NotMinusZero n → decimal (field_bytes (narrow n)) ≡ number n
unfolding field_bytes right_justified narrow digit_room
column-read n fits proper =
    blanks-passed (4 - length (signed_decimals 4 n)) (signed_decimals 4 n) ∙ signed-read 3 n.negative n.size proper (
    by-test n.negative
    (λ e. let room : digit_room (narrow n) ≡ 3 = cc in omega (arith, rw room at fits.size))
    (λ e. let room : digit_room (narrow n) ≡ 4 = cc in omega (arith, rw room at fits.size)))

-- ── a line ──

first-four : (bs rest : List ℕ) → length bs ≡ 4 → columns (bs ++ rest) ≡ in_front (decimal bs) (columns rest)
unfolding columns
first-four [] rest h = apart (omega arith)
first-four (a ∷ []) rest h = apart (omega arith)
first-four (a ∷ b ∷ []) rest h = apart (omega arith)
first-four (a ∷ b ∷ c ∷ []) rest h = apart (omega arith)
first-four (a ∷ b ∷ c ∷ d ∷ []) rest h = refl
first-four (a ∷ b ∷ c ∷ d ∷ e ∷ bs) rest h = apart (omega arith)

first-column : (n : Number) (fs : List Field) → FieldFits (narrow n) → NotMinusZero n
    → columns (joined field_bytes (narrow n ∷ fs)) ≡ in_front (number n) (columns (joined field_bytes fs))
unfolding joined narrow
first-column n fs fits proper =
    cc (first-four (field_bytes (narrow n)) (joined field_bytes fs) (field-fits-length (narrow n) fits), column-read n fits proper)

line-columns : (ns : List Number) → Fit (map narrow ns) → Each NotMinusZero ns → columns (joined field_bytes (map narrow ns)) ≡ yes ns
unfolding joined columns in_front ◌>>=◌
line-columns [] fits proper = refl
line-columns (n ∷ ns) fits proper =
    let rest = line-columns ns (λ f m. fits f (Memᴰ.tail m)) (λ k m. proper k (Memᴰ.tail m)) in
    cc (first-column n (map narrow ns) (fits (narrow n) (Memᴰ.head refl)) (proper n (Memᴰ.head refl)), rest)

-- ── lines ──

-- every byte is above LF
abbrev Unbroken : List ℕ → Type 0
Unbroken bs = Each (λ b. 10 < b) bs

unbroken-line : (bs rest : List ℕ) → Unbroken bs → lines (bs ++ (10 ∷ rest)) ≡ record { bytes = bs; ended = true } ∷ lines rest
unfolding lines put_byte
unbroken-line [] rest h = refl
unbroken-line (b ∷ bs) rest h =
    let later = unbroken-line bs rest (λ x m. h x (Memᴰ.tail m)) in
    cc (ne_eqb b 10 (λ e. omega (arith, h b (Memᴰ.head refl))))

decimals-unbroken : (w n : ℕ) → Unbroken (decimals w n)
unfolding decimals
decimals-unbroken zero n = each_nil _
decimals-unbroken (suc w) n =
    by-test (ltb n 10)
    (λ e. rw (e, decimals) (each-cons _ (omega arith) (each_nil _)))
    (λ e. rw (e, decimals) (each_append _ (decimals w (n / 10)) (decimals-unbroken w (n / 10)) (each-cons _ (omega arith) (each_nil _))))

blanks-unbroken : (k : ℕ) → Unbroken (replicate k 32)
blanks-unbroken zero = each_nil _
blanks-unbroken (suc k) = each-cons _ (omega arith) (blanks-unbroken k)

field-unbroken : (f : Field) → Unbroken (field_bytes f)
unfolding field_bytes right_justified signed_decimals
field-unbroken f =
    let blanks = f.width - length (signed_decimals f.width f.number) in
    let digits = decimals-unbroken f.width f.number.size in
    each_append _ (replicate blanks 32) (blanks-unbroken blanks) (
    by-test f.number.negative (λ e. rw (e, signed_decimals) (each-cons _ (omega arith) digits)) (λ e. rw (e, signed_decimals) digits))

-- ── rows ──

-- the filled columns of a line, as they are read
unfoldable pub listed_row : List Field → Row
listed_row fs = row_of (record { bytes = joined field_bytes fs; ended = true })

-- each line that is written is one that is read
pub rows-listed : (ls : List (List Field)) → map row_of (lines (joined line_bytes ls)) ≡ map listed_row ls
unfolding joined line_bytes lines listed_row
rows-listed [] = refl
rows-listed (fs ∷ ls) =
    let rest = joined line_bytes ls in
    let unbroken : Unbroken (joined field_bytes fs) = λ b m. let (f, k, j) = joined_in field_bytes fs b m in field-unbroken f b j in
    cc (append_assoc (joined field_bytes fs) (10 ∷ []) rest, unbroken-line (joined field_bytes fs) rest unbroken, rows-listed ls)

-- a line of numbers that fit is read as they are
pub row_read : (ns : List Number) → Fit (map narrow ns) → Each NotMinusZero ns → listed_row (map narrow ns) ≡ ns
unfolding listed_row row_of filled
row_read ns fits proper = cc (line-columns ns fits proper)

-- a line is of no kind but the one in its first column, whatever stands behind
pub other-kind : (j k : ℕ) (fs : List Field) → k < 10000 → (k ≡ j → ⊥) → is_kind j (listed_row (narrow (plus k) ∷ fs)) ≡ false
unfolding listed_row row_of filled is_kind in_front ◌>>=◌ plus
other-kind j k fs h other =
    let first = first-column (plus k) fs (plus-fits k h) (plus-not-minus-zero k) in
    let differs = ne_eqb k j other in
    by-asked (columns (joined field_bytes fs)) (λ q e. cc) (λ ns e. cc)
