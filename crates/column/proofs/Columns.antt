-- The loop that writes digits from the right, and that blanks, sign and digits put so are the bytes of a field, for any width. Assumes nothing.
use Rattle.std.proofs.Common.{◌≡◌, refl, sym, ap, ◌∙◌, ℕ, suc, ◌+◌, ◌-◌, ◌/◌, ◌%◌, ◌<◌, ◌≤◌, Bool, true, false, List, [], ◌∷◌, ◌++◌, length, set, take, drop, replicate, length-append, append-nil, drop_of_length-le, arith}
use Rattle.std.proofs.lemmas.List.Edits.{sets, sets-eq}
use Rattle.std.proofs.Math.Seq.{length-take-le, drop-append_seam}
use Rattle.definitions.specs.Sheet.{Number}
use Rattle.definitions.specs.Listing.{decimals, signed_decimals, right_justified, field_bytes}
use Rattle.column.specs.Sets.{sets-before}
use Rattle.column.specs.Places.{sign, PutLast}
use Rattle.column.specs.Widths.{decimals-last, decimals-more, signed_parts}

module _ (field : List ℕ) where
  -- a place more before those that are left
  put-more : {places left : ℕ} {front after : List ℕ} (b : ℕ) → PutLast (set field places b) places front left after → PutLast field (suc places) (front ++ (b ∷ [])) left after
  put-more {places} {left} {front} b put = record { count = rw length-append (omega arith); stored = put.stored ∙ stored }
    where
      stored : sets (set field places b) left front ≡ sets field left (front ++ (b ∷ []))
      stored = let e : places ≡ left + length front = omega arith in rw e (sets-before field left front (b ∷ []))

  -- the last digit of a number that has no other
  pub digits-hit : (left place n : ℕ) → left ≡ suc place → n < 10 → PutLast field left (decimals left n) place (set field place (48 + n % 10))
  digits-hit left place n e h =
      let m : n % 10 ≡ n = omega arith in
      rw (e, decimals-last place n h) (record { count = omega arith; stored = rw m })

  -- the last digit of a number, with those before it still to be put
  pub digits-turn :
      (left place n next : ℕ) → left ≡ suc place → 10 ≤ n → next ≡ n / 10 → {rest : ℕ} {after : List ℕ}
      → PutLast (set field place (48 + n % 10)) place (decimals place next) rest after
      → PutLast field left (decimals left n) rest after
  digits-turn left place n next e h q put = rw (e, decimals-more place n h, ← q) (put-more (48 + n % 10) put)

  -- no place is left
  pub digits-end : (left n : ℕ) → left ≡ 0 → PutLast field left (decimals left n) 0 field
  unfolding decimals
  digits-end left n e = rw e (record { count = refl; stored = refl })

-- ── digits, sign and blanks ──

module _ (field : List ℕ) (negative : Bool) (size : ℕ) where
  abbrev number : Number
  number = record { negative = negative; size = size }

  module _ (fits : length (signed_decimals (length field) number) ≤ length field)
      {left : ℕ} {digits : List ℕ} (put : PutLast field (length field) (decimals (length field) size) left digits) where
    -- a number that fits leaves a place for its sign
    pub sign_fits : length (sign negative) ≤ left
    sign_fits = omega (arith, put.count, ap length (signed_parts (length field) number), length-append (sign negative) (decimals (length field) size))

    with-sign : {blanks : ℕ} {signed : List ℕ} → blanks + length (sign negative) ≡ left → signed ≡ sets digits blanks (sign negative)
        → PutLast field (length field) (signed_decimals (length field) number) blanks signed
    with-sign {blanks} e s =
        record {
          count = rw (signed_parts (length field) number, length-append) (omega (arith, put.count));
          stored = s ∙ rw (put.stored, ← e, signed_parts (length field) number) (sets-before field blanks (sign negative) (decimals (length field) size));
        }

    -- a minus, or none
    pub sign-put : negative ≡ true → PutLast field (length field) (signed_decimals (length field) number) (left - 1) (set digits (left - 1) 45)
    unfolding sign
    sign-put e = with-sign (rw e (omega (arith, rw e at sign_fits))) (rw e)

    pub no-sign-put : negative ≡ false → PutLast field (length field) (signed_decimals (length field) number) left digits
    unfolding sign
    no-sign-put e = with-sign (rw e (omega arith)) (rw e)

    pub place-for-sign : negative ≡ true → 1 ≤ left
    unfolding sign
    place-for-sign e = rw e at sign_fits

  -- a number with blanks before it is its field
  pub blanks-before : {blanks : ℕ} {signed : List ℕ} → PutLast field (length field) (signed_decimals (length field) number) blanks signed
      → replicate blanks 32 ++ drop blanks signed ≡ field_bytes (record { width = length field; number = number })
  unfolding field_bytes right_justified
  blanks-before {blanks} put =
      let bytes = signed_decimals (length field) number in
      let front : blanks ≡ length (take blanks field) = sym (length-take-le blanks field (omega (arith, put.count))) in
      let none : drop (blanks + length bytes) field ≡ [] = drop_of_length-le field (omega (arith, put.count)) in
      let before : length field - length bytes ≡ blanks = omega (arith, put.count) in
      rw (put.stored, sets-eq bytes field blanks (omega (arith, put.count)), none, append-nil, before)
      (ap (λ l. replicate blanks 32 ++ l) (ap (λ n. drop n (take blanks field ++ bytes)) front ∙ drop-append_seam (take blanks field) bytes))
