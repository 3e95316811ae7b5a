-- The number that a word says, by its first byte, and by what the standard library reads of it. Assumes nothing.
use Rattle.std.proofs.Common.{ℕ, ◌+◌, ◌-◌, ◌*◌, ◌^◌, ◌<◌, ◌≤◌, ◌≡◌, ◌≢◌, Bool, true, false, eqb, leb, ◌&&◌, List, [], ◌∷◌, Some, None, Result, Ok, Err, length, get_or, refl, ◌∙◌, sym, ap, arith, rules}
use Rattle.std.proofs.Math.Bool.{and-false}
use Rattle.std.proofs.lemmas.Bool.{le-leb, lt-leb}
use Rattle.std.proofs.lemmas.Bool.Decides.{nat_tests}
use Rattle.std.proofs.lemmas.Str.{IsUtf8-from_ascii}
use Rattle.std.proofs.lemmas.Str.Ascii.{IsAscii-nil, IsAscii-cons}
use Rattle.std.proofs.lemmas.Str.Parse.{IsNumeralModel, numerals_by_fold, tells_all_ascii_digits, parse_plain}
use Rattle.std.specs.Char.{is_ascii_digit}
use Rattle.std.specs.Str.{IsAscii, IsUtf8, all_ascii_digits}
use Rattle.std.specs.Str.Parse.{ParsesUnsigned}
use Rattle.std.specs.Result.{OkIff, result_ok}
use Rattle.definitions.specs.Words.{same_args}
use Rattle.definitions.specs.Text.{bytes}
use Rattle.definitions.specs.Sheet.{number, fault, is_digit, digits, natural}
use Rattle.definitions.specs.Command.{largest_budget, in_range, numeral}
use Rattle.theory.specs.Tests.{by-test}

-- ── what is taken for none ──

pub signed_none : (w : List ℕ) → get_or w 0 0 ≡ 43 → None ≡ numeral w
unfolding numeral same_args bytes in_range natural
signed_none [] sign = refl
signed_none (b ∷ bs) sign = grind (arith, nat_tests)

pub zeros_none : (w : List ℕ) → get_or w 0 0 ≡ 48 → 2 ≤ length w → None ≡ numeral w
unfolding numeral same_args bytes in_range natural
zeros_none [] zero more = absurd (omega arith)
zeros_none (b ∷ []) zero more = absurd (omega arith)
zeros_none (b ∷ c ∷ bs) zero more = grind (arith, nat_tests)

-- ── the digits ──

abbrev reads : ℕ → List ℕ → ℕ
reads n [] = n
reads n (c ∷ cs) = reads (n * 10 + (c - 48)) cs

own : IsNumeralModel (λ ds. all_ascii_digits ds ≡ true) (reads 0)
own = numerals_by_fold _ tells_all_ascii_digits reads (search rules)

digits-read : (n : ℕ) (w : List ℕ) → all_ascii_digits w ≡ true → digits false n w ≡ number (record { negative = false; size = reads n w })
unfolding digits is_digit
digits-read n [] e = refl
digits-read n (b ∷ bs) e = by-test (is_ascii_digit b) (λ h. rw (h, digits) (digits-read (n * 10 + (b - 48)) bs (rw h at e))) (λ h. cc)

digits-fault : (n : ℕ) (w : List ℕ) → (all_ascii_digits w ≡ true → ⊥) → digits false n w ≡ fault
unfolding digits is_digit
digits-fault n [] e = absurd (e refl)
digits-fault n (b ∷ bs) e = by-test (is_ascii_digit b) (λ h. rw (h, digits) (digits-fault (n * 10 + (b - 48)) bs (λ t. e (cc)))) (λ h. rw (h, digits) refl)

-- the bytes of a number are text
digits-text : (w : List ℕ) → all_ascii_digits w ≡ true → IsAscii w
digits-text [] e = IsAscii-nil
digits-text (b ∷ bs) e = by-test (is_ascii_digit b) (λ h. IsAscii-cons b bs (grind (arith, nat_tests)) (digits-text bs (rw h at e))) (λ h. cc)

-- ── what is read ──

-- further bytes are no 0 alone
longer : (b c : ℕ) (bs : List ℕ) → numeral (b ∷ c ∷ bs) ≡ in_range (natural false (b ∷ c ∷ bs))
unfolding numeral same_args bytes
longer b c bs = rw (numeral, same_args, and-false (eqb b 48)) refl

no_byte : None ≡ numeral []
unfolding numeral same_args bytes in_range natural
no_byte = refl

one_other : (b : ℕ) → (all_ascii_digits (b ∷ []) ≡ true → ⊥) → None ≡ numeral (b ∷ [])
unfolding numeral same_args bytes in_range natural digits is_digit
one_other b h = grind (arith, nat_tests)

one_digit : (b : ℕ) → all_ascii_digits (b ∷ []) ≡ true → numeral (b ∷ []) ≡ in_range (digits false 0 (b ∷ []))
unfolding numeral same_args bytes in_range natural digits is_digit
one_digit b e = grind (arith, nat_tests)

other : (w : List ℕ) → (all_ascii_digits w ≡ true → ⊥) → None ≡ numeral w
unfolding in_range natural
other [] h = no_byte
other (b ∷ []) h = one_other b h
other (b ∷ c ∷ bs) h =
    let no_digits : digits false 0 (b ∷ c ∷ bs) ≡ fault = digits-fault 0 (b ∷ c ∷ bs) h in
    by-test (leb 49 b) (λ low. sym (longer b c bs ∙ rw (low, natural, no_digits, in_range) refl)) (λ low. sym (longer b c bs ∙ rw (low, natural, in_range) refl))

pub no_text : (w : List ℕ) → (IsUtf8 w → ⊥) → None ≡ numeral w
no_text w h = other w (λ e. h (IsUtf8-from_ascii w (digits-text w e)))

not_zero : (b : ℕ) (more : Bool) → (is_ascii_digit b && more) ≡ true → b ≢ 48 → leb 49 b ≡ true
not_zero b more e other = grind (arith, nat_tests)

first-digit : (w : List ℕ) → 0 < length w → (get_or w 0 0 ≡ 48 → length w < 2) → all_ascii_digits w ≡ true → numeral w ≡ in_range (digits false 0 w)
unfolding natural
first-digit [] some_byte zero e = absurd (omega arith)
first-digit (b ∷ []) some_byte zero e = one_digit b e
first-digit (b ∷ c ∷ bs) some_byte zero e =
    let low : leb 49 b ≡ true = not_zero b (all_ascii_digits (c ∷ bs)) e (λ is. omega (arith, zero is)) in
    longer b c bs ∙ rw (low, natural) refl

module _ (w : List ℕ) (some_byte : 0 < length w) (zero : get_or w 0 0 ≡ 48 → length w < 2) (e : all_ascii_digits w ≡ true) where
  fits : reads 0 w < 2 ^ 32 → Some (reads 0 w) ≡ numeral w
  unfolding in_range
  fits h = sym (first-digit w some_byte zero e ∙ rw (digits-read 0 w e, in_range, le-leb (reads 0 w) largest_budget (omega arith)) refl)

  too_large : (reads 0 w < 2 ^ 32 → ⊥) → None ≡ numeral w
  unfolding in_range
  too_large h = sym (first-digit w some_byte zero e ∙ rw (digits-read 0 w e, in_range, lt-leb (reads 0 w) largest_budget (omega arith)) refl)

pub parsed : (w : List ℕ) {E : Type 0} (r : Result ℕ E) → get_or w 0 0 ≢ 43 → (get_or w 0 0 ≡ 48 → length w < 2) → ParsesUnsigned 32 10 w r → result_ok r ≡ numeral w
parsed w r plain zero h = from w zero r (parse_plain own 32 w r h plain)
  where
    from : (w : List ℕ) → (get_or w 0 0 ≡ 48 → length w < 2) → {E : Type 0} (r : Result ℕ E)
        → OkIff r ((all_ascii_digits w ≡ true) × (0 < length w) × (reads 0 w < 2 ^ 32)) (reads 0 w) → result_ok r ≡ numeral w
    from w zero (Ok x) ((digits, some_byte, small), same) = ap Some same ∙ fits w some_byte zero digits small
    from [] zero (Err e) isn't = no_byte
    from (b ∷ bs) zero (Err e) isn't =
        by-test (all_ascii_digits (b ∷ bs))
        (λ d. too_large (b ∷ bs) (omega arith) zero d (λ small. isn't (d, omega arith, small)))
        (λ d. other (b ∷ bs) (λ t. cc))

-- what `number` needs
pub ruleset numbers = (signed_none, zeros_none, no_text, parsed)
