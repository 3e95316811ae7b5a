-- What a byte makes of a scan: each case of the code by the definitions' own equations. Assumes nothing.
use Prim.Native.Nat.{ℕ, suc, ◌+◌, ◌-◌, ◌*◌, ◌<◌, ◌≤◌}
use mathlib.Core.Path.{◌≡◌, refl, ◌∙◌}
use mathlib.Core.Bool.{Bool, false}
use mathlib.Core.List.{List, [], ◌∷◌}
use native.Mathlib.Omega.{arith}
use lib.ListN.{length, get_or, drop}
use lib.Seq.{drop-cons}
use borrow.Author.Tests.{ne_eqb, le-leb, lt-leb}
use Rattle.std.specs.Prelude.{Option, Result, Ok, Err, IsErr, ◌^◌}
use Rattle.std.proofs.Common.{pow-suc, add-one}
use Rattle.std.proofs.lemmas.Bool.{false≢true}
use Rattle.std.proofs.Math.ListN.{drop_of_length-le}
use Rattle.std.proofs.Math.Nat.{pow-le-pow_right}
use Rattle.definitions.specs.Lists.{is_empty}
use Rattle.definitions.specs.Sheet.{fault, is_digit, digits, natural, signed, decimal}
use Rattle.definitions.specs.declared.Question.{Question}
use Rattle.definitions.specs.declared.Question.TheVariants.{Columns}
use Rattle.column.specs.Column.{column_of, size_of}
use Rattle.column.specs.Scan.{read_on, size_before, scanned_on, scanned_size, ReadAs}
use Rattle.column.specs.declared.Number.{Number}
use Rattle.column.specs.declared.Scan.{Scan}
use Rattle.column.specs.declared.Scan.TheVariants.{Blanks, Minus, Zero, Digits}

module _ (negative : Bool) (size b : ℕ) where
  pub below-digits : b < 48 → ReadAs (λ rest. digits negative size (b ∷ rest)) size (Err Columns)
  unfolding read_on size_before scanned_on scanned_size digits is_digit
  below-digits h = record { same = λ rest. cc (lt-leb 48 b h); small = omega arith; question = refl }

  pub above-digits : 57 < b → ReadAs (λ rest. digits negative size (b ∷ rest)) size (Err Columns)
  unfolding read_on size_before scanned_on scanned_size digits is_digit
  above-digits h = let low : 48 ≤ b = omega arith in record { same = λ rest. cc (le-leb 48 b low, lt-leb b 57 h); small = omega arith; question = refl }

  pub among-digits : 48 ≤ b → b ≤ 57 → ReadAs (λ rest. digits negative size (b ∷ rest)) size (Ok (Digits (record { negative = negative; size = size * 10 + (b - 48) })))
  unfolding read_on size_before scanned_on scanned_size digits is_digit
  among-digits low high = record { same = λ rest. cc (le-leb 48 b low, le-leb b 57 high); small = omega arith; question = tt }

module _ (negative : Bool) (b : ℕ) where
  -- no leading zero
  pub below-first : b < 49 → ReadAs (λ rest. natural negative (b ∷ rest)) 0 (Err Columns)
  unfolding read_on size_before scanned_on scanned_size natural
  below-first h = record { same = λ rest. cc (lt-leb 49 b h); small = omega arith; question = refl }

  pub first-digits : {scan : Result Scan Question} → 49 ≤ b → ReadAs (λ rest. digits negative 0 (b ∷ rest)) 0 scan → ReadAs (λ rest. natural negative (b ∷ rest)) 0 scan
  unfolding natural
  first-digits low digit = record { same = λ rest. cc (le-leb 49 b low, digit.same rest); small = digit.small; question = digit.question }

module _ (b : ℕ) where
  pub blank : b ≡ 32 → ReadAs (λ rest. decimal (b ∷ rest)) 0 (Ok Blanks)
  unfolding read_on size_before scanned_on scanned_size decimal
  blank e = record { same = λ rest. rw e; small = omega arith; question = tt }

  pub minus-sign : b ≡ 45 → ReadAs (λ rest. decimal (b ∷ rest)) 0 (Ok Minus)
  unfolding read_on size_before scanned_on scanned_size decimal signed
  minus-sign e = record { same = λ rest. rw e; small = omega arith; question = tt }

  pub zero-digit : b ≡ 48 → ReadAs (λ rest. decimal (b ∷ rest)) 0 (Ok Zero)
  unfolding read_on size_before scanned_on scanned_size decimal signed natural is_empty
  zero-digit e = record { same = λ rest. rw e (zero-alone rest); small = omega arith; question = tt }
    where
      zero-alone : (rest : List ℕ) → read_on Zero rest ≡ decimal (48 ∷ rest)
      zero-alone [] = refl
      zero-alone (x ∷ rest) = refl

  pub first-natural : {scan : Result Scan Question} → (b ≡ 32 → ⊥) → (b ≡ 45 → ⊥) → (b ≡ 48 → ⊥) → ReadAs (λ rest. natural false (b ∷ rest)) 0 scan → ReadAs (λ rest. decimal (b ∷ rest)) 0 scan
  unfolding decimal signed
  first-natural n32 n45 n48 first = record { same = λ rest. cc (ne_eqb b 32 n32, ne_eqb b 45 n45, ne_eqb b 48 n48, first.same rest); small = first.small; question = first.question }

  -- nothing may follow a 0
  pub after-zero : ReadAs (λ rest. read_on Zero (b ∷ rest)) (size_before Zero) (Err Columns)
  unfolding read_on size_before scanned_on scanned_size is_empty
  after-zero = record { same = λ rest. refl; small = omega arith; question = refl }

-- ── byte by byte ──

-- up to a place: what stands there and behind it is read as the whole is, and the number has no more digits than there are bytes before it
pub record ScannedTo (bytes : List ℕ) (at : ℕ) (scan : Scan) : Type 0 where
  pub same : read_on scan (drop at bytes) ≡ decimal bytes
  pub small : size_before scan < 10 ^ at

pub scan-start : (bytes : List ℕ) → ScannedTo bytes 0 Blanks
unfolding read_on size_before
scan-start bytes = record { same = refl; small = omega arith }

module _ {bytes : List ℕ} {at : ℕ} {scan : Scan} (reached : ScannedTo bytes at scan) where
  pub scan-end : length bytes ≤ at → read_on scan [] ≡ decimal bytes
  scan-end h = let e : drop at bytes ≡ [] = drop_of_length-le bytes h in rw e at reached.same

  -- before the fourth byte there is room for a digit more
  pub scan-few : at ≤ 3 → size_before scan ≤ 999
  scan-few h = omega (arith, reached.small, pow-le-pow_right {n = 10} (omega arith) h)

  pub scan-small : at ≤ 4 → size_before scan ≤ 9999
  scan-small h = omega (arith, reached.small, pow-le-pow_right {n = 10} (omega arith) h)

  module _ {next : Result Scan Question} (h : at < length bytes) (read : ReadAs (λ rest. read_on scan (get_or bytes at 0 ∷ rest)) (size_before scan) next) where
    on : scanned_on next (drop (suc at) bytes) ≡ decimal bytes
    on = read.same _ ∙ rw (drop-cons bytes at 0 h) at reached.same

    pub scan-next : {after : Scan} → next ≡ Ok after → ScannedTo bytes (at + 1) after
    unfolding scanned_on scanned_size
    scan-next e = rw add-one (record { same = rw e at on; small = rw pow-suc (omega (arith, rw e at read.small, reached.small)) })

    pub scan-failed : {q : Question} → next ≡ Err q → fault ≡ decimal bytes
    unfolding scanned_on
    scan-failed e = rw e at on

-- what is handed on where a scan fails
failed-column : (r : Result (Option Number) Question) → IsErr r → (column_of r ≡ fault) × (size_of r ≡ 0)
unfolding column_of size_of
failed-column (Ok n) h = absurd (false≢true h)
failed-column (Err q) h = (refl, refl)

pub failed-reads : (r : Result (Option Number) Question) → IsErr r → (bytes : List ℕ) → fault ≡ decimal bytes → column_of r ≡ decimal bytes
failed-reads r failed bytes e = (failed-column r failed).0 ∙ e

pub failed-small : (r : Result (Option Number) Question) → IsErr r → size_of r ≤ 9999
failed-small r failed = omega (arith, (failed-column r failed).1)
