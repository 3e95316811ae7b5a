-- What is read of a sheet decides what is printed: the front that the buffer holds is all of it, or says already that it is too long.
-- Assumes nothing.
use Rattle.std.proofs.Common.{ℕ, ◌≤◌, ◌<◌, ◌≡◌, List, [], ◌++◌, Option, None, Some, refl, sym, ap, ◌∙◌, subst, arith, leb, leb-true, leb-false, length, length-append, append-nil}
use borrow.Author.Tests.{lt-leb}
use Rattle.std.specs.Io.KnownBytes.{Appends, Consumes, IsAtEnd}
use Rattle.definitions.specs.Bounds.{sheet_bytes}
use Rattle.definitions.specs.Questions.{refused, read}
use Rattle.definitions.specs.Call.{printed_of, listing_of, answered, printed}
use Rattle.definitions.specs.Export.{printed_cnf, export_of}
use Rattle.theory.specs.Tests.{by-test}
use Rattle.thunyaworm.specs.Outputs.{Outputs}

-- ── the sheet ──

-- a sheet of more bytes than one may have
too_long : (sheet : List ℕ) → sheet_bytes < length sheet → read sheet ≡ refused 2 0
unfolding read
too_long sheet h = rw (lt-leb (length sheet) sheet_bytes h, read) refl

-- the front of an input is read as the whole of it, if it is the whole or too long
pub read-front : (front rest : List ℕ) → (length front ≤ sheet_bytes → rest ≡ []) → read front ≡ read (front ++ rest)
read-front front rest whole =
    by-test (leb (length front) sheet_bytes)
    (λ e. ap read (sym (append-nil front) ∙ ap (λ l. front ++ l) (sym (whole (leb-true (length front) sheet_bytes e)))))
    (λ e. let long = leb-false (length front) sheet_bytes e in
    too_long front long ∙ sym (too_long (front ++ rest) (omega (arith, length-append front rest, long))))

-- ── what is printed ──

pub printed-front : (budget : ℕ) (front rest : List ℕ) → (length front ≤ sheet_bytes → rest ≡ []) → printed front budget ≡ printed (front ++ rest) budget
unfolding printed
printed-front budget front rest whole = ap (λ r. printed_of listing_of (answered r budget)) (read-front front rest whole)

pub printed_cnf-front : (budget : ℕ) (front rest : List ℕ) → (length front ≤ sheet_bytes → rest ≡ []) → printed_cnf front budget ≡ printed_cnf (front ++ rest) budget
unfolding printed_cnf
printed_cnf-front budget front rest whole = ap (λ r. printed_of (export_of r) (answered r budget)) (read-front front rest whole)

module _ (made : List ℕ → List ℕ) (by-front : (front rest : List ℕ) → (length front ≤ sheet_bytes → rest ≡ []) → made front ≡ made (front ++ rest)) where
  -- what is made of the front is made of all the input
  pub outputs-all : (input left : Option (List ℕ)) (front : List ℕ) → Consumes input left front → (length front ≤ sheet_bytes → IsAtEnd left)
      → (before after : Option (List ℕ)) → Appends before after (made front) → Outputs made input before after
  outputs-all None left front consumed whole before after h = tt
  outputs-all (Some sheet) None front consumed whole before after h = absurd consumed
  outputs-all (Some sheet) (Some rest) front consumed whole before after h =
      subst (Appends _ _) (by-front front rest whole ∙ ap made (sym consumed)) h
