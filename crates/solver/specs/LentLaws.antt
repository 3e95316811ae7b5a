-- The questions about what is lent, and then the sheet's: a refusal writes nothing, and where enough is lent the call's result is the
-- sheet's. What is written lies in its room. Assumes nothing.
use Rattle.std.specs.Prelude.{ℕ, ◌≤◌, ◌≡◌, refl, leb, List, [], length, take, drop, Result as Returned, Err}
use Rattle.std.proofs.Common.{ap, sym, ◌∙◌, arith, length-append, leb-true, leb-false}
use Rattle.std.proofs.Math.Option.{none, some}
use Rattle.std.proofs.Math.Seq.{take-append_seam}
use Rattle.definitions.specs.Bounds.{room_bytes, export_bytes}
use Rattle.definitions.specs.Questions.{read}
use Rattle.definitions.specs.Call.{Result, refusal, answered, Lending, lendings, first_short, after_lending, result, listing_of, written}
use Rattle.definitions.specs.Export.{export_lendings, export_result, export_of}
use Rattle.definitions.specs.Numbered.{question_number}
use Rattle.definitions.specs.Asked.{asked_of_call}
use Rattle.definitions.specs.declared.Question.{Question}
use Rattle.definitions.specs.declared.Refusal.{Refusal}
use Rattle.theory.specs.Tests.{by-test, apart}
use Rattle.theory.specs.CallLaws.{short-room, enough-room, large-room}
use Rattle.theory.specs.ExportLaws.{refused-text, short-listing, short-export, enough-lent}
use Rattle.answering.specs.Solving.{SolvedAs}
use Rattle.answering.specs.SolvingLaws.{refusal-written}
use Rattle.answering.specs.declared.Solved.{Solved}

-- a question about what is lent is answered no: it ends the call, and what is made of no refusal is not written
short-lent : (made : Result → List ℕ) (nothing : (q n : ℕ) → made (refusal q n) ≡ []) (sheet : List ℕ) (budget : ℕ) (room : List ℕ) (ls : List Lending) (q : Question)
    → some (question_number q) ≡ first_short ls → SolvedAs (after_lending ls sheet budget) (made (after_lending ls sheet budget)) room (Err (asked_of_call q)) room
unfolding after_lending
short-lent made nothing sheet budget room ls q short =
    rw (after_lending, ← short) (refusal-written (question_number q) 0 (made (refusal (question_number q) 0)) room (nothing (question_number q) 0))

-- ── one room ──

-- where no question about it is answered no, the room is large enough
pub lent-room : (room : ℕ) → none ≡ first_short (lendings room) → room_bytes ≤ room
lent-room room short =
    by-test (leb room_bytes room) (λ e. leb-true room_bytes room e) (λ e. apart (let h = short ∙ short-room room (leb-false room_bytes room e) in cc))

-- a refusal has no listing
pub unlisted : (q n : ℕ) → listing_of (refusal q n) ≡ []
unfolding listing_of
unlisted q n = refl

module _ (sheet : List ℕ) (budget : ℕ) (room : List ℕ) where
  -- a question about what is lent is answered no, or none is
  pub short-solved : (q : Question) → some (question_number q) ≡ first_short (lendings (length room))
      → SolvedAs (result sheet budget room) (listing_of (result sheet budget room)) room (Err (asked_of_call q)) room
  unfolding result
  short-solved = short-lent listing_of unlisted sheet budget room (lendings (length room))

  pub enough-solved : none ≡ first_short (lendings (length room)) → (r : Returned Solved Refusal) (after : List ℕ)
      → SolvedAs (answered (read sheet) budget) (listing_of (answered (read sheet) budget)) room r after
      → SolvedAs (result sheet budget room) (listing_of (result sheet budget room)) room r after
  enough-solved short r after h = rw (large-room sheet budget room (lent-room (length room) short)) h

-- what is written at the front of a room lies in it
pub written-fits : (bytes room : List ℕ) {n : ℕ} {after : List ℕ} → n ≡ length bytes → after ≡ written bytes room → n ≤ length after
unfolding written
written-fits bytes room size stored = omega (arith, size, ap length stored, length-append bytes (drop (length bytes) room))

-- and is the front of it that is as long
pub written-front : (bytes room : List ℕ) {n : ℕ} {after : List ℕ} → n ≡ length bytes → after ≡ written bytes room → take n after ≡ bytes
unfolding written
written-front bytes room size stored = rw (size, stored) (take-append_seam bytes (drop (length bytes) room))

-- ── two rooms ──

-- question 1 is the first, as of the other calls
pub asked-first : (room export q : ℕ) → some q ≡ first_short (lendings room) → some q ≡ first_short (export_lendings room export)
asked-first room export q short =
    by-test (leb room_bytes room)
    (λ e. apart (let h = short ∙ enough-room room (leb-true room_bytes room e) in cc))
    (λ e. let small = leb-false room_bytes room e in short ∙ short-room room small ∙ sym (short-listing room export small))

-- where no question about them is answered no, both rooms are large enough
pub lent-rooms : (room export : ℕ) → none ≡ first_short (export_lendings room export) → (room_bytes ≤ room) × (export_bytes ≤ export)
lent-rooms room export short =
    by-test (leb room_bytes room)
    (λ e. by-test (leb export_bytes export)
    (λ d. (leb-true room_bytes room e, leb-true export_bytes export d))
    (λ d. apart (let h = short ∙ short-export room export (leb-true room_bytes room e) (leb-false export_bytes export d) in cc)))
    (λ e. apart (let h = short ∙ short-listing room export (leb-false room_bytes room e) in cc))

module _ (sheet : List ℕ) (budget : ℕ) (room export : List ℕ) where
  abbrev came : Result
  came = export_result sheet budget room export

  -- a question about what is lent is answered no, or none is
  pub short-exported : (q : Question) → some (question_number q) ≡ first_short (export_lendings (length room) (length export))
      → SolvedAs came (export_of (read sheet) came) export (Err (asked_of_call q)) export
      × SolvedAs came (listing_of came) room (Err (asked_of_call q)) room
  unfolding export_result
  short-exported q short =
      let ls = export_lendings (length room) (length export) in
      (short-lent (export_of (read sheet)) (refused-text (read sheet)) sheet budget export ls q short, short-lent listing_of unlisted sheet budget room ls q short)

  pub enough-exported : none ≡ first_short (export_lendings (length room) (length export)) → (text listed : Returned Solved Refusal) (room_last export_last : List ℕ)
      → SolvedAs (answered (read sheet) budget) (export_of (read sheet) (answered (read sheet) budget)) export text export_last
      → SolvedAs (answered (read sheet) budget) (listing_of (answered (read sheet) budget)) room listed room_last
      → SolvedAs came (export_of (read sheet) came) export text export_last × SolvedAs came (listing_of came) room listed room_last
  enough-exported short text listed room_last export_last h k =
      let (large, large_export) = lent-rooms (length room) (length export) short in
      rw (enough-lent sheet budget room export large large_export) (h, k)
