-- What an export call comes to, by its two rooms and its sheet, and that it answers and lists as the first call does. Assumes nothing.
use Rattle.std.specs.Prelude.{ℕ, ◌≤◌, ◌<◌, ◌≡◌, refl, leb}
use Rattle.std.proofs.Math.Path.{sym, ap}
use Rattle.std.proofs.Common.{◌∙◌}
use Rattle.std.proofs.Math.Option.{none, some}
use mathlib.Core.List.{List, []}
use Rattle.std.proofs.Math.ListN.{length}
use borrow.Author.Tests.{le-leb, lt-leb, leb-true, leb-false}
use Rattle.definitions.specs.Bounds.{room_bytes, export_bytes}
use Rattle.definitions.specs.Words.{Problem}
use Rattle.definitions.specs.Questions.{Reading, refused, accepted, read}
use Rattle.definitions.specs.Search.{State, done, search}
use Rattle.definitions.specs.Dimacs.{cnf_of, cnf_text}
use Rattle.definitions.specs.Call.{Result, refusal, ended, searched, answered, lendings, first_short, after_lending, result, answer_of, listing_of, written, call, room_after, values, Prints}
use Rattle.definitions.specs.Export.{export_lendings, export_result, export_of, export_call, export_text, room_after_export, export_after, printed_cnf, ExportRefused, Exports, ExportComes, room_too_small, export_too_small, improper_sheet, proper_sheet}
use Rattle.definitions.specs.declared.Verdict.{Verdict}
use Rattle.theory.specs.Tests.{by-test}
use Rattle.theory.specs.Theorems.{search-comes-to-an-answer}
use Rattle.theory.specs.CallLaws.{large-room, prints}

-- the questions about what is lent
pub short-listing : (room export : ℕ) → room < room_bytes → first_short (export_lendings room export) ≡ some 1
unfolding export_lendings lendings first_short
short-listing room export h = rw (lt-leb room_bytes room h, first_short)

pub short-export : (room export : ℕ) → room_bytes ≤ room → export < export_bytes → first_short (export_lendings room export) ≡ some 15
unfolding export_lendings lendings first_short
short-export room export h g = rw (le-leb room_bytes room h, lt-leb export_bytes export g, first_short)

pub enough-rooms : (room export : ℕ) → room_bytes ≤ room → export_bytes ≤ export → first_short (export_lendings room export) ≡ none
unfolding export_lendings lendings first_short
enough-rooms room export h g = rw (le-leb room_bytes room h, le-leb export_bytes export g, first_short)

-- a refusal has no text, and an answer that of its search
pub refused-text : (r : Reading) (q n : ℕ) → export_of r (refusal q n) ≡ []
unfolding export_of
refused-text (refused p m) q n = refl
refused-text (accepted p) q n = refl

module _ (sheet : List ℕ) (budget : ℕ) (room export : List ℕ) where
  -- question 1
  pub small-listing-room : length room < room_bytes → export_result sheet budget room export ≡ refusal 1 0
  unfolding export_result after_lending
  small-listing-room h = rw (short-listing (length room) (length export) h, export_result, after_lending)

  -- question 15
  pub small-export-room : room_bytes ≤ length room → length export < export_bytes → export_result sheet budget room export ≡ refusal 15 0
  unfolding export_result after_lending
  small-export-room h g = rw (short-export (length room) (length export) h g, export_result, after_lending)

  pub enough-lent : room_bytes ≤ length room → export_bytes ≤ length export
      → export_result sheet budget room export ≡ answered (read sheet) budget
  unfolding export_result after_lending
  enough-lent h g = rw (enough-rooms (length room) (length export) h g, export_result, after_lending)

  -- ── what it comes to ──

  pub text-of-answer : (p : Problem) → read sheet ≡ accepted p → (v : Verdict) (s : State)
      → export_result sheet budget room export ≡ ended v s → export_text sheet budget room export ≡ cnf_text (cnf_of p.clauses s)
  unfolding export_text export_of
  text-of-answer p d v s e = cc

  export-refused : (question line : ℕ) → export_result sheet budget room export ≡ refusal question line
      → ExportRefused sheet budget room export question line
  unfolding export_call room_after_export export_after answer_of listing_of written values
  export-refused question line e =
      record {
        handed_back = ap answer_of e;
        numbers = ap (λ (r : Result). values (answer_of r)) e;
        no_text = no_text;
        unchanged = ap (λ (r : Result). written (listing_of r) room) e;
        export_unchanged = ap (λ t. written t export) no_text;
      }
    where
      no_text : export_text sheet budget room export ≡ []
      no_text = unfold export_text in ap (export_of (read sheet)) e ∙ refused-text (read sheet) question line

  export-answered : (p : Problem) → read sheet ≡ accepted p → (v : Verdict) (s : State)
      → export_result sheet budget room export ≡ ended v s → Exports sheet budget room export p v s
  unfolding export_call room_after_export export_after answer_of listing_of written values
  export-answered p d v s e =
      record {
        handed_back = ap answer_of e;
        numbers = ap (λ (r : Result). values (answer_of r)) e;
        text = text-of-answer p d v s e;
        front = ap (λ (r : Result). written (listing_of r) room) e;
        export_front = ap (λ t. written t export) (text-of-answer p d v s e);
      }

  -- where both rooms are large enough, the result of the sheet that was read
  pub result-of-search : (p : Problem) → read sheet ≡ accepted p → room_bytes ≤ length room → export_bytes ≤ length export
      → (v : Verdict) (s : State) → search p budget ≡ done v s → export_result sheet budget room export ≡ ended v s
  unfolding answered searched
  result-of-search p d large wide v s e = enough-lent large wide ∙ ap (λ (x : Reading). answered x budget) d ∙ ap searched e

  -- one of the rooms is too small, the sheet is refused, or its search ends
  pub export-comes : ExportComes sheet budget room export
  unfolding answered
  export-comes =
      by-test (leb room_bytes (length room))
      (λ e. from-export (leb-true room_bytes (length room) e))
      (λ e. let h = leb-false room_bytes (length room) e in room_too_small h (export-refused 1 0 (small-listing-room h)))
    where
      from-reading : room_bytes ≤ length room → export_bytes ≤ length export → (r : Reading) → read sheet ≡ r
          → ExportComes sheet budget room export
      from-reading large wide (refused q n) d =
          improper_sheet large wide q n d (export-refused q n (enough-lent large wide ∙ ap (λ (x : Reading). answered x budget) d))
      from-reading large wide (accepted p) d =
          let ends = search-comes-to-an-answer sheet p d budget in
          let is = result-of-search p d large wide ends.verdict ends.state ends.is in
          proper_sheet large wide p d ends.verdict ends.state ends.is (export-answered p d ends.verdict ends.state is)

      from-export : room_bytes ≤ length room → ExportComes sheet budget room export
      from-export large =
          by-test (leb export_bytes (length export))
          (λ e. from-reading large (leb-true export_bytes (length export) e) (read sheet) refl)
          (λ e. let h = leb-false export_bytes (length export) e in export_too_small large h (export-refused 15 0 (small-export-room large h)))

  -- ── beside the first call ──

  pub export-as-first-call : room_bytes ≤ length room → export_bytes ≤ length export
      → (export_call sheet budget room export ≡ call sheet budget room)
      × (room_after_export sheet budget room export ≡ room_after sheet budget room)
  unfolding export_call call room_after_export room_after
  export-as-first-call large wide =
      let same : export_result sheet budget room export ≡ result sheet budget room
      = enough-lent large wide ∙ sym (large-room sheet budget room large) in
      (ap answer_of same, ap (λ (r : Result). written (listing_of r) room) same)

-- ── the text that the program prints ──

pub prints-text : (sheet : List ℕ) (budget : ℕ) → Prints (λ p v s. cnf_text (cnf_of p.clauses s)) sheet budget (printed_cnf sheet budget)
unfolding printed_cnf
prints-text sheet budget =
    prints sheet budget (export_of (read sheet)) (λ p v s. cnf_text (cnf_of p.clauses s)) (λ p e v s. unfold export_of in ap (λ (r : Reading). export_of r (ended v s)) e)
