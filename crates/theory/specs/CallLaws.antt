-- What a call comes to, by its room and its sheet, and what the program prints. Assumes nothing.
use Rattle.std.specs.Prelude.{ℕ, ◌≤◌, ◌<◌, ◌≡◌, List, [], leb}
use Rattle.std.proofs.Math.Path.{refl, ap}
use Rattle.std.proofs.Common.{◌∙◌}
use Rattle.std.proofs.Math.Option.{none, some}
use Rattle.std.proofs.Math.ListN.{length}
use borrow.Author.Tests.{le-leb, lt-leb, leb-true, leb-false}
use Rattle.definitions.specs.Bounds.{room_bytes}
use Rattle.definitions.specs.Words.{Problem}
use Rattle.definitions.specs.Questions.{Reading, refused, accepted, read}
use Rattle.definitions.specs.Search.{State, Outcome, done, search}
use Rattle.definitions.specs.Listing.{listing, refusal_line}
use Rattle.definitions.specs.Call.{Result, refusal, ended, searched, answered, lendings, first_short, after_lending, result, answer_of, listing_of, written, call, listed_part, room_after, printed_of, printed, printed_part, values, RefusedWith, AnsweredWith, Comes, too_small, improper, proper, Prints, refusal_printed, answer_printed}
use Rattle.definitions.specs.declared.Verdict.{Verdict}
use Rattle.theory.specs.Tests.{by-test}
use Rattle.theory.specs.Theorems.{search-comes-to-an-answer}

pub accepted-injective : {p q : Problem} → accepted p ≡ accepted q → p ≡ q
accepted-injective e = cc

-- the questions about what is lent
pub short-room : (room : ℕ) → room < room_bytes → first_short (lendings room) ≡ some 1
unfolding lendings first_short
short-room room h = rw (lt-leb room_bytes room h, first_short)

pub enough-room : (room : ℕ) → room_bytes ≤ room → first_short (lendings room) ≡ none
unfolding lendings first_short
enough-room room h = rw (le-leb room_bytes room h, first_short)

module _ (sheet : List ℕ) (budget : ℕ) (room : List ℕ) where
  -- question 1
  pub small-room : length room < room_bytes → result sheet budget room ≡ refusal 1 0
  unfolding result after_lending
  small-room h = rw (short-room (length room) h, result, after_lending)

  pub large-room : room_bytes ≤ length room → result sheet budget room ≡ answered (read sheet) budget
  unfolding result after_lending
  large-room h = rw (enough-room (length room) h, result, after_lending)

  -- ── what it comes to ──

  refused-with : (question line : ℕ) → result sheet budget room ≡ refusal question line → RefusedWith sheet budget room question line
  unfolding call listed_part room_after answer_of listing_of written values
  refused-with question line e =
      record {
        handed_back = ap answer_of e;
        numbers = ap (λ (r : Result). values (answer_of r)) e;
        part = ap listing_of e;
        unchanged = ap (λ (r : Result). written (listing_of r) room) e;
      }

  answered-with : (v : Verdict) (s : State) → result sheet budget room ≡ ended v s → AnsweredWith sheet budget room v s
  unfolding call listed_part room_after answer_of listing_of written values
  answered-with v s e =
      record {
        handed_back = ap answer_of e;
        numbers = ap (λ (r : Result). values (answer_of r)) e;
        part = ap listing_of e;
        front = ap (λ (r : Result). written (listing_of r) room) e;
      }

  -- the room is too small, the sheet is refused, or its search ends
  pub call-comes : Comes sheet budget room
  unfolding answered searched
  call-comes =
      by-test (leb room_bytes (length room))
      (λ e. from-reading (leb-true room_bytes (length room) e) (read sheet) refl)
      (λ e. let h = leb-false room_bytes (length room) e in too_small h (refused-with 1 0 (small-room h)))
    where
      along : (r : Reading) → read sheet ≡ r → room_bytes ≤ length room → result sheet budget room ≡ answered r budget
      along r e large = large-room large ∙ ap (λ (x : Reading). answered x budget) e

      from-reading : room_bytes ≤ length room → (r : Reading) → read sheet ≡ r → Comes sheet budget room
      from-reading large (refused q n) e = improper large q n e (refused-with q n (along (refused q n) e large))
      from-reading large (accepted p) e =
          let ends = search-comes-to-an-answer sheet p e budget in
          proper large p e ends.verdict ends.state ends.is (answered-with ends.verdict ends.state (along (accepted p) e large ∙ ap searched ends.is))

-- ── what the program prints ──

-- the line of a refusal, or what is made of an answer
module _ (sheet : List ℕ) (budget : ℕ) (made : Result → List ℕ) (bytes : Problem → Verdict → State → List ℕ)
    (makes : (p : Problem) → read sheet ≡ accepted p → (v : Verdict) (s : State) → made (ended v s) ≡ bytes p v s) where
  pub prints : Prints bytes sheet budget (printed_of made (answered (read sheet) budget))
  unfolding printed_of answered searched
  prints = from (read sheet) refl
    where
      from : (r : Reading) → read sheet ≡ r → Prints bytes sheet budget (printed_of made (answered (read sheet) budget))
      from (refused q n) e = refusal_printed q n e (rw e refl)
      from (accepted p) e =
          let ends = search-comes-to-an-answer sheet p e budget in
          answer_printed p e ends.verdict ends.state ends.is (ap (λ (r : Reading). printed_of made (answered r budget)) e ∙ ap (λ (o : Outcome). printed_of made (searched o)) ends.is ∙ makes p e ends.verdict ends.state)

pub prints-listing : (sheet : List ℕ) (budget : ℕ) → Prints (λ p v s. listing v s) sheet budget (printed sheet budget)
unfolding printed listing_of
prints-listing sheet budget = prints sheet budget listing_of (λ p v s. listing v s) (λ p e v s. refl)

pub printed-refusal : (sheet : List ℕ) (q n : ℕ) → read sheet ≡ refused q n → (budget : ℕ) → printed sheet budget ≡ refusal_line q n
unfolding printed printed_of answered
printed-refusal sheet q n reads budget = rw reads refl

pub printed-listing : (sheet : List ℕ) (p : Problem) → read sheet ≡ accepted p → (budget : ℕ) (v : Verdict) (s : State) → search p budget ≡ done v s
    → printed sheet budget ≡ listing v s
unfolding printed printed_of answered searched listing_of
printed-listing sheet p reads budget v s e = rw (reads, e) refl

-- at the front of a room
module _ (sheet : List ℕ) (budget : ℕ) (room : List ℕ) where
  pub small-part : length room < room_bytes → printed_part sheet budget room ≡ []
  unfolding printed_part
  small-part h = rw (short-room (length room) h, printed_part)

  pub large-part : room_bytes ≤ length room → printed_part sheet budget room ≡ printed sheet budget
  unfolding printed_part
  large-part h = rw (enough-room (length room) h, printed_part)
