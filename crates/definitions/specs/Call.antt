-- Document 01: the call on any bytes, budget and room: the questions about what is lent, what is handed back, the room afterwards, and
-- what a call comes to. Assumes nothing.
use Rattle.std.specs.Prelude.{ℕ, ◌≤◌, ◌<◌, ◌≡◌, true, false, List, [], ◌∷◌, ◌++◌, leb, length, drop}
use Rattle.std.proofs.Math.Option.{Option, none, some}
use Rattle.definitions.specs.Bounds.{room_bytes}
use Rattle.definitions.specs.Words.{Problem}
use Rattle.definitions.specs.Questions.{Reading, refused, accepted, read}
use Rattle.definitions.specs.Search.{State, Outcome, more, done, search}
use Rattle.definitions.specs.Listing.{answer_number, listing, refusal_line}
use Rattle.definitions.specs.declared.Verdict.{Verdict}
use Rattle.definitions.specs.declared.Counts.{Counts}
use Rattle.definitions.specs.declared.Answer.{Answer}
use Rattle.definitions.specs.declared.Answer.TheVariants.{Refused, Answered}

-- what a call comes to: a refusal's number and line, or where the search ended
pub data Result : Type 0 where
  refusal : ℕ → ℕ → Result
  ended : Verdict → State → Result
  unended : Result

-- a search that has not ended within its steps; the theory shows that there is none for an accepted sheet
unfoldable pub searched : Outcome → Result
searched (more s) = unended
searched (done v s) = ended v s

-- the result of a sheet that was read
unfoldable pub answered : Reading → ℕ → Result
answered (refused q n) budget = refusal q n
answered (accepted p) budget = searched (search p budget)

-- a question about what is lent: its number, how much is lent, and how much it asks for at least
pub record Lending : Type 0 where
  pub question : ℕ
  pub lent : ℕ
  pub asked : ℕ

-- the questions about a room of so many bytes, in their order
-- 1: the lent room has at least 45,056 bytes
unfoldable pub lendings : ℕ → List Lending
lendings room = record { question = 1; lent = room; asked = room_bytes } ∷ []

-- the first of them that is answered no
unfoldable pub first_short : List Lending → Option ℕ
first_short [] = none
first_short (l ∷ ls) = elim (leb l.asked l.lent) [ true ↦ first_short ls | false ↦ some l.question ]

-- it ends the call with its number and line 0; otherwise the sheet is read
unfoldable pub after_lending : List Lending → List ℕ → ℕ → Result
after_lending ls sheet budget = elim (first_short ls) [ none ↦ answered (read sheet) budget | some q ↦ refusal q 0 ]

unfoldable pub result : List ℕ → ℕ → List ℕ → Result
result sheet budget room = after_lending (lendings (length room)) sheet budget

-- "which of the four it is and the counts of atoms, logged clauses, decisions and conflicts"
abbrev pub record_of : Verdict → State → Counts
record_of v s = record { verdict = v; atoms = length s.table; logged = length s.log; decisions = s.decisions; conflicts = s.conflicts }

-- what the call hands back
unfoldable pub answer_of : Result → Answer
answer_of (refusal q n) = Refused (record { number = q; line = n })
answer_of (ended v s) = Answered (record_of v s)
answer_of unended = Refused (record { number = 0; line = 0 })

-- the listing; a refusal has none
unfoldable pub listing_of : Result → List ℕ
listing_of (refusal q n) = []
listing_of (ended v s) = listing v s
listing_of unended = []

-- the listing stands at the front of the room, and the bytes behind it are those before
unfoldable pub written : List ℕ → List ℕ → List ℕ
written bytes room = bytes ++ drop (length bytes) room

-- the call: the answer that it hands back
unfoldable pub call : List ℕ → ℕ → List ℕ → Answer
call sheet budget room = answer_of (result sheet budget room)

-- the second call: the front part of the room that it hands back
unfoldable pub listed_part : List ℕ → ℕ → List ℕ → List ℕ
listed_part sheet budget room = listing_of (result sheet budget room)

-- the room after either call
unfoldable pub room_after : List ℕ → ℕ → List ℕ → List ℕ
room_after sheet budget room = written (listing_of (result sheet budget room)) room

-- what the program prints: the line of a refusal, or what it makes of an answer
unfoldable pub printed_of : (Result → List ℕ) → Result → List ℕ
printed_of made (refusal q n) = refusal_line q n
printed_of made (ended v s) = made (ended v s)
printed_of made unended = made unended

-- document 01's program: the listing
unfoldable pub printed : List ℕ → ℕ → List ℕ
printed sheet budget = printed_of listing_of (answered (read sheet) budget)

-- the same at the front of a lent room; nothing where a question about what is lent is answered no
unfoldable pub printed_part : List ℕ → ℕ → List ℕ → List ℕ
printed_part sheet budget room = elim (first_short (lendings (length room))) [ none ↦ printed sheet budget | some q ↦ [] ]

-- this paper's number and values of each case: number and line, or the answer's number and the four counts
unfoldable pub values : Answer → List ℕ
values (Refused r) = r.number ∷ r.line ∷ []
values (Answered c) = answer_number c.verdict ∷ c.atoms ∷ c.logged ∷ c.decisions ∷ c.conflicts ∷ []

-- the latter for a search that ended in a state
abbrev pub answer_values : Verdict → State → List ℕ
answer_values v s = answer_number v ∷ length s.table ∷ length s.log ∷ s.decisions ∷ s.conflicts ∷ []

-- ── what a call comes to ──

module _ (sheet : List ℕ) (budget : ℕ) (room : List ℕ) where
  -- "for a refusal the number and line", "an empty part for a refusal", "a refused call leaves all the room unchanged"
  pub record RefusedWith (question line : ℕ) : Type 0 where
    pub handed_back : call sheet budget room ≡ Refused (record { number = question; line = line })
    pub numbers : values (call sheet budget room) ≡ question ∷ line ∷ []
    pub part : listed_part sheet budget room ≡ []
    pub unchanged : room_after sheet budget room ≡ room

  -- "otherwise which of the four it is and the counts" of the search's last state; the second call hands back "the front part of the
  -- lent room that holds the listing" of that state: log, setting and counts; either "leaves the bytes behind the listing unchanged"
  pub record AnsweredWith (v : Verdict) (s : State) : Type 0 where
    pub handed_back : call sheet budget room ≡ Answered (record_of v s)
    pub numbers : values (call sheet budget room) ≡ answer_values v s
    pub part : listed_part sheet budget room ≡ listing v s
    pub front : room_after sheet budget room ≡ listing v s ++ drop (length (listing v s)) room

  -- "the first no ends the call with that number and the line": a room that is too small is refused with 1 and line 0, bytes that are no
  -- proper sheet with the first question that fails and its line; every other call is answered with what the search comes to
  pub data Comes : Type 0 where
    too_small : length room < room_bytes → RefusedWith 1 0 → Comes
    improper : room_bytes ≤ length room → (question line : ℕ) → read sheet ≡ refused question line → RefusedWith question line → Comes
    proper : room_bytes ≤ length room → (p : Problem) → read sheet ≡ accepted p → (v : Verdict) (s : State) → search p budget ≡ done v s
        → AnsweredWith v s → Comes

  -- "the answer is always the one that the search below comes to for that sheet and the call's budget"
  pub record FromSearch (v : Verdict) : Type 0 where
    pub problem : Problem
    pub reads : read sheet ≡ accepted problem
    pub state : State
    pub comes : search problem budget ≡ done v state
    pub answer : AnsweredWith v state

-- ── what is printed ──

-- "for a refusal it prints one line of kind 9 with number and line"; otherwise what is made of the problem and of where its search ends
pub data Prints (made : Problem → Verdict → State → List ℕ) (sheet : List ℕ) (budget : ℕ) (bytes : List ℕ) : Type 0 where
  refusal_printed : (question line : ℕ) → read sheet ≡ refused question line → bytes ≡ refusal_line question line → Prints made sheet budget bytes
  answer_printed : (p : Problem) → read sheet ≡ accepted p → (v : Verdict) (s : State) → search p budget ≡ done v s → bytes ≡ made p v s
      → Prints made sheet budget bytes

-- names every definition of this module, for a theorem that computes with all of them
unfoldable pub call_all : Unit {0}
unfolding searched answered lendings first_short after_lending result answer_of listing_of written call listed_part room_after printed_of printed printed_part values
call_all = tt
