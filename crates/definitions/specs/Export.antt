-- Document 02, 2/14: the export call on any bytes, budget and two rooms: what is handed back, both rooms afterwards, and what the call
-- comes to. Assumes nothing.
use Rattle.std.specs.Prelude.{ℕ, ◌≤◌, ◌<◌, ◌≡◌, List, [], ◌∷◌, ◌++◌, length, drop}
use Rattle.definitions.specs.Bounds.{room_bytes, export_bytes}
use Rattle.definitions.specs.Words.{Problem}
use Rattle.definitions.specs.Questions.{Reading, refused, accepted, read}
use Rattle.definitions.specs.Search.{State, done, search}
use Rattle.definitions.specs.Listing.{listing}
use Rattle.definitions.specs.Dimacs.{cnf_of, cnf_text}
use Rattle.definitions.specs.Call.{Result, refusal, ended, unended, answered, Lending, lendings, after_lending, record_of, answer_of, listing_of, written, printed_of, values, answer_values}
use Rattle.definitions.specs.declared.Verdict.{Verdict}
use Rattle.definitions.specs.declared.Answer.{Answer}
use Rattle.definitions.specs.declared.Answer.TheVariants.{Refused, Answered}

-- the questions about rooms of so many bytes: 1, and "straight after 1"
-- 15: the export room has at least 16,384 bytes
unfoldable pub export_lendings : ℕ → ℕ → List Lending
export_lendings room export = lendings room ++ (record { question = 15; lent = export; asked = export_bytes } ∷ [])

unfoldable pub export_result : List ℕ → ℕ → List ℕ → List ℕ → Result
export_result sheet budget room export = after_lending (export_lendings (length room) (length export)) sheet budget

-- the text of the clauses that a sheet's search ended with; "every answer exports", a refusal has none
unfoldable pub export_of : Reading → Result → List ℕ
export_of (accepted p) (ended v s) = cnf_text (cnf_of p.clauses s)
export_of (accepted p) (refusal q n) = []
export_of (accepted p) unended = []
export_of (refused q n) r = []

module _ (sheet : List ℕ) (budget : ℕ) (room export : List ℕ) where
  -- the answer that the call hands back
  unfoldable pub export_call : Answer
  export_call = answer_of (export_result sheet budget room export)

  -- the text
  unfoldable pub export_text : List ℕ
  export_text = export_of (read sheet) (export_result sheet budget room export)

  -- the listing room and the export room afterwards
  unfoldable pub room_after_export : List ℕ
  room_after_export = written (listing_of (export_result sheet budget room export)) room

  unfoldable pub export_after : List ℕ
  export_after = written export_text export

-- what the program prints for its word `cnf`: the text
unfoldable pub printed_cnf : List ℕ → ℕ → List ℕ
printed_cnf sheet budget = printed_of (export_of (read sheet)) (answered (read sheet) budget)

-- ── what an export comes to ──

module _ (sheet : List ℕ) (budget : ℕ) (room export : List ℕ) where
  -- a refusal changes neither room
  pub record ExportRefused (question line : ℕ) : Type 0 where
    pub handed_back : export_call sheet budget room export ≡ Refused (record { number = question; line = line })
    pub numbers : values (export_call sheet budget room export) ≡ question ∷ line ∷ []
    pub no_text : export_text sheet budget room export ≡ []
    pub unchanged : room_after_export sheet budget room export ≡ room
    pub export_unchanged : export_after sheet budget room export ≡ export

  -- "hands back the record and leaves the listing room as the first call does"; the text stands at the front of the export room, and
  -- "bytes behind the text are unchanged"
  pub record Exports (p : Problem) (v : Verdict) (s : State) : Type 0 where
    pub handed_back : export_call sheet budget room export ≡ Answered (record_of v s)
    pub numbers : values (export_call sheet budget room export) ≡ answer_values v s
    pub text : export_text sheet budget room export ≡ cnf_text (cnf_of p.clauses s)
    pub front : room_after_export sheet budget room export ≡ listing v s ++ drop (length (listing v s)) room
    pub export_front : export_after sheet budget room export ≡ cnf_text (cnf_of p.clauses s) ++ drop (length (cnf_text (cnf_of p.clauses s))) export

  -- "Answers: 15, asked straight after 1, when the export room is under 16,384 bytes"
  pub data ExportComes : Type 0 where
    room_too_small : length room < room_bytes → ExportRefused 1 0 → ExportComes
    export_too_small : room_bytes ≤ length room → length export < export_bytes → ExportRefused 15 0 → ExportComes
    improper_sheet : room_bytes ≤ length room → export_bytes ≤ length export → (question line : ℕ) → read sheet ≡ refused question line
        → ExportRefused question line → ExportComes
    proper_sheet : room_bytes ≤ length room → export_bytes ≤ length export → (p : Problem) → read sheet ≡ accepted p
        → (v : Verdict) (s : State) → search p budget ≡ done v s → Exports p v s → ExportComes

-- names every definition of this module, for a theorem that computes with all of them
unfoldable pub export_all : Unit {0}
unfolding export_lendings export_result export_of export_call export_text room_after_export export_after printed_cnf
export_all = tt
