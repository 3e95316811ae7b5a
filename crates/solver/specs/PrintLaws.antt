-- What the program prints, by what the call came to: what was made of an answer, or the line of a refusal. Assumes nothing.
use Rattle.std.specs.Prelude.{ℕ, ◌≤◌, ◌≡◌, Result as Returned, Ok, Err}
use Rattle.std.proofs.Math.Path.{refl, ap}
use Rattle.std.proofs.Common.{sym, ◌∙◌, arith, length-append}
use Rattle.std.proofs.lemmas.Bool.{false≢true}
use mathlib.Core.List.{List, [], ◌∷◌, ◌++◌}
use Rattle.std.proofs.Math.ListN.{length}
use Rattle.std.proofs.Math.Seq.{sets}
use Rattle.definitions.specs.Bounds.{room_bytes, export_bytes}
use Rattle.definitions.specs.Lists.{joined}
use Rattle.definitions.specs.Sheet.{plus}
use Rattle.definitions.specs.Questions.{read}
use Rattle.definitions.specs.Listing.{field_bytes, line_bytes, narrow, refusal_line}
use Rattle.definitions.specs.Call.{Result, refusal, ended, unended, lendings, result, answer_of, listing_of, written, printed_of, printed, printed_part}
use Rattle.definitions.specs.Export.{export_lendings, export_result, export_of, printed_cnf}
use Rattle.definitions.specs.declared.Refusal.{Refusal}
use Rattle.definitions.specs.declared.Counts.{Counts}
use Rattle.definitions.specs.declared.Answer.{Answer}
use Rattle.definitions.specs.declared.Answer.TheVariants.{Refused, Answered}
use Rattle.theory.specs.Tests.{apart}
use Rattle.theory.specs.Theorems.{call-comes-to-an-end}
use Rattle.theory.specs.CallLaws.{large-room, large-part}
use Rattle.theory.specs.ExportLaws.{enough-lent}
use Rattle.column.specs.Sets.{sets-front}
use Rattle.column.specs.Widths.{narrow-length}
use Rattle.listing.specs.Puts.{Put}
use Rattle.answering.specs.Solving.{SolvedAs}
use Rattle.answering.specs.declared.Solved.{Solved}

-- three columns and LF
pub refusal-length : (q n : ℕ) → length (refusal_line q n) ≡ 13
unfolding refusal_line line_bytes joined plus
refusal-length q n =
    let nine = narrow-length (plus 9) (λ e. absurd (false≢true e)) in
    let one = narrow-length (plus q) (λ e. absurd (false≢true e)) in
    let two = narrow-length (plus n) (λ e. absurd (false≢true e)) in
    let f = field_bytes (narrow (plus 9)) in
    let g = field_bytes (narrow (plus q)) in
    let h = field_bytes (narrow (plus n)) in
    omega (arith, nine, one, two, length-append (f ++ (g ++ (h ++ []))) (10 ∷ []), length-append f (g ++ (h ++ [])), length-append g (h ++ []), length-append h [])

refused-injective : {g h : Refusal} → Refused g ≡ Refused h → g ≡ h
refused-injective d = cc

-- what is made of an answer, and nothing of a refusal
module _ (made : Result → List ℕ) (nothing : (q n : ℕ) → made (refusal q n) ≡ []) where
  -- an answer is printed as it is made
  answered-printed : (came : Result) (c : Counts) → answer_of came ≡ Answered c → printed_of made came ≡ made came
  unfolding answer_of printed_of
  answered-printed (refusal q n) c e = apart (cc)
  answered-printed (ended v s) c e = refl
  answered-printed unended c e = refl

  -- a refusal is printed as a line of its own
  refused-printed : (came : Result) → (came ≡ unended → ⊥) → (f : Refusal) → answer_of came ≡ Refused f
      → (printed_of made came ≡ refusal_line f.number f.line) × (made came ≡ [])
  unfolding answer_of printed_of
  refused-printed (refusal q n) ends f e = (ap (λ (x : Refusal). refusal_line x.number x.line) (refused-injective e), nothing q n)
  refused-printed (ended v s) ends f e = apart (cc)
  refused-printed unended ends f e = absurd (ends refl)

  -- a call that left what it made at the front of a room
  module _ (came : Result) (ends : came ≡ unended → ⊥) (room : List ℕ) (enough : 13 ≤ length room) {answer : Answer} {size : ℕ} {after : List ℕ}
      (its-answer : answer ≡ answer_of came) (its-size : size ≡ length (made came)) (stored : after ≡ written (made came) room) where
    -- the bytes are printed into the room
    abbrev pub PrintedInto : ℕ → List ℕ → Type 0
    PrintedInto n last = (n ≡ length (printed_of made came)) × (last ≡ written (printed_of made came) room)

    pub print-answer : (c : Counts) → answer ≡ Answered c → PrintedInto size after
    print-answer c e =
        let same : made came ≡ printed_of made came = sym (answered-printed came c (sym its-answer ∙ e)) in
        (its-size ∙ ap length same, stored ∙ ap (λ (bytes : List ℕ). written bytes room) same)

    pub print-refusal : (f : Refusal) → answer ≡ Refused f → (n : ℕ) (last : List ℕ) → Put after 0 (refusal_line f.number f.line) n last → PrintedInto n last
    unfolding written
    print-refusal f e n last put =
        let bytes = refusal_line f.number f.line in
        let (prints, none) = refused-printed came ends f (sym its-answer ∙ e) in
        let unchanged : after ≡ room = stored ∙ ap (λ (x : List ℕ). written x room) none in
        let first = sets-front room bytes (omega (arith, refusal-length f.number f.line)) in
        (omega (arith, put.place, ap length prints), put.stored ∙ ap (λ (x : List ℕ). sets x 0 bytes) unchanged ∙ first ∙ ap (λ (x : List ℕ). written x room) (sym prints))

-- what is done with what a call left in a room: nothing more, or the line of the refusal is put there
abbrev pub PrintedAs : Returned Solved Refusal → List ℕ → ℕ → List ℕ → Type 0
PrintedAs (Ok solved) room n last = (n ≡ solved.length) × (last ≡ room)
PrintedAs (Err f) room n last = Put room 0 (refusal_line f.number f.line) n last

-- so what is printed stands there
pub printed-as : (made : Result → List ℕ) (nothing : (q n : ℕ) → made (refusal q n) ≡ []) (came : Result) (ends : came ≡ unended → ⊥) (room : List ℕ) (enough : 13 ≤ length room)
    (r : Returned Solved Refusal) {after : List ℕ} → SolvedAs came (made came) room r after → (n : ℕ) (last : List ℕ) → PrintedAs r after n last
    → (n ≡ length (printed_of made came)) × (last ≡ written (printed_of made came) room)
printed-as made nothing came ends room enough (Ok solved) {after} h n last (size, same) =
    rw (size, same) (print-answer made nothing came ends room enough h.answer h.size h.stored solved.counts refl)
printed-as made nothing came ends room enough (Err f) h n last put =
    print-refusal made nothing came ends room enough h.answer h.size h.stored f refl n last put

-- ── the two that are printed ──

-- where enough is lent, the program's result is the call's
pub printed-result : (sheet : List ℕ) (budget : ℕ) (room : List ℕ) → room_bytes ≤ length room → printed_part sheet budget room ≡ printed_of listing_of (result sheet budget room)
unfolding printed
printed-result sheet budget room large = large-part sheet budget room large ∙ ap (printed_of listing_of) (sym (large-room sheet budget room large))

pub printed-export : (sheet : List ℕ) (budget : ℕ) (room export : List ℕ) → room_bytes ≤ length room → export_bytes ≤ length export
    → printed_cnf sheet budget ≡ printed_of (export_of (read sheet)) (export_result sheet budget room export)
unfolding printed_cnf
printed-export sheet budget room export large wide = ap (printed_of (export_of (read sheet))) (sym (enough-lent sheet budget room export large wide))

-- equal bytes are printed alike
pub printed-alike : (room : List ℕ) {bytes same : List ℕ} {n : ℕ} {last : List ℕ} → bytes ≡ same → (n ≡ length same) × (last ≡ written same room) → (n ≡ length bytes) × (last ≡ written bytes room)
printed-alike room e h = rw e h

pub result-ends : (sheet : List ℕ) (budget : ℕ) (room : List ℕ) → result sheet budget room ≡ unended → ⊥
unfolding result
result-ends sheet budget room = call-comes-to-an-end (lendings (length room)) sheet budget

pub export-ends : (sheet : List ℕ) (budget : ℕ) (room export : List ℕ) → export_result sheet budget room export ≡ unended → ⊥
unfolding export_result
export-ends sheet budget room export = call-comes-to-an-end (export_lendings (length room) (length export)) sheet budget
