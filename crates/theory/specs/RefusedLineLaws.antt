-- That a refusal speaks of its line: from the reading of a sheet, and from a call, whatever is lent to it. Assumes nothing.
use Rattle.std.specs.Prelude.{ℕ, zero, suc, ◌+◌, ◌≤◌, ◌<◌, ◌≡◌, ◌⊎◌, true, leb}
use Rattle.std.proofs.Math.Path.{refl, sym, ap}
use Rattle.std.proofs.Common.{◌∙◌, arith}
use Rattle.std.proofs.Math.Logic.{inl, inr}
use Rattle.std.proofs.Math.Option.{none, some}
use mathlib.Core.List.Memᴰ
use mathlib.Core.List.{List, [], ◌∷◌, ◌++◌}
use Rattle.std.proofs.Math.ListN.{length}
use borrow.Author.Tests.{le-leb, leb-true, leb-false}
use Rattle.definitions.specs.Lists.{◌∈◌, is_empty}
use Rattle.definitions.specs.Bounds.{sheet_bytes, room_bytes, export_bytes}
use Rattle.definitions.specs.Sheet.{Line, lines}
use Rattle.definitions.specs.Questions.{Asked, no, yes, Draft, read_line, Reading, refused, accepted, read_lines, empty_draft, read}
use Rattle.definitions.specs.Call.{refusal, searched, answered, Lending, lendings, first_short, after_lending, result, answer_of, call}
use Rattle.definitions.specs.Export.{export_lendings, export_result, export_call}
use Rattle.definitions.specs.Sheets.{passes, is_blank}
use Rattle.definitions.specs.RefusedLines.{lines_asked, RefusedAt, HeadApart}
use Rattle.definitions.specs.declared.Refusal.{Refusal}
use Rattle.definitions.specs.declared.Answer.TheVariants.{Refused}
use Rattle.theory.specs.Tests.{by-test, by-option, apart}
use Rattle.theory.specs.ListLaws.{at_split, in-along, empty-nil}
use Rattle.theory.specs.AskedLaws.{by-asked, bind-yes, yes-bind}
use Rattle.theory.specs.BlankColumns.{blank-line}
use Rattle.theory.specs.FailingLines.{fails-14}
use Rattle.theory.specs.Theorems.{search-comes-to-an-answer}
use Rattle.theory.specs.CallLaws.{enough-room}
use Rattle.theory.specs.ExportLaws.{enough-rooms}

-- ── lines from a draft on, the first of them with a given number ──

record RefusedFrom (d : Draft) (first : ℕ) (ls : List Line) (question line : ℕ) : Type 0 where
  before : List Line
  failing : Line
  behind : List Line
  split : ls ≡ before ++ failing ∷ behind
  number : line ≡ first + length before
  draft : Draft
  passed : lines_asked d before ≡ yes draft
  fails : read_line draft failing ≡ no question

lines-refused : (d : Draft) (first : ℕ) (ls : List Line) (q n : ℕ) → read_lines d first ls ≡ refused q n → RefusedFrom d first ls q n
unfolding read_lines lines_asked
lines-refused d first [] q n e = apart (cc)
lines-refused d first (l ∷ ls) q n e =
    by-asked (read_line d l)
    (λ r f.
    let here : first ≡ n = cc in
    record { before = []; failing = l; behind = ls; split = refl; number = omega (arith, here); draft = d; passed = refl; fails = cc })
    (λ next f.
    let x = lines-refused next (suc first) ls q n (cc) in
    record {
      before = l ∷ x.before;
      failing = x.failing;
      behind = x.behind;
      split = ap (λ (k : List Line). l ∷ k) x.split;
      number = omega (arith, x.number);
      draft = x.draft;
      passed = yes-bind (read_line d l) _ next x.draft f x.passed;
      fails = x.fails;
    })

refused-lines : (d : Draft) (first : ℕ) (before : List Line) (l : Line) (behind : List Line) (e : Draft) (q : ℕ)
    → lines_asked d before ≡ yes e → read_line e l ≡ no q → read_lines d first (before ++ l ∷ behind) ≡ refused q (first + length before)
unfolding read_lines lines_asked
refused-lines d first [] l behind e q passed fails =
    let same : d ≡ e = cc in
    let number : first + 0 ≡ first = omega arith in
    cc
refused-lines d first (x ∷ before) l behind e q passed fails =
    let (next, f, rest) = bind-yes (read_line d x) _ e passed in
    let number : suc first + length before ≡ first + suc (length before) = omega arith in
    cc (refused-lines next (suc first) before l behind e q rest fails)

-- ── a sheet ──

module _ (sheet : List ℕ) where
  -- a refusal with a line
  pub read-refused-at : (q n : ℕ) → read sheet ≡ refused q n → 1 ≤ n → RefusedAt sheet q n
  unfolding read
  read-refused-at q n e lined =
      by-test (leb (length sheet) sheet_bytes)
      (λ s. by-test (is_empty sheet)
      (λ t. let none : 0 ≡ n = cc in absurd (omega arith))
      (λ t.
      let x = lines-refused empty_draft 1 (lines sheet) q n (cc) in
      record {
        short = leb-true (length sheet) sheet_bytes s;
        before = x.before;
        failing = x.failing;
        behind = x.behind;
        split = x.split;
        number = omega (arith, x.number);
        draft = x.draft;
        passed = x.passed;
        fails = x.fails;
      }))
      (λ s. let none : 0 ≡ n = cc in absurd (omega arith))

  -- what it says is when it comes
  pub refused-at-read : (q n : ℕ) → RefusedAt sheet q n → read sheet ≡ refused q n
  unfolding read lines
  refused-at-read q n x =
      let short = le-leb (length sheet) sheet_bytes x.short in
      let rest = refused-lines empty_draft 1 x.before x.failing x.behind x.draft q x.passed x.fails in
      let number : 1 + length x.before ≡ n = omega (arith, x.number) in
      by-test (is_empty sheet)
      (λ t.
      let none : [] ≡ x.before ++ x.failing ∷ x.behind = sym (ap lines (empty-nil sheet t)) ∙ x.split in
      absurd (Memᴰ.not-nil (in-along none (at_split x.before x.behind))))
      (λ t. cc x.split)

  -- a refusal without one
  pub read-no-line : (q : ℕ) → read sheet ≡ refused q 0 → ((q ≡ 2) × (sheet_bytes < length sheet)) ⊎ ((q ≡ 3) × (sheet ≡ []))
  unfolding read
  read-no-line q e =
      by-test (leb (length sheet) sheet_bytes)
      (λ s. by-test (is_empty sheet)
      (λ t. inr ((cc), empty-nil sheet t))
      (λ t. let x = lines-refused empty_draft 1 (lines sheet) q 0 (cc) in absurd (omega (arith, x.number))))
      (λ s. inl ((cc), leb-false (length sheet) sheet_bytes s))

-- ── a line ──

-- one of blanks that passes 4 and 5 fails 7
pub blank-fails-7 : (d : Draft) (l : Line) (q : ℕ) → read_line d l ≡ no q → passes l ≡ true → is_blank l.bytes ≡ true → q ≡ 7
blank-fails-7 d l q e p b = no-injective (sym e ∙ blank-line d l p b)
  where
    no-injective : ◌≡◌ {A = Asked Draft} (no q) (no 7) → q ≡ 7
    no-injective f = cc

-- ── a call, whatever is lent ──

-- a question about what is lent is that of a room that is too small
pub short-lent : (ls : List Lending) (q : ℕ) → first_short ls ≡ some q → (l : Lending) × (l ∈ ls) × (l.question ≡ q) × (l.lent < l.asked)
unfolding first_short
short-lent [] q e = apart (cc)
short-lent (l ∷ ls) q e =
    by-test (leb l.asked l.lent)
    (λ t. let (k, m, is, less) = short-lent ls q (cc) in (k, Memᴰ.tail m, is, less))
    (λ t. (l, Memᴰ.head refl, (cc), leb-false l.asked l.lent t))

-- the record of a refusal has its number and its line
refusal-values : (q n : ℕ) (r : Refusal) → answer_of (refusal q n) ≡ Refused r → (q ≡ r.number) × (n ≡ r.line)
unfolding answer_of
refusal-values q n r e =
    let same : record { number = q; line = n } ≡ r = cc in
    (ap (λ (x : Refusal). x.number) same, ap (λ (x : Refusal). x.line) same)

module _ (ls : List Lending) (sheet : List ℕ) (budget : ℕ) where
  -- a refusal is about what is lent, with line 0, or the sheet's
  lent-refused : (r : Refusal) → answer_of (after_lending ls sheet budget) ≡ Refused r
      → ((first_short ls ≡ some r.number) × (r.line ≡ 0)) ⊎ (read sheet ≡ refused r.number r.line)
  unfolding after_lending answered searched answer_of
  lent-refused r e =
      by-option (first_short ls)
      (λ t. inr (from (read sheet) refl (cc)))
      (λ q t. let (number, line) = refusal-values q 0 r (cc) in inl (t ∙ ap some number, sym line))
    where
      from : (x : Reading) → read sheet ≡ x → answer_of (answered x budget) ≡ Refused r → read sheet ≡ refused r.number r.line
      from (refused q n) d e =
          let (number, line) = refusal-values q n r e in
          d ∙ cc
      from (accepted p) d e =
          let ends = search-comes-to-an-answer sheet p d budget in
          let f = sym (ap (λ x. answer_of (searched x)) ends.is) ∙ e in
          apart (cc)

  -- one with a line speaks of that line;
  pub lent-refused-at : (r : Refusal) → answer_of (after_lending ls sheet budget) ≡ Refused r → 1 ≤ r.line → RefusedAt sheet r.number r.line
  lent-refused-at r e lined =
      elim (lent-refused r e) [
        | inl x ↦ absurd (omega (arith, x.1))
        | inr f ↦ read-refused-at sheet r.number r.line f lined
      ]

  -- one without is about what is lent, or 2 or 3;
  pub lent-no-line : (r : Refusal) → answer_of (after_lending ls sheet budget) ≡ Refused r → r.line ≡ 0
      → ((l : Lending) × (l ∈ ls) × (l.question ≡ r.number) × (l.lent < l.asked))
      ⊎ (((r.number ≡ 2) × (sheet_bytes < length sheet)) ⊎ ((r.number ≡ 3) × (sheet ≡ [])))
  lent-no-line r e line =
      elim (lent-refused r e) [
        | inl x ↦ inl (short-lent ls r.number x.0)
        | inr f ↦ inr (read-no-line sheet r.number (f ∙ ap (refused r.number) line))
      ]

  -- with 14, if that is no question about what is lent, it speaks of the line of a rule with a head apart;
  pub lent-14 : ((l : Lending) → l ∈ ls → l.question ≡ 14 → ⊥) → (n : ℕ) → answer_of (after_lending ls sheet budget) ≡ Refused (record { number = 14; line = n })
      → (x : RefusedAt sheet 14 n) × HeadApart x.draft x.failing
  lent-14 other zero e =
      elim (lent-no-line (record { number = 14; line = 0 }) e refl) [
        | inl x ↦ absurd (other x.0 x.1 x.2)
        | inr y ↦ elim y [ inl x ↦ absurd (omega (arith, x.0)) | inr x ↦ absurd (omega (arith, x.0)) ]
      ]
  lent-14 other (suc n) e =
      let x = lent-refused-at (record { number = 14; line = suc n }) e (omega arith) in
      (x, fails-14 x.draft x.failing x.fails)

  -- and the first line that fails a question is refused with it, where enough is lent
  pub refused-at-lent : first_short ls ≡ none → (q n : ℕ) → RefusedAt sheet q n → answer_of (after_lending ls sheet budget) ≡ Refused (record { number = q; line = n })
  unfolding after_lending answered answer_of
  refused-at-lent enough q n x = let reads = refused-at-read sheet q n x in cc

-- ── the first call ──

module _ (sheet : List ℕ) (budget : ℕ) (room : List ℕ) where
  pub call-refused-at : (r : Refusal) → call sheet budget room ≡ Refused r → 1 ≤ r.line → RefusedAt sheet r.number r.line
  unfolding call result
  call-refused-at = lent-refused-at (lendings (length room)) sheet budget

  pub call-no-line : (r : Refusal) → call sheet budget room ≡ Refused r → r.line ≡ 0
      → ((r.number ≡ 1) × (length room < room_bytes)) ⊎ (((r.number ≡ 2) × (sheet_bytes < length sheet)) ⊎ ((r.number ≡ 3) × (sheet ≡ [])))
  unfolding call result lendings
  call-no-line r e line =
      elim (lent-no-line (lendings (length room)) sheet budget r e line) [
        | inl x ↦ let (l, m, is, less) = x in let same = Memᴰ.eq_of_singleton m in inl (sym is ∙ ap (λ (k : Lending). k.question) same, rw same at less)
        | inr y ↦ inr y
      ]

  pub call-14 : (n : ℕ) → call sheet budget room ≡ Refused (record { number = 14; line = n }) → (x : RefusedAt sheet 14 n) × HeadApart x.draft x.failing
  unfolding call result lendings
  call-14 = lent-14 (lendings (length room)) sheet budget (λ l m e. let same = Memᴰ.eq_of_singleton m in apart (cc))

  pub refused-at-call : room_bytes ≤ length room → (q n : ℕ) → RefusedAt sheet q n → call sheet budget room ≡ Refused (record { number = q; line = n })
  unfolding call result
  refused-at-call large = refused-at-lent (lendings (length room)) sheet budget (enough-room (length room) large)

-- ── the export ──

module _ (sheet : List ℕ) (budget : ℕ) (room export : List ℕ) where
  pub export-refused-at : (r : Refusal) → export_call sheet budget room export ≡ Refused r → 1 ≤ r.line → RefusedAt sheet r.number r.line
  unfolding export_call export_result
  export-refused-at = lent-refused-at (export_lendings (length room) (length export)) sheet budget

  pub export-no-line : (r : Refusal) → export_call sheet budget room export ≡ Refused r → r.line ≡ 0
      → ((r.number ≡ 1) × (length room < room_bytes)) ⊎ (((r.number ≡ 15) × (length export < export_bytes))
      ⊎ (((r.number ≡ 2) × (sheet_bytes < length sheet)) ⊎ ((r.number ≡ 3) × (sheet ≡ []))))
  unfolding export_call export_result export_lendings lendings
  export-no-line r e line =
      elim (lent-no-line (export_lendings (length room) (length export)) sheet budget r e line) [
        | inl x ↦
            let (l, m, is, less) = x in
            elim (Memᴰ.cases_cons m) [
              | inl same ↦ inl (sym is ∙ ap (λ (k : Lending). k.question) same, rw same at less)
              | inr n ↦ let same = Memᴰ.eq_of_singleton n in inr (inl (sym is ∙ ap (λ (k : Lending). k.question) same, rw same at less))
            ]
        | inr y ↦ inr (inr y)
      ]

  pub export-14 : (n : ℕ) → export_call sheet budget room export ≡ Refused (record { number = 14; line = n })
      → (x : RefusedAt sheet 14 n) × HeadApart x.draft x.failing
  unfolding export_call export_result export_lendings lendings
  export-14 =
      lent-14 (export_lendings (length room) (length export)) sheet budget
      (λ l m e. elim (Memᴰ.cases_cons m) [ inl same ↦ apart (cc) | inr n ↦ let same = Memᴰ.eq_of_singleton n in apart (cc) ])

  pub refused-at-export : room_bytes ≤ length room → export_bytes ≤ length export → (q n : ℕ) → RefusedAt sheet q n
      → export_call sheet budget room export ≡ Refused (record { number = q; line = n })
  unfolding export_call export_result
  refused-at-export large wide = refused-at-lent (export_lendings (length room) (length export)) sheet budget (enough-rooms (length room) (length export) large wide)
