-- The loop of `read_sheet` over the lines of a sheet: what is left of the sheet, read behind the draft so far, comes to what
-- all of it comes to, and the arrays hold the draft. Assumes nothing.
use Prim.Native.Nat.{ℕ, suc, ◌+◌, ◌-◌, ◌<◌, ◌≤◌}
use mathlib.Core.Path.{◌≡◌, refl, sym, ap, ◌∙◌}
use mathlib.Core.Logic.{inl, inr}
use mathlib.Core.Bool.{true}
use mathlib.Core.List.{List, [], ◌∷◌}
use native.Mathlib.Omega.{arith}
use native.Mathlib.Numerals.{add-one}
use lib.Dec.{ltb}
use lib.ListN.{length, get_or, drop, set, length-drop, drop_of_length-le}
use lib.Seq.{sets, set-set, take_all, drop-cons, drop-drop}
use borrow.Author.Tests.{ltb-true, ltb-false, le-leb, lt-leb}
use Rattle.definitions.specs.Lists.{joined, distinct}
use Rattle.definitions.specs.Words.{Clause, Problem, goal_atoms}
use Rattle.definitions.specs.Sheet.{Line, lines}
use Rattle.definitions.specs.Questions.{Asked, no, yes, Parsed, counted, columns_asked, Draft, read_line, refused, accepted, read_lines, empty_draft, read}
use Rattle.theory.specs.Tests.{by-test}
use Rattle.theory.specs.ListLaws.{none-empty, some-full}
use Rattle.theory.specs.AskedLaws.{bind-yes, ask-yes}
use Rattle.theory.specs.Limits.{line-begun}
use Rattle.encoding.specs.Signs.{numbers}
use Rattle.rows.specs.Rows.{line_length, line_at, start_of, start_asked}
use Rattle.rows.specs.RowLaws.{line_length-le, lines_none, lines-ended, lines-unended}
use Rattle.encoding.specs.Encoding.{starts_from, index_from, empty_index, sizes_of, Arrays, arrays, hold}
use Rattle.lines.specs.LineReads.{Ready}
use Rattle.sheet.specs.LineHolds.{LineHeld, SheetRead}
use Rattle.sheet.specs.SheetLaws.{Started, draft-ready, start-refused, LineEnds, line-ends}
use Rattle.encoding.specs.declared.Sizes.{Sizes}
use Rattle.std.specs.Prelude.{Result, Ok, Err, MatchResult, IsErrAnd, map, take}
use Rattle.definitions.specs.declared.Refusal.{Refusal}
use Rattle.definitions.specs.Numbered.{question_number}
use Rattle.definitions.specs.declared.Question.{Question}
use Rattle.encoding.specs.Signs.{number_of}
use Rattle.rows.specs.Kinds.{number_of_kind}
use Rattle.rows.specs.declared.LineStart.{LineStart}

-- ── the tests before the loop ──

module _ (sheet : List ℕ) where
  pub read-long : 16384 < length sheet → read sheet ≡ refused 2 0
  unfolding read
  read-long h = cc (lt-leb (length sheet) 16384 h)

  pub read-empty : length sheet ≤ 16384 → length sheet ≡ 0 → read sheet ≡ refused 3 0
  unfolding read
  read-empty h e = cc (le-leb (length sheet) 16384 h, none-empty sheet e)

  read_all : length sheet ≤ 16384 → (length sheet ≡ 0 → ⊥) → read sheet ≡ read_lines empty_draft 1 (lines sheet)
  unfolding read
  read_all h n = cc (le-leb (length sheet) 16384 h, some-full sheet n)

-- ── the line at a place of the sheet ──

module _ (sheet : List ℕ) (from end : ℕ) (inside : from < length sheet) (ends : end ≡ from + line_length (drop from sheet)) where
  pub line-inside : (from ≤ end) × (end ≤ length sheet)
  line-inside = omega (arith, line_length-le (drop from sheet), length-drop from sheet)

  line_first : lines (drop from sheet) ≡ line_at sheet from end ∷ lines (drop (end + 1) sheet)
  line_first =
      let size : end - from ≡ line_length (drop from sheet) = omega arith in
      let left = length-drop from sheet in
      by-test (ltb end (length sheet))
      (λ t.
      let l = ltb-true end (length sheet) t in
      let next : end + 1 ≡ from + suc (line_length (drop from sheet)) = omega arith in
      rw (t, size, next, ← drop-drop (suc (line_length (drop from sheet))) from sheet) (lines-ended (drop from sheet) (omega arith)))
      (λ t.
      let l = ltb-false end (length sheet) t in
      let all : length (drop from sheet) ≤ end - from = omega arith in
      let whole : line_length (drop from sheet) ≡ length (drop from sheet) = omega (arith, line_length-le (drop from sheet)) in
      let last = drop-cons sheet from 0 inside in
      rw (t, take_all (end - from) (drop from sheet) all, drop_of_length-le sheet {i = end + 1} (omega arith), lines_none, last)
      (lines-unended (get_or sheet from 0) (drop (suc from) sheet) (rw last at whole)))

-- a line that questions 4 to 7 let pass has its LF
start-ended : (before : ℕ) (l : Line) (k : Parsed ℕ) → start_of before l ≡ yes k → l.ended ≡ true
unfolding start_of columns_asked
start-ended before l k e =
    let (ns, columns, _) = bind-yes (columns_asked l) _ k e in
    (ask-yes 4 l.ended _ ns columns).0

-- ── the arrays before the first line ──

-- the first start is 0 whatever is read, so to store it beforehand changes nothing
starts-zero : (cs : List Clause) (starts : List ℕ) → sets (set starts 0 0) 0 (starts_from 0 cs) ≡ sets starts 0 (starts_from 0 cs)
unfolding starts_from
starts-zero [] starts = set-set starts 0 0 0
starts-zero (c ∷ cs) starts = ap (λ (x : List ℕ). sets x 1 (starts_from (0 + length c) cs)) (set-set starts 0 0 0)

module _ (arities rules starts literals table index : List ℕ) where
  hold-nothing : arrays arities rules (set starts 0 0) literals table index ≡ hold empty_draft.problem (arrays arities rules (set starts 0 0) literals table index)
  unfolding hold empty_draft starts_from joined goal_atoms distinct index_from
  hold-nothing = rw (set-set starts 0 0 0)

  hold-zero : (p : Problem) → hold p (arrays arities rules (set starts 0 0) literals table index) ≡ hold p (arrays arities rules starts literals table index)
  unfolding hold
  hold-zero p = rw (starts-zero p.clauses starts)

-- ── the loop ──

-- after some lines: the draft that they make, which the arrays hold, and the sheet from the next line on
pub record ReadUpTo (sheet : List ℕ) (start held : Arrays) (s : Sizes) (before from line : ℕ) : Type 0 where
  pub short : length sheet ≤ 16384
  pub empty : start.index ≡ empty_index
  pub wide : length start.arities ≡ 16
  pub draft : Draft
  pub started : Started draft
  pub kind : draft.before ≡ before
  pub sizes : s ≡ sizes_of draft.problem
  pub holds : held ≡ hold draft.problem start
  pub inside : from ≤ length sheet
  pub counted : line ≤ from + 1
  pub rest : read_lines draft line (lines (drop from sheet)) ≡ read sheet

module _ {sheet arities rules : List ℕ} (starts : List ℕ) {literals table index : List ℕ} where
  pub reached-start : length sheet ≤ 16384 → (length sheet ≡ 0 → ⊥) → index ≡ empty_index → length arities ≡ 16
      → ReadUpTo sheet (arrays arities rules (set starts 0 0) literals table index) (arrays arities rules (set starts 0 0) literals table index)
      (record { constants = 0; symbols = 0; rules = 0; counted = 0; clauses = 0; atoms = 0; literals = 0 }) 0 0 1
  unfolding sizes_of empty_draft joined goal_atoms distinct counted
  reached-start h n e w =
      record {
        short = h;
        empty = e;
        wide = w;
        draft = empty_draft;
        started = inl refl;
        kind = refl;
        sizes = refl;
        holds = hold-nothing arities rules starts literals table index;
        inside = omega arith;
        counted = omega arith;
        rest = sym (read_all sheet h n);
      }

  pub reached-end : {held : Arrays} {s : Sizes} {before from line : ℕ} → ReadUpTo sheet (arrays arities rules (set starts 0 0) literals table index) held s before from line
      → length sheet ≤ from → SheetRead (read sheet) (Ok s) (arrays arities rules starts literals table index) held
  unfolding read_lines
  reached-end reached h =
      let none = drop_of_length-le sheet h in
      let all : read sheet ≡ accepted reached.draft.problem = sym reached.rest ∙ cc (lines_none) in
      rw all (ap Ok reached.sizes, reached.holds ∙ hold-zero arities rules starts literals table index reached.draft.problem)

-- the line that starts there: its end, and questions 4 to 7 by what was handed back, its filled columns as words in a row
pub record Starts (sheet : List ℕ) (before from end : ℕ) (start : Result LineStart Question) (row : List ℕ) : Type 0 where
  pub more : from < length sheet
  pub ends : end ≡ from + line_length (drop from sheet)
  pub asked : start_of before (line_at sheet from end) ≡ start_asked start row

-- what a line comes to, by the answer of its reader
module _ (start : Arrays) (empty : start.index ≡ empty_index) (wide : length start.arities ≡ 16) where
  ends-no : (m : Asked Draft) (k : ℕ) (r : Result Sizes Question) (after : Arrays) → LineEnds start empty wide m k r after → (e : Question) → r ≡ Err e → m ≡ no (question_number e)
  ends-no (no p) k r after h e f = let g : question_number e ≡ p = rw f at h in ap no (sym g)
  ends-no (yes d) k r after h e f = let g = h.1 in cc

  ends-yes : (m : Asked Draft) (k : ℕ) (r : Result Sizes Question) (after : Arrays) → LineEnds start empty wide m k r after → (s : Sizes) → r ≡ Ok s
      → (d : Draft) × (m ≡ yes d) × (d.before ≡ k) × (s ≡ sizes_of d.problem) × (after ≡ hold d.problem start)
  ends-yes (no p) k r after h s e = absurd (rw e at h)
  ends-yes (yes d) k r after h s e = let g = h.1 in (d, refl, h.0, (cc), h.2)

module _ {sheet : List ℕ} {start held : Arrays} {s : Sizes} {before from line : ℕ} (reached : ReadUpTo sheet start held s before from line) where
  pub reached-ready : Ready s (take s.symbols held.arities) held.index
  unfolding sizes_of
  reached-ready =
      rw (reached.sizes, reached.holds)
      (draft-ready start reached.empty reached.wide reached.draft reached.started)

  module _ {end : ℕ} {handed : Result LineStart Question} {row : List ℕ} (starts : Starts sheet before from end handed row) where
    asked : start_of reached.draft.before (line_at sheet from end) ≡ start_asked handed row
    asked = rw reached.kind starts.asked

    -- a line that is refused: its question and its number are the sheet's
    line_refused : (q : ℕ) → read_line reached.draft (line_at sheet from end) ≡ no q → read sheet ≡ refused q line
    unfolding read_lines
    line_refused q e = sym reached.rest ∙ cc (line_first sheet from end starts.more starts.ends)

    -- one of questions 4 to 7 is answered no
    pub start-stop : {q : Question} → handed ≡ Err q → read sheet ≡ refused (question_number q) line
    unfolding start_asked
    start-stop {q} e = line_refused (question_number q) (start-refused reached.draft _ (question_number q) (asked ∙ rw e))

    module _ {st : LineStart} (e : handed ≡ Ok st) where
      abbrev kind : ℕ
      kind = number_of_kind st.kind

      kind-asked : start_of reached.draft.before (line_at sheet from end) ≡ yes (record { found = kind; left = drop 1 (map number_of (take st.filled row)) })
      unfolding start_asked numbers
      kind-asked = asked ∙ rw e

      module _ (answer : Result Sizes Question) (after : Arrays) (line-held : LineHeld kind (drop 1 (map number_of (take st.filled row))) answer s held after) where
        ended : LineEnds start reached.empty reached.wide (read_line reached.draft (line_at sheet from end)) kind answer after
        ended =
            line-ends start reached.empty reached.wide reached.draft reached.started _ kind _ kind-asked answer after
            (rw (reached.sizes, reached.holds) at line-held)

        -- one of questions 8 to 14 is answered no
        pub line-stop : {q : Question} → answer ≡ Err q → read sheet ≡ refused (question_number q) line
        line-stop {q} f = line_refused (question_number q) (ends-no start reached.empty reached.wide _ kind answer after ended q f)

        -- the line is read, and the next one stands behind its LF
        pub reached-next : {next : Sizes} → answer ≡ Ok next → ReadUpTo sheet start after next kind (end + 1) (line + 1)
        unfolding read_lines
        reached-next {next} f =
            let (d, q, k, z, h) = ends-yes start reached.empty reached.wide _ kind answer after ended next f in
            record {
              short = reached.short;
              empty = reached.empty;
              wide = reached.wide;
              draft = d;
              started = inr (line-begun reached.draft d _ reached.started q);
              kind = k;
              sizes = z;
              holds = h;
              inside = omega (arith, ltb-true end (length sheet) (start-ended _ _ _ kind-asked));
              counted = omega (arith, reached.counted, starts.ends);
              rest = cc (reached.rest, q, line_first sheet from end starts.more starts.ends, add-one line);
            }

-- ── a question as a refusal of its line ──

abbrev pub refusal_of : Question → ℕ → Refusal
refusal_of q line = record { number = question_number q; line = line }

module _ {A : Type 0} (r : Result A Question) (out : Result A Refusal) (line : ℕ) (P : Question → Refusal → Type 0)
    (cases : MatchResult r (λ x. out ≡ Ok x) (λ q. IsErrAnd out (P q))) where
  pub mapped-ok : {x : A} → out ≡ Ok x → r ≡ Ok x
  mapped-ok e = ok r cases e
    where
      ok : (r : Result A Question) → MatchResult r (λ x. out ≡ Ok x) (λ q. IsErrAnd out (P q)) → {x : A} → out ≡ Ok x → r ≡ Ok x
      ok (Ok y) f e = cc
      ok (Err q) f e = absurd (rw e at f)

  pub mapped-err : ((q : Question) (d : Refusal) → P q d → d ≡ refusal_of q line) → {d : Refusal} → out ≡ Err d → (q : Question) × (r ≡ Err q) × (d ≡ refusal_of q line)
  mapped-err post e = err r cases e
    where
      err : (r : Result A Question) → MatchResult r (λ x. out ≡ Ok x) (λ q. IsErrAnd out (P q)) → {d : Refusal} → out ≡ Err d → (q : Question) × (r ≡ Err q) × (d ≡ refusal_of q line)
      err (Ok y) f e = cc
      err (Err q) f {d} e = (q, refl, post q d (rw e at f))

-- what is handed on
pub handed : {A : Type 0} (r : Result A Refusal) (d : Refusal) → IsErrAnd r (λ x. x ≡ d) → r ≡ Err d
handed (Ok x) d h = absurd h
handed (Err x) d h = ap Err h
