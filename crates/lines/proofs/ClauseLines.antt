-- Lines of kind 4: what the tests of the words and the slots say of the questions, and that the clause enters by its slots.
use Prim.Native.Nat.{ℕ, ◌+◌, ◌*◌, ◌<◌, ◌≤◌}
use mathlib.Core.Path.{◌≡◌, sym, ◌∙◌, ap}
use mathlib.Core.Bool.{false}
use mathlib.Core.List.{List, [], map}
use native.Mathlib.Omega.{arith}
use lib.ListN.{length, set, take, drop, length-map}
use borrow.Author.Tests.{lt-ltb, le-leb, lt-leb}
use Rattle.definitions.specs.Lists.{is_empty}
use Rattle.definitions.specs.Words.{Clause, Pattern}
use Rattle.definitions.specs.Instances.{ground}
use Rattle.definitions.specs.Sheet.{Number}
use Rattle.definitions.specs.Questions.{Asked, no, yes, ◌>>=◌, ◌>>◌, ask, Parsed, count, literals, pattern_of, clause_count, clause_behind, clause_asked}
use Rattle.theory.specs.ListLaws.{Each}
use Rattle.theory.specs.AskedLaws.{by-asked}
use Rattle.encoding.specs.Signs.{number_of}
use Rattle.literals.specs.SlotReads.{argument, SlotsRead}
use Rattle.encoding.specs.Slots.{slot_words}
use Rattle.literals.specs.SlotReadLaws.{literals-length, clause-literals, PatternRead, patterns-read}
use Rattle.literals.specs.Entering.{ClauseSlots, Entered, entered, enter_slots}
use Rattle.lines.specs.LineReads.{Refuses, more_clauses, clause_entered, clause_answer, ClauseRead}
use Rattle.encoding.specs.declared.Sizes.{Sizes}
use Rattle.std.specs.Prelude.{Result, Ok, Err}
use Rattle.std.proofs.Common.{Bor}
use Rattle.definitions.specs.Numbered.{question_number}
use Rattle.definitions.specs.declared.Question.{Question}
use Rattle.definitions.specs.declared.Question.TheVariants.{Goals}
use Rattle.lines.proofs.SlotWalks.{SlotsWalked, slots-refused, slots-walked, left_over, none_left, words-front}
use Rattle.literals.specs.ReadClauseLaws.{slots-limits, enter-front, patterns-kept}

-- a line that is refused leaves the arrays free
pub clause-refused : {m : Asked Clause} {q : ℕ} (r : Result Sizes Question) (s : Sizes) (a b c d e f g h : List ℕ) → m ≡ no q → Refuses r q → ClauseRead m r s a b c d e f g h
clause-refused r s a b c d e f g h p n = rw p n

-- ── the count ──

abbrev pub clause_of_row : List ℕ → ℕ → List ℕ → ℕ → Asked Clause
clause_of_row line constants arities clauses = clause_asked constants arities clauses (drop 1 (map number_of line))

module _ (line : List ℕ) (constants : ℕ) (arities : List ℕ) (clauses : ℕ) where
  pub clause-uncounted : {q : ℕ} → count 8 0 8 (drop 1 (map number_of line)) ≡ no q → clause_of_row line constants arities clauses ≡ no q
  unfolding clause_asked clause_count ◌>>=◌
  clause-uncounted e = rw e

  module _ {n : ℕ} (read : count 8 0 8 (drop 1 (map number_of line)) ≡ yes (record { found = n; left = drop 2 (map number_of line) })) where
    pub clauses-full : clauses ≡ 64 → clause_of_row line constants arities clauses ≡ no 9
    unfolding clause_asked clause_count ask ◌>>=◌ ◌>>◌
    clauses-full h = rw (read, h)

    clause-counted : clauses < 64 → clause_of_row line constants arities clauses ≡ clause_behind constants arities (record { found = n; left = drop 2 (map number_of line) })
    unfolding clause_asked clause_count ask ◌>>=◌ ◌>>◌
    clause-counted h = rw (read, lt-ltb clauses 64 h)

-- ── the literals ──

-- question 11 and the clause, of the literals as slots have them
unfoldable clause_from : Asked (Parsed (List Pattern)) → Asked Clause
clause_from (no q) = no q
clause_from (yes w) = ask 11 (is_empty w.left) >> yes (map (ground []) w.found)

grounded : (constants : ℕ) (arities : List ℕ) (k : ℕ) (ns : List Number)
    → clause_behind constants arities (record { found = k; left = ns }) ≡ clause_from (literals (argument false constants) pattern_of arities k ns)
unfolding clause_behind clause_from ◌>>=◌
grounded constants arities k ns =
    rw (clause-literals constants arities k ns)
    (by-asked (literals (argument false constants) pattern_of arities k ns) (λ q e. cc) (λ w e. cc))

module _ (line : List ℕ) (s : Sizes) (arities : List ℕ) (n : ℕ) (before after : List ℕ)
    (counted : count 8 0 8 (drop 1 (map number_of line)) ≡ yes (record { found = n; left = drop 2 (map number_of line) })) (room : s.clauses < 64) where
  abbrev all_literals : Asked (Parsed (List Pattern))
  all_literals = literals (argument false s.constants) pattern_of arities n (drop 2 (map number_of line))

  behind-count : clause_of_row line s.constants arities s.clauses ≡ clause_from all_literals
  behind-count = clause-counted line s.constants arities s.clauses counted room ∙ grounded s.constants arities n (drop 2 (map number_of line))

  pub clause-unread : (e : Question) → SlotsRead all_literals (Err e) before after → clause_of_row line s.constants arities s.clauses ≡ no (question_number e)
  unfolding clause_from
  clause-unread e r = rw (behind-count, slots-refused false _ _ n _ before after e r)

  module _ (words : Bor (List ℕ)) (r : SlotsRead all_literals (Ok words) before after) where
    walked : SlotsWalked all_literals words.now before after
    walked = slots-walked false _ _ n _ before after words r

    pub clause-over : (length words.now ≡ 0 → ⊥) → clause_of_row line s.constants arities s.clauses ≡ no 11
    unfolding ask ◌>>◌ clause_from
    clause-over h = rw (behind-count, walked.read, left_over words.now walked.walk.left walked.columns h)

    clause : Clause
    clause = map (ground []) walked.walk.found

    clause-found : length words.now ≡ 0 → clause_of_row line s.constants arities s.clauses ≡ yes clause
    unfolding ask ◌>>◌ clause_from clause
    clause-found h = rw (behind-count, walked.read, none_left words.now walked.walk.left walked.columns h)

    found-count : length walked.walk.found ≡ n
    found-count = literals-length (argument false s.constants) pattern_of arities n (drop 2 (map number_of line)) walked.walk walked.read

    clause-count : length clause ≡ n
    unfolding clause
    clause-count = length-map walked.walk.found (ground []) ∙ found-count

    found-read : Each (PatternRead false s.constants arities) walked.walk.found
    found-read = patterns-read false s.constants arities n (drop 2 (map number_of line)) walked.walk walked.read

    module _ (few : n ≤ 8) (slots : 32 ≤ length before) where
      words-in : take (4 * n) after ≡ slot_words walked.walk.found
      words-in = words-front before walked.walk.found walked.words n found-count (omega arith)

      pub clause-slots : s.constants ≤ 32 → length arities ≤ 16 → ClauseSlots after n
      clause-slots constants declared = slots-limits s.constants constants arities declared walked.walk.found found-read after n found-count words-in

      module _ (whole : length words.now ≡ 0) (atoms : ℕ) (literals₀ table₀ index₀ literals₁ table₁ index₁ : List ℕ)
          (state : entered atoms (s.literals + n) literals₁ table₁ index₁ ≡ enter_slots after 0 n (entered s.atoms s.literals literals₀ table₀ index₀)) where
        abbrev result : Entered
        result = entered atoms (s.literals + n) literals₁ table₁ index₁

        clause-enters : clause_entered clause s literals₀ table₀ index₀ ≡ result
        unfolding clause_entered clause
        clause-enters =
            rw (clause-count, patterns-kept s.constants arities walked.walk.found found-read)
            (sym (state ∙ enter-front after (slot_words walked.walk.found) n _ words-in))

        module _ (starts : List ℕ) where
          clause-held : (a : Result Sizes Question) → a ≡ clause_answer result s
              → ClauseRead (clause_of_row line s.constants arities s.clauses) a s
              starts (set starts (s.clauses + 1) (s.literals + n)) literals₀ literals₁ table₀ table₁ index₀ index₁
          clause-held a e =
              let same = sym clause-enters in
              rw (clause-found whole)
              (record {
                answer = e ∙ ap (λ (x : Entered). clause_answer x s) same;
                starts = rw clause-count;
                literals = ap (λ (x : Entered). x.literals) same;
                table = ap (λ (x : Entered). x.table) same;
                index = ap (λ (x : Entered). x.index) same;
              })

          pub clause-many : 64 < atoms
              → ClauseRead (clause_of_row line s.constants arities s.clauses) (Err Goals) s
              starts (set starts (s.clauses + 1) (s.literals + n)) literals₀ literals₁ table₀ table₁ index₀ index₁
          unfolding clause_answer
          clause-many h = clause-held (Err Goals) (cc (lt-leb atoms 64 h))

          pub clause-read : atoms ≤ 64
              → ClauseRead (clause_of_row line s.constants arities s.clauses) (Ok (more_clauses result s)) s
              starts (set starts (s.clauses + 1) (s.literals + n)) literals₀ literals₁ table₀ table₁ index₀ index₁
          unfolding clause_answer
          clause-read h = clause-held (Ok (more_clauses result s)) (cc (le-leb atoms 64 h))
