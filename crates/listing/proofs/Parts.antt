-- The bytes of the listing in parts: what one call puts, and what is left to the calls behind it. Assumes nothing.
use Prim.Native.Nat.{ℕ, suc, ◌+◌, ◌-◌, ◌*◌, ◌/◌, ◌%◌, ◌≤◌, ◌<◌}
use Rattle.std.specs.Prelude.{◌≡◌, refl, Bool, true, false, eqb, length, get_or, drop}
use Rattle.std.proofs.Common.{ap, ◌∙◌, arith, append_assoc}
use Rattle.std.proofs.lemmas.List.{get_or-take, get_or-drop, length-take}
use Rattle.std.proofs.Math.Seq.{drop-cons}
use mathlib.Core.List.{List, [], ◌∷◌, ◌++◌, map, map-append}
use lib.ListN.{drop_of_length-le}
use Rattle.encoding.specs.ArrayLaws.{get_d-rising}
use Rattle.encoding.specs.CountLaws.{up_from-more, up_from-none}
use Rattle.encoding.specs.Values.{unset_at, false_word}
use Rattle.definitions.specs.Lists.{joined, up_from}
use Rattle.definitions.specs.Sheet.{Number, plus}
use Rattle.definitions.specs.Listing.{field_bytes, line_bytes, narrow, wide, answer_number, refusal_line}
use Rattle.definitions.specs.declared.Verdict.{Verdict}
use Rattle.definitions.specs.declared.Verdict.TheVariants.{Unsat, Unknown, Spent, Full}
use Rattle.theory.specs.ListLaws.{joined-append}
use Rattle.units.specs.Units.{clause_at}
use Rattle.machine.specs.declared.Searched.{Searched}
use Rattle.listing.specs.Puts.{Parts}
use Rattle.listing.specs.Lines.{column_bytes, row_bytes, code_symbol, code_constant, constant_number, code_numbers, word_numbers, logged_numbers, logged_bytes, setting_bytes, settings_bytes, count_bytes, listing_bytes}
use Rattle.listing.specs.Left.{words_columns, logged_of, log_of, setting_of, settings_of, counts_of, listing_of, Listable}

-- ── columns ──

column-append : (a b : List Number) → column_bytes (a ++ b) ≡ column_bytes a ++ column_bytes b
unfolding column_bytes
column-append a b = ap (joined field_bytes) (map-append narrow a b) ∙ joined-append field_bytes (map narrow a) (map narrow b)

-- a number with no sign, as the calls have it
abbrev pub unsigned : ℕ → Number
unsigned n = record { negative = false; size = n }

pub row-parts : (ns : List Number) → Parts (row_bytes ns) (column_bytes ns) (10 ∷ [])
unfolding row_bytes line_bytes column_bytes
row-parts ns = record { whole = refl }

-- numbers with no sign, and what follows them in a line
row-first : (sizes : List ℕ) (ns : List Number) → Parts (row_bytes (map plus sizes ++ ns)) (column_bytes (map plus sizes)) (column_bytes ns ++ (10 ∷ []))
row-first sizes ns =
    record { whole = (row-parts (map plus sizes ++ ns)).whole ∙ rw (column-append (map plus sizes) ns) (append_assoc (column_bytes (map plus sizes)) (column_bytes ns) (10 ∷ [])) }

-- ── the line of kind 5 ──

-- its wide columns and LF, behind the others
abbrev pub counts_behind : ℕ → ℕ → List ℕ
counts_behind decisions conflicts = field_bytes (wide decisions) ++ (field_bytes (wide conflicts) ++ (10 ∷ []))

pub counts-first : (x : Searched) {answer decisions : ℕ} → answer ≡ answer_number x.ended.verdict → decisions ≡ x.ended.run.decisions
    → Parts
    (counts_of x)
    (column_bytes (map plus (5 ∷ answer ∷ x.ended.run.atoms ∷ (x.ended.run.clauses - x.given) ∷ [])))
    (counts_behind decisions x.ended.run.conflicts)
unfolding count_bytes
counts-first x e f = record { whole = rw (e, f) }

-- ── what a loop puts: its first turn, and the turns behind it ──

-- the constants of an atom from the i-th on
module _ (code arity i : ℕ) where
  pub constants-first : {constant : ℕ} → i < arity → constant ≡ code_constant code i
      → Parts
      (column_bytes (map (constant_number code) (up_from i (arity - i))))
      (column_bytes (unsigned constant ∷ []))
      (column_bytes (map (constant_number code) (up_from (i + 1) (arity - (i + 1)))))
  unfolding constant_number plus
  constants-first h e = record { whole = rw (up_from-more h, e) (column-append (constant_number code i ∷ []) (map (constant_number code) (up_from (i + 1) (arity - (i + 1))))) }

  pub constants-none : arity ≤ i → column_bytes (map (constant_number code) (up_from i (arity - i))) ≡ []
  unfolding column_bytes joined
  constants-none h = rw (up_from-none h)

-- a literal's symbol, and behind it its constants
pub literal-first : (arities : List ℕ) (negative : Bool) (code : ℕ) {arity : ℕ} → arity ≡ get_or arities (code / 32768 % 16) 0
    → Parts
    (column_bytes (code_numbers arities negative code))
    (column_bytes (record { negative = negative; size = code / 32768 % 16 + 1 } ∷ []))
    (column_bytes (map (constant_number code) (up_from 0 arity)))
unfolding code_numbers code_symbol
literal-first arities negative code {arity} e = record { whole = rw (← e) (column-append (record { negative = negative; size = code / 32768 % 16 + 1 } ∷ []) (map (constant_number code) (up_from 0 arity))) }

-- the words of a clause from the i-th place on
module _ (arities table words : List ℕ) (i : ℕ) where
  pub words-first : {position : ℕ} → position ≡ get_or words i 0 / 2 → i < length words
      → Parts
      (column_bytes (joined (word_numbers arities table) (drop i words)))
      (column_bytes (code_numbers arities (eqb (get_or words i 0 % 2) 1) (get_or table position 0)))
      (column_bytes (joined (word_numbers arities table) (drop (i + 1) words)))
  unfolding joined word_numbers
  words-first p h =
      let e : i + 1 ≡ suc i = omega arith in
      record { whole = rw (p, e, drop-cons words i 0 h) (column-append (word_numbers arities table (get_or words i 0)) (joined (word_numbers arities table) (drop (suc i) words))) }

  pub words-none : length words ≤ i → column_bytes (joined (word_numbers arities table) (drop i words)) ≡ []
  unfolding joined column_bytes
  words-none h = rw (drop_of_length-le words h)

-- ── the lines of kind 6 ──

module _ (x : Searched) (n : ℕ) (listable : Listable x) (inside : n < x.ended.run.clauses - x.given) where
  -- its words are small
  pub words-small : (words : List ℕ) → words ≡ clause_at x.store.starts x.store.literals (x.given + n) → (i : ℕ) → i < length words → get_or words i 0 < 512
  unfolding clause_at
  words-small words e i h =
      let from = get_or x.store.starts (x.given + n) 0 in
      let end = get_or x.store.starts (x.given + n + 1) 0 in
      let part : i < end - from = omega (arith, rw e at h, length-take (end - from) (drop from x.store.literals)) in
      let up = get_d-rising x.store.starts x.ended.run.clauses listable.clauses.rising (x.given + n + 1) (omega arith) in
      rw (e, get_or-take (end - from) (drop from x.store.literals) i 0 part, get_or-drop from x.store.literals i 0)
      (listable.clauses.words (from + i) (omega (arith, up)))

  pub logged-first : (rule count : ℕ) (words : List ℕ) → words ≡ clause_at x.store.starts x.store.literals (x.given + n)
      → rule ≡ get_or x.store.numbers n 0 → count ≡ length words
      → Parts (logged_of x n) (column_bytes (map plus (6 ∷ rule ∷ count ∷ []))) (words_columns x words ++ (10 ∷ []))
  unfolding logged_bytes logged_numbers
  logged-first rule count words e r k =
      rw (r, k, e) (row-first (6 ∷ get_or x.store.numbers n 0 ∷ length (clause_at x.store.starts x.store.literals (x.given + n)) ∷ []) (joined (word_numbers x.arities x.codes) (clause_at x.store.starts x.store.literals (x.given + n))))

-- ── the lines of kind 7 ──

module _ (x : Searched) (i : ℕ) where
  pub setting-unset : {b : Bool} → b ≡ unset_at x.values i → b ≡ true → setting_of x i ≡ []
  unfolding setting_bytes
  setting-unset u e = cc

  module _ {b negative : Bool} (u : b ≡ unset_at x.values i) (e : b ≡ false) (f : negative ≡ false_word x.values (2 * i)) where
    setting-set : row_bytes (plus 7 ∷ code_numbers x.arities negative (get_or x.codes i 0)) ≡ setting_of x i
    unfolding setting_bytes
    setting-set = cc

    pub setting-first : Parts (setting_of x i) (column_bytes (map plus (7 ∷ []))) (column_bytes (code_numbers x.arities negative (get_or x.codes i 0)) ++ (10 ∷ []))
    setting-first = rw (← setting-set) (row-first (7 ∷ []) (code_numbers x.arities negative (get_or x.codes i 0)))

module _ (x : Searched) where
  pub settings-unknown : x.ended.verdict ≡ Unknown → joined (setting_of x) (up_from 0 x.ended.run.atoms) ≡ settings_of x
  unfolding settings_bytes
  settings-unknown e = rw e

  pub settings-none : (x.ended.verdict ≡ Unknown → ⊥) → settings_of x ≡ []
  unfolding settings_bytes
  settings-none n = none x.ended.verdict n
    where
      none : (v : Verdict) → (v ≡ Unknown → ⊥) → settings_bytes v x.ended.run.atoms x.arities x.codes x.values ≡ []
      none Unsat n = refl
      none Unknown n = absurd (n refl)
      none Spent n = refl
      none Full n = refl

  -- ── all lines ──

  pub listing-first : Parts (listing_of x) (counts_of x) (log_of x ++ settings_of x)
  unfolding listing_bytes
  listing-first = record { whole = refl }

pub refusal-first : {number question : ℕ} → question ≡ number → (line : ℕ)
    → Parts (refusal_line number line) (column_bytes (map plus (9 ∷ question ∷ line ∷ []))) (10 ∷ [])
unfolding refusal_line row_bytes
refusal-first {number} e line = rw e (row-parts (map plus (9 ∷ number ∷ line ∷ [])))
