-- A clause enters the arrays from its slots: they hold the problem with the clause. Assumes nothing.
use Rattle.std.specs.Prelude.{ℕ, ◌+◌, ◌-◌, ◌*◌, ◌≤◌, ◌≡◌, get_or}
use Rattle.std.proofs.Math.Path.{refl, sym, ap}
use Rattle.std.proofs.Common.{◌∙◌, length-append}
use Rattle.std.proofs.Math.Bool.{not}
use mathlib.Core.List.Memᴰ
use mathlib.Core.List.{List, [], ◌∷◌, ◌++◌, map, append-nil, append_assoc, map-append}
use native.Mathlib.Omega.{arith}
use Rattle.std.proofs.Math.ListN.{length, set}
use Rattle.std.proofs.lemmas.List.{length-map}
use Rattle.std.proofs.Math.Seq.{sets}
use Rattle.definitions.specs.Lists.{◌∈◌, joined, Different}
use Rattle.definitions.specs.Words.{Atom, Literal, Clause, Problem, goal_atoms, position}
use Rattle.definitions.specs.Questions.{with_clause}
use Rattle.definitions.specs.Search.{enter}
use Rattle.theory.specs.WordLaws.{goal-of}
use Rattle.theory.specs.SearchLaws.{enter-new}
use Rattle.theory.specs.Limits.{LiteralLimits}
use Rattle.theory.specs.TableLaws.{enter_all, by-known, enter-known, enter-fresh, enter-different, enter-each, atoms_of, goal-atoms-more, goal-atoms-different, joined-more, enter-all-behind, position-behind}
use Rattle.column.specs.Sets.{sets_more}
use Rattle.encoding.specs.Signs.{word_of, word_number}
use Rattle.encoding.specs.Slots.{as_pattern, slot_words}
use Rattle.encoding.specs.Encoding.{atom_code, literal_word, clause_words, index_from, empty_index, Arrays, hold}
use Rattle.encoding.specs.CodeLaws.{CodeLimits, AtomLimits, index-more, index-within, index-known, index-new}
use Rattle.encoding.specs.HoldLaws.{Encodable, literal-atom, goal-limits, words-length}
use Rattle.encoding.specs.PositionLaws.{literal-word-append, all-words-append}
use Rattle.literals.specs.Entering.{Entered, entered, enter_literal, enter_slots}
use Rattle.literals.specs.EnteringLaws.{literal-new, literal-known}
use Rattle.literals.specs.ClauseSlotLaws.{slot-code, slot-sign, SlotsFrom, first_slot, later-slots}

length_more : {A : Type 0} (l : List A) (x : A) → length (l ++ (x ∷ [])) ≡ length l + 1
length_more l x = length-append l (x ∷ [])

-- ── a clause enters ──

entered-ext : {a a' n n' : ℕ} {l l' t t' i i' : List ℕ} → a ≡ a' → n ≡ n' → l ≡ l' → t ≡ t' → i ≡ i' → entered a n l t i ≡ entered a' n' l' t' i'
entered-ext p q r s t = cc

-- what the arrays hold of a table and of the words of literals
unfoldable state_of : List ℕ → List ℕ → List Atom → List ℕ → Entered
state_of literals table gs ws =
    entered (length gs) (length ws) (sets literals 0 ws) (sets table 0 (map atom_code gs)) (index_from 0 gs empty_index)

module _ (constants : ℕ) (arities : List ℕ) (limits : CodeLimits constants arities) (literals table : List ℕ) where
  literal-enters :
      (gs : List Atom) (ws : List ℕ) → ((g : Atom) → g ∈ gs → AtomLimits constants arities g) → Different gs
      → (l : Literal) → AtomLimits constants arities l.atom
      → enter_literal (atom_code l.atom) (word_of (not l.positive) 0) (state_of literals table gs ws)
      ≡ state_of literals table (enter gs l.atom) (ws ++ (literal_word (enter gs l.atom) l ∷ []))
  unfolding state_of literal_word
  literal-enters gs ws each d l h =
      let a = l.atom in
      let negative = not l.positive in
      let e = entered (length gs) (length ws) (sets literals 0 ws) (sets table 0 (map atom_code gs)) (index_from 0 gs empty_index) in
      by-known a gs
      (λ m.
      let found = index-known constants arities limits gs each d a m in
      let word : 2 * (get_or (index_from 0 gs empty_index) (atom_code a) 0 - 1) + word_of negative 0 ≡ word_of negative (position gs a) =
      omega (arith, found, word_number negative (position gs a)) in
      literal-known (atom_code a) (word_of negative 0) e (λ z. omega (arith, found, z))
      ∙ rw (enter-known gs a m)
      (entered-ext refl (sym (length_more ws _)) (rw word (sets_more literals ws (_ ∷ []) (length ws) refl)) refl refl))
      (λ out.
      let gs' = gs ++ (a ∷ []) in
      let word : 2 * length gs + word_of negative 0 ≡ word_of negative (position gs' a) =
      omega (arith, position-behind gs [] a out, word_number negative (position gs' a)) in
      let codes : set (sets table 0 (map atom_code gs)) (length gs) (atom_code a) ≡ sets table 0 (map atom_code gs') =
      rw (map-append atom_code gs (a ∷ [])) (sets_more table (map atom_code gs) (atom_code a ∷ []) (length gs) (sym (length-map gs atom_code))) in
      let places : 0 + length gs + 1 ≡ length gs + 1 = omega arith in
      literal-new (atom_code a) (word_of negative 0) e (index-new constants arities limits gs each a h out)
      ∙ rw (enter-fresh gs a out)
      (entered-ext (sym (length_more gs a)) (sym (length_more ws _)) (rw word (sets_more literals ws (_ ∷ []) (length ws) refl)) codes (sym (rw places at (index-more 0 gs a empty_index)))))

  clause-enters :
      (slots : List ℕ) (i : ℕ) (c : Clause) → SlotsFrom slots i c → ((l : Literal) → l ∈ c → AtomLimits constants arities l.atom)
      → (gs : List Atom) (ws : List ℕ) → ((g : Atom) → g ∈ gs → AtomLimits constants arities g) → Different gs
      → enter_slots slots i (length c) (state_of literals table gs ws)
      ≡ state_of literals table (enter_all gs (atoms_of c)) (ws ++ clause_words (enter_all gs (atoms_of c)) c)
  unfolding enter_slots enter_all atoms_of clause_words
  clause-enters slots i [] s keeps gs ws each d = rw (append-nil ws)
  clause-enters slots i (l ∷ c) s keeps gs ws each d =
      let h = keeps l (Memᴰ.head refl) in
      let slot = first_slot slots i l c s in
      let code = slot-code constants arities limits l h slots (4 * i) slot in
      let sign = slot-sign constants arities limits l h slots (4 * i) slot in
      let first = enter gs l.atom in
      let all = enter_all first (atoms_of c) in
      let (more, behind) = enter-all-behind first (atoms_of c) in
      let word : literal_word first l ≡ literal_word all l =
      sym (ap (λ t. literal_word t l) behind ∙ literal-word-append first more l (enter-new gs l.atom)) in
      ap (enter_slots slots (i + 1) (length c)) (rw (code, sign) (literal-enters gs ws each d l h))
      ∙ clause-enters
      slots
      (i + 1)
      c
      (later-slots slots i l c s)
      (λ k m. keeps k (Memᴰ.tail m))
      first
      (ws ++ (literal_word first l ∷ []))
      (enter-each (AtomLimits constants arities) gs l.atom each h)
      (enter-different gs l.atom d)
      ∙ ap (state_of literals table all) (append_assoc ws (literal_word first l ∷ []) (clause_words all c) ∙ ap (λ w. ws ++ (w ∷ clause_words all c)) word)

-- ── a problem with one clause more ──

-- the counts and the arrays that a clause changes, of a problem that the arrays hold
abbrev pub entered_of : Problem → Arrays → Entered
entered_of p before =
    entered
    (length (goal_atoms p.clauses))
    (length (joined (λ (x : Clause). x) p.clauses))
    (hold p before).literals
    (hold p before).table
    (hold p before).index

module _ (p : Problem) (before : Arrays) where
  hold-state :
      before.index ≡ empty_index
      → entered_of p before
      ≡ state_of before.literals before.table (goal_atoms p.clauses) (joined (clause_words (goal_atoms p.clauses)) p.clauses)
  unfolding hold state_of
  hold-state e = rw e (entered-ext refl (sym (words-length (goal_atoms p.clauses) p.clauses)) refl refl refl)

  -- the index names only atoms of the table
  pub hold-index-within : before.index ≡ empty_index → (code : ℕ) → get_or (hold p before).index code 0 ≤ length (goal_atoms p.clauses)
  unfolding hold
  hold-index-within e code = rw e (index-within (goal_atoms p.clauses) code)

module _ (p : Problem) (limits : Encodable p) (before : Arrays) (empty : before.index ≡ empty_index)
    (c : Clause) (keeps : (l : Literal) → l ∈ c → LiteralLimits p l) (slots rest : List ℕ) (begins : slots ≡ slot_words (map as_pattern c) ++ rest) where
  from_start : SlotsFrom slots 0 c
  from_start = record { front = []; rest = rest; here = refl; split = begins }

  -- what the code that enters the clause leaves in the arrays
  pub clause-held :
      enter_slots slots 0 (length c) (entered_of p before)
      ≡ entered_of (with_clause p c) before
  unfolding with_clause
  clause-held =
      let gs = goal_atoms p.clauses in
      let all = enter_all gs (atoms_of c) in
      let (more, behind) = enter-all-behind gs (atoms_of c) in
      let old : joined (clause_words all) p.clauses ≡ joined (clause_words gs) p.clauses =
      rw behind (all-words-append gs more p.clauses (λ d m l n. goal-of p.clauses d l m n)) in
      let words : joined (clause_words all) (p.clauses ++ (c ∷ [])) ≡ joined (clause_words gs) p.clauses ++ clause_words all c =
      joined-more (clause_words all) p.clauses c ∙ ap (λ ws. ws ++ clause_words all c) old in
      ap (enter_slots slots 0 (length c)) (hold-state p before empty)
      ∙ clause-enters
      p.constants
      p.arities
      limits.codes
      before.literals
      before.table
      slots
      0
      c
      from_start
      (λ l m. literal-atom p l (keeps l m))
      gs
      (joined (clause_words gs) p.clauses)
      (goal-limits p limits)
      (goal-atoms-different p.clauses)
      ∙ sym (hold-state (with_clause p c) before empty ∙ rw (goal-atoms-more p.clauses c) (ap (state_of before.literals before.table all) words))
