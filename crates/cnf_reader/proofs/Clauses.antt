-- The clauses that the lines make: what a line stores stands in front of what the lines behind it store. Assumes nothing.
use Rattle.std.proofs.Common.{◌≡◌, refl, sym, ap, true, false, nat_eq, ◌∙◌, ℕ, zero, suc, ◌+◌, List, [], ◌∷◌, map, length, set, replicate, arith, eqb-true}
use Rattle.std.proofs.lemmas.Bool.{false≢true}
use Rattle.std.proofs.Math.ListN.{length-map}
use Rattle.definitions.specs.Lists.{is_empty, joined}
use Rattle.definitions.specs.Sheet.{Number}
use Rattle.definitions.specs.Questions.{no, yes, ◌>>=◌, ◌>>◌, ask}
use Rattle.definitions.specs.Dimacs.{clause_line_at, clauses_at}
use Rattle.theory.specs.AskedLaws.{bind-yes, ask-yes, yes-injective}
use Rattle.column.specs.Sets.{sets-append}
use Rattle.encoding.specs.Encoding.{starts_from}
use Rattle.cnf_reader.specs.CnfArrays.{number_word}
use Rattle.cnf_reader.specs.Lines.{LineHeld, ClausesHeld, CnfHeld}

-- what the rest of the lines comes to, so do all, with the clauses that stand
pub record ClausesGoOn (atoms clauses : ℕ) (text : List ℕ) (starts0 literals0 : List ℕ) (left : ℕ) (rest : List ℕ) (i used : ℕ) (starts literals : List ℕ) : Type 0 where
  pub none : clauses_at atoms left rest ≡ no 22 → clauses_at atoms clauses text ≡ no 22
  pub held : (starts' literals' : List ℕ) → ClausesHeld (clauses_at atoms left rest) i used starts literals starts' literals'
      → ClausesHeld (clauses_at atoms clauses text) 0 0 starts0 literals0 starts' literals'

module _ {atoms clauses left i used : ℕ} {text starts0 literals0 rest starts literals : List ℕ}
    (on : ClausesGoOn atoms clauses text starts0 literals0 left rest i used starts literals) where
  -- no line is left: nothing may stand behind them
  module _ (last : left ≡ 0) where
    pub clauses-end : nat_eq (length rest) 0 ≡ true → ClausesHeld (clauses_at atoms clauses text) 0 0 starts0 literals0 (set starts i used) literals
    unfolding clauses_at is_empty ask ◌>>◌ starts_from joined
    clauses-end e = on.held (set starts i used) literals (rw last (at_end rest e))
      where
        at_end : (rest : List ℕ) → nat_eq (length rest) 0 ≡ true → ClausesHeld (clauses_at atoms 0 rest) i used starts literals (set starts i used) literals
        at_end [] e = record { clauses = []; reads = refl; places = refl; words = refl }
        at_end (b ∷ bs) e = absurd (omega (arith, eqb-true (length (b ∷ bs)) 0 e))

    pub clauses-more : nat_eq (length rest) 0 ≡ false → clauses_at atoms clauses text ≡ no 22
    unfolding clauses_at is_empty ask ◌>>◌
    clauses-more n = on.none (rw last (behind rest n))
      where
        behind : (rest : List ℕ) → nat_eq (length rest) 0 ≡ false → clauses_at atoms 0 rest ≡ no 22
        behind [] n = absurd (false≢true (sym n))
        behind (b ∷ bs) n = refl

  module _ (place : ℕ) (more : left ≡ suc place) where
    on-line : clauses_at atoms left rest ≡ (clause_line_at atoms 8 rest >>= λ c. clauses_at atoms place c.behind >>= λ cs. yes (c.found ∷ cs))
    unfolding clauses_at
    on-line = rw more

    pub clauses-none : clause_line_at atoms 8 rest ≡ no 22 → clauses_at atoms clauses text ≡ no 22
    unfolding ◌>>=◌
    clauses-none e = on.none (on-line ∙ rw e)

    pub clauses-turn : (end : ℕ) (behind words : List ℕ) → LineHeld (clause_line_at atoms 8 rest) used literals end behind words
        → ClausesGoOn atoms clauses text starts0 literals0 place behind (i + 1) end (set starts i used) words
    unfolding ◌>>=◌ starts_from joined
    clauses-turn end behind words line =
        record {
          none = λ h. on.none (on-line ∙ rw (line.reads, h));
          held = λ starts' literals' h.
              let next : i + 1 ≡ suc i = omega arith in
              let ends : end ≡ used + length (map number_word line.numbers) = omega (arith, line.place, length-map line.numbers number_word) in
              on.held starts' literals' (record {
                clauses = line.numbers ∷ h.clauses;
                reads = on-line ∙ rw (line.reads, h.reads);
                places = rw (next, line.place) at h.places;
                words = h.words ∙ rw (line.stored, ends) (sets-append literals used (map number_word line.numbers) (joined (map number_word) h.clauses));
              });
        }

-- exactly as many clauses as were asked for
clauses-count : (atoms k : ℕ) (bs : List ℕ) (cs : List (List Number)) → clauses_at atoms k bs ≡ yes cs → length cs ≡ k
unfolding clauses_at
clauses-count atoms zero bs cs e = let none = yes-injective (ask-yes 22 (is_empty bs) (yes []) cs e).1 in rw (← none)
clauses-count atoms (suc k) bs cs e =
    let (c, p, f) = bind-yes (clause_line_at atoms 8 bs) _ cs e in
    let (more, q, g) = bind-yes (clauses_at atoms k c.behind) _ cs f in
    let all = yes-injective g in
    rw (← all) (ap suc (clauses-count atoms k c.behind more q))

pub all-held : (atoms clauses : ℕ) (text starts literals : List ℕ)
    → ClausesHeld (clauses_at atoms clauses text) 0 0 (replicate 577 0) (replicate 4608 0) starts literals
    → CnfHeld (clauses_at atoms clauses text) atoms (record { atoms = atoms; clauses = clauses; starts = starts; literals = literals })
all-held atoms clauses text starts literals h =
    record { clauses = h.clauses; reads = h.reads; is = rw (h.places, h.words, clauses-count atoms clauses text h.clauses h.reads) }
