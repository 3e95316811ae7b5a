-- The text made of what is left of a search is the text of its state's clauses: by words the literals, by places the goal
-- clauses and then the log. Assumes nothing.
use Rattle.std.specs.Prelude.{ℕ, ◌+◌, ◌≡◌, not, length}
use Rattle.std.proofs.Math.Path.{refl, ap}
use Rattle.std.proofs.Common.{sym, ◌∙◌, arith, length-append}
use mathlib.Core.List.{List, [], ◌∷◌, map}
use Rattle.std.proofs.Math.Numerals.{add-one}
use Rattle.std.proofs.lemmas.List.{length-map}
use Rattle.definitions.specs.Lists.{joined, up_from}
use Rattle.definitions.specs.Words.{Atom, Literal, Clause, Problem, position}
use Rattle.definitions.specs.Search.{clause_of, State, clauses_of}
use Rattle.definitions.specs.Sheet.{Number}
use Rattle.definitions.specs.Dimacs.{table_number, cnf_of, literal_text, clause_text, cnf_text}
use Rattle.theory.specs.ListLaws.{joined-append}
use Rattle.theory.specs.PlaceLaws.{up_from-append}
use Rattle.encoding.specs.Encoding.{literal_word, clause_words}
use Rattle.encoding.specs.Signs.{number_of, number_word_lem}
use Rattle.units.specs.Units.{clause_at}
use Rattle.machine.specs.Finished.{Finished}
use Rattle.machine.specs.declared.Searched.{Searched}
use Rattle.listing.specs.JoinedLaws.{joined-map, joined-places-from}
use Rattle.cnf_writer.specs.CnfBytes.{word_text, line_text, cnf_bytes, Exportable}

-- ── a clause ──

module _ (table : List Atom) where
  word_stands : (l : Literal) → word_text (literal_word table l) ≡ literal_text (table_number table l)
  unfolding word_text literal_word table_number number_of
  word_stands l =
      let at = position table l.atom in
      let number = number_word_lem (not l.positive) at in
      rw (ap (λ (n : Number). n.negative) number, ap (λ (n : Number). n.size) number, add-one at)

  words-stand : (c : Clause) → joined word_text (clause_words table c) ≡ joined literal_text (map (table_number table) c)
  unfolding clause_words joined
  words-stand [] = refl
  words-stand (l ∷ c) = cc (word_stands l, words-stand c)

  abbrev clause_line : Clause → List ℕ
  clause_line c = clause_text (map (table_number table) c)

  line-stands : (starts literals : List ℕ) (n : ℕ) (c : Clause) → clause_at starts literals n ≡ clause_words table c → line_text starts literals n ≡ clause_line c
  unfolding line_text clause_text
  line-stands starts literals n c e = cc (words-stand c)

module _ (p : Problem) (budget : ℕ) (s : State) (x : Searched) (h : Finished p budget s x) where
  -- ── the goal clauses and then the log ──

  goals-stand : joined (line_text x.store.starts x.store.literals) (up_from 0 (length p.clauses)) ≡ joined (clause_line s.table) p.clauses
  goals-stand =
      joined-places-from (line_text x.store.starts x.store.literals) (clause_line s.table) 0 p.clauses
      (λ n c e. let z : 0 + n ≡ n = omega arith in rw z (line-stands s.table x.store.starts x.store.literals n c (h.stands.log.stand.goal n c e)))

  log-stands : joined (line_text x.store.starts x.store.literals) (up_from (length p.clauses) (length s.log)) ≡ joined (clause_line s.table) (map clause_of s.log)
  log-stands =
      joined-places-from (line_text x.store.starts x.store.literals) (λ g. clause_line s.table (clause_of g)) (length p.clauses) s.log
      (λ n g e. line-stands s.table x.store.starts x.store.literals (length p.clauses + n) (clause_of g) (h.stands.log.stand.logged n g e))
      ∙ sym (joined-map (clause_line s.table) clause_of s.log)

  lines-stand : joined (line_text x.store.starts x.store.literals) (up_from 0 x.ended.run.clauses)
      ≡ joined clause_text (map (map (table_number s.table)) (clauses_of p.clauses s))
  lines-stand =
      let first = length p.clauses in
      let behind = length s.log in
      let z : 0 + first ≡ first = omega arith in
      let all = clauses_of p.clauses s in
      rw (h.stands.log.clauses, up_from-append 0 first behind, z, joined-append (line_text x.store.starts x.store.literals) (up_from 0 first) (up_from first behind), goals-stand, log-stands)
      (sym (joined-map clause_text (map (table_number s.table)) all ∙ joined-append (clause_line s.table) p.clauses (map clause_of s.log)))

  count : x.ended.run.clauses ≡ length (map (map (table_number s.table)) (clauses_of p.clauses s))
  count = rw (length-map, length-append, length-map) h.stands.log.clauses

  -- the arrays' text is the state's
  pub cnf-stands : cnf_bytes x.ended.run x.store.starts x.store.literals ≡ cnf_text (cnf_of p.clauses s)
  unfolding cnf_bytes cnf_text cnf_of
  cnf-stands = cc (h.stands.log.atoms, count, lines-stand)

  -- and what the code needs for its reads holds
  pub finished-exportable : Exportable x.ended.run x.store.starts x.store.literals
  finished-exportable =
      record {
        limit = h.stands.log.fit.limit;
        inside = λ c b. omega (arith, h.stands.log.fit.inside c b, h.stands.log.literals_length);
      }
