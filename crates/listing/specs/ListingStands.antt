-- The listing made of what is left of a search is the listing of its state: by codes the atoms, by words the logged
-- clauses, by values the settings. Assumes nothing.
use Rattle.std.specs.Prelude.{ℕ, ◌-◌, ◌*◌, ◌≡◌, not, length}
use Rattle.std.proofs.Math.Path.{refl, sym, ap}
use Rattle.std.proofs.Common.{◌∙◌, arith}
use Rattle.std.proofs.Math.Option.{some}
use mathlib.Core.List.Memᴰ
use mathlib.Core.List.{[], ◌∷◌, ◌++◌, map, append-nil, append_assoc}
use Rattle.std.proofs.Math.ListN.{get_elem?, length-map}
use Rattle.definitions.specs.Lists.{◌∈◌, joined, filter}
use Rattle.definitions.specs.Words.{Atom, Literal, negate, plain, Clause, Problem, position}
use Rattle.definitions.specs.Instances.{task_of}
use Rattle.definitions.specs.Search.{is_false, is_unset, Logged, clause_of, State}
use Rattle.definitions.specs.Sheet.{Number, plus}
use Rattle.definitions.specs.Listing.{field_bytes, line_bytes, narrow, wide, answer_number, count_line, literal_numbers, logged_row, logged_line, set_line, set_literal, settings, listing_lines, listing}
use Rattle.definitions.specs.declared.Verdict.{Verdict}
use Rattle.definitions.specs.declared.Verdict.TheVariants.{Unsat, Unknown, Spent, Full}
use Rattle.theory.specs.ListLaws.{joined-append}
use Rattle.theory.specs.SearchLaws.{Consistent}
use Rattle.theory.specs.TruthLaws.{by-truth}
use Rattle.theory.specs.Unknown.{consistent}
use Rattle.theory.specs.TableLaws.{position_at}
use Rattle.theory.specs.PlaceLaws.{get_elem-in}
use Rattle.encoding.specs.Encoding.{atom_code, literal_word, clause_words}
use Rattle.encoding.specs.PositionLaws.{code_at}
use Rattle.encoding.specs.HoldLaws.{searchable-encodable, plain-limits}
use Rattle.encoding.specs.Signs.{number_of, number_word_lem}
use Rattle.encoding.specs.Values.{unset_at, false_word}
use Rattle.encoding.specs.WordTruths.{unset-at, false-word}
use Rattle.encoding.specs.ArrayLaws.{front_at}
use Rattle.units.specs.LiteralWords.{word-plain}
use Rattle.machine.specs.Finished.{Finished}
use Rattle.machine.specs.declared.Searched.{Searched}
use Rattle.listing.specs.Lines.{row_bytes, column_bytes, code_numbers, word_numbers, logged_numbers, logged_bytes, log_bytes, setting_bytes, settings_bytes, count_bytes, listing_bytes}
use Rattle.listing.specs.Left.{logged_of, log_of, setting_of, listing_of, Listable}
use Rattle.listing.specs.JoinedLaws.{joined-map, joined-joined, joined-places}
use Rattle.listing.specs.CodeParts.{code-literal}

-- ── the line of counts ──

count-stands : (v : Verdict) (s : State) → count_bytes v (length s.table) (length s.log) s.decisions s.conflicts ≡ line_bytes (count_line v s)
unfolding count_bytes column_bytes line_bytes count_line joined
count-stands v s =
    let narrows = map narrow (plus 5 ∷ plus (answer_number v) ∷ plus (length s.table) ∷ plus (length s.log) ∷ []) in
    let decisions = field_bytes (wide s.decisions) in
    let conflicts = field_bytes (wide s.conflicts) in
    let columns = joined-append field_bytes narrows (wide s.decisions ∷ wide s.conflicts ∷ []) in
    let behind = append_assoc (joined field_bytes narrows) (decisions ++ (conflicts ++ [])) (10 ∷ []) in
    cc (columns, behind, append_assoc decisions (conflicts ++ []) (10 ∷ []), append_assoc conflicts [] (10 ∷ []))

module _ (p : Problem) (budget : ℕ) (s : State) (x : Searched) (h : Finished p budget s x) where
  -- ── literals ──

  code-numbers : (l : Literal) → l.atom ∈ s.table → code_numbers x.arities (not l.positive) (atom_code l.atom) ≡ literal_numbers l
  code-numbers l m = code-literal p.constants p.arities (searchable-encodable p h.limits).codes x.arities h.its_arities l (plain-limits p l.atom (h.stands.log.limited l.atom m))

  word-numbers : (l : Literal) → l.atom ∈ s.table → word_numbers x.arities x.codes (literal_word s.table l) ≡ literal_numbers l
  unfolding word_numbers literal_word number_of
  word-numbers l m =
      let at = position s.table l.atom in
      let number = number_word_lem (not l.positive) at in
      let code = code_at s.table x.codes h.stands.log.codes l.atom m in
      rw (ap (λ (n : Number). n.negative) number, ap (λ (n : Number). n.size) number, code) (code-numbers l m)

  -- ── the log ──

  clause-numbers : (c : Clause) → ((l : Literal) → l ∈ c → l.atom ∈ s.table)
      → joined (word_numbers x.arities x.codes) (clause_words s.table c) ≡ joined literal_numbers c
  unfolding clause_words joined
  clause-numbers [] known = refl
  clause-numbers (l ∷ c) known = cc (word-numbers l (known l (Memᴰ.head refl)), clause-numbers c (λ k m. known k (Memᴰ.tail m)))

  logged-stands : (n : ℕ) (g : Logged) → get_elem? s.log n ≡ some g → logged_of x n ≡ line_bytes (logged_line g)
  unfolding logged_bytes row_bytes logged_numbers logged_row logged_line clause_words
  logged-stands n g e =
      let rule = front_at (λ (x : Logged). x.instance.rule) s.log x.store.numbers h.stands.log.numbers n g 0 e in
      let its-words = h.stands.log.stand.logged n g e in
      let count = length-map (clause_of g) (literal_word s.table) in
      let its-literals = clause-numbers (clause_of g) (h.stands.log.written g (get_elem-in s.log n g e).1) in
      rw (h.its_clauses, rule, its-words, count, its-literals)

  log-length : x.ended.run.clauses - x.given ≡ length s.log
  log-length = omega (arith, h.stands.log.clauses, h.its_clauses)

  log-stands : log_of x ≡ joined line_bytes (map logged_line s.log)
  unfolding log_bytes
  log-stands =
      rw log-length (joined-places (logged_of x) (λ g. line_bytes (logged_line g)) s.log logged-stands)
      ∙ sym (joined-map line_bytes logged_line s.log)

  -- ── the settings ──

  trail-consistent : Consistent s.trail
  trail-consistent = consistent (task_of p) h.stands.sound.inv.trailed

  setting-stands : (i : ℕ) (a : Atom) → get_elem? s.table i ≡ some a
      → setting_of x i ≡ joined (λ l. line_bytes (set_line l)) (set_literal s a)
  unfolding setting_bytes row_bytes set_line set_literal filter joined is_unset is_false plain negate
  setting-stands i a e =
      let m = (get_elem-in s.table i a e).1 in
      let place = sym (position_at s.table h.stands.log.different i a e) in
      let unset = ap (unset_at x.values) place ∙ unset-at s.table s.trail x.values h.stands.trail.valued a m in
      let negative = ap (λ (n : ℕ). false_word x.values (2 * n)) place ∙ ap (false_word x.values) (sym (word-plain s.table a)) ∙ false-word s.table s.trail x.values h.stands.trail.valued trail-consistent (plain a) m in
      let code = front_at atom_code s.table x.codes h.stands.log.codes i a 0 e in
      by-truth s.trail trail-consistent (plain a)
      (λ t u. cc (unset, negative, code, code-numbers (plain a) m, append-nil (line_bytes (set_line (plain a)))))
      (λ t u. cc (unset, negative, code, code-numbers (negate (plain a)) m, append-nil (line_bytes (set_line (negate (plain a))))))
      (λ t u. cc (unset))

  settings-stand : (v : Verdict) → settings_bytes v x.ended.run.atoms x.arities x.codes x.values ≡ joined line_bytes (map set_line (settings v s))
  unfolding settings_bytes settings joined
  settings-stand Unsat = refl
  settings-stand Unknown =
      rw h.stands.log.atoms (joined-places (setting_of x) (λ a. joined (λ l. line_bytes (set_line l)) (set_literal s a)) s.table setting-stands)
      ∙ sym (joined-map line_bytes set_line (joined (set_literal s) s.table) ∙ joined-joined (λ l. line_bytes (set_line l)) (set_literal s) s.table)
  settings-stand Spent = refl
  settings-stand Full = refl

  -- ── the listing ──

  -- the arrays' listing is the state's
  pub listing-stands : listing_of x ≡ listing x.ended.verdict s
  unfolding listing_bytes listing listing_lines joined
  listing-stands =
      let counts = count-stands x.ended.verdict s in
      let lines = joined-append line_bytes (map logged_line s.log) (map set_line (settings x.ended.verdict s)) in
      cc (log-length, h.stands.log.atoms, h.stands.decisions, h.stands.conflicts, counts, log-stands, settings-stand x.ended.verdict, lines)

  -- and what the code needs for its reads holds
  pub finished-listable : Listable x
  finished-listable =
      record {
        atoms = omega (arith, h.stands.log.atoms, h.stands.log.table_fits);
        clauses = record {
          some = omega (arith, h.its_clauses, h.stands.log.clauses);
          few = omega (arith, h.its_clauses, h.stands.log.fit.few);
          limit = h.stands.log.fit.limit;
          rising = h.stands.log.fit.rising;
          inside = h.stands.log.fit.inside;
          words = h.stands.log.fit.words;
        };
      }
