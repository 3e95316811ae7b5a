-- UNSAT rests on the goal clauses and the log alone: the invariant of the search, over one assignment that satisfies both, leaves nothing
-- where the search ends with UNSAT. And each logged clause follows from one filling of its rule. Assumes nothing.
use Prim.Native.Nat.{ℕ, suc, ◌-◌, ◌≤◌}
use Rattle.std.specs.Prelude.{◌≡◌, refl, false, List, map, length, take, get_or}
use Rattle.std.proofs.Common.{sym, ◌∙◌, inl, inr}
use Rattle.std.proofs.Math.Path.{ap, subst}
use Rattle.std.proofs.Math.Bool.{not, not-not}
use Rattle.std.proofs.Math.Option.{none, some}
use mathlib.Core.List.Memᴰ
use native.Mathlib.Omega.{arith}
use Rattle.std.proofs.Math.ListN.{get_elem?}
use Rattle.definitions.specs.Lists.{◌∈◌, lists_all}
use Rattle.definitions.specs.Words.{Atom, Literal, negate, Clause, Problem, position}
use Rattle.definitions.specs.Bounds.{room_bytes, export_bytes}
use Rattle.definitions.specs.Instances.{ground, Instance, fill, Task, task_of, FillingOf}
use Rattle.definitions.specs.Meaning.{Assignment, Makes, SatisfiesClause, SatisfiesClauses, SatisfiesFilling, head_false, body_true, Satisfies}
use Rattle.definitions.specs.Sheet.{Number, plus, sheet_all}
use Rattle.definitions.specs.Questions.{yes, Reading, refused, accepted, read}
use Rattle.definitions.specs.Search.{Logged, clause_of, State, clauses_of, done, search}
use Rattle.definitions.specs.Listing.{logged_row, listing, refusal_line, listing_all}
use Rattle.definitions.specs.Text.{bytes, text_all}
use Rattle.definitions.specs.Dimacs.{Cnf, table_number, cnf_of, read_cnf, CnfLimits}
use Rattle.definitions.specs.Call.{searched, answered, answer_of, call, listed_part, printed_of, printed, too_small, improper, proper}
use Rattle.definitions.specs.Export.{export_call, export_text, export_after, printed_cnf, room_too_small, export_too_small, improper_sheet, proper_sheet}
use Rattle.definitions.specs.Sheets.{Answers, hands_back, Row, of_kind}
use Rattle.definitions.specs.Carried.{Entailed, NumberAssignment, SatisfiesNumberClause, SatisfiesNumberClauses, Unsatisfiable}
use Rattle.definitions.specs.CarriedTrials.{both_sheet, both_read, both_ends, both_counts, both-counts}
use Rattle.definitions.specs.declared.Verdict.{Verdict}
use Rattle.definitions.specs.declared.Verdict.TheVariants.{Unsat}
use Rattle.definitions.specs.declared.Counts.{Counts}
use Rattle.definitions.specs.declared.Answer.TheVariants.{Answered}
use Rattle.theory.specs.Tests.{by-option, apart, some-injective}
use Rattle.theory.specs.ListLaws.{map-nil, each_append}
use Rattle.theory.specs.AskedLaws.{yes-injective}
use Rattle.theory.specs.WordLaws.{makes_one, makes-not-both}
use Rattle.theory.specs.TableLaws.{at_position}
use Rattle.theory.specs.SearchLaws.{clause-head, clause-taken, clause-cases}
use Rattle.theory.specs.InstanceLaws.{only-fillings, filled-rule, filled-heads, filled-body}
use Rattle.theory.specs.TwoWayLaws.{lines-rules}
use Rattle.theory.specs.Limits.{Limits, limits-searchable, accepted-limits, accepted-from-lines}
use Rattle.theory.specs.ListingLaws.{listing_begins}
use Rattle.theory.proofs.ListedClauses.{logged-rows, row-clause-read}
use Rattle.theory.specs.Trail.{World, Laws, LogOk}
use Rattle.theory.specs.CarriedLaws.{UnsatLog}
use Rattle.theory.proofs.Answers.{search-inv}
use Rattle.theory.proofs.Choices.{logged-ok}
use Rattle.theory.proofs.Invariants.{search-sound}
use Rattle.theory.specs.NumberLaws.{clauses-short}
use Rattle.theory.specs.Theorems.{search-comes-to-an-answer}
use Rattle.theory.specs.CallLaws.{large-room, call-comes, accepted-injective, printed-listing}
use Rattle.theory.specs.ExportLaws.{export-comes, export-as-first-call}
use Rattle.theory.proofs.ExportLaws.{exported-read-back, printed-read-back}

-- ── no assignment satisfies the goal clauses and the log ──

module _ (k : Task) (v : Assignment) (goals : SatisfiesClauses v k.clauses) where
  -- one candidate, the assignment itself: it has the literals that it makes true, nothing rules it out, and it obeys the logged clauses that
  -- it satisfies
  abbrev assignment_world : World
  assignment_world =
      record { Candidate = Unit {0}; has = λ x l. Makes v l; out = λ x. ⊥; out-has = λ x l f. absurd f; obeyed = λ g. SatisfiesClause v (clause_of g) }

  -- it can't make every literal of a clause false that it satisfies
  satisfied-stands : (c : Clause) → SatisfiesClause v c → ((l : Literal) → l ∈ c → Makes v (negate l)) → ⊥
  satisfied-stands c w h = makes-not-both v w.literal w.holds (h w.literal w.inside)

  -- where it makes the heads of a logged clause true, the literal that it makes true there is the one taken
  taken_made : (g : Logged) → SatisfiesClause v (clause_of g) → (l : Literal) → g.taken ≡ some l → ((h : Literal) → h ∈ g.instance.heads → Makes v h) → Makes v l
  taken_made g w l e hs =
      elim (clause-cases g w.literal w.inside) [
        | inl r ↦ absurd (makes-not-both v r.0 (hs r.0 r.1) (subst (Makes v) r.2 w.holds))
        | inr q ↦ subst (Makes v) (some-injective (sym q ∙ e)) w.holds
      ]

  assignment-laws : Laws k assignment_world
  assignment-laws =
      record {
        total = λ x l m. makes_one v l;
        goals = λ c m x h. satisfied-stands c (goals c m) h;
        logged = λ g w x h. satisfied-stands (clause_of g) w h;
        gives = λ g w l e x hs. taken_made g w l e hs;
      }

  -- where the search ends with UNSAT no candidate is left, so the assignment doesn't satisfy the log
  log-unsatisfied : UnsatLog k v
  log-unsatisfied = record { unsat-log = λ budget s e obeyed. ((search-inv k assignment_world assignment-laws budget Unsat s e).1 obeyed).1 tt }

module _ (p : Problem) (budget : ℕ) (s : State) (e : search p budget ≡ done Unsat s) where
  pub unsat-carried : (v : Assignment) → SatisfiesClauses v (clauses_of p.clauses s) → ⊥
  unfolding search task_of
  unsat-carried v h =
      (log-unsatisfied (task_of p) v (λ c m. h c (Memᴰ.append_left (map clause_of s.log) m))).unsat-log budget s e
      (λ g m. h (clause_of g) (Memᴰ.append_right p.clauses (Memᴰ.map clause_of m)))

  -- ── so it is with the table's numbers for atoms ──

  -- number n of the text is the atom at place n - 1 of the table
  abbrev by_number : NumberAssignment → Assignment
  by_number v a = v (suc (position s.table a))

  numbers-satisfied : (v : NumberAssignment) (c : Clause) → SatisfiesNumberClause v (map (table_number s.table) c) → SatisfiesClause (by_number v) c
  unfolding table_number
  numbers-satisfied v c w =
      let (l, m, q) = Memᴰ.of_map (table_number s.table) c w.inside in
      let same : by_number v l.atom ≡ not (not l.positive) = subst (λ (n : Number). v n.size ≡ not n.negative) (sym q) w.holds in
      record { literal = l; inside = m; holds = same ∙ not-not l.positive }

  pub cnf-carried : (v : NumberAssignment) → SatisfiesNumberClauses v (cnf_of p.clauses s).clauses → ⊥
  unfolding cnf_of
  cnf-carried v h =
      unsat-carried (by_number v) (λ c m. numbers-satisfied v c (h (map (table_number s.table) c) (Memᴰ.map (map (table_number s.table)) m)))

-- the text of an export that answers UNSAT
pub exported-carried : (sheet : List ℕ) (budget : ℕ) (room export : List ℕ) (c : Counts) → export_call sheet budget room export ≡ Answered c → c.verdict ≡ Unsat
    → Unsatisfiable (take (length (export_text sheet budget room export)) (export_after sheet budget room export))
exported-carried sheet budget room export c e u =
    elim (export-comes sheet budget room export) [
      | room_too_small h x ↦ let z = sym x.handed_back ∙ e in apart (cc)
      | export_too_small h g x ↦ let z = sym x.handed_back ∙ e in apart (cc)
      | improper_sheet h g q n d x ↦ let z = sym x.handed_back ∙ e in apart (cc)
      | proper_sheet h g p d w s ends x ↦ let z = sym x.handed_back ∙ e in
          let unsat : w ≡ Unsat = cc in
          record {
            back = cnf_of p.clauses s;
            reads = exported-read-back sheet budget room export h g p d w s ends;
            none = cnf-carried p budget s (subst (λ (y : Verdict). search p budget ≡ done y s) unsat ends);
          }
    ]

-- ── so it is with what the program prints ──

-- a listing whose first line begins like that of UNSAT
unsat-begins : (v : Verdict) (s : State) → take 8 (listing v s) ≡ bytes "   5   0" → v ≡ Unsat
unfolding text_all listing_all
unsat-begins v s h = listing_begins v Unsat s (bytes "   5   0") h refl

-- a refusal's line doesn't
refusal-begins : (q n : ℕ) → take 8 (refusal_line q n) ≡ bytes "   5   0" → ⊥
unfolding text_all lists_all sheet_all listing_all
refusal-begins q n h = let z : ◌≡◌ {A = ℕ} 57 53 = ap (λ (bs : List ℕ). get_or bs 3 0) h in omega arith

-- the text that the program prints where it lists UNSAT
pub printed-carried : (sheet : List ℕ) (budget : ℕ) → take 8 (printed sheet budget) ≡ bytes "   5   0" → Unsatisfiable (printed_cnf sheet budget)
unfolding printed printed_of answered
printed-carried sheet budget h = from-reading (read sheet) refl
  where
    from-reading : (r : Reading) → read sheet ≡ r → Unsatisfiable (printed_cnf sheet budget)
    from-reading (refused q n) d = absurd (refusal-begins q n (rw d at h))
    from-reading (accepted p) d =
        let ends = search-comes-to-an-answer sheet p d budget in
        let begins = ap (take 8) (sym (printed-listing sheet p d budget ends.verdict ends.state ends.is)) ∙ h in
        let unsat = unsat-begins ends.verdict ends.state begins in
        let its : search p budget ≡ done Unsat ends.state = cc ends.is in
        record {
          back = cnf_of p.clauses ends.state;
          reads = printed-read-back sheet p d budget Unsat ends.state its;
          none = cnf-carried p budget ends.state its;
        }

-- ── what an assignment says of other atoms and numbers is never asked ──

module _ (sheet : List ℕ) (p : Problem) (reads : read sheet ≡ accepted p) (budget : ℕ) (v : Verdict) (s : State) (e : search p budget ≡ done v s) where
  -- the atoms of the clauses are in the table
  atoms-in-table : (c : Clause) → c ∈ clauses_of p.clauses s → (l : Literal) → l ∈ c → l.atom ∈ s.table
  unfolding search
  atoms-in-table c m =
      let limits = accepted-limits sheet p reads in
      (clauses-short p (limits-searchable p limits) s (search-sound (task_of p) budget v s (unfold task_of in omega (arith, limits.goals)) e) c m).1

  pub table-decides : (a b : Assignment) → ((x : Atom) → x ∈ s.table → a x ≡ b x)
      → SatisfiesClauses a (clauses_of p.clauses s) → SatisfiesClauses b (clauses_of p.clauses s)
  table-decides a b alike h c m =
      let w = h c m in
      record { literal = w.literal; inside = w.inside; holds = sym (alike w.literal.atom (atoms-in-table c m w.literal w.inside)) ∙ w.holds }

pub numbers-decide : (c : Cnf) → CnfLimits c → (a b : NumberAssignment) → ((n : ℕ) → 1 ≤ n → n ≤ c.atoms → a n ≡ b n)
    → SatisfiesNumberClauses a c.clauses → SatisfiesNumberClauses b c.clauses
numbers-decide c limits a b alike h ns m =
    let w = h ns m in
    let (low, high) = limits.range ns m w.number w.inside in
    record { number = w.number; inside = w.inside; holds = sym (alike w.number.size low high) ∙ w.holds }

-- ── each logged clause follows from one filling ──

module _ (p : Problem) (g : Logged) (ok : LogOk (task_of p) g) where
  its_filling : FillingOf p g.instance
  its_filling = only-fillings p g.instance ok.its

  -- a false head stands negated in the clause, and of a body that is true the literal that was taken
  filling-clause : (v : Assignment) → SatisfiesFilling v its_filling.rule its_filling.filling → SatisfiesClause v (clause_of g)
  filling-clause v (head_false x m n) =
      let h = ground its_filling.filling x in
      let inside : h ∈ g.instance.heads = subst (λ ls. h ∈ ls) (sym (filled-heads its_filling)) (Memᴰ.map (ground its_filling.filling) m) in
      record { literal = negate h; inside = clause-head g h inside; holds = n }
  filling-clause v (body_true ne bs) =
      by-option g.taken
      (λ e. absurd (ne (map-nil (ground its_filling.filling) its_filling.rule.body (sym (filled-body its_filling) ∙ ok.bodiless e))))
      (λ l e. let (x, n, q) = Memᴰ.of_map (ground its_filling.filling) its_filling.rule.body (subst (λ ls. l ∈ ls) (filled-body its_filling) (ok.taken l e)) in
      record { literal = l; inside = clause-taken g l e; holds = subst (Makes v) q (bs x n) })

-- by its line in a listing
each-follows : (p : Problem) → Limits p → (budget : ℕ) (v : Verdict) (s : State) → search p budget ≡ done v s → (row : Row) → row ∈ of_kind 6 (listing v s) → Entailed p row
unfolding logged_row fill
each-follows p limits budget v s e row m =
    let (g, n, q) = Memᴰ.of_map logged_row s.log (subst (λ rs. row ∈ rs) (logged-rows p limits budget v s e) m) in
    let ok = logged-ok p budget v s e g n in
    let f = its_filling p g ok in
    subst (Entailed p) q (record {
      clause = clause_of g;
      reads = row-clause-read p limits budget v s e g n;
      place = f.place;
      number = ap (λ (i : Instance). some (plus i.rule)) f.made;
      rule = f.rule;
      its = f.its;
      filling = f.filling;
      inside = f.inside;
      follows = filling-clause p g ok;
    })

module _ (sheet : List ℕ) (p : Problem) (reads : read sheet ≡ accepted p) (budget : ℕ) (row : Row) where
  -- the listing that a call hands back, and the one that the program prints; a refusal has no such line
  pub listed-follows : (room : List ℕ) → row ∈ of_kind 6 (listed_part sheet budget room) → Entailed p row
  unfolding of_kind lists_all sheet_all
  listed-follows room m =
      elim (call-comes sheet budget room) [
        | too_small h r ↦ absurd (Memᴰ.not-nil (rw r.part at m))
        | improper h q n d r ↦ absurd (Memᴰ.not-nil (rw r.part at m))
        | proper h o d v s c a ↦
            let same : o ≡ p = accepted-injective (sym d ∙ reads) in
            let e = ap (λ (x : Problem). search x budget) (sym same) ∙ c in
            each-follows p (accepted-limits sheet p reads) budget v s e row (rw a.part at m)
      ]

  pub printed-follows : row ∈ of_kind 6 (printed sheet budget) → Entailed p row
  printed-follows m =
      let ends = search-comes-to-an-answer sheet p reads budget in
      let listed = printed-listing sheet p reads budget ends.verdict ends.state ends.is in
      each-follows p (accepted-limits sheet p reads) budget ends.verdict ends.state ends.is row (rw listed at m)

-- ── what satisfies a sheet satisfies its clauses, and so its text ──

-- true or false as the atom at place n - 1 of the table
abbrev numbered : List Atom → Assignment → NumberAssignment
numbered table a n = elim (get_elem? table (n - 1)) [ none ↦ false | some x ↦ a x ]

module _ (sheet : List ℕ) (p : Problem) (reads : read sheet ≡ accepted p) (budget : ℕ) (v : Verdict) (s : State) (e : search p budget ≡ done v s) where
  -- every filling of its rules, and so the log
  pub satisfies-clauses : (a : Assignment) → Satisfies a p → SatisfiesClauses a (clauses_of p.clauses s)
  satisfies-clauses a satisfies =
      each_append (SatisfiesClause a) p.clauses satisfies.clauses (λ c m.
      let (g, n, q) = Memᴰ.of_map clause_of s.log m in
      let ok = logged-ok p budget v s e g n in
      let f = its_filling p g ok in
      let rules = lines-rules a p (accepted-from-lines sheet p reads) satisfies.lines in
      subst (SatisfiesClause a) q (filling-clause p g ok a (rules f.rule (filled-rule f).1 f.filling f.inside)))

  -- with the table's numbers for atoms
  clauses-numbered : (a : Assignment) → SatisfiesClauses a (clauses_of p.clauses s) → SatisfiesNumberClauses (numbered s.table a) (cnf_of p.clauses s).clauses
  unfolding cnf_of table_number
  clauses-numbered a h ns m =
      let (c, n, q) = Memᴰ.of_map (map (table_number s.table)) (clauses_of p.clauses s) m in
      let w = h c n in
      let l = w.literal in
      let there = at_position s.table l.atom (atoms-in-table sheet p reads budget v s e c n l w.inside) in
      let place : suc (position s.table l.atom) - 1 ≡ position s.table l.atom = omega arith in
      let holds : numbered s.table a (suc (position s.table l.atom)) ≡ not (not l.positive) = cc (there, place, w.holds, not-not l.positive) in
      subst (SatisfiesNumberClause (numbered s.table a)) q (record { number = table_number s.table l; inside = Memᴰ.map (table_number s.table) w.inside; holds = holds })

  -- so where its text is unsatisfiable nothing satisfies the sheet, whatever the answer
  text-refutes : (text : List ℕ) → read_cnf text ≡ yes (cnf_of p.clauses s) → Unsatisfiable text → (a : Assignment) → Satisfies a p → ⊥
  text-refutes text is t a satisfies =
      let same : cnf_of p.clauses s ≡ t.back = yes-injective (sym is ∙ t.reads) in
      t.none (numbered s.table a) (rw (← same) (clauses-numbered a (satisfies-clauses a satisfies)))

module _ (sheet : List ℕ) (p : Problem) (reads : read sheet ≡ accepted p) (budget : ℕ) where
  pub exported-refutes : (room export : List ℕ) → room_bytes ≤ length room → export_bytes ≤ length export
      → Unsatisfiable (take (length (export_text sheet budget room export)) (export_after sheet budget room export)) → (a : Assignment) → Satisfies a p → ⊥
  exported-refutes room export large wide =
      let ends = search-comes-to-an-answer sheet p reads budget in
      text-refutes sheet p reads budget ends.verdict ends.state ends.is _
      (exported-read-back sheet budget room export large wide p reads ends.verdict ends.state ends.is)

  pub printed-refutes : Unsatisfiable (printed_cnf sheet budget) → (a : Assignment) → Satisfies a p → ⊥
  printed-refutes =
      let ends = search-comes-to-an-answer sheet p reads budget in
      text-refutes sheet p reads budget ends.verdict ends.state ends.is _ (printed-read-back sheet p reads budget ends.verdict ends.state ends.is)

-- ── a sheet that is answered UNSAT ──

both-call : (room : List ℕ) → room_bytes ≤ length room → call both_sheet 1000000 room ≡ Answered both_counts
unfolding call answered searched
both-call room large =
    ap answer_of (large-room both_sheet 1000000 room large ∙ ap (λ (r : Reading). answered r 1000000) both_read ∙ ap searched both_ends) ∙ both-counts

pub both-answered : (room : List ℕ) → room_bytes ≤ length room → Answers both_sheet 1000000 room Unsat
unfolding both_counts
both-answered room large = hands_back both_counts (both-call room large) refl

pub both-export-answered : (room export : List ℕ) → room_bytes ≤ length room → export_bytes ≤ length export
    → export_call both_sheet 1000000 room export ≡ Answered both_counts
both-export-answered room export large wide = (export-as-first-call both_sheet 1000000 room export large wide).0 ∙ both-call room large
