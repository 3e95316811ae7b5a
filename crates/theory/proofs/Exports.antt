-- What the search of an accepted sheet exports: it keeps the limits of what is read, its text has at most 13,454 bytes, and the text is
-- read back as what was exported. Assumes nothing.
use Rattle.std.specs.Prelude.{ℕ, ◌+◌, ◌*◌, ◌^◌, ◌≤◌, ◌<◌, ◌≡◌}
use Rattle.std.proofs.Common.{sym, subst, ◌∙◌, mul-le-mul_left, arith}
use Rattle.std.proofs.Math.Path.{ap}
use mathlib.Core.List.Memᴰ
use mathlib.Core.List.{List, [], ◌∷◌, ◌++◌, map, map-append}
use Rattle.std.proofs.Math.ListN.{length, length-append, length-map}
use Rattle.definitions.specs.Lists.{◌∈◌, joined}
use Rattle.definitions.specs.Bounds.{export_bytes}
use Rattle.definitions.specs.Words.{Atom, Literal, Clause, Problem, goal_atoms, position}
use Rattle.definitions.specs.Instances.{task_of}
use Rattle.definitions.specs.Sheet.{Number}
use Rattle.definitions.specs.Questions.{yes, accepted, read}
use Rattle.definitions.specs.Search.{clause_of, State, clauses_of, done, search}
use Rattle.definitions.specs.Listing.{decimals, signed_decimals}
use Rattle.definitions.specs.Text.{bytes}
use Rattle.definitions.specs.Dimacs.{table_number, cnf_of, header_line, literal_text, clause_text, cnf_text, read_cnf, CnfLimits}
use Rattle.definitions.specs.declared.Verdict.{Verdict}
use Rattle.theory.specs.Tests.{by-test}
use Rattle.theory.specs.ListLaws.{joined-append, joined_length, Each}
use Rattle.theory.specs.WordLaws.{goal-of}
use Rattle.theory.specs.TableLaws.{position-inside, position-append}
use Rattle.theory.specs.Invariants.{Sound}
use Rattle.theory.proofs.Invariants.{search-sound}
use Rattle.theory.specs.Limits.{Limits, limits-searchable, accepted-limits}
use Rattle.theory.specs.ListingLaws.{decimals-length, clause-length}
use Rattle.theory.specs.Sizes.{instance-heads}
use Rattle.theory.specs.NumberLaws.{clauses-short}
use Rattle.theory.specs.CnfReads.{cnf-round-trip}

-- ── the length of a text ──

-- a sign, the digits and a blank
literal-length : (n : Number) (k : ℕ) → 1 ≤ k → n.size < 10 ^ k → length (literal_text n) ≤ k + 2
unfolding literal_text signed_decimals
literal-length n k l h =
    let digits = decimals-length 3 n.size k l h in
    let blank = length-append (signed_decimals 3 n) (32 ∷ []) in
    by-test n.negative
    (λ e. let sign : signed_decimals 3 n ≡ 45 ∷ decimals 3 n.size = cc in omega (arith, blank, ap length sign))
    (λ e. let bare : signed_decimals 3 n ≡ decimals 3 n.size = cc in omega (arith, blank, ap length bare))

-- at most so many literals, each with at most so many digits
record Short (most digits : ℕ) (ns : List Number) : Type 0 where
  few : length ns ≤ most
  below : (n : Number) → n ∈ ns → n.size < 10 ^ digits

clause-text-length : (most digits : ℕ) → 1 ≤ digits → (ns : List Number) → Short most digits ns
    → length (clause_text ns) ≤ (digits + 2) * most + 2
unfolding clause_text
clause-text-length most digits l ns h =
    let each = joined_length literal_text (digits + 2) ns (λ n m. literal-length n digits l (h.below n m)) in
    omega (arith, length-append (joined literal_text ns) (48 ∷ 10 ∷ []), each, mul-le-mul_left (digits + 2) h.few)

clauses-length : (most digits : ℕ) → 1 ≤ digits → (cs : List (List Number)) → Each (Short most digits) cs
    → length (joined clause_text cs) ≤ ((digits + 2) * most + 2) * length cs
clauses-length most digits l cs h =
    joined_length clause_text ((digits + 2) * most + 2) cs (λ ns m. clause-text-length most digits l ns (h ns m))

header-length : (atoms clauses : ℕ) → atoms < 1000 → clauses < 1000 → length (header_line atoms clauses) ≤ 14
unfolding header_line bytes
header-length atoms clauses h g =
    let behind = length-append (decimals 3 clauses) (10 ∷ []) in
    let all = length-append (decimals 3 atoms) (32 ∷ decimals 3 clauses ++ (10 ∷ [])) in
    omega (arith, all, behind, decimals-length 3 atoms 3 (omega arith) h, decimals-length 3 clauses 3 (omega arith) g)

-- ── what is exported ──

-- at most so many literals, whose atoms stand in the table before a place
record Numbered (table : List Atom) (most highest : ℕ) (c : Clause) : Type 0 where
  few : length c ≤ most
  low : (l : Literal) → l ∈ c → position table l.atom < highest

-- numbers from 1 to the highest have as many digits as that
numbered-short : (table : List Atom) (most highest digits : ℕ) → highest < 10 ^ digits → (cs : List Clause)
    → Each (Numbered table most highest) cs → Each (Short most digits) (map (map (table_number table)) cs)
unfolding table_number
numbered-short table most highest digits h cs each ns m =
    let (c, k, q) = Memᴰ.of_map (map (table_number table)) cs m in
    subst (Short most digits) q (record {
      few = omega (arith, length-map c (table_number table), (each c k).few);
      below = λ n j. let (l, i, r) = Memᴰ.of_map (table_number table) c j in
          omega (arith, ap (λ (x : Number). x.size) r, (each c k).low l i);
    })

module _ (sheet : List ℕ) (p : Problem) (reads : read sheet ≡ accepted p) (budget : ℕ)
    (v : Verdict) (s : State) (e : search p budget ≡ done v s) where
  limits : Limits p
  limits = accepted-limits sheet p reads

  sound : Sound (task_of p) s
  unfolding search task_of
  sound = search-sound (task_of p) budget v s (omega (arith, limits.goals)) e

  -- goal atoms stand first in the table
  goal-numbered : Each (Numbered s.table 8 64) p.clauses
  unfolding task_of
  goal-numbered c m =
      record {
        few = (limits.each_clause c m).literals;
        low = λ l n. let a = goal-of p.clauses c l m n in
            let at = position-append (goal_atoms p.clauses) sound.tabled.created l.atom a in
            let same = ap (λ t. position t l.atom) sound.tabled.split in
            omega (arith, at, same, position-inside (goal_atoms p.clauses) l.atom a, limits.goals);
      }

  -- a logged clause has at most 3 heads and one literal more, all with atoms of the table
  logged-numbered : Each (Numbered s.table 4 256) (map clause_of s.log)
  logged-numbered c m =
      let (g, n, q) = Memᴰ.of_map clause_of s.log m in
      let heads = instance-heads p limits g.instance (sound.inv.log_ok g n).its in
      subst (Numbered s.table 4 256) q (record {
        few = omega (arith, clause-length g, heads);
        low = λ l k. omega (arith, position-inside s.table l.atom (sound.fits.written g n l k), sound.fits.table_size);
      })

  -- ── its limits ──

  pub export-limits : CnfLimits (cnf_of p.clauses s)
  unfolding cnf_of table_number
  export-limits =
      record {
        atoms = sound.fits.table_size;
        clauses = omega (arith, length-map all (map (table_number s.table)), count, limits.clauses, sound.fits.log_size);
        literals = λ ns m. let (c, k, q) = Memᴰ.of_map (map (table_number s.table)) all m in
            omega (arith, ap length q, length-map c (table_number s.table), (each c k).0);
        range = λ ns m n j. let (c, k, q) = Memᴰ.of_map (map (table_number s.table)) all m in
            let (l, i, r) = Memᴰ.of_map (table_number s.table) c (subst (λ x. n ∈ x) (sym q) j) in
            let size = ap (λ (x : Number). x.size) r in
            (omega (arith, size), omega (arith, size, position-inside s.table l.atom ((each c k).1 l i)));
      }
    where
      all : List Clause
      all = clauses_of p.clauses s

      count : length all ≡ length p.clauses + length s.log
      count = omega (arith, length-append p.clauses (map clause_of s.log), length-map s.log clause_of)

      each : Each (λ c. (length c ≤ 8) × ((l : Literal) → l ∈ c → l.atom ∈ s.table)) all
      each = clauses-short p (limits-searchable p limits) s sound

  -- ── its length ──

  goals-length : length (joined clause_text (map (map (table_number s.table)) p.clauses)) ≤ 34 * 64
  goals-length =
      let goals = map (map (table_number s.table)) p.clauses in
      let each = numbered-short s.table 8 64 2 (omega arith) p.clauses goal-numbered in
      omega (arith, clauses-length 8 2 (omega arith) goals each, length-map p.clauses (map (table_number s.table)), limits.clauses)

  logged-length : length (joined clause_text (map (map (table_number s.table)) (map clause_of s.log))) ≤ 22 * 512
  logged-length =
      let logged = map (map (table_number s.table)) (map clause_of s.log) in
      let each = numbered-short s.table 4 256 3 (omega arith) (map clause_of s.log) logged-numbered in
      let count = length-map (map clause_of s.log) (map (table_number s.table)) in
      omega (arith, clauses-length 4 3 (omega arith) logged each, count, length-map s.log clause_of, sound.fits.log_size)

  -- 14 + 34 * 64 + 22 * 512
  pub export-size : length (cnf_text (cnf_of p.clauses s)) ≤ 13454
  unfolding cnf_text cnf_of
  export-size =
      let numbers = map (table_number s.table) in
      let goals = map numbers p.clauses in
      let logged = map numbers (map clause_of s.log) in
      let clauses = map numbers (clauses_of p.clauses s) in
      let split : joined clause_text clauses ≡ joined clause_text goals ++ joined clause_text logged
      = ap (joined clause_text) (map-append numbers p.clauses (map clause_of s.log)) ∙ joined-append clause_text goals logged in
      let parts = length-append (joined clause_text goals) (joined clause_text logged) in
      let whole = length-append (header_line (length s.table) (length clauses)) (joined clause_text clauses) in
      let header = header-length (length s.table) (length clauses) (omega (arith, export-limits.atoms)) (omega (arith, export-limits.clauses)) in
      omega (arith, whole, header, ap length split, parts, goals-length, logged-length)

  pub export-at-most : length (cnf_text (cnf_of p.clauses s)) ≤ export_bytes
  export-at-most = omega (arith, export-size)

  -- ── it is read back ──

  pub export-round-trip : read_cnf (cnf_text (cnf_of p.clauses s)) ≡ yes (cnf_of p.clauses s)
  export-round-trip = cnf-round-trip (cnf_of p.clauses s) export-limits
