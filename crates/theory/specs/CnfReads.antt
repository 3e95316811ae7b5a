-- Reading DIMACS CNF text: what was written is read back, and nothing else is read. Assumes nothing.
use Rattle.std.specs.Prelude.{ℕ, zero, suc, ◌≤◌, ◌<◌, ◌≡◌, true, false, List, [], ◌∷◌, ◌++◌, leb, length}
use Rattle.std.proofs.Math.Path.{refl}
use Rattle.std.proofs.Common.{sym, ap, subst, ◌∙◌, append_assoc, arith, leb-true, le-leb}
use mathlib.Core.List.Memᴰ
use Rattle.definitions.specs.Lists.{is_empty, joined}
use Rattle.definitions.specs.Bounds.{most_atoms, most_exported, most_literals}
use Rattle.definitions.specs.Sheet.{Number, is_digit}
use Rattle.definitions.specs.Questions.{yes, ◌>>=◌, ◌>>◌, ask}
use Rattle.definitions.specs.Listing.{decimals}
use Rattle.definitions.specs.Text.{bytes}
use Rattle.definitions.specs.Dimacs.{Cnf, header_line, literal_text, clause_text, cnf_text, Front, front, expect, expects, decimal_at, Header, header_at, literal_at, close_at, starts_with, clause_line_at, clauses_at, read_cnf, CnfLimits}
use Rattle.theory.specs.Tests.{by-test}
use Rattle.theory.specs.ListLaws.{empty-nil, Each, each_nil, each-cons}
use Rattle.theory.specs.AskedLaws.{yes-injective, bind-yes, ask-yes}
use Rattle.theory.specs.CnfText.{decimal-read, decimal-then, expect-read, expects-read, expects-exact, InRange, signed-text, starts-read, literal-text-read, literal-exact}

-- ── a clause line ──

-- the clause has at most so many literals, all in range
abbrev pub ClauseInRange : ℕ → ℕ → List Number → Type 0
ClauseInRange atoms k ns = (length ns ≤ k) × Each (InRange atoms) ns

-- the first literal of a line, and the rest of it
clause-text : (n : Number) (ns : List Number) (rest : List ℕ) → clause_text (n ∷ ns) ++ rest ≡ literal_text n ++ (clause_text ns ++ rest)
unfolding clause_text joined
clause-text n ns rest = simp append_assoc

clause-end : (atoms k : ℕ) (rest : List ℕ) → clause_line_at atoms k (clause_text [] ++ rest) ≡ yes (front [] rest)
unfolding clause_line_at close_at expects expect starts_with clause_text joined ◌>>=◌ ◌>>◌ ask
clause-end atoms zero rest = refl
clause-end atoms (suc k) rest = refl

clause-step : (atoms k : ℕ) (bs behind rest : List ℕ) (n : Number) (ns : List Number) → starts_with 48 bs ≡ false
    → literal_at atoms bs ≡ yes (front n behind) → clause_line_at atoms k behind ≡ yes (front ns rest) → clause_line_at atoms (suc k) bs ≡ yes (front (n ∷ ns) rest)
unfolding clause_line_at ◌>>=◌
clause-step atoms k bs behind rest n ns start first others = cc

pub clause-text-read : (atoms k : ℕ) (ns : List Number) (rest : List ℕ) → atoms < 1000 → ClauseInRange atoms k ns
    → clause_line_at atoms k (clause_text ns ++ rest) ≡ yes (front ns rest)
clause-text-read atoms k [] rest few h = clause-end atoms k rest
clause-text-read atoms zero (n ∷ ns) rest few h = absurd (omega (arith, h.0))
clause-text-read atoms (suc k) (n ∷ ns) rest few h =
    let range = h.1 n (Memᴰ.head refl) in
    let behind = clause_text ns ++ rest in
    let start : starts_with 48 (literal_text n ++ behind) ≡ false
    = ap (starts_with 48) (signed-text n behind) ∙ starts-read n (32 ∷ behind) range.0 (omega (arith, range.1)) in
    ap (clause_line_at atoms (suc k)) (clause-text n ns rest)
    ∙ clause-step atoms k (literal_text n ++ behind) behind rest n ns start
    (literal-text-read atoms n behind few range)
    (clause-text-read atoms k ns rest few (omega (arith, h.0), λ m j. h.1 m (Memᴰ.tail j)))

-- ── all of them ──

-- so does every clause, with at most 8 literals
abbrev pub ClausesInRange : ℕ → List (List Number) → Type 0
ClausesInRange atoms cs = Each (ClauseInRange atoms most_literals) cs

clauses-step : (atoms k : ℕ) (bs rest : List ℕ) (c : List Number) (cs : List (List Number))
    → clause_line_at atoms most_literals bs ≡ yes (front c rest) → clauses_at atoms k rest ≡ yes cs → clauses_at atoms (suc k) bs ≡ yes (c ∷ cs)
unfolding clauses_at ◌>>=◌
clauses-step atoms k bs rest c cs first others = cc

pub clauses-read : (atoms : ℕ) (cs : List (List Number)) → atoms < 1000 → ClausesInRange atoms cs
    → clauses_at atoms (length cs) (joined clause_text cs) ≡ yes cs
unfolding joined
clauses-read atoms [] few h = unfold clauses_at is_empty ◌>>◌ ask in refl
clauses-read atoms (c ∷ cs) few h =
    clauses-step atoms (length cs) (clause_text c ++ joined clause_text cs) (joined clause_text cs) c cs
    (clause-text-read atoms most_literals c (joined clause_text cs) few (h c (Memᴰ.head refl)))
    (clauses-read atoms cs few (λ x m. h x (Memᴰ.tail m)))

-- ── the header ──

header-text : (atoms clauses : ℕ) (rest : List ℕ)
    → header_line atoms clauses ++ rest ≡ bytes "p cnf " ++ (decimals 3 atoms ++ (32 ∷ decimals 3 clauses ++ (10 ∷ rest)))
unfolding header_line
header-text atoms clauses rest = simp append_assoc

header-parts : (text first second rest : List ℕ) (atoms clauses : ℕ) → expects 21 (bytes "p cnf ") text ≡ yes first
    → decimal_at 21 first ≡ yes (front atoms (32 ∷ second)) → atoms ≤ most_atoms
    → decimal_at 21 second ≡ yes (front clauses (10 ∷ rest)) → clauses ≤ most_exported
    → header_at text ≡ yes (front (record { atoms = atoms; clauses = clauses }) rest)
unfolding header_at ◌>>=◌ ◌>>◌ ask
header-parts text first second rest atoms clauses name left few right some =
    let few_atoms = le-leb atoms most_atoms few in
    let few_clauses = le-leb clauses most_exported some in
    cc (expect-read 21 32 second, expect-read 21 10 rest)

pub header_read : (atoms clauses : ℕ) (rest : List ℕ) → atoms ≤ most_atoms → clauses ≤ most_exported
    → header_at (header_line atoms clauses ++ rest) ≡ yes (front (record { atoms = atoms; clauses = clauses }) rest)
unfolding is_digit
header_read atoms clauses rest few some =
    let second = decimals 3 clauses ++ (10 ∷ rest) in
    let first = decimals 3 atoms ++ (32 ∷ second) in
    ap header_at (header-text atoms clauses rest)
    ∙ header-parts (bytes "p cnf " ++ first) first second rest atoms clauses
    (expects-read 21 (bytes "p cnf ") first)
    (decimal-read 21 atoms 32 second (omega arith) refl) few
    (decimal-read 21 clauses 10 rest (omega arith) refl) some

-- ── the text ──

pub cnf-round-trip : (c : Cnf) → CnfLimits c → read_cnf (cnf_text c) ≡ yes c
unfolding read_cnf cnf_text ◌>>=◌
cnf-round-trip c limits =
    let header = header_read c.atoms (length c.clauses) (joined clause_text c.clauses) limits.atoms limits.clauses in
    let clauses = clauses-read c.atoms c.clauses (omega (arith, limits.atoms)) (λ ns m. (limits.literals ns m, limits.range ns m)) in
    cc

-- ── nothing else is read ──

close-exact : (bs : List ℕ) (f : Front (List Number)) → close_at bs ≡ yes f → (bs ≡ clause_text f.found ++ f.behind) × (f.found ≡ [])
unfolding close_at
close-exact bs f e =
    let (rest, d, r) = bind-yes (expects 22 (48 ∷ 10 ∷ []) bs) _ f e in
    subst (λ (g : Front (List Number)). (bs ≡ clause_text g.found ++ g.behind) × (g.found ≡ [])) (yes-injective r)
    (unfold clause_text joined in expects-exact 22 (48 ∷ 10 ∷ []) bs rest d, refl)

-- the bytes begin with the clause line that is found
abbrev LineFound : ℕ → ℕ → List ℕ → Front (List Number) → Type 0
LineFound atoms k bs f = (bs ≡ clause_text f.found ++ f.behind) × ClauseInRange atoms k f.found

close-found : (atoms k : ℕ) (bs : List ℕ) (f : Front (List Number)) → close_at bs ≡ yes f → LineFound atoms k bs f
close-found atoms k bs f e =
    let (text, none) = close-exact bs f e in
    (text, subst (ClauseInRange atoms k) (sym none) (omega arith, each_nil (InRange atoms)))

-- a literal before a line
line-more : (atoms k : ℕ) (bs : List ℕ) (n : Front Number) (ns f : Front (List Number))
    → (bs ≡ literal_text n.found ++ n.behind) × InRange atoms n.found → LineFound atoms k n.behind ns → yes (front (n.found ∷ ns.found) ns.behind) ≡ yes f → LineFound atoms (suc k) bs f
line-more atoms k bs n ns f first others e =
    let text = first.0 ∙ ap (λ z. literal_text n.found ++ z) others.0 ∙ sym (clause-text n.found ns.found ns.behind) in
    subst (LineFound atoms (suc k) bs) (yes-injective e) (text, (omega (arith, others.1.0), each-cons (InRange atoms) first.1 others.1.1))

pub clause-exact : (atoms k : ℕ) (bs : List ℕ) (f : Front (List Number)) → clause_line_at atoms k bs ≡ yes f → LineFound atoms k bs f
unfolding clause_line_at
clause-exact atoms zero bs f e = close-found atoms zero bs f e
clause-exact atoms (suc k) bs f e =
    by-test (starts_with 48 bs)
    (λ t. close-found atoms (suc k) bs f (cc))
    (λ t.
    let (n, d, r) = bind-yes (literal_at atoms bs) _ f (rw (t, clause_line_at) at e) in
    let (ns, g, y) = bind-yes (clause_line_at atoms k n.behind) _ f r in
    line-more atoms k bs n ns f (literal-exact atoms bs n d) (clause-exact atoms k n.behind ns g) y)

pub clauses-exact : (atoms k : ℕ) (bs : List ℕ) (cs : List (List Number)) → clauses_at atoms k bs ≡ yes cs
    → (bs ≡ joined clause_text cs) × (length cs ≡ k) × ClausesInRange atoms cs
unfolding clauses_at joined
clauses-exact atoms zero bs cs e =
    let (t, r) = ask-yes 22 (is_empty bs) _ cs e in
    let none : [] ≡ cs = yes-injective r in
    subst (λ x. (bs ≡ joined clause_text x) × (length x ≡ 0) × ClausesInRange atoms x) none
    (empty-nil bs t, refl, each_nil (ClauseInRange atoms most_literals))
clauses-exact atoms (suc k) bs cs e =
    let (c, d, r) = bind-yes (clause_line_at atoms most_literals bs) _ cs e in
    let (rest, g, y) = bind-yes (clauses_at atoms k c.behind) _ cs r in
    let (first, fits) = clause-exact atoms most_literals bs c d in
    let (others, size, each) = clauses-exact atoms k c.behind rest g in
    subst (λ x. (bs ≡ joined clause_text x) × (length x ≡ suc k) × ClausesInRange atoms x) (yes-injective y)
    (first ∙ ap (λ z. clause_text c.found ++ z) others, ap suc size, each-cons (ClauseInRange atoms most_literals) fits each)

-- the text begins with the header that is found, which keeps the limits
abbrev pub HeaderFound : List ℕ → Front Header → Type 0
HeaderFound text f =
    (text ≡ header_line f.found.atoms f.found.clauses ++ f.behind) × (f.found.atoms ≤ most_atoms) × (f.found.clauses ≤ most_exported)

header-found : (text first second rest : List ℕ) (atoms clauses : ℕ) (f : Front Header) → text ≡ bytes "p cnf " ++ first
    → first ≡ decimals 3 atoms ++ (32 ∷ second) → leb atoms most_atoms ≡ true
    → second ≡ decimals 3 clauses ++ (10 ∷ rest) → leb clauses most_exported ≡ true
    → yes (front (record { atoms = atoms; clauses = clauses }) rest) ≡ yes f → HeaderFound text f
header-found text first second rest atoms clauses f name left few right some e =
    let spelt : text ≡ header_line atoms clauses ++ rest = cc (header-text atoms clauses rest) in
    subst (HeaderFound text) (yes-injective e) (spelt, leb-true atoms most_atoms few, leb-true clauses most_exported some)

pub header-exact : (text : List ℕ) (f : Front Header) → header_at text ≡ yes f → HeaderFound text f
unfolding header_at
header-exact text f e =
    let (first, name, r₁) = bind-yes (expects 21 (bytes "p cnf ") text) _ f e in
    let (atoms, left, r₂) = bind-yes (decimal_at 21 first) _ f r₁ in
    let (few, r₃) = ask-yes 21 (leb atoms.found most_atoms) _ f r₂ in
    let (second, blank, r₄) = bind-yes (expect 21 32 atoms.behind) _ f r₃ in
    let (clauses, right, r₅) = bind-yes (decimal_at 21 second) _ f r₄ in
    let (some, r₆) = ask-yes 21 (leb clauses.found most_exported) _ f r₅ in
    let (rest, ended, y) = bind-yes (expect 21 10 clauses.behind) _ f r₆ in
    header-found text first second rest atoms.found clauses.found f (expects-exact 21 (bytes "p cnf ") text first name)
    (decimal-then 21 32 first atoms second left blank) few
    (decimal-then 21 10 second clauses rest right ended) some y

pub cnf-exact : (text : List ℕ) (c : Cnf) → read_cnf text ≡ yes c → (text ≡ cnf_text c) × CnfLimits c
unfolding read_cnf cnf_text
cnf-exact text c e =
    let (h, d, r) = bind-yes (header_at text) _ c e in
    let (cs, g, y) = bind-yes (clauses_at h.found.atoms h.found.clauses h.behind) _ c r in
    let (header, few, some) = header-exact text h d in
    let (clauses, size, each) = clauses-exact h.found.atoms h.found.clauses h.behind cs g in
    subst (λ (x : Cnf). (text ≡ cnf_text x) × CnfLimits x) (yes-injective y) (
      header ∙ ap (λ z. header_line h.found.atoms h.found.clauses ++ z) clauses
          ∙ ap (λ k. header_line h.found.atoms k ++ joined clause_text cs) (sym size),
      record { atoms = few; clauses = omega arith; literals = λ ns m. (each ns m).0; range = λ ns m. (each ns m).1 },
    )
