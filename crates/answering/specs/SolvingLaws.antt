-- From what the pipe leaves to the result of a sheet that is lent room enough: listing and text fit, a refusal writes nothing. Assumes nothing.
use Rattle.std.specs.Prelude.{ℕ, ◌-◌, ◌^◌, ◌≤◌, ◌<◌, ◌≡◌, refl, List, [], length, Result as Returned, Ok, Err}
use Rattle.std.proofs.Common.{ap, ◌∙◌, arith}
use Rattle.std.proofs.lemmas.List.Edits.{sets}
use Rattle.definitions.specs.Bounds.{room_bytes, export_bytes}
use Rattle.definitions.specs.Words.{Problem}
use Rattle.definitions.specs.Questions.{Reading, refused, accepted, read}
use Rattle.definitions.specs.Search.{State}
use Rattle.definitions.specs.Listing.{listing}
use Rattle.definitions.specs.Dimacs.{cnf_of, cnf_text}
use Rattle.definitions.specs.Call.{Result, refusal, ended, searched, answered, record_of, answer_of, listing_of, written}
use Rattle.definitions.specs.Export.{export_of}
use Rattle.definitions.specs.declared.Verdict.{Verdict}
use Rattle.definitions.specs.declared.Counts.{Counts}
use Rattle.definitions.specs.declared.Refusal.{Refusal}
use Rattle.definitions.specs.declared.Answer.TheVariants.{Answered}
use Rattle.theory.proofs.Theorems.{listing-at-most}
use Rattle.theory.proofs.Exports.{export-at-most}
use Rattle.theory.specs.ExportLaws.{refused-text}
use Rattle.column.specs.Sets.{sets-front}
use Rattle.machine.specs.Finished.{Finished, AtEnd}
use Rattle.machine.specs.declared.Searched.{Searched}
use Rattle.listing.specs.Puts.{Put}
use Rattle.cnf_writer.specs.CnfBytes.{cnf_bytes}
use Rattle.cnf_writer.specs.CnfStands.{cnf-stands}
use Rattle.answering.specs.Solving.{SolvedAs}
use Rattle.answering.specs.declared.Solved.{Solved}

-- nothing is written where there is nothing to write, whatever the room is
pub no_text_lem : (came : Result) (room other : List ℕ) (r : Returned Solved Refusal) (last : List ℕ) → SolvedAs came [] room r last → SolvedAs came [] other r other
unfolding written
no_text_lem came room other r last h = record { answer = h.answer; size = h.size; stored = refl }

-- ── a refusal ──

-- it is handed back, and what has no bytes is not written
pub refusal-written : (q n : ℕ) (text room : List ℕ) → text ≡ [] → SolvedAs (refusal q n) text room (Err (record { number = q; line = n })) room
unfolding answer_of written
refusal-written q n text room none = rw none record { answer = refl; size = refl; stored = refl }

module _ (sheet : List ℕ) (budget : ℕ) where
  -- whatever is made of what a sheet comes to, if that is nothing of a refusal
  pub refusal-solved : (made : Reading → Result → List ℕ) (q n : ℕ) → made (refused q n) (refusal q n) ≡ [] → read sheet ≡ refused q n → (room : List ℕ)
      → SolvedAs (answered (read sheet) budget) (made (read sheet) (answered (read sheet) budget)) room (Err (record { number = q; line = n })) room
  unfolding answered
  refusal-solved made q n none e room = rw (e, answered) (refusal-written q n (made (refused q n) (refusal q n)) room none)

  module _ (f : Refusal) (reads : read sheet ≡ refused f.number f.line) where
    pub refusal-listed : (room : List ℕ) → SolvedAs (answered (read sheet) budget) (listing_of (answered (read sheet) budget)) room (Err f) room
    unfolding listing_of
    refusal-listed = refusal-solved (λ reading came. listing_of came) f.number f.line refl reads

    pub refusal-exported : (room : List ℕ) → SolvedAs (answered (read sheet) budget) (export_of (read sheet) (answered (read sheet) budget)) room (Err f) room
    refusal-exported = refusal-solved export_of f.number f.line (refused-text (refused f.number f.line) f.number f.line) reads

-- ── what is made of a search that has ended ──

-- equal counts are equal records
same-counts : (v : Verdict) {a b l m d e c f : ℕ} → a ≡ b → l ≡ m → d ≡ e → c ≡ f
    → ◌≡◌ {A = Counts} (record { verdict = v; atoms = a; logged = l; decisions = d; conflicts = c }) (record { verdict = v; atoms = b; logged = m; decisions = e; conflicts = f })
same-counts v p q r s = cc

module _ (p : Problem) (budget : ℕ) (s : State) (x : Searched) (finished : Finished p budget s x) where
  -- the counts of what is left
  abbrev pub counts_left : Counts
  counts_left = record { verdict = x.ended.verdict; atoms = x.ended.run.atoms; logged = x.ended.run.clauses - x.given; decisions = x.ended.run.decisions; conflicts = x.ended.run.conflicts }

  -- are the search's
  pub counts-stand : counts_left ≡ record_of x.ended.verdict s
  counts-stand =
      let stands = finished.stands in
      let logged : x.ended.run.clauses - x.given ≡ length s.log = omega (arith, stands.log.clauses, finished.its_clauses) in
      same-counts x.ended.verdict stands.log.atoms logged stands.decisions stands.conflicts

  -- the text that the arrays give fits where the state's does
  pub text_in-room : (size : ℕ) → length (cnf_text (cnf_of p.clauses s)) ≤ size → length (cnf_bytes x.ended.run x.store.starts x.store.literals) ≤ size
  text_in-room size fits = omega (arith, ap length (cnf-stands p budget s x finished))

  -- the counts and the listing in a room,
  pub made-listed : (counts : Counts) → counts ≡ record_of x.ended.verdict s → (room : List ℕ) → length (listing x.ended.verdict s) ≤ length room → (n : ℕ) (after : List ℕ)
      → Put room 0 (listing x.ended.verdict s) n after → SolvedAs (ended x.ended.verdict s) (listing_of (ended x.ended.verdict s)) room (Ok (record { counts = counts; length = n })) after
  unfolding answer_of listing_of written
  made-listed counts same room fits n after put =
      record { answer = ap Answered same; size = omega (arith, put.place); stored = put.stored ∙ sets-front room (listing x.ended.verdict s) (omega arith) }

  pub listed-solved : (room : List ℕ) → length (listing x.ended.verdict s) ≤ length room → (n : ℕ) (after : List ℕ) → Put room 0 (listing x.ended.verdict s) n after
      → SolvedAs (ended x.ended.verdict s) (listing_of (ended x.ended.verdict s)) room (Ok (record { counts = counts_left; length = n })) after
  listed-solved = made-listed counts_left counts-stand

  -- and the text in the other room
  pub made-written : (room : List ℕ) (solved : Solved) (room_last : List ℕ) → SolvedAs (ended x.ended.verdict s) (listing_of (ended x.ended.verdict s)) room (Ok solved) room_last
      → (export : List ℕ) → length (cnf_text (cnf_of p.clauses s)) ≤ length export → (n : ℕ) (export_last : List ℕ) → Put export 0 (cnf_bytes x.ended.run x.store.starts x.store.literals) n export_last
      → SolvedAs (ended x.ended.verdict s) (export_of (accepted p) (ended x.ended.verdict s)) export (Ok (record { counts = solved.counts; length = n })) export_last
  unfolding export_of written
  made-written room solved room_last h export fits n export_last put =
      let same = cnf-stands p budget s x finished in
      record {
        answer = h.answer;
        size = omega (arith, put.place, ap length same);
        stored = put.stored ∙ ap (sets export 0) same ∙ sets-front export (cnf_text (cnf_of p.clauses s)) fits;
      }

-- ── the sheet ──

module _ (sheet : List ℕ) (budget : ℕ) (p : Problem) (reads : read sheet ≡ accepted p) (x : Searched) (end : AtEnd p budget x) where
  pub listing-in-room : (size : ℕ) → budget < 2 ^ 32 → room_bytes ≤ size → length (listing x.ended.verdict end.state) ≤ size
  listing-in-room size small large = omega (arith, listing-at-most sheet p reads budget x.ended.verdict end.state end.comes small)

  pub text-fits : (size : ℕ) → export_bytes ≤ size → length (cnf_text (cnf_of p.clauses end.state)) ≤ size
  text-fits size large = omega (arith, export-at-most sheet p reads budget x.ended.verdict end.state end.comes)

  -- whatever is made of the state in which the search ended is made of the sheet
  pub end-solved : (made : Reading → Result → List ℕ) (room : List ℕ) (r : Returned Solved Refusal) (last : List ℕ)
      → SolvedAs (ended x.ended.verdict end.state) (made (accepted p) (ended x.ended.verdict end.state)) room r last
      → SolvedAs (answered (read sheet) budget) (made (read sheet) (answered (read sheet) budget)) room r last
  unfolding answered searched
  end-solved made room r last h = rw (reads, answered, end.comes, searched) h
