-- The text of an export is read back, and so is the one that the program prints. Assumes nothing.
use Rattle.std.specs.Prelude.{ℕ, ◌≤◌, ◌≡◌, refl, take, drop}
use Rattle.std.proofs.Math.Path.{ap}
use Rattle.std.proofs.Common.{◌∙◌}
use mathlib.Core.List.{List}
use Rattle.std.proofs.Math.ListN.{length}
use Rattle.std.proofs.Math.Seq.{take-append_seam}
use Rattle.definitions.specs.Bounds.{room_bytes, export_bytes}
use Rattle.definitions.specs.Words.{Problem}
use Rattle.definitions.specs.Questions.{yes, accepted, read}
use Rattle.definitions.specs.Search.{State, done, search}
use Rattle.definitions.specs.Dimacs.{cnf_of, cnf_text, read_cnf}
use Rattle.definitions.specs.Call.{searched, answered, written, printed_of}
use Rattle.definitions.specs.Export.{export_of, export_text, export_after, printed_cnf}
use Rattle.definitions.specs.declared.Verdict.{Verdict}
use Rattle.theory.proofs.Exports.{export-round-trip}
use Rattle.theory.specs.ExportLaws.{text-of-answer, result-of-search}

module _ (sheet : List ℕ) (budget : ℕ) (room export : List ℕ) where
  pub exported-read-back : room_bytes ≤ length room → export_bytes ≤ length export → (p : Problem) → read sheet ≡ accepted p
      → (v : Verdict) (s : State) → search p budget ≡ done v s
      → read_cnf (take (length (export_text sheet budget room export)) (export_after sheet budget room export)) ≡ yes (cnf_of p.clauses s)
  unfolding export_after written
  exported-read-back large wide p reads v s e =
      let text = export_text sheet budget room export in
      ap read_cnf (take-append_seam text (drop (length text) export) ∙ text-of-answer sheet budget room export p reads v s (result-of-search sheet budget room export p reads large wide v s e))
      ∙ export-round-trip sheet p reads budget v s e

-- the text that the program prints
pub printed-read-back : (sheet : List ℕ) (p : Problem) → read sheet ≡ accepted p → (budget : ℕ) (v : Verdict) (s : State) → search p budget ≡ done v s
    → read_cnf (printed_cnf sheet budget) ≡ yes (cnf_of p.clauses s)
unfolding printed_cnf printed_of answered searched export_of
printed-read-back sheet p reads budget v s e = ap read_cnf printed-text ∙ export-round-trip sheet p reads budget v s e
  where
    printed-text : printed_cnf sheet budget ≡ cnf_text (cnf_of p.clauses s)
    printed-text = rw (reads, e) refl
