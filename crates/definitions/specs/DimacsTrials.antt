-- Document 02, 2/14: sheets with the text that is exported, and texts with what the reader makes of them. Assumes nothing.
use Rattle.std.specs.Prelude.{ℕ, ◌≡◌, refl, List, [], ◌∷◌, map}
use Prim.Native.String.{String}
use Rattle.definitions.specs.Lists.{lists_all}
use Rattle.definitions.specs.Words.{words_all}
use Rattle.definitions.specs.Instances.{instances_all}
use Rattle.definitions.specs.Sheet.{plus, minus, sheet_all}
use Rattle.definitions.specs.Questions.{Asked, no, yes, questions_all}
use Rattle.definitions.specs.Search.{search_all}
use Rattle.definitions.specs.Listing.{listing_all}
use Rattle.definitions.specs.Text.{bytes, text, text_all}
use Rattle.definitions.specs.Dimacs.{Cnf, read_cnf, dimacs_all}
use Rattle.definitions.specs.Call.{call_all}
use Rattle.definitions.specs.Export.{printed_cnf, export_all}

-- ── what is written ──

-- a sheet, a budget, and the exported text
pub record ExportTrial : Type 0 where
  pub sheet : List String
  pub budget : ℕ
  pub lines : List String

unfoldable pub exported : ExportTrial → List ℕ
exported t = printed_cnf (text t.sheet) t.budget

unfoldable pub wanted : ExportTrial → List ℕ
wanted t = text t.lines

unfoldable pub export_trials : List ExportTrial
export_trials =
    -- document 01's sheet: its goal clauses, and one logged clause over the table's numbers
    record {
      sheet =
          "   1   3" ∷
          "   2   2" ∷
          "   3   2   1   1   1   2   1   2   3   1   1   3" ∷
          "   4   2   1   1   2   1   2   1" ∷
          "   4   1   1   2   3" ∷
          "   4   1  -1   1   3" ∷ [];
      budget = 1000000;
      lines = "p cnf 4 4" ∷ "1 2 0" ∷ "3 0" ∷ "-4 0" ∷ "-1 -3 4 0" ∷ [];
    } ∷
    -- nothing at all
    record {
      sheet = "   1   1" ∷ [];
      budget = 1000000;
      lines = "p cnf 0 0" ∷ [];
    } ∷
    -- a clause of no literals
    record {
      sheet = "   1   1" ∷ "   4   0" ∷ [];
      budget = 1000000;
      lines = "p cnf 0 1" ∷ "0" ∷ [];
    } ∷
    -- a goal clause is written with its repeats
    record {
      sheet = "   1   1" ∷ "   2   0" ∷ "   2   0" ∷ "   4   5   2   1   2  -1  -1" ∷ [];
      budget = 0;
      lines = "p cnf 2 1" ∷ "1 2 1 -2 -2 0" ∷ [];
    } ∷
    -- p gives q, q gives false; p or r: q was created while p was true and is unset in the end, and counts
    record {
      sheet = "   1   1" ∷ "   2   0" ∷ "   2   0" ∷ "   2   0" ∷ "   3   1   1   1   2" ∷ "   3   1   0   2" ∷ "   4   2   1   3" ∷ [];
      budget = 1000000;
      lines = "p cnf 3 3" ∷ "1 2 0" ∷ "-1 3 0" ∷ "-3 0" ∷ [];
    } ∷
    -- a refusal
    record {
      sheet = "   1   1" ∷ "   4   1   1" ∷ [];
      budget = 1000000;
      lines = "   9  10   2" ∷ [];
    } ∷
    []

-- each sheet gives its text
pub exports : map exported export_trials ≡ map wanted export_trials
unfolding export_trials exported wanted text_all lists_all words_all instances_all sheet_all questions_all search_all listing_all dimacs_all call_all export_all
exports = refl

-- ── what is read ──

pub record ReadTrial : Type 0 where
  pub text : List ℕ
  pub reads : Asked Cnf

unfoldable pub read_trials : List ReadTrial
read_trials =
    record { text = text ("p cnf 0 0" ∷ []); reads = yes (record { atoms = 0; clauses = [] }) } ∷
    record { text = text ("p cnf 0 1" ∷ "0" ∷ []); reads = yes (record { atoms = 0; clauses = [] ∷ [] }) } ∷
    record {
      text = text ("p cnf 256 2" ∷ "-256 10 10 0" ∷ "0" ∷ []);
      reads = yes (record { atoms = 256; clauses = (minus 256 ∷ plus 10 ∷ plus 10 ∷ []) ∷ [] ∷ [] });
    } ∷
    record {
      text = text ("p cnf 1 1" ∷ "1 1 1 1 -1 1 1 1 0" ∷ []);
      reads = yes (record { atoms = 1; clauses = (plus 1 ∷ plus 1 ∷ plus 1 ∷ plus 1 ∷ minus 1 ∷ plus 1 ∷ plus 1 ∷ plus 1 ∷ []) ∷ [] });
    } ∷
    -- 21: no header, or one that is out of its limits
    record { text = []; reads = no 21 } ∷
    record { text = bytes "p cnf 0 0"; reads = no 21 } ∷
    record { text = text ("c a comment" ∷ "p cnf 0 0" ∷ []); reads = no 21 } ∷
    record { text = text ("p cnf 257 0" ∷ []); reads = no 21 } ∷
    record { text = text ("p cnf 576 1" ∷ []); reads = no 21 } ∷
    record { text = text ("p cnf 1 577" ∷ []); reads = no 21 } ∷
    record { text = text ("p cnf 01 0" ∷ []); reads = no 21 } ∷
    record { text = text ("p cnf 00 0" ∷ []); reads = no 21 } ∷
    record { text = text ("p cnf +1 0" ∷ []); reads = no 21 } ∷
    record { text = text ("p cnf -1 0" ∷ []); reads = no 21 } ∷
    record { text = text ("p cnf 0" ∷ []); reads = no 21 } ∷
    record { text = text ("p cnf 0 0 " ∷ []); reads = no 21 } ∷
    record { text = text ("p cnf  0 0" ∷ []); reads = no 21 } ∷
    record { text = text ("P cnf 0 0" ∷ []); reads = no 21 } ∷
    record { text = text ("p cnf 18446744073709551617 0" ∷ []); reads = no 21 } ∷
    -- 22: not exactly so many clause lines
    record { text = text ("p cnf 1 1" ∷ []); reads = no 22 } ∷
    record { text = text ("p cnf 1 576" ∷ []); reads = no 22 } ∷
    record { text = text ("p cnf 1 1" ∷ "1 0" ∷ "1 0" ∷ []); reads = no 22 } ∷
    record { text = text ("p cnf 1 1" ∷ "2 0" ∷ []); reads = no 22 } ∷
    record { text = text ("p cnf 1 1" ∷ "-2 0" ∷ []); reads = no 22 } ∷
    record { text = text ("p cnf 1 1" ∷ "-0 0" ∷ []); reads = no 22 } ∷
    record { text = text ("p cnf 1 1" ∷ "1" ∷ []); reads = no 22 } ∷
    record { text = text ("p cnf 1 1" ∷ "1  0" ∷ []); reads = no 22 } ∷
    record { text = text ("p cnf 1 1" ∷ " 1 0" ∷ []); reads = no 22 } ∷
    record { text = text ("p cnf 1 1" ∷ "1 0 " ∷ []); reads = no 22 } ∷
    record { text = text ("p cnf 1 1" ∷ "01 0" ∷ []); reads = no 22 } ∷
    record { text = text ("p cnf 1 1" ∷ "c a comment" ∷ "1 0" ∷ []); reads = no 22 } ∷
    record { text = text ("p cnf 1 1" ∷ "18446744073709551617 0" ∷ []); reads = no 22 } ∷
    record { text = text ("p cnf 1 1" ∷ "1 1 1 1 1 1 1 1 1 0" ∷ []); reads = no 22 } ∷
    []

-- each text is read so
pub reads : map (λ (t : ReadTrial). read_cnf t.text) read_trials ≡ map (λ (t : ReadTrial). t.reads) read_trials
unfolding read_trials text_all lists_all sheet_all questions_all listing_all dimacs_all
reads = refl
