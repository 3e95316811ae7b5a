-- Document 01, "Bench trials": the starred ones, sheet and listing, as one list with one claim. Assumes nothing.
use Rattle.std.specs.Prelude.{ℕ, ◌≡◌, refl, List, [], ◌∷◌, map}
use Prim.Native.String.{String}
use Rattle.definitions.specs.Lists.{lists_all}
use Rattle.definitions.specs.Words.{words_all}
use Rattle.definitions.specs.Instances.{instances_all}
use Rattle.definitions.specs.Sheet.{sheet_all}
use Rattle.definitions.specs.Questions.{questions_all}
use Rattle.definitions.specs.Search.{search_all}
use Rattle.definitions.specs.Listing.{listing_all}
use Rattle.definitions.specs.Call.{printed, call_all}
use Rattle.definitions.specs.Text.{text, text_all}

-- a sheet, a budget, and what is printed
pub record Trial : Type 0 where
  pub sheet : List String
  pub budget : ℕ
  pub listing : List String

unfoldable pub shown : Trial → List ℕ
shown t = printed (text t.sheet) t.budget

unfoldable pub expected : Trial → List ℕ
expected t = text t.listing

unfoldable pub trials : List Trial
trials =
    -- source document 001's example of clause generation
    record {
      sheet =
          "   1   3" ∷
          "   2   2" ∷
          "   3   2   1   1   1   2   1   2   3   1   1   3" ∷
          "   4   2   1   1   2   1   2   1" ∷
          "   4   1   1   2   3" ∷
          "   4   1  -1   1   3" ∷ [];
      budget = 1000000;
      listing =
          "   5   1   4   1           1           1" ∷
          "   6   1   3  -1   1   2  -1   2   3   1   1   3" ∷
          "   7  -1   1   2" ∷
          "   7   1   2   1" ∷
          "   7   1   2   3" ∷
          "   7  -1   1   3" ∷ [];
    } ∷
    -- one constant, nothing else
    record {
      sheet = "   1   1" ∷ [];
      budget = 1000000;
      listing = "   5   1   0   0           0           0" ∷ [];
    } ∷
    -- a clause of no literals
    record {
      sheet = "   1   1" ∷ "   4   0" ∷ [];
      budget = 1000000;
      listing = "   5   0   0   0           0           1" ∷ [];
    } ∷
    -- p; not p
    record {
      sheet = "   1   1" ∷ "   2   0" ∷ "   4   1   1" ∷ "   4   1  -1" ∷ [];
      budget = 1000000;
      listing = "   5   0   1   0           0           1" ∷ [];
    } ∷
    -- p gives not p; p
    record {
      sheet = "   1   1" ∷ "   2   0" ∷ "   3   1   1   1  -1" ∷ "   4   1   1" ∷ [];
      budget = 1000000;
      listing = "   5   0   1   1           0           1" ∷ "   6   1   1  -1" ∷ [];
    } ∷
    -- s(X) and t(X) give false, not s(X) and t(X) give false; t(1)
    record {
      sheet =
          "   1   1" ∷
          "   2   1" ∷
          "   2   1" ∷
          "   3   2   0   1   1   2   1" ∷
          "   3   2   0  -1   1   2   1" ∷
          "   4   1   2   1" ∷ [];
      budget = 1000000;
      listing = "   5   1   1   0           0           0" ∷ "   7   2   1" ∷ [];
    } ∷
    -- not p gives false; q
    record {
      sheet = "   1   1" ∷ "   2   0" ∷ "   2   0" ∷ "   3   1   0  -1" ∷ "   4   1   2" ∷ [];
      budget = 1000000;
      listing = "   5   1   1   0           0           0" ∷ "   7   2" ∷ [];
    } ∷
    -- p or q, at budgets 0, 1 and 2
    record {
      sheet = "   1   1" ∷ "   2   0" ∷ "   2   0" ∷ "   4   2   1   2" ∷ [];
      budget = 0;
      listing = "   5   2   2   0           0           0" ∷ [];
    } ∷
    record {
      sheet = "   1   1" ∷ "   2   0" ∷ "   2   0" ∷ "   4   2   1   2" ∷ [];
      budget = 1;
      listing = "   5   2   2   0           1           0" ∷ [];
    } ∷
    record {
      sheet = "   1   1" ∷ "   2   0" ∷ "   2   0" ∷ "   4   2   1   2" ∷ [];
      budget = 2;
      listing = "   5   1   2   0           2           0" ∷ "   7   1" ∷ "   7   2" ∷ [];
    } ∷
    -- lt(X,Y) and lt(Y,X) give false; lt(1,1). As document 02 has it, 5/14: one literal serves both heads
    record {
      sheet =
          "   1   1" ∷
          "   2   2" ∷
          "   3   2   0   1   1   2   1   2   1" ∷
          "   4   1   1   1   1" ∷ [];
      budget = 1000000;
      listing = "   5   0   1   1           0           1" ∷ "   6   1   1  -1   1   1" ∷ [];
    } ∷
    []

-- each sheet gives its listing
pub starred : map shown trials ≡ map expected trials
unfolding trials shown expected text_all lists_all words_all instances_all sheet_all questions_all search_all listing_all call_all
starred = refl
