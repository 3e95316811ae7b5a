-- The theorems about the search of an accepted sheet, at every budget, in the order of document 01. What a call comes to stands in
-- `CallLaws`; demand 3 in `Larger`, for problems, and in `Demand3`, for calls. Assumes nothing.
use Rattle.std.specs.Prelude.{ℕ, suc, ◌^◌, ◌≤◌, ◌<◌, ◌≡◌, List, length}
use Rattle.std.proofs.Common.{arith}
use Rattle.definitions.specs.Bounds.{room_bytes}
use Rattle.definitions.specs.Lists.{◌∈◌, Different}
use Rattle.definitions.specs.Words.{Problem, goal_atoms}
use Rattle.definitions.specs.Instances.{task_of}
use Rattle.definitions.specs.Meaning.{Choice, Fails}
use Rattle.definitions.specs.Questions.{accepted, read}
use Rattle.definitions.specs.Search.{State, done, search}
use Rattle.definitions.specs.Verdicts.{FirstChoice, SpentWhen, FullWhen}
use Rattle.definitions.specs.Listing.{Field, listing_lines, listing}
use Rattle.definitions.specs.declared.Verdict.{Verdict}
use Rattle.definitions.specs.declared.Verdict.TheVariants.{Unsat, Unknown, Spent, Full}
use Rattle.theory.specs.Counts.{decisions-within-budget, conflicts-at-most-decisions-plus-1, spent-only-when, full-only-when, limits-kept, no-instance-logged-twice}
use Rattle.theory.proofs.Choices.{unsat-means}
use Rattle.theory.specs.Limits.{accepted-limits}
use Rattle.theory.specs.ListingLaws.{FieldFits, listing-fits, listing-length}
use Rattle.theory.proofs.Sizes.{search-listable}
use Rattle.theory.proofs.Unknown.{unknown-means}

module _ (sheet : List ℕ) (p : Problem) (reads : read sheet ≡ accepted p) (budget : ℕ) where
  goals : length (goal_atoms (task_of p).clauses) ≤ 256
  unfolding task_of
  goals = omega (arith, (accepted-limits sheet p reads).goals)

  -- UNSAT: every choice of the goal's atoms breaks a goal clause, or its closure has a clash
  pub unsat : (s : State) → search p budget ≡ done Unsat s → (σ : Choice) → Fails (task_of p) σ
  unfolding search
  unsat s e = unsat-means (task_of p) budget s e

  -- UNKNOWN: the setting of the goal atoms is a choice that does neither, every earlier choice does one of them, and the
  -- literals that are true are that choice's closure
  pub unknown : (s : State) → search p budget ≡ done Unknown s → FirstChoice (task_of p) s.trail
  unfolding search
  unknown s e = unknown-means (task_of p) budget s e

  -- SPENT: a goal atom is unset, nothing is left for A and B, and the decisions equal the budget
  pub spent : (s : State) → search p budget ≡ done Spent s → SpentWhen (task_of p) budget s
  unfolding search
  spent s e = spent-only-when (task_of p) budget s e

  -- FULL: B needs a 513th clause or a 257th atom
  pub full : (s : State) → search p budget ≡ done Full s → FullWhen (task_of p) s
  unfolding search
  full s e = full-only-when (task_of p) budget s goals e

  module _ (v : Verdict) (s : State) (e : search p budget ≡ done v s) where
    pub decisions-at-most-the-budget : s.decisions ≤ budget
    unfolding search
    decisions-at-most-the-budget = decisions-within-budget (task_of p) budget v s e

    pub conflicts-at-most-one-more : s.conflicts ≤ suc s.decisions
    unfolding search
    conflicts-at-most-one-more = conflicts-at-most-decisions-plus-1 (task_of p) budget v s e

    pub atoms-and-clauses-limited : (length s.table ≤ 256) × (length s.log ≤ 512)
    unfolding search
    atoms-and-clauses-limited = limits-kept (task_of p) budget v s goals e

    -- no instance is logged twice with the same body literal, or twice with a false body
    pub logged-once : Different s.log
    unfolding search
    logged-once = no-instance-logged-twice (task_of p) budget v s e

    -- the listing, at a 32-bit budget: at most 45,056 bytes, and every number fits its column
    pub listing-at-most : budget < 2 ^ 32 → length (listing v s) ≤ room_bytes
    listing-at-most h = omega (arith, listing-length v s (search-listable p (accepted-limits sheet p reads) budget h v s e))

    pub listing-columns-fit : budget < 2 ^ 32 → (line : List Field) → line ∈ listing_lines v s → (f : Field) → f ∈ line → FieldFits f
    listing-columns-fit h = listing-fits v s (search-listable p (accepted-limits sheet p reads) budget h v s e)
