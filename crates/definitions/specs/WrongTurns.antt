-- Document 01, "Wrong turns", and others near them: small sheets on which a solver that takes the turn prints something else. Assumes nothing.
use Rattle.std.specs.Prelude.{◌≡◌, refl, List, [], ◌∷◌, ◌++◌, map}
use Rattle.definitions.specs.Lists.{lists_all}
use Rattle.definitions.specs.Words.{words_all}
use Rattle.definitions.specs.Instances.{instances_all}
use Rattle.definitions.specs.Sheet.{sheet_all}
use Rattle.definitions.specs.Questions.{questions_all}
use Rattle.definitions.specs.Search.{search_all}
use Rattle.definitions.specs.Listing.{listing_all}
use Rattle.definitions.specs.Call.{call_all}
use Rattle.definitions.specs.Text.{text_all}
use Rattle.definitions.specs.Trials.{Trial, shown, expected}

-- Each comment has the rules and the clauses, then the wrong turn and what it comes to. Atoms p, q and r are goal atoms, c and d are
-- not. Symbols are numbered in the order in which the comment names them.

-- created atoms: who may set them, and that nothing decides them
unfoldable pub on_created_atoms : List Trial
on_created_atoms =
    -- p gives c, c gives false, not c gives false; p or not p. After the conflict p is false and the created atom c is unset.
    -- Deciding c after backtracking, or setting it backwards from the false body (not c is logged), fires the last rule: UNSAT
    record {
      sheet =
          "   1   1" ∷
          "   2   0" ∷
          "   2   0" ∷
          "   3   1   1   1   2" ∷
          "   3   1   0   2" ∷
          "   3   1   0  -2" ∷
          "   4   2   1  -1" ∷ [];
      budget = 1000000;
      listing =
          "   5   1   2   2           1           1" ∷
          "   6   1   2  -1   2" ∷
          "   6   2   1  -2" ∷
          "   7  -1" ∷ [];
    } ∷
    -- p gives c, c gives q, not c gives false; p or not p; not q. Setting c backwards from the false body literal q: UNSAT
    record {
      sheet =
          "   1   1" ∷
          "   2   0" ∷
          "   2   0" ∷
          "   2   0" ∷
          "   3   1   1   1   2" ∷
          "   3   1   1   2   3" ∷
          "   3   1   0  -2" ∷
          "   4   2   1  -1" ∷
          "   4   1  -3" ∷ [];
      budget = 1000000;
      listing =
          "   5   1   3   2           1           1" ∷
          "   6   1   2  -1   2" ∷
          "   6   2   2  -2   3" ∷
          "   7  -1" ∷
          "   7  -3" ∷ [];
    } ∷
    -- p gives c, c gives not c, not c gives false; p or not p. The body literal equals the negated head and is not repeated. Setting
    -- a created atom whenever it is in the last literal of the logged clause, as if the heads were true then: UNSAT
    record {
      sheet =
          "   1   1" ∷
          "   2   0" ∷
          "   2   0" ∷
          "   3   1   1   1   2" ∷
          "   3   1   1   2  -2" ∷
          "   3   1   0  -2" ∷
          "   4   2   1  -1" ∷ [];
      budget = 1000000;
      listing =
          "   5   1   2   2           1           1" ∷
          "   6   1   2  -1   2" ∷
          "   6   2   1  -2" ∷
          "   7  -1" ∷ [];
    } ∷
    -- p gives c and not p; p or not p. Deciding c after backtracking: 2 decisions. Dropping it from the table on the conflict: 1 atom.
    -- It stays there, unset, without a line of kind 7
    record {
      sheet = "   1   1" ∷ "   2   0" ∷ "   2   0" ∷ "   3   1   2   1   2  -1" ∷ "   4   2   1  -1" ∷ [];
      budget = 1000000;
      listing =
          "   5   1   2   2           1           1" ∷
          "   6   1   2  -1   2" ∷
          "   6   1   1  -1" ∷
          "   7  -1" ∷ [];
    } ∷
    -- p gives c, c gives false, not p gives d; p or not p. The unit clause not c may not set c and is passed over. Ending unit
    -- propagation there, d stays unset and its instance is logged until the log is full
    record {
      sheet =
          "   1   1" ∷
          "   2   0" ∷
          "   2   0" ∷
          "   2   0" ∷
          "   3   1   1   1   2" ∷
          "   3   1   0   2" ∷
          "   3   1   1  -1   3" ∷
          "   4   2   1  -1" ∷ [];
      budget = 1000000;
      listing =
          "   5   1   3   3           1           1" ∷
          "   6   1   2  -1   2" ∷
          "   6   2   1  -2" ∷
          "   6   3   2   1   3" ∷
          "   7  -1" ∷
          "   7   3" ∷ [];
    } ∷
    []

-- goal atoms: a logged clause sets them backwards too
unfoldable pub on_goal_atoms : List Trial
on_goal_atoms =
    -- q gives false; not p or q. Barring the logged clause not q from the goal atom q: 2 decisions
    record {
      sheet = "   1   1" ∷ "   2   0" ∷ "   2   0" ∷ "   3   1   0   1" ∷ "   4   2  -2   1" ∷ [];
      budget = 1000000;
      listing = "   5   1   2   1           1           1" ∷ "   6   1   1  -1" ∷ "   7  -2" ∷ "   7  -1" ∷ [];
    } ∷
    -- q gives r; not p or q; not r. Letting the logged clause not q or r set only its last literal: 2 decisions
    record {
      sheet =
          "   1   1" ∷
          "   2   0" ∷
          "   2   0" ∷
          "   2   0" ∷
          "   3   1   1   1   2" ∷
          "   4   2  -3   1" ∷
          "   4   1  -2" ∷ [];
      budget = 1000000;
      listing =
          "   5   1   3   1           1           1" ∷
          "   6   1   2  -1   2" ∷
          "   7  -3" ∷
          "   7  -1" ∷
          "   7  -2" ∷ [];
    } ∷
    []

-- an atom outside the table, or unset, is neither true nor false
unfoldable pub on_unset_atoms : List Trial
on_unset_atoms =
    -- p(X) and not c(X) give false; p(1). Reading c(1) as false in the head fires the rule
    record {
      sheet = "   1   1" ∷ "   2   1" ∷ "   2   1" ∷ "   3   2   0   1   1  -2   1" ∷ "   4   1   1   1" ∷ [];
      budget = 1000000;
      listing = "   5   1   1   0           0           0" ∷ "   7   1   1" ∷ [];
    } ∷
    -- p gives not c, not c gives false; p. Reading c as false, the first body is true already, and its instance is not logged
    record {
      sheet =
          "   1   1" ∷
          "   2   0" ∷
          "   2   0" ∷
          "   3   1   1   1  -2" ∷
          "   3   1   0  -2" ∷
          "   4   1   1" ∷ [];
      budget = 1000000;
      listing = "   5   0   2   2           0           1" ∷ "   6   1   2  -1  -2" ∷ "   6   2   1   2" ∷ [];
    } ∷
    -- not p gives false; p or q. Reading the unset goal atom p as false fires the rule before the first decision
    record {
      sheet = "   1   1" ∷ "   2   0" ∷ "   2   0" ∷ "   3   1   0  -1" ∷ "   4   2   1   2" ∷ [];
      budget = 1000000;
      listing = "   5   1   2   0           2           0" ∷ "   7   1" ∷ "   7   2" ∷ [];
    } ∷
    -- p gives c; p. Reading c as false in the clause that has brought it into the table: a conflict
    record {
      sheet = "   1   1" ∷ "   2   0" ∷ "   2   0" ∷ "   3   1   1   1   2" ∷ "   4   1   1" ∷ [];
      budget = 1000000;
      listing =
          "   5   1   2   1           0           0" ∷
          "   6   1   2  -1   2" ∷
          "   7   1" ∷
          "   7   2" ∷ [];
    } ∷
    []

-- conflicts: when they are tested, and what they undo
unfoldable pub on_conflicts : List Trial
on_conflicts =
    -- p; not p; q or not q. Testing for conflict only after a decision: q is decided first
    record {
      sheet = "   1   1" ∷ "   2   0" ∷ "   2   0" ∷ "   4   1   1" ∷ "   4   1  -1" ∷ "   4   2   2  -2" ∷ [];
      budget = 1000000;
      listing = "   5   0   2   0           0           1" ∷ [];
    } ∷
    -- p; not p or q; not q. The same where unit propagation has set every goal atom: UNKNOWN
    record {
      sheet = "   1   1" ∷ "   2   0" ∷ "   2   0" ∷ "   4   1   1" ∷ "   4   2  -1   2" ∷ "   4   1  -2" ∷ [];
      budget = 1000000;
      listing = "   5   0   2   0           0           1" ∷ [];
    } ∷
    -- all four clauses over p and q. The second conflict follows a flip, not a decision: UNKNOWN if it is not tested there
    record {
      sheet =
          "   1   1" ∷
          "   2   0" ∷
          "   2   0" ∷
          "   4   2   1   2" ∷
          "   4   2   1  -2" ∷
          "   4   2  -1   2" ∷
          "   4   2  -1  -2" ∷ [];
      budget = 1000000;
      listing = "   5   0   2   0           1           2" ∷ [];
    } ∷
    -- p(X) and q(X) give false, not q(X) gives false; p(1) or q(1). Keeping q(1) false, which was flipped, when p(1) flips: UNSAT
    record {
      sheet =
          "   1   1" ∷
          "   2   1" ∷
          "   2   1" ∷
          "   3   2   0   1   1   2   1" ∷
          "   3   1   0  -2   1" ∷
          "   4   2   1   1   2   1" ∷ [];
      budget = 1000000;
      listing =
          "   5   1   2   2           2           2" ∷
          "   6   1   2  -1   1  -2   1" ∷
          "   6   2   1   2   1" ∷
          "   7  -1   1" ∷
          "   7   2   1" ∷ [];
    } ∷
    -- q gives false; p or q. Undoing all decisions and not only the latest one: UNSAT
    record {
      sheet = "   1   1" ∷ "   2   0" ∷ "   2   0" ∷ "   3   1   0   1" ∷ "   4   2   2   1" ∷ [];
      budget = 1000000;
      listing = "   5   1   2   1           2           1" ∷ "   6   1   1  -1" ∷ "   7   2" ∷ "   7  -1" ∷ [];
    } ∷
    -- p gives false; p or not p. Dropping the log on the conflict: 0 logged
    record {
      sheet = "   1   1" ∷ "   2   0" ∷ "   3   1   0   1" ∷ "   4   2   1  -1" ∷ [];
      budget = 1000000;
      listing = "   5   1   1   1           1           1" ∷ "   6   1   1  -1" ∷ "   7  -1" ∷ [];
    } ∷
    []

-- decisions and the budget
unfoldable pub on_decisions : List Trial
on_decisions =
    -- not p or not q. Deciding false first: the choice that is shown is not the first one
    record {
      sheet = "   1   1" ∷ "   2   0" ∷ "   2   0" ∷ "   4   2  -1  -2" ∷ [];
      budget = 1000000;
      listing = "   5   1   2   0           1           0" ∷ "   7   1" ∷ "   7  -2" ∷ [];
    } ∷
    -- not q or not p, where p is symbol 1. Taking goal atoms by symbol and not in order of first appearance: p is decided
    record {
      sheet = "   1   1" ∷ "   2   0" ∷ "   2   0" ∷ "   4   2  -2  -1" ∷ [];
      budget = 1000000;
      listing = "   5   1   2   0           1           0" ∷ "   7   2" ∷ "   7  -1" ∷ [];
    } ∷
    -- p, with budget 0. Deciding before the first unit propagation: SPENT
    record {
      sheet = "   1   1" ∷ "   2   0" ∷ "   4   1   1" ∷ [];
      budget = 0;
      listing = "   5   1   1   0           0           0" ∷ "   7   1" ∷ [];
    } ∷
    -- p or not p, with budget 0. Making the decision that exceeds the budget: UNKNOWN
    record {
      sheet = "   1   1" ∷ "   2   0" ∷ "   4   2   1  -1" ∷ [];
      budget = 0;
      listing = "   5   2   1   0           0           0" ∷ [];
    } ∷
    -- p gives false; p or q, with budget 1. Deciding before the rules: SPENT. Counting the flip as a decision: 2 decisions
    record {
      sheet = "   1   1" ∷ "   2   0" ∷ "   2   0" ∷ "   3   1   0   1" ∷ "   4   2   1   2" ∷ [];
      budget = 1;
      listing = "   5   1   2   1           1           1" ∷ "   6   1   1  -1" ∷ "   7  -1" ∷ "   7   2" ∷ [];
    } ∷
    []

-- rules: which instance, which body literal, and what is logged
unfoldable pub on_rules : List Trial
on_rules =
    -- a(X5,X3) and b(X2,X3) give false; a(1,2); b(2,2); a(2,1); b(1,1). Ordering fillings by where the heads show the variables: another
    -- clause is logged
    record {
      sheet =
          "   1   2" ∷
          "   2   2" ∷
          "   2   2" ∷
          "   3   2   0   1   5   3   2   2   3" ∷
          "   4   1   1   1   2" ∷
          "   4   1   2   2   2" ∷
          "   4   1   1   2   1" ∷
          "   4   1   2   1   1" ∷ [];
      budget = 1000000;
      listing = "   5   0   4   1           0           1" ∷ "   6   1   2  -1   2   1  -2   1   1" ∷ [];
    } ∷
    -- a(X1) gives false; a(2); a(1). Matching heads against the table in its order: another clause is logged
    record {
      sheet = "   1   2" ∷ "   2   1" ∷ "   3   1   0   1   1" ∷ "   4   1   1   2" ∷ "   4   1   1   1" ∷ [];
      budget = 1000000;
      listing = "   5   0   2   1           0           1" ∷ "   6   1   1  -1   1" ∷ [];
    } ∷
    -- p gives false, q gives false; q; p. Going by the order in which atoms were set and not by rule number: rule 2 is logged
    record {
      sheet =
          "   1   1" ∷
          "   2   0" ∷
          "   2   0" ∷
          "   3   1   0   1" ∷
          "   3   1   0   2" ∷
          "   4   1   2" ∷
          "   4   1   1" ∷ [];
      budget = 1000000;
      listing = "   5   0   2   1           0           1" ∷ "   6   1   1  -1" ∷ [];
    } ∷
    -- p gives false; p. Taking an empty body for true: UNKNOWN
    record {
      sheet = "   1   1" ∷ "   2   0" ∷ "   3   1   0   1" ∷ "   4   1   1" ∷ [];
      budget = 1000000;
      listing = "   5   0   1   1           0           1" ∷ "   6   1   1  -1" ∷ [];
    } ∷
    -- p gives q and c; p; q. Taking the first body literal even if it is true: q is logged, until the log is full
    record {
      sheet =
          "   1   1" ∷
          "   2   0" ∷
          "   2   0" ∷
          "   2   0" ∷
          "   3   1   2   1   2   3" ∷
          "   4   1   1" ∷
          "   4   1   2" ∷ [];
      budget = 1000000;
      listing =
          "   5   1   3   1           0           0" ∷
          "   6   1   2  -1   3" ∷
          "   7   1" ∷
          "   7   2" ∷
          "   7   3" ∷ [];
    } ∷
    -- p gives q and c; p; not q. Passing over a false body literal: UNKNOWN. Logging both body literals at once: 3 atoms
    record {
      sheet =
          "   1   1" ∷
          "   2   0" ∷
          "   2   0" ∷
          "   2   0" ∷
          "   3   1   2   1   2   3" ∷
          "   4   1   1" ∷
          "   4   1  -2" ∷ [];
      budget = 1000000;
      listing = "   5   0   2   1           0           1" ∷ "   6   1   2  -1   2" ∷ [];
    } ∷
    -- p gives p and c; p. Asking that body literals differ from the heads: no instance
    record {
      sheet = "   1   1" ∷ "   2   0" ∷ "   2   0" ∷ "   3   1   2   1   1   2" ∷ "   4   1   1" ∷ [];
      budget = 1000000;
      listing =
          "   5   1   2   1           0           0" ∷
          "   6   1   2  -1   2" ∷
          "   7   1" ∷
          "   7   2" ∷ [];
    } ∷
    -- p(X) and q(X) give not p(X); p(1); q(1). Writing the body literal that equals a negated head twice: 3 literals
    record {
      sheet =
          "   1   1" ∷
          "   2   1" ∷
          "   2   1" ∷
          "   3   2   1   1   1   2   1  -1   1" ∷
          "   4   1   1   1" ∷
          "   4   1   2   1" ∷ [];
      budget = 1000000;
      listing = "   5   0   2   1           0           1" ∷ "   6   1   2  -1   1  -2   1" ∷ [];
    } ∷
    -- p(X) gives c(X), q(X) and c(X) give false, q(X) gives not c(X); not p(1) or q(1). Not logging a clause that the log holds already,
    -- from another rule: 2 logged, and c(1) stays unset
    record {
      sheet =
          "   1   1" ∷
          "   2   1" ∷
          "   2   1" ∷
          "   2   1" ∷
          "   3   1   1   1   1   2   1" ∷
          "   3   2   0   3   1   2   1" ∷
          "   3   1   1   3   1  -2   1" ∷
          "   4   2  -1   1   3   1" ∷ [];
      budget = 1000000;
      listing =
          "   5   1   3   3           2           1" ∷
          "   6   1   2  -1   1   2   1" ∷
          "   6   2   2  -3   1  -2   1" ∷
          "   6   3   2  -3   1  -2   1" ∷
          "   7  -1   1" ∷
          "   7   3   1" ∷
          "   7  -2   1" ∷ [];
    } ∷
    []

-- repeats in a clause
unfoldable pub on_repeats : List Trial
on_repeats =
    -- p or p. Counting the repeated literal twice: p is decided
    record {
      sheet = "   1   1" ∷ "   2   0" ∷ "   4   2   1   1" ∷ [];
      budget = 1000000;
      listing = "   5   1   1   0           0           0" ∷ "   7   1" ∷ [];
    } ∷
    -- p or not p; not p. Counting both literals of p as one unset literal: p is set true, UNSAT
    record {
      sheet = "   1   1" ∷ "   2   0" ∷ "   4   2   1  -1" ∷ "   4   1  -1" ∷ [];
      budget = 1000000;
      listing = "   5   1   1   0           0           0" ∷ "   7  -1" ∷ [];
    } ∷
    []

-- one literal that serves two heads
unfoldable pub on_equal_heads : List Trial
on_equal_heads =
    -- p(X,Z) and p(Y,Z) give c(X,Y); p(1,1). Writing the negated head twice: 3 literals. Asking two literals of the clause, as many as
    -- there are heads, before c(1,1) may be set: it is one of them, and is never set
    record {
      sheet =
          "   1   1" ∷
          "   2   2" ∷
          "   2   2" ∷
          "   3   2   1   1   1   3   1   2   3   2   1   2" ∷
          "   4   1   1   1   1" ∷ [];
      budget = 1000000;
      listing =
          "   5   1   2   1           0           0" ∷
          "   6   1   2  -1   1   1   2   1   1" ∷
          "   7   1   1   1" ∷
          "   7   2   1   1" ∷ [];
    } ∷
    -- p(X) gives c(X,X), c(X,Y) and c(Y,X) give false, not c(X,X) gives false; p(1) or not p(1). After the conflict c(1,1) is unset, and
    -- not c(1,1) is all of a clause of two heads. Taking a repeated head for true, since it was dropped: not c(1,1) is set, UNSAT
    record {
      sheet =
          "   1   1" ∷
          "   2   1" ∷
          "   2   2" ∷
          "   3   1   1   1   1   2   1   1" ∷
          "   3   2   0   2   1   2   2   2   1" ∷
          "   3   1   0  -2   1   1" ∷
          "   4   2   1   1  -1   1" ∷ [];
      budget = 1000000;
      listing =
          "   5   1   2   2           1           1" ∷
          "   6   1   2  -1   1   2   1   1" ∷
          "   6   2   1  -2   1   1" ∷
          "   7  -1   1" ∷ [];
    } ∷
    -- p(X) and q(X,Y) and p(Y) give false; p(1); q(1,1). Looking for a repeat only in the head before: 3 literals
    record {
      sheet =
          "   1   1" ∷
          "   2   1" ∷
          "   2   2" ∷
          "   3   3   0   1   1   2   1   2   1   2" ∷
          "   4   1   1   1" ∷
          "   4   1   2   1   1" ∷ [];
      budget = 1000000;
      listing = "   5   0   2   1           0           1" ∷ "   6   1   2  -1   1  -2   1   1" ∷ [];
    } ∷
    -- p(X,Y) and p(Y,Z) and p(Z,X) give c(X); p(1,1). Dropping one repeat alone: 3 literals
    record {
      sheet =
          "   1   1" ∷
          "   2   2" ∷
          "   2   1" ∷
          "   3   3   1   1   1   2   1   2   3   1   3   1   2   1" ∷
          "   4   1   1   1   1" ∷ [];
      budget = 1000000;
      listing =
          "   5   1   2   1           0           0" ∷
          "   6   1   2  -1   1   1   2   1" ∷
          "   7   1   1   1" ∷
          "   7   2   1" ∷ [];
    } ∷
    -- p(X,Y) and p(Y,X) give not p(X,Y); p(1,1). Writing any of the three literals again: 2 or 3 literals
    record {
      sheet =
          "   1   1" ∷
          "   2   2" ∷
          "   3   2   1   1   1   2   1   2   1  -1   1   2" ∷
          "   4   1   1   1   1" ∷ [];
      budget = 1000000;
      listing = "   5   0   1   1           0           1" ∷ "   6   1   1  -1   1   1" ∷ [];
    } ∷
    -- p(X,Z) and p(Y,Z) give c(X,Y); p(1,1); p(2,1). Taking the fillings whose heads differ first: c(1,2) is logged before c(1,1)
    record {
      sheet =
          "   1   2" ∷
          "   2   2" ∷
          "   2   2" ∷
          "   3   2   1   1   1   3   1   2   3   2   1   2" ∷
          "   4   1   1   1   1" ∷
          "   4   1   1   2   1" ∷ [];
      budget = 1000000;
      listing =
          "   5   1   6   4           0           0" ∷
          "   6   1   2  -1   1   1   2   1   1" ∷
          "   6   1   3  -1   1   1  -1   2   1   2   1   2" ∷
          "   6   1   3  -1   2   1  -1   1   1   2   2   1" ∷
          "   6   1   2  -1   2   1   2   2   2" ∷
          "   7   1   1   1" ∷
          "   7   1   2   1" ∷
          "   7   2   1   1" ∷
          "   7   2   1   2" ∷
          "   7   2   2   1" ∷
          "   7   2   2   2" ∷ [];
    } ∷
    []

unfoldable pub turns : List Trial
turns = on_created_atoms ++ on_goal_atoms ++ on_unset_atoms ++ on_conflicts ++ on_decisions ++ on_rules ++ on_repeats ++ on_equal_heads

-- each sheet gives its listing
pub unmoved : map shown turns ≡ map expected turns
unfolding turns on_created_atoms on_goal_atoms on_unset_atoms on_conflicts on_decisions on_rules on_repeats on_equal_heads shown expected text_all lists_all words_all instances_all sheet_all questions_all search_all listing_all call_all
unmoved = refl
