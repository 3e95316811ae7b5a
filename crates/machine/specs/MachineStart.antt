-- The arrays that hold a problem stand for the start of its search: nothing is set, nothing is logged, both counts are 0.
-- Assumes nothing.
use Rattle.std.specs.Prelude.{ℕ, ◌*◌, ◌≡◌, refl, List, length}
use Rattle.std.proofs.Common.{◌∙◌, ap, arith}
use Rattle.encoding.specs.Lengths.{literal_array, rule_array, start_array}
use Rattle.definitions.specs.Lists.{joined}
use Rattle.definitions.specs.Words.{Problem, goal_atoms}
use Rattle.definitions.specs.Instances.{task_of}
use Rattle.definitions.specs.Search.{start}
use Rattle.theory.specs.Limits.{Searchable}
use Rattle.theory.specs.Ends.{standing}
use Rattle.theory.specs.Counts.{Counted}
use Rattle.theory.specs.Invariants.{Sound, start-sound}
use Rattle.encoding.specs.Slots.{rule_words}
use Rattle.encoding.specs.Encoding.{empty_index, Arrays, hold}
use Rattle.encoding.specs.HoldLaws.{rule-length}
use Rattle.encoding.specs.Values.{Values, no_values}
use Rattle.encoding.specs.ValueLaws.{length_none}
use Rattle.units.specs.TrailLaws.{start-stands}
use Rattle.theory.specs.PlaceLaws.{joined-size}
use Rattle.clause_log.specs.StoreLaws.{sets-start-take}
use Rattle.clause_log.specs.LogStart.{start-holds}
use Rattle.machine.specs.Machine.{machine, Stands, RulesStand}

-- the rules stand first in their array
pub rules-stand : (p : Problem) → Searchable p → (before : Arrays) → length before.rules ≡ rule_array → RulesStand p (hold p before).rules
unfolding hold
rules-stand p limits before size =
    let words = joined rule_words p.rules in
    let many : length words ≡ 22 * length p.rules = joined-size rule_words 22 rule-length p.rules in
    record { limits = limits; words = rw many at (sets-start-take before.rules words (omega (arith, many, size, limits.rules))) }

start-counted : (p : Problem) (budget : ℕ) → Counted budget (start (task_of p))
unfolding start standing
start-counted p budget = record { balance = refl; within = omega arith }

goals-sound : (p : Problem) → Searchable p → Sound (task_of p) (start (task_of p))
unfolding task_of
goals-sound p limits = start-sound (task_of p) (omega (arith, limits.goals))

pub machine-start : (p : Problem) → Searchable p → (budget : ℕ) (before : Arrays) → before.index ≡ empty_index
    → length before.starts ≡ start_array → length before.literals ≡ literal_array → length before.table ≡ 256
    → (heads numbers : List ℕ) (values : Values) (trail marks : List ℕ) → length heads ≡ 512 → length numbers ≡ 512
    → values ≡ no_values → length trail ≡ 256 → length marks ≡ 256
    → Stands p budget (start (task_of p))
    (machine (hold p before).starts (hold p before).literals heads numbers (hold p before).table (hold p before).index values trail marks)
    (record { atoms = length (goal_atoms p.clauses); clauses = length p.clauses; set = 0; decisions = 0; conflicts = 0 })
unfolding start task_of
machine-start p limits budget before empty starts_length literals_length table_length heads numbers values trail marks heads_length numbers_length unset trail_length marks_length =
    record {
      sound = goals-sound p limits;
      counted = start-counted p budget;
      log = start-holds p limits before empty starts_length literals_length table_length heads numbers heads_length numbers_length;
      trail = rw unset (start-stands (goal_atoms p.clauses) trail marks);
      room = record {
        table-size = omega (arith, limits.goals);
        values-size = ap length unset ∙ length_none;
        trail-size = trail_length;
        marks-size = marks_length;
      };
      set = refl;
      decisions = refl;
      conflicts = refl;
    }
