-- The arrays as the reader of a sheet leaves them stand for the start of the search. Assumes nothing.
use Rattle.std.specs.Prelude.{ℕ, ◌<◌, ◌^◌, ◌≡◌, refl, List, map, length, replicate}
use Rattle.std.proofs.Common.{sym, ap, subst, ◌∙◌}
use Rattle.std.proofs.lemmas.List.{length-replicate}
use Rattle.std.proofs.lemmas.List.Edits.{sets}
use Rattle.std.proofs.Math.Seq.{length-sets}
use Rattle.encoding.specs.Lengths.{literal_array, rule_array, start_array}
use Rattle.definitions.specs.Lists.{joined}
use Rattle.definitions.specs.Words.{Problem, goal_atoms}
use Rattle.definitions.specs.Instances.{task_of}
use Rattle.definitions.specs.Search.{start, search}
use Rattle.definitions.specs.Questions.{read, accepted}
use Rattle.theory.specs.Limits.{limits-searchable, accepted-limits}
use Rattle.encoding.specs.Slots.{rule_words}
use Rattle.encoding.specs.Values.{no_values}
use Rattle.encoding.specs.Encoding.{atom_code, clause_words, starts_from, Arrays, arrays, hold, sizes_of, empty_index}
use Rattle.encoding.specs.declared.Sizes.{Sizes}
use Rattle.machine.specs.Machine.{machine, Stands, RulesStand, Running, EndStands, EndsRun, Lengths, Loaded}
use Rattle.machine.specs.declared.Machine.{Machine}
use Rattle.machine.specs.MachineStart.{rules-stand, machine-start}
use Rattle.machine.specs.SearchStands.{search-stands}
use Rattle.agenda.specs.Agenda.{Users}
use Rattle.machine.specs.Stepping.{Stepping, start_upkeep, start-follow}
use Rattle.machine.specs.declared.Run.{Run}
use Rattle.machine.specs.declared.Ended.{Ended}

-- the counts before the first step
unfoldable pub start_run : Sizes → Run
start_run sizes = record { atoms = sizes.atoms; clauses = sizes.clauses; set = 0; decisions = 0; conflicts = 0 }

-- stores change no length
stored-length : (l ws after : List ℕ) (n : ℕ) → after ≡ sets l 0 ws → length after ≡ n → length l ≡ n
stored-length l ws after n e h = sym (length-sets l 0 ws) ∙ ap length (sym e) ∙ h

module _ (p : Problem) (sizes : Sizes) (budget : ℕ) (rules : List ℕ) (m : Machine) (loaded : Loaded p sizes rules m) where
  abbrev lengths : Lengths rules m
  lengths = loaded.lengths

  before-rules : length loaded.before.rules ≡ rule_array
  unfolding hold
  before-rules = stored-length loaded.before.rules (joined rule_words p.rules) rules rule_array loaded.its_rules lengths.of_rules

  before-starts : length loaded.before.starts ≡ start_array
  unfolding hold
  before-starts = stored-length loaded.before.starts (starts_from 0 p.clauses) m.store.starts start_array loaded.its_starts lengths.of_starts

  before-literals : length loaded.before.literals ≡ literal_array
  unfolding hold
  before-literals =
      stored-length loaded.before.literals (joined (clause_words (goal_atoms p.clauses)) p.clauses) m.store.literals literal_array loaded.its_literals lengths.of_literals

  before-table : length loaded.before.table ≡ 256
  unfolding hold
  before-table = stored-length loaded.before.table (map atom_code (goal_atoms p.clauses)) m.table.codes 256 loaded.its_table lengths.of_table

  pub loaded-rules : RulesStand p rules
  loaded-rules = subst (RulesStand p) (sym loaded.its_rules) (rules-stand p loaded.limits loaded.before before-rules)

  pub loaded-stands : Stands p budget (start (task_of p)) m (start_run sizes)
  unfolding start_run sizes_of
  loaded-stands =
      rw (loaded.counts, loaded.its_starts, loaded.its_literals, loaded.its_table, loaded.its_index)
      (machine-start p loaded.limits budget loaded.before loaded.empty before-starts before-literals before-table
      m.store.heads m.store.numbers m.trail.values m.trail.words m.trail.marks
      lengths.of_heads lengths.of_numbers loaded.unset lengths.of_trail lengths.of_marks)

  abbrev pub loaded-running : budget < 2 ^ 32 → Running budget rules sizes m (start_run sizes)
  loaded-running small = record { problem = p; state = start (task_of p); rules_stand = loaded-rules; counts = loaded.counts; stands = loaded-stands; small = small }

  -- a step can be made, with masks that hold nothing while all rules sleep
  pub loaded-stepping : budget < 2 ^ 32 → (users : List ℕ) → Users rules sizes.rules users
      → Stepping budget rules users sizes m (start_run sizes) start_upkeep
  loaded-stepping small users its =
      record {
        running = loaded-running small;
        follow = start-follow p loaded.limits;
        its_users = its;
      }

  -- where the loop came to an end, the search did
  pub loaded-ends : (r : Ended) (last : Machine) → EndsRun budget rules sizes m (start_run sizes) r last → EndStands p budget (search p budget) r last
  loaded-ends r last ends = search-stands p budget loaded.limits r last (ends p (start (task_of p)) loaded-rules loaded.counts loaded-stands)

-- the machine once a problem stands in its arrays
abbrev pub held_machine : Problem → Arrays → List ℕ → List ℕ → List ℕ → List ℕ → Machine
held_machine p before heads numbers trail marks =
    let held = hold p before in
    machine held.starts held.literals heads numbers held.table held.index no_values trail marks

-- every sheet that is accepted is read into arrays that can be searched
pub accepted-loaded : (sheet : List ℕ) (p : Problem) → read sheet ≡ accepted p → (before : Arrays) → before.index ≡ empty_index
    → (heads numbers trail marks : List ℕ) → Lengths (hold p before).rules (held_machine p before heads numbers trail marks)
    → Loaded p (sizes_of p) (hold p before).rules (held_machine p before heads numbers trail marks)
accepted-loaded sheet p read_as before empty heads numbers trail marks lengths =
    record {
      lengths = lengths;
      limits = limits-searchable p (accepted-limits sheet p read_as);
      before = before;
      empty = empty;
      counts = refl;
      its_rules = refl;
      its_starts = refl;
      its_literals = refl;
      its_table = refl;
      its_index = refl;
      unset = refl;
    }

-- and there are such arrays: of zeros before, as a call has them
abbrev zeros : ℕ → List ℕ
zeros n = replicate n 0

length-zeros : (n : ℕ) → length (zeros n) ≡ n
length-zeros n = length-replicate {A = ℕ} n 0

abbrev zero_arrays : Arrays
zero_arrays = arrays (zeros 16) (zeros rule_array) (zeros start_array) (zeros literal_array) (zeros 256) empty_index

abbrev first_machine : Problem → Machine
first_machine p = held_machine p zero_arrays (zeros 512) (zeros 512) (zeros 256) (zeros 256)

first-lengths : (p : Problem) → Lengths (hold p zero_arrays).rules (first_machine p)
unfolding hold
first-lengths p =
    record {
      of_rules = written rule_array (joined rule_words p.rules);
      of_starts = written start_array (starts_from 0 p.clauses);
      of_literals = written literal_array (joined (clause_words (goal_atoms p.clauses)) p.clauses);
      of_heads = length-zeros 512;
      of_numbers = length-zeros 512;
      of_table = written 256 (map atom_code (goal_atoms p.clauses));
      of_trail = length-zeros 256;
      of_marks = length-zeros 256;
    }
  where
    written : (n : ℕ) (ws : List ℕ) → length (sets (zeros n) 0 ws) ≡ n
    written n ws = length-sets (zeros n) 0 ws ∙ length-zeros n

pub accepted-arrays : (sheet : List ℕ) (p : Problem) → read sheet ≡ accepted p → (rules : List ℕ) × (m : Machine) × Loaded p (sizes_of p) rules m
accepted-arrays sheet p read_as =
    ((hold p zero_arrays).rules, first_machine p, accepted-loaded sheet p read_as zero_arrays refl (zeros 512) (zeros 512) (zeros 256) (zeros 256) (first-lengths p))
