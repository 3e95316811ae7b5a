-- What the solver promises. Read this first.
-- A call takes a sheet's bytes, a 32-bit budget and a room that is lent. The contracts say, for all bytes, budgets and rooms: `solve` hands
-- back `call` and leaves `room_after` in the room, and so does `list`, which hands back the length of `listed_part`. `solve_listing` hands back
-- the front part of the room, which is `listed_part`; of the bytes behind that part its contract can't speak, and it is the one call that is
-- given by less: its body is `list` and the part. They require nothing. Here stands what these three are: demand 1, demand 2 and demand 3.
-- The words are those of documents 01 and 02, each defined in the crate `definitions`; where arrays are spoken of, the crate that has them
-- says how they stand. What is taken from the theory are proofs. Assumes nothing.
use Rattle.std.specs.Prelude.{ℕ, suc, ◌+◌, ◌%◌, ◌≤◌, ◌<◌, ◌≡◌, refl, ◌⊎◌, true, false, ◌||◌, List, [], ◌++◌, map, length, take, drop}
use Rattle.std.proofs.Common.{ap, subst, ◌∙◌}
use Rattle.bits.specs.Bits.{among}
use Rattle.definitions.specs.Lists.{◌∈◌, Different, all, joined, distinct, up_from}
use Rattle.definitions.specs.Bounds.{sheet_bytes, room_bytes, most_atoms, most_exported, export_bytes}
use Rattle.definitions.specs.Words.{Atom, Literal, same_literal, Clause, Rule, TwoWay, two_way, Problem, goal_atoms}
use Rattle.definitions.specs.Instances.{substitutions, Instance, Task, task_of, FillingOf}
use Rattle.definitions.specs.Meaning.{Choice, Fails, Earlier, Assignment, SatisfiesClause, SatisfiesClauses, SatisfiesFilling, SatisfiesRule, SatisfiesLine, Satisfies}
use Rattle.definitions.specs.Sheet.{Line, Number, nothing, decimal}
use Rattle.definitions.specs.Questions.{Asked, no, yes, columns, connected, has_reverse, stands_for, rules_of, read_clause, Draft, read_line, accepted, read}
use Rattle.definitions.specs.Search.{Trail, is_true, Logged, clause_of, not_false, act_on, is_goal, logged_act, next_act, State, clauses_of, start, done, came_to, run, search}
use Rattle.definitions.specs.LiteralTest.{literal_test, TellsApart}
use Rattle.definitions.specs.ClauseNumbers.{clause_numbers, may_act, next_act_among}
use Rattle.definitions.specs.Verdicts.{setting, FirstChoice, SpentWhen, FullWhen}
use Rattle.definitions.specs.Listing.{settings, listing}
use Rattle.definitions.specs.Text.{bytes}
use Rattle.definitions.specs.Dimacs.{Cnf, cnf_of, header_line, cnf_text, read_cnf, CnfLimits}
use Rattle.definitions.specs.Call.{Lending, after_lending, call, listed_part, room_after, printed, printed_part, Comes, FromSearch, Prints}
use Rattle.definitions.specs.Export.{export_call, export_text, room_after_export, export_after, printed_cnf, ExportComes}
use Rattle.definitions.specs.Sheets.{Accepted, Answers, Row, of_kind, Keeps, passes, FilledAlike, blank_column, is_blank, HeadAmong, Shares, Apart}
use Rattle.definitions.specs.RefusedLines.{RefusedAt, HeadApart, FreeVariable}
use Rattle.definitions.specs.Carried.{clause_on, Entailed, NumberAssignment, SatisfiesNumberClauses, Unsatisfiable}
use Rattle.definitions.specs.Models.{listed_literals, listed_setting, SaysUnknown, IsUnknown, said_by_rules, positive_heads, named_heads, listed_heads}
use Rattle.definitions.specs.declared.Verdict.{Verdict}
use Rattle.definitions.specs.declared.Verdict.TheVariants.{Unsat, Unknown, Spent, Full}
use Rattle.definitions.specs.declared.Counts.{Counts}
use Rattle.definitions.specs.declared.Refusal.{Refusal}
use Rattle.definitions.specs.declared.Answer.TheVariants.{Refused, Answered}
use Rattle.definitions.proofs.Supposed.{its-accepted, all_but_p, its-satisfied, both_earlier, broken, handed-back, larger, larger-accepted, larger-keeps, plainly, with_blanks, filled-alike, longer, numbers-satisfied}
use Rattle.definitions.proofs.Supposed
use Rattle.definitions.specs.TwoWayTrials.{free_sheet, free_problem, free-read, body_alone, clauses-satisfied, rules-satisfied, equivalence-broken}
use Rattle.definitions.specs.CarriedTrials.{both_sheet, both_problem, both_read, both_state, both_ends, both_counts, both-begins, two-logged, all_but, each_needed, first_row, first-follows, first-listed, two-in-body, first-satisfied, filling-broken}
use Rattle.definitions.specs.RefusedLineTrials.{sheet_with, apart_line, kept_apart_line, free_line, blank_line}
use Rattle.definitions.proofs.RefusedLineTrials.{apart-refused, kept-apart-refused, free-refused, blank-refused}
use Rattle.definitions.proofs.ModelTrials.{plates, plates-two-way, named_atom, unnamed_atom, open_atom, no_reverse, open-unsatisfied, reverse-unsatisfied}
use Rattle.theory.proofs.Theorems.{unsat, unknown, spent, full, decisions-at-most-the-budget, conflicts-at-most-one-more, logged-once}
use Rattle.theory.specs.InstanceLaws.{substitution-complete, every-filling, only-fillings}
use Rattle.theory.specs.SearchLaws.{clause-once, heads-once}
use Rattle.theory.specs.CallLaws.{call-comes, prints-listing, small-part, large-part}
use Rattle.theory.specs.CallAnswers.{answer-from-search, its-search}
use Rattle.theory.proofs.TruthLaws.{search-tells-apart}
use Rattle.theory.specs.TwoWayLaws.{equivalence-rules, rules-equivalence, lines-rules}
use Rattle.theory.specs.Limits.{accepted-limits, accepted-from-lines}
use Rattle.theory.specs.Reading.{sheet-says}
use Rattle.theory.proofs.ListedClauses.{log-listed}
use Rattle.theory.proofs.NumberLaws.{search-asking}
use Rattle.theory.proofs.Demand3.{never-satisfied, never-unknown}
use Rattle.theory.specs.Connected.{connected-heads, head_apart}
use Rattle.theory.specs.BlankColumns.{nothing-blank, passed_over, blank-line, same-reading, same-accepted, same-results, same-keeps}
use Rattle.theory.specs.FailingLines.{fails-4-to-14, fails-12, fails-14}
use Rattle.theory.specs.CnfReads.{cnf-round-trip, cnf-exact}
use Rattle.theory.specs.CnfRefusals.{cnf-refusals, bad-header, good-header}
use Rattle.theory.proofs.Exports.{export-limits, export-size}
use Rattle.theory.specs.ExportLaws.{export-comes, export-as-first-call, prints-text}
use Rattle.theory.proofs.ExportLaws.{exported-read-back}
use Rattle.theory.specs.RefusedLineLaws.{blank-fails-7, call-refused-at, call-no-line, call-14, refused-at-call, export-refused-at, export-no-line, export-14, refused-at-export}
use Rattle.theory.proofs.CarriedLaws.{unsat-carried, exported-carried, printed-carried, table-decides, numbers-decide, listed-follows, printed-follows, satisfies-clauses, exported-refutes, printed-refutes, both-answered, both-export-answered}
use Rattle.theory.proofs.ModelLaws.{unknown-settings, is-unknown, model-listed, model-positive, model-named}
use Rattle.encoding.specs.Encoding.{literal_word, sizes_of}
use Rattle.encoding.specs.Values.{Values, goals_set, goals_true, literal_value}
use Rattle.encoding.specs.Standing.{Valued, GoalWords}
use Rattle.encoding.specs.WordTruths.{value-test}
use Rattle.encoding.specs.StateTable.{states_in, state_table, ValuesFit, table-words}
use Rattle.encoding.specs.declared.Sizes.{Sizes}
use Rattle.machine.specs.Machine.{Loaded}
use Rattle.machine.specs.declared.Machine.{Machine}
use Rattle.machine.specs.Loading.{accepted-arrays}
use Rattle.machine.specs.RunStands.{values_after, run-words}
use Rattle.counters.specs.Counters.{told}
use Rattle.counters.specs.declared.Counters.{Counters}
use Rattle.machine.specs.CountsStand.{KeptAfter, counters_after, run-numbers}
use Rattle.cnf_reader.specs.CnfArrays.{cnf_read, held_clauses}
use Rattle.cnf_reader.specs.CnfArrayLaws.{cnf-held}

module _ (sheet : List ℕ) (budget : ℕ) (room : List ℕ) where
  -- ── demand 1 ──

  -- Bytes that are no proper sheet, or too small a room: the call ends with the number of the first question that fails and its line,
  -- and the room is unchanged. Every other call ends with one of four answers. Either by document 01's numbers, `values`, too.
  pub demand-1 : Comes sheet budget room
  demand-1 = call-comes sheet budget room

  -- What the program prints: the line of a refusal, or the listing.
  pub demand-1-printed : Prints (λ p v s. listing v s) sheet budget (printed sheet budget)
  demand-1-printed = prints-listing sheet budget

  -- By the contract of `print` that is what stands at the front of its room afterwards, and nothing where the room is too small.
  pub demand-1-printed-part : (room_bytes ≤ length room → printed_part sheet budget room ≡ printed sheet budget) × (length room < room_bytes → printed_part sheet budget room ≡ [])
  demand-1-printed-part = (large-part sheet budget room, small-part sheet budget room)

  -- A refusal with a line from 1 on speaks of that line: every line before it passes all its questions, and the number is that of the
  -- first question that it fails.
  pub demand-1-line : (r : Refusal) → call sheet budget room ≡ Refused r → 1 ≤ r.line → RefusedAt sheet r.number r.line
  demand-1-line = call-refused-at sheet budget room

  -- Where this is so of a line, it is refused with that number, if the room is large enough.
  pub demand-1-line-back : room_bytes ≤ length room → (question line : ℕ) → RefusedAt sheet question line
      → call sheet budget room ≡ Refused (record { number = question; line = line })
  demand-1-line-back = refused-at-call sheet budget room

  -- With line 0 the room is too small, or the sheet is too long, or it has no byte.
  pub demand-1-no-line : (r : Refusal) → call sheet budget room ≡ Refused r → r.line ≡ 0
      → ((r.number ≡ 1) × (length room < room_bytes)) ⊎ (((r.number ≡ 2) × (sheet_bytes < length sheet)) ⊎ ((r.number ≡ 3) × (sheet ≡ [])))
  demand-1-no-line = call-no-line sheet budget room

-- What a refusal says of its line, whichever call it comes from:
module _ (sheet : List ℕ) (question line : ℕ) (x : RefusedAt sheet question line) where
  -- the number is one from 4 to 14;
  pub demand-1-numbers : (4 ≤ question) × (question ≤ 14)
  demand-1-numbers = fails-4-to-14 x.draft x.failing question x.fails

  -- it is 7 for a line of blanks that passes 4 and 5;
  pub demand-1-blank : passes x.failing ≡ true → is_blank x.failing.bytes ≡ true → question ≡ 7
  demand-1-blank = blank-fails-7 x.draft x.failing question x.fails

  -- with 12 a body variable of the rule on the line stands in no head;
  pub demand-1-restricted : question ≡ 12 → FreeVariable x.draft x.failing
  demand-1-restricted is = fails-12 x.draft x.failing (x.fails ∙ ap no is)

  -- with 14 a head of that rule shares no variable with another.
  pub demand-1-connected : question ≡ 14 → HeadApart x.draft x.failing
  demand-1-connected is = fails-14 x.draft x.failing (x.fails ∙ ap no is)

-- What is supposed comes up: sheets that are refused at line 4, with 14 for a rule and for a two-way rule, with 12, and with 7 for blanks.
pub demand-1-comes-up : RefusedAt (sheet_with apart_line) 14 4 × RefusedAt (sheet_with kept_apart_line) 14 4 × RefusedAt (sheet_with free_line) 12 4 × RefusedAt (sheet_with blank_line) 7 4
demand-1-comes-up = (apart-refused, kept-apart-refused, free-refused, blank-refused)

module _ (sheet : List ℕ) (budget : ℕ) (room : List ℕ) where
  -- ── demand 2 ──

  -- Answer, setting, clauses with their order, and both counts are those of the search, whichever call answers.
  pub demand-2 : (v : Verdict) → Answers sheet budget room v → FromSearch sheet budget room v
  demand-2 = answer-from-search sheet budget room

  module _ (p : Problem) (reads : read sheet ≡ accepted p) where
    -- UNSAT comes only when every choice of the goal's atoms breaks a goal clause or leads to a clash by the rules;
    pub demand-2-unsat : Answers sheet budget room Unsat → (σ : Choice) → Fails (task_of p) σ
    demand-2-unsat given = let f = demand-2 Unsat given in unsat sheet p reads budget f.state (its-search sheet budget room p reads Unsat f)

    -- UNKNOWN only with the first choice that does neither: the listing's setting is that choice, and all that is set its closure.
    pub demand-2-unknown : Answers sheet budget room Unknown → (f : FromSearch sheet budget room Unknown) × FirstChoice (task_of p) f.state.trail
    demand-2-unknown given = let f = demand-2 Unknown given in (f, unknown sheet p reads budget f.state (its-search sheet budget room p reads Unknown f))

    -- SPENT comes only where A and B have nothing left, a goal atom is unset, and the decisions equal the budget;
    pub demand-2-spent : Answers sheet budget room Spent → (f : FromSearch sheet budget room Spent) × SpentWhen (task_of p) budget f.state
    demand-2-spent given = let f = demand-2 Spent given in (f, spent sheet p reads budget f.state (its-search sheet budget room p reads Spent f))

    -- FULL only where B needs a 513th clause or a 257th atom.
    pub demand-2-full : Answers sheet budget room Full → (f : FromSearch sheet budget room Full) × FullWhen (task_of p) f.state
    demand-2-full given = let f = demand-2 Full given in (f, full sheet p reads budget f.state (its-search sheet budget room p reads Full f))

    module _ (v : Verdict) (f : FromSearch sheet budget room v) where
      -- Whatever the answer, decisions number at most the budget, and conflicts at most decisions plus 1.
      pub demand-2-counts : (f.state.decisions ≤ budget) × (f.state.conflicts ≤ suc f.state.decisions)
      demand-2-counts =
          let ends = its-search sheet budget room p reads v f in
          (decisions-at-most-the-budget sheet p reads budget v f.state ends, conflicts-at-most-one-more sheet p reads budget v f.state ends)

      -- No instance is logged twice with the same body literal, or twice with a false body.
      pub demand-2-logged-once : Different f.state.log
      demand-2-logged-once = logged-once sheet p reads budget v f.state (its-search sheet budget room p reads v f)

-- ── UNKNOWN that is a model ──

-- Take an accepted sheet, and a listing that says UNKNOWN of it: one that a call which answers so hands back, or the program's.
module _ (sheet : List ℕ) (budget : ℕ) (p : Problem) (reads : read sheet ≡ accepted p) (shown : List ℕ) (says : SaysUnknown sheet budget shown) where
  -- Its lines of kind 7 are what is set where the search ends, in table order; its setting, with every other atom false, is that of
  -- `demand-2-unknown`.
  pub demand-2-setting : (s : State) → search p budget ≡ done Unknown s → (listed_literals shown ≡ settings Unknown s) × (listed_setting shown ≡ setting s.trail)
  demand-2-setting = unknown-settings sheet p reads budget shown says

  -- The setting satisfies the sheet if every two-way rule has its reverse rule or an empty body, and,
  module _ (said : all said_by_rules p.rule_lines ≡ true) where
    -- in every filling whose heads the setting makes all true, each of them stands on a line of kind 7.
    pub demand-2-model : listed_heads shown p ≡ true → Satisfies (listed_setting shown) p
    demand-2-model = model-listed sheet p reads budget shown says said

    -- So it is where no rule has a negated head,
    pub demand-2-model-positive : positive_heads p ≡ true → Satisfies (listed_setting shown) p
    demand-2-model-positive = model-positive sheet p reads budget shown says said

    -- and where every negated head, in every filling, is about an atom that is named in a clause.
    pub demand-2-model-named : named_heads p ≡ true → Satisfies (listed_setting shown) p
    demand-2-model-named = model-named sheet p reads budget shown says said

-- What is supposed comes up. Of each of these sheets every call with a room large enough, and the program, say UNKNOWN: of one with a two-way
-- rule and no negated head,
pub demand-2-model-met-positive : (sheet : List ℕ) × (p : Problem) × (t : TwoWay) × (two_way t ∈ p.rule_lines)
    × IsUnknown sheet 1000000 p × (all said_by_rules p.rule_lines ≡ true) × (positive_heads p ≡ true)
demand-2-model-met-positive =
    (plates.sheet, plates.problem, plates-two-way.0, plates-two-way.1, is-unknown _ _ plates.reads 1000000 plates.prints, plates.lines, plates.positive)

-- of one with a negated head about atoms that are all named,
pub demand-2-model-met-named : (sheet : List ℕ) × (p : Problem)
    × IsUnknown sheet 1000000 p × (all said_by_rules p.rule_lines ≡ true) × (positive_heads p ≡ false) × (named_heads p ≡ true)
demand-2-model-met-named =
    (named_atom.sheet, named_atom.problem, is-unknown _ _ named_atom.reads 1000000 named_atom.prints, named_atom.lines, named_atom.positive, named_atom.named)

-- and of one where not all are named, and those that count stand on lines of kind 7.
pub demand-2-model-met : (sheet : List ℕ) × (p : Problem)
    × IsUnknown sheet 1000000 p × (all said_by_rules p.rule_lines ≡ true) × (named_heads p ≡ false) × (listed_heads (printed sheet 1000000) p ≡ true)
demand-2-model-met =
    (unnamed_atom.sheet, unnamed_atom.problem, is-unknown _ _ unnamed_atom.reads 1000000 unnamed_atom.prints, unnamed_atom.lines, unnamed_atom.named, unnamed_atom.listed)

-- Neither half can be left out. Of these two sheets they say UNKNOWN too, and no assignment satisfies either: one without two-way rules, with a
-- negated head about an atom that is not named,
pub demand-2-no-model : (sheet : List ℕ) × (p : Problem)
    × IsUnknown sheet 1000000 p × (all said_by_rules p.rule_lines ≡ true) × ((v : Assignment) → Satisfies v p → ⊥)
demand-2-no-model = (open_atom.sheet, open_atom.problem, is-unknown _ _ open_atom.reads 1000000 open_atom.prints, open_atom.lines, open-unsatisfied)

-- and one without negated heads, with a two-way rule that has a body and no reverse rule.
pub demand-2-no-model-two-way : (sheet : List ℕ) × (p : Problem)
    × IsUnknown sheet 1000000 p × (positive_heads p ≡ true) × ((v : Assignment) → Satisfies v p → ⊥)
demand-2-no-model-two-way =
    (no_reverse.sheet, no_reverse.problem, is-unknown _ _ no_reverse.reads 1000000 no_reverse.prints, no_reverse.positive, reverse-unsatisfied)

-- ── demand 3 ──

-- Take any sheet that some call answers UNSAT, at whatever budget and room, and any second accepted sheet that keeps its constants,
-- symbols, rules and clauses, with anything besides, in any order.
module _ (first second : List ℕ) (budget : ℕ) (room : List ℕ) (answered : Answers first budget room Unsat) (accepts : Accepted second) (keeps : Keeps first second) where
  -- Then no true/false assignment of all atoms satisfies all clauses of the second and every filling of all its rules, two-way rules as
  -- equivalences (7/14),
  pub demand-3-assignments : (v : Assignment) → Satisfies v accepts.problem → ⊥
  demand-3-assignments = never-satisfied first second budget room answered accepts keeps

  -- and no call, at whatever budget and room, answers it UNKNOWN.
  pub demand-3-calls : (other_budget : ℕ) (other_room : List ℕ) → Answers second other_budget other_room Unknown → ⊥
  demand-3-calls = never-unknown first second budget room answered accepts keeps

-- ── what is supposed comes up ──

-- Some accepted sheets are satisfied by an assignment, so that `demand-3-assignments` says something; a choice may be earlier than another, as in
-- `FirstChoice`;
pub supposed-satisfied : (sheet : List ℕ) × (accepts : Accepted sheet) × (v : Assignment) × Satisfies v accepts.problem
supposed-satisfied = (Supposed.sheet, its-accepted, all_but_p, its-satisfied)

pub supposed-earlier : (sheet : List ℕ) × (accepts : Accepted sheet) × (τ : Choice) × (σ : Choice) × Earlier (task_of accepts.problem) τ σ
supposed-earlier = (Supposed.sheet, its-accepted, _, _, both_earlier)

-- a sheet may be answered UNSAT (in `Supposed` by each call that answers) and a second accepted one keep it;
pub supposed-kept : (first : List ℕ) × (second : List ℕ) × (budget : ℕ) × (room : List ℕ) × Answers first budget room Unsat × Accepted second × Keeps first second
supposed-kept = (broken, larger, 7, _, handed-back, larger-accepted, larger-keeps)

-- two sheets may be filled alike (3/14) and not be the same bytes;
pub supposed-alike : (first : List ℕ) × (second : List ℕ) × FilledAlike first second × (length first ≡ length second → ⊥)
supposed-alike = (plainly, with_blanks, filled-alike, longer)

-- and numbers may satisfy a text's clauses (9/14).
pub supposed-numbers : (v : NumberAssignment) × (clauses : List (List Number)) × (length clauses ≡ 2) × SatisfiesNumberClauses v clauses
supposed-numbers = (_, _, refl, numbers-satisfied)

-- ── the change requests of document 02 ──

-- 1/14. Of two or three heads of a rule in an accepted sheet, each shares a variable with another,
pub request-1 : (sheet : List ℕ) (p : Problem) → read sheet ≡ accepted p → (r : Rule) → r ∈ p.rules → (h : HeadAmong r) → Shares h
request-1 = connected-heads

-- and a rule that fails the test of question 14, `connected`, has a head that doesn't.
pub request-1-only : (r : Rule) → connected r ≡ false → (h : HeadAmong r) × Apart h
request-1-only = head_apart

-- So the first call, and the export, refuse with 14 only at the line of a rule with such a head.
pub request-1-call : (sheet : List ℕ) (budget : ℕ) (room : List ℕ) (line : ℕ) → call sheet budget room ≡ Refused (record { number = 14; line = line })
    → (x : RefusedAt sheet 14 line) × HeadApart x.draft x.failing
request-1-call = call-14

pub request-1-export : (sheet : List ℕ) (budget : ℕ) (room export : List ℕ) (line : ℕ)
    → export_call sheet budget room export ≡ Refused (record { number = 14; line = line }) → (x : RefusedAt sheet 14 line) × HeadApart x.draft x.failing
request-1-export = export-14

-- 2/14. The contract of `export` says that it hands back `export_call` with the length of `export_text`, and leaves `room_after_export` and
-- `export_after` in its rooms; that of `read_cnf`, that it hands back `cnf_read` of what `read_cnf` gives. They require nothing either.
module _ (sheet : List ℕ) (budget : ℕ) (room export : List ℕ) where
  -- An export ends with the number of the first question that fails, 1, then 15, then the sheet's, and both rooms are unchanged; or with
  -- the record, the listing in its room, and the text at the front of the export room with the bytes behind it unchanged.
  pub request-2 : ExportComes sheet budget room export
  request-2 = export-comes sheet budget room export

  -- What the program prints for its word `cnf`, by the contract of `print_cnf`: the line of a refusal, or the text.
  pub request-2-printed : Prints (λ p v s. cnf_text (cnf_of p.clauses s)) sheet budget (printed_cnf sheet budget)
  request-2-printed = prints-text sheet budget

  -- A refusal with a line from 1 on speaks of it as the first call's does (`demand-1-line` and what follows there), both ways;
  pub request-2-line : (r : Refusal) → export_call sheet budget room export ≡ Refused r → 1 ≤ r.line → RefusedAt sheet r.number r.line
  request-2-line = export-refused-at sheet budget room export

  pub request-2-line-back : room_bytes ≤ length room → export_bytes ≤ length export → (question line : ℕ) → RefusedAt sheet question line
      → export_call sheet budget room export ≡ Refused (record { number = question; line = line })
  request-2-line-back = refused-at-export sheet budget room export

  -- with line 0 one of the rooms is too small, or the sheet is too long, or it has no byte.
  pub request-2-no-line : (r : Refusal) → export_call sheet budget room export ≡ Refused r → r.line ≡ 0
      → ((r.number ≡ 1) × (length room < room_bytes)) ⊎ (((r.number ≡ 15) × (length export < export_bytes))
      ⊎ (((r.number ≡ 2) × (sheet_bytes < length sheet)) ⊎ ((r.number ≡ 3) × (sheet ≡ []))))
  request-2-no-line = export-no-line sheet budget room export

  -- The text as it stands in the export room then.
  abbrev exported : List ℕ
  exported = take (length (export_text sheet budget room export)) (export_after sheet budget room export)

  module _ (large : room_bytes ≤ length room) (wide : export_bytes ≤ length export) where
    -- It hands back the record and leaves the listing room as the first call does.
    pub request-2-first-call : (export_call sheet budget room export ≡ call sheet budget room) × (room_after_export sheet budget room export ≡ room_after sheet budget room)
    request-2-first-call = export-as-first-call sheet budget room export large wide

    module _ (p : Problem) (reads : read sheet ≡ accepted p) (v : Verdict) (s : State) (ends : search p budget ≡ done v s) where
      -- Whatever the answer, reading what was exported gives back the goal clauses and then the log, repeated literals too.
      pub request-2-read-back : read_cnf exported ≡ yes (cnf_of p.clauses s)
      request-2-read-back = exported-read-back sheet budget room export large wide p reads v s ends

      -- So do the arrays that `read_cnf` hands back.
      pub request-2-by-value : held_clauses (cnf_read (read_cnf exported)) ≡ (cnf_of p.clauses s).clauses
      request-2-by-value = ap (λ (a : Asked Cnf). held_clauses (cnf_read a)) request-2-read-back ∙ cnf-held (cnf_of p.clauses s) (export-limits sheet p reads budget v s ends)

-- The text always fits the room that question 15 asks for.
pub request-2-size : (sheet : List ℕ) (p : Problem) → read sheet ≡ accepted p → (budget : ℕ) (v : Verdict) (s : State) → search p budget ≡ done v s
    → length (cnf_text (cnf_of p.clauses s)) ≤ 13454
request-2-size = export-size

-- Whatever clauses there are within the limits, reading what is written gives them back;
pub request-2-round-trip : (c : Cnf) → CnfLimits c → read_cnf (cnf_text c) ≡ yes c
request-2-round-trip = cnf-round-trip

-- and nothing else is read.
pub request-2-nothing-else : (text : List ℕ) (c : Cnf) → read_cnf text ≡ yes c → (text ≡ cnf_text c) × CnfLimits c
request-2-nothing-else = cnf-exact

-- A text that is not read is refused with 21 or 22:
pub request-2-refusals : (text : List ℕ) (q : ℕ) → read_cnf text ≡ no q → (q ≡ 21) ⊎ (q ≡ 22)
request-2-refusals = cnf-refusals

-- with 21 only where the first line is no header of at most 256 atoms and 576 clauses, with 22 only where it is one.
pub request-2-bad-header : (text : List ℕ) → read_cnf text ≡ no 21 → (atoms clauses : ℕ) → atoms ≤ most_atoms → clauses ≤ most_exported
    → (rest : List ℕ) → text ≡ header_line atoms clauses ++ rest → ⊥
request-2-bad-header = bad-header

pub request-2-good-header : (text : List ℕ) → read_cnf text ≡ no 22
    → (atoms : ℕ) × (clauses : ℕ) × (rest : List ℕ) × (atoms ≤ most_atoms) × (clauses ≤ most_exported) × (text ≡ header_line atoms clauses ++ rest)
request-2-good-header = good-header

-- 3/14. A blank column is passed over wherever it stands, before the kind too;
pub request-3 : (front back : List ℕ) → length front % 4 ≡ 0 → columns (front ++ blank_column ++ back) ≡ columns (front ++ back)
request-3 = passed_over

-- nothing but blanks is read as nothing;
pub request-3-blanks : (column : List ℕ) → decimal column ≡ nothing → is_blank column ≡ true
request-3-blanks = nothing-blank

-- and a line of blanks has no kind: where it passes 4 and 5 it gives 7, whatever was read before (of a call: `demand-1-blank`).
pub request-3-blank-line : (d : Draft) (l : Line) → passes l ≡ true → is_blank l.bytes ≡ true → read_line d l ≡ no 7
request-3-blank-line = blank-line

-- Take two sheets whose lines all pass 4 and 5 and have the same filled columns, line by line.
module _ (first second : List ℕ) (alike : FilledAlike first second) where
  -- Each keeps the other's constants, symbols, rules and clauses.
  pub request-3-keeps : Keeps first second
  request-3-keeps = same-keeps first second alike

  -- If one is accepted, so is the other, with the same problem: blanks within the lines never make it too long for 2.
  pub request-3-accepted : (p : Problem) → read first ≡ accepted p → read second ≡ accepted p
  request-3-accepted = same-accepted first second alike

  module _ (short : length first ≤ sheet_bytes) (fits : length second ≤ sheet_bytes) where
    -- If both pass 2, they are read alike: the same refusal at the same line, or the same problem;
    pub request-3-alike : read first ≡ read second
    request-3-alike = same-reading first second alike short fits

    -- and whatever is lent, a call comes to the same for both.
    pub request-3-calls : (lent : List Lending) (budget : ℕ) → after_lending lent first budget ≡ after_lending lent second budget
    request-3-calls = same-results first second alike short fits

-- 4/14. In whatever state a search is, after every step and where it ends, the product of a literal's sign and its atom's state is 1, -1
-- or 0 exactly when the literal is true, false or unset.
pub request-4 : (p : Problem) (budget steps : ℕ) (l : Literal) → TellsApart (came_to (run (task_of p) budget steps (start (task_of p)))).trail l
request-4 p = search-tells-apart (task_of p)

-- `value` is the one function that code asks about a literal, and its contract says that it hands back `literal_value` of the array of
-- states and the literal's word. Where the array holds the states of a table's atoms on a trail, that is this product.
pub request-4-code : (table : List Atom) (t : Trail) (values : Values) → Valued table t values → (l : Literal) → l.atom ∈ table
    → literal_value values (literal_word table l) ≡ literal_test t l
request-4-code = value-test

-- 5/14. Every filling of a rule is an instance, under the rule's number, also where one literal serves two heads: whatever constants are
-- put for the rule's variables, that is a filling,
pub request-5-fillings : (constants : ℕ) (vs : List ℕ) (value : ℕ → ℕ) → ((v : ℕ) → v ∈ vs → (1 ≤ value v) × (value v ≤ constants))
    → map (λ (v : ℕ). record { variable = v; constant = value v }) vs ∈ substitutions constants vs
request-5-fillings = substitution-complete

-- and each filling makes an instance;
pub request-5 : (p : Problem) (i : Instance) → FillingOf p i → i ∈ (task_of p).instances
request-5 = every-filling

-- there are no others. Closure, clash and the search speak of these instances, so demands 2 and 3 do.
pub request-5-only : (p : Problem) (i : Instance) → i ∈ (task_of p).instances → FillingOf p i
request-5-only = only-fillings

-- A logged clause still repeats no literal, though its heads may now,
pub request-5-once : (g : Logged) → distinct same_literal (clause_of g) ≡ clause_of g
request-5-once = clause-once

-- and whether all its head literals are true, as they have to be for it to set a created atom, is asked of the different ones.
pub request-5-heads : (k : Task) (t : Trail) (g : Logged)
    → logged_act k t g ≡ act_on t (λ (l : Literal). is_goal k l || all (is_true t) (distinct same_literal g.instance.heads)) (not_false t (clause_of g))
request-5-heads = heads-once

-- Where so many steps of a search come to.
abbrev reached : Problem → ℕ → ℕ → State
reached p budget steps = came_to (run (task_of p) budget steps (start (task_of p)))

-- 6/14. The states of the goal atoms are two words of 64 bits, one for set and one for true. They are in the arrays of a search. `Loaded` is
-- what `search` requires of these for a problem, and there are such arrays for every accepted sheet.
pub request-6-arrays : (sheet : List ℕ) (p : Problem) → read sheet ≡ accepted p → (rules : List ℕ) × (m : Machine) × Loaded p (sizes_of p) rules m
request-6-arrays = accepted-arrays

-- By the contract of `one_step` a step of the code is one of `machine_step`, so `values_after` are the words after so many of them. However many
-- they are, and where the search ends too,
module _ (p : Problem) (sizes : Sizes) (rules : List ℕ) (m : Machine) (loaded : Loaded p sizes rules m) (budget steps : ℕ) where
  abbrev words : Values
  words = values_after rules sizes budget steps m

  -- bit k of each word says what the trail says of goal atom k,
  pub request-6 : GoalWords (goal_atoms p.clauses) (reached p budget steps).trail (goals_set words) (goals_true words)
  request-6 = (run-words p sizes rules m loaded budget steps).goals

  -- and with those of the created atoms the words give the table of states that was kept before.
  pub request-6-table : states_in words ≡ state_table (reached p budget steps).table (reached p budget steps).trail
  request-6-table = (run-words p sizes rules m loaded budget steps).states

-- The other way, the table gives the words: where two have one table, they are equal. All answers and listings are equal, since the contracts
-- of the calls are word for word as they were.
pub request-6-words : (v u : Values) → ValuesFit v → ValuesFit u → states_in v ≡ states_in u → v ≡ u
request-6-words = table-words

-- 7/14. Whatever makes a two-way rule hold as an equivalence, in every filling, satisfies every filling of the rules that it stands for;
pub request-7 : (v : Assignment) (constants : ℕ) (t : TwoWay) → (t.rewritten ≡ [] → ⊥) → SatisfiesLine v constants (two_way t)
    → (r : Rule) → r ∈ stands_for t → SatisfiesRule v constants r
request-7 = equivalence-rules

-- and the other way too, where the reverse rule is among them or the body is empty.
pub request-7-back : (v : Assignment) (constants : ℕ) (t : TwoWay) → (has_reverse t ≡ true) ⊎ (t.body ≡ [])
    → ((r : Rule) → r ∈ stands_for t → SatisfiesRule v constants r) → SatisfiesLine v constants (two_way t)
request-7-back = rules-equivalence

-- Elsewhere it may fail: here is an accepted sheet with an assignment that satisfies its clauses and every filling of its rules, and not the
-- sheet.
pub request-7-not-back : (sheet : List ℕ) × (p : Problem) × (v : Assignment) × (read sheet ≡ accepted p)
    × SatisfiesClauses v p.clauses × ((r : Rule) → r ∈ p.rules → SatisfiesRule v p.constants r) × (Satisfies v p → ⊥)
request-7-not-back = (free_sheet, free_problem, body_alone, free-read, clauses-satisfied, rules-satisfied, equivalence-broken)

module _ (sheet : List ℕ) (p : Problem) (reads : read sheet ≡ accepted p) where
  -- In an accepted sheet every two-way rule rewrites a head, as `request-7` supposes.
  pub request-7-rewritten : (t : TwoWay) → two_way t ∈ p.rule_lines → t.rewritten ≡ [] → ⊥
  request-7-rewritten t = (accepted-from-lines sheet p reads).rewrites (two_way t)

  -- Its rules, which are numbered from 1, are those that its lines of kinds 3 and 8 stand for, from the top: no number is left out.
  pub request-7-numbers : p.rules ≡ joined rules_of p.rule_lines
  request-7-numbers = (accepted-from-lines sheet p reads).rules

  -- Whatever satisfies it still satisfies every filling of all of them.
  pub request-7-rules : (v : Assignment) → Satisfies v p → (r : Rule) → r ∈ p.rules → SatisfiesRule v p.constants r
  request-7-rules v satisfies = lines-rules v p (accepted-from-lines sheet p reads) satisfies.lines

-- 8/14. Of each clause, goal clauses and log, a search keeps how many of its different literals are not false and whether any is true. The
-- contracts of `enter_all` and `one_step` say of the arrays in which it does that they are `KeptAfter` so many steps: those of the clauses and
-- values that the machine has then, whatever was set and undone on the way. There are such arrays for all arrays of a search, which in turn
-- there are for every accepted sheet (`request-6-arrays`).
pub request-8-arrays : (sizes : Sizes) (rules : List ℕ) (m : Machine) (budget steps : ℕ) → KeptAfter rules sizes budget steps m (counters_after rules sizes budget steps m)
request-8-arrays sizes rules m budget steps = refl

-- However many steps they are, and where the search ends too,
module _ (p : Problem) (sizes : Sizes) (rules : List ℕ) (m : Machine) (loaded : Loaded p sizes rules m) (budget steps : ℕ)
    (k : Counters) (kept : KeptAfter rules sizes budget steps m k) where
  abbrev clauses : List Clause
  clauses = clauses_of p.clauses (reached p budget steps)

  -- the kept numbers are those found by reading each clause whole,
  pub request-8 : map told (take (length clauses) k.counts) ≡ map (clause_numbers (reached p budget steps).trail) clauses
  request-8 = (run-numbers p sizes rules m loaded budget steps k kept).numbers

  -- and one bit a clause says whether none is true and at most one is not false.
  pub request-8-asking : map (among k.asking) (up_from 0 (length clauses)) ≡ map (λ (c : Clause). may_act (clause_numbers (reached p budget steps).trail c)) clauses
  request-8-asking = (run-numbers p sizes rules m loaded budget steps k kept).asking

-- Among the clauses with this bit alone the unit step's choice is the one that it makes among all.
pub request-8-choice : (p : Problem) (budget steps : ℕ)
    → next_act_among (λ (c : Clause). may_act (clause_numbers (reached p budget steps).trail c)) (task_of p) (reached p budget steps) ≡ next_act (task_of p) (reached p budget steps)
request-8-choice p = search-asking (task_of p)

-- 9/14. Take any call on an accepted sheet.
module _ (sheet : List ℕ) (budget : ℕ) (room : List ℕ) (p : Problem) (reads : read sheet ≡ accepted p) where
  -- Where it answers UNSAT, no true/false assignment satisfies the goal clauses and the logged clauses together.
  pub request-9 : Answers sheet budget room Unsat
      → (f : FromSearch sheet budget room Unsat) × ((a : Assignment) → SatisfiesClauses a (clauses_of p.clauses f.state) → ⊥)
  request-9 given = let f = demand-2 sheet budget room Unsat given in (f, unsat-carried p budget f.state (its-search sheet budget room p reads Unsat f))

  -- Whatever it answers, with the state of the search that this comes from (`demand-2`),
  module _ (v : Verdict) (f : FromSearch sheet budget room v) where
    abbrev ends : search p budget ≡ done v f.state
    ends = its-search sheet budget room p reads v f

    -- the logged clauses are those on the listing's lines of kind 6, from the top;
    pub request-9-listed : map (clause_on p) (of_kind 6 (listed_part sheet budget room)) ≡ map (λ (g : Logged). yes (clause_of g)) f.state.log
    request-9-listed = rw f.answer.part (log-listed p (accepted-limits sheet p reads) budget v f.state ends)

    -- what an assignment says of atoms that are not in the table is never asked;
    pub request-9-table : (a b : Assignment) → ((x : Atom) → x ∈ f.state.table → a x ≡ b x)
        → SatisfiesClauses a (clauses_of p.clauses f.state) → SatisfiesClauses b (clauses_of p.clauses f.state)
    request-9-table = table-decides sheet p reads budget v f.state ends

    -- and whatever satisfies the sheet satisfies all the clauses.
    pub request-9-sheet : (a : Assignment) → Satisfies a p → SatisfiesClauses a (clauses_of p.clauses f.state)
    request-9-sheet = satisfies-clauses sheet p reads budget v f.state ends

  -- Each logged clause follows from one filling of the rule whose number stands on its line, in the listing that is handed back
  pub request-9-follows : (row : Row) → row ∈ of_kind 6 (listed_part sheet budget room) → Entailed p row
  request-9-follows row = listed-follows sheet p reads budget row room

  -- and in the one that the program prints.
  pub request-9-follows-printed : (row : Row) → row ∈ of_kind 6 (printed sheet budget) → Entailed p row
  request-9-follows-printed = printed-follows sheet p reads budget

-- The goal clauses are those on the sheet's lines of kind 4, from the top.
pub request-9-goals : (sheet : List ℕ) (p : Problem) → read sheet ≡ accepted p
    → map (λ (row : Row). read_clause p.constants p.arities (drop 1 row)) (of_kind 4 sheet) ≡ map yes p.clauses
request-9-goals sheet p reads = (sheet-says sheet p reads).clauses

-- For the one who has the text alone. Where the record of an export says UNSAT,
module _ (sheet : List ℕ) (budget : ℕ) (room export : List ℕ) (c : Counts) (answered : export_call sheet budget room export ≡ Answered c) (says : c.verdict ≡ Unsat) where
  -- the text is read, and no true/false assignment of the numbers from 1 to the header's atoms satisfies the clauses that are read back,
  pub request-9-text : Unsatisfiable (exported sheet budget room export)
  request-9-text = exported-carried sheet budget room export c answered says

  -- nor those in the arrays that `read_cnf` hands back.
  pub request-9-by-value : (a : NumberAssignment) → SatisfiesNumberClauses a (held_clauses (cnf_read (read_cnf (exported sheet budget room export)))) → ⊥
  request-9-by-value =
      let t = request-9-text in
      let held = ap (λ (x : Asked Cnf). held_clauses (cnf_read x)) t.reads ∙ cnf-held t.back (cnf-exact (exported sheet budget room export) t.back t.reads).1 in
      λ a h. t.none a (subst (SatisfiesNumberClauses a) held h)

-- So it is with what the program prints, by the contracts of `print` and `print_cnf`: where the listing begins with UNSAT, the text for `cnf` is
-- unsatisfiable.
pub request-9-printed : (sheet : List ℕ) (budget : ℕ) → take 8 (printed sheet budget) ≡ bytes "   5   0" → Unsatisfiable (printed_cnf sheet budget)
request-9-printed = printed-carried

-- What is said of numbers beyond the header's atoms is never asked, whatever the text.
pub request-9-numbers : (text : List ℕ) (c : Cnf) → read_cnf text ≡ yes c → (a b : NumberAssignment) → ((n : ℕ) → 1 ≤ n → n ≤ c.atoms → a n ≡ b n)
    → SatisfiesNumberClauses a c.clauses → SatisfiesNumberClauses b c.clauses
request-9-numbers text c reads = numbers-decide c (cnf-exact text c reads).1

-- And the other way, whatever the answer: where the text of an accepted sheet, exported or printed, is unsatisfiable, nothing satisfies the sheet.
module _ (sheet : List ℕ) (p : Problem) (reads : read sheet ≡ accepted p) (budget : ℕ) where
  pub request-9-refuted : (room export : List ℕ) → room_bytes ≤ length room → export_bytes ≤ length export
      → Unsatisfiable (exported sheet budget room export) → (a : Assignment) → Satisfies a p → ⊥
  request-9-refuted = exported-refutes sheet p reads budget

  pub request-9-refuted-printed : Unsatisfiable (printed_cnf sheet budget) → (a : Assignment) → Satisfies a p → ⊥
  request-9-refuted-printed = printed-refutes sheet p reads budget

-- What is supposed comes up: here is an accepted sheet that at this budget is answered UNSAT by every call with rooms large enough, and by the
-- program. Every logged clause is needed there: without any one of the two the others and the goal clauses are satisfied.
pub request-9-needed : (sheet : List ℕ) × (p : Problem) × (s : State) × (c : Counts) × (read sheet ≡ accepted p) × (search p 1000000 ≡ done Unsat s) × (c.verdict ≡ Unsat)
    × ((room : List ℕ) → room_bytes ≤ length room → Answers sheet 1000000 room Unsat)
    × ((room export : List ℕ) → room_bytes ≤ length room → export_bytes ≤ length export → export_call sheet 1000000 room export ≡ Answered c)
    × (take 8 (printed sheet 1000000) ≡ bytes "   5   0")
    × (length s.log ≡ 2)
    × ((n : ℕ) → n < length s.log → (a : Assignment) × SatisfiesClauses a (p.clauses ++ map clause_of (take n s.log ++ drop (suc n) s.log)))
unfolding both_counts
request-9-needed =
    (both_sheet, both_problem, both_state, both_counts, both_read, both_ends, refl, both-answered, both-export-answered, both-begins, two-logged, λ n h. (all_but (2 + n), each_needed n h))

-- Nothing is promised the other way of a logged clause: here is one on the line of a rule with two body literals, with an assignment that
-- satisfies it and not the filling that it follows from.
pub request-9-not-back : (sheet : List ℕ) × (p : Problem) × (row : Row) × (h : Entailed p row) × (a : Assignment)
    × (read sheet ≡ accepted p) × (row ∈ of_kind 6 (printed sheet 1000000)) × (length h.rule.body ≡ 2)
    × SatisfiesClause a h.clause × (SatisfiesFilling a h.rule h.filling → ⊥)
unfolding first-follows
request-9-not-back = (both_sheet, both_problem, first_row, first-follows, all_but 3, both_read, first-listed, two-in-body, first-satisfied, filling-broken)
