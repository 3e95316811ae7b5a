-- A search that has ended: what is made of it rests on this. Assumes nothing.
use Rattle.std.specs.Prelude.{ℕ, ◌<◌, ◌≡◌, refl, List, length, get_or}
use Rattle.std.proofs.Common.{sym, ap, ◌∙◌, subst}
use Rattle.definitions.specs.Words.{Problem}
use Rattle.definitions.specs.Search.{State, Outcome, more, done, search}
use Rattle.definitions.specs.declared.Verdict.{Verdict}
use Rattle.theory.specs.Limits.{Searchable}
use Rattle.encoding.specs.Lent.{clause_store, atom_table}
use Rattle.units.specs.TrailArrays.{trail_arrays}
use Rattle.machine.specs.Machine.{StandsAtEnd, EndStands}
use Rattle.machine.specs.declared.Machine.{Machine}
use Rattle.machine.specs.declared.Ended.{Ended}
use Rattle.machine.specs.declared.Searched.{Searched}

-- what is left stands for the state in which the search of a problem ended, and for the arities of its symbols
pub record Finished (p : Problem) (budget : ℕ) (s : State) (x : Searched) : Type 0 where
  pub limits : Searchable p
  pub its_arities : (i : ℕ) → i < length p.arities → get_or x.arities i 0 ≡ get_or p.arities i 0
  pub its_clauses : x.given ≡ length p.clauses
  pub heads : List ℕ
  pub index : List ℕ
  pub trail : List ℕ
  pub marks : List ℕ
  pub stands : StandsAtEnd p budget x.ended.verdict s (record { store = clause_store x.store.starts x.store.literals heads x.store.numbers; table = atom_table x.codes index; trail = trail_arrays x.values trail marks }) x.ended.run

-- what the search came to, with what is left of it
pub record AtEnd (p : Problem) (budget : ℕ) (x : Searched) : Type 0 where
  pub state : State
  pub comes : search p budget ≡ done x.ended.verdict state
  pub finished : Finished p budget state x

-- what is left of a machine
abbrev pub left_of : Ended → ℕ → List ℕ → Machine → Searched
left_of ended given arities m = record { ended = ended; given = given; arities = arities; store = m.store; codes = m.table.codes; values = m.trail.values }

pub at-end : (p : Problem) (budget : ℕ) (ended : Ended) (m : Machine) (given : ℕ) (arities : List ℕ) → Searchable p
    → ((i : ℕ) → i < length p.arities → get_or arities i 0 ≡ get_or p.arities i 0) → given ≡ length p.clauses
    → EndStands p budget (search p budget) ended m → AtEnd p budget (left_of ended given arities m)
at-end p budget ended m given arities limits its_arities its_clauses ends = from (search p budget) refl ends
  where
    from : (o : Outcome) → search p budget ≡ o → EndStands p budget o ended m → AtEnd p budget (left_of ended given arities m)
    from (more s) e h = absurd h
    from (done v s) e h =
        let (same, stands) = h in
        record {
          state = s;
          comes = e ∙ ap (λ (w : Verdict). done w s) (sym same);
          finished = record {
            limits = limits;
            its_arities = its_arities;
            its_clauses = its_clauses;
            heads = m.store.heads;
            index = m.table.index;
            trail = m.trail.words;
            marks = m.trail.marks;
            stands = subst (λ (w : Verdict). StandsAtEnd p budget w s m ended.run) (sym same) stands;
          };
        }
