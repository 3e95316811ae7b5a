-- What the reader answers, by the header and by what the clause lines come to. Assumes nothing.
use Rattle.std.proofs.Common.{◌≡◌, ℕ, List, Option, Some, None, Result, Ok, Err}
use Rattle.std.specs.Option.{ok_or}
use Rattle.std.specs.Result.{IsErrAnd}
use Rattle.definitions.specs.Questions.{no, yes, ◌>>=◌}
use Rattle.definitions.specs.Dimacs.{Header, front, header_at, clauses_at, read_cnf}
use Rattle.definitions.specs.declared.Question.{Question}
use Rattle.definitions.specs.declared.Question.TheVariants as question
use Rattle.cnf_reader.specs.CnfArrays.{cnf_read}
use Rattle.cnf_reader.specs.Lines.{CnfHeld}
use Rattle.cnf_reader.specs.declared.Cnf.{Cnf}

-- the error that `ok_or(e)?` hands on
pub handed-on : {A B E : Type 0} (r : Result A E) (s : Result B E) (o : Option B) (e x : E) → IsErrAnd r (λ y. y ≡ x) → s ≡ Err x → s ≡ ok_or o e → r ≡ Err e
handed-on (Ok a) s o e x h is from = absurd h
handed-on (Err y) s None e x h is from = cc
handed-on (Err y) s (Some b) e x h is from = cc

module _ (text : List ℕ) where
  pub answer-no-header : header_at text ≡ no 21 → ◌≡◌ {A = Result Cnf Question} (Err question.Header) (cnf_read (read_cnf text))
  unfolding read_cnf cnf_read ◌>>=◌
  answer-no-header e = rw e

  module _ (header : Header) (behind : List ℕ) (named : header_at text ≡ yes (front header behind)) where
    -- lines behind a header that are refused
    pub answer-no-lines : clauses_at header.atoms header.clauses behind ≡ no 22 → ◌≡◌ {A = Result Cnf Question} (Err question.ClauseLines) (cnf_read (read_cnf text))
    unfolding read_cnf cnf_read ◌>>=◌
    answer-no-lines e = rw (named, e)

    -- the clauses that they make
    pub answer-lines : (cnf : Cnf) → CnfHeld (clauses_at header.atoms header.clauses behind) header.atoms cnf → Ok cnf ≡ cnf_read (read_cnf text)
    unfolding read_cnf cnf_read ◌>>=◌
    answer-lines cnf h = rw (named, h.reads, h.is)
