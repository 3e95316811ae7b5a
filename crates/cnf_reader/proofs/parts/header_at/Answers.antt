-- `parts::header_at` meets its contract: the header is its three parts. Assumes nothing.
use Rattle.definitions.specs.Questions.{◌>>=◌}
use Rattle.cnf_reader.proofs.Numbers.{header-parts}
use Rattle.cnf_reader.proofs.parts.header_at.Goals as goal

pub returns-in_err-rest-clause-reads : goal.returns-in_err-rest-clause-reads
unfolding ◌>>=◌
returns-in_err-rest-clause-reads c = rw (c.from_residual.ensures, header-parts, c.in_err-rest.ensures 21)

pub returns-in_err-atoms-clause-reads : goal.returns-in_err-atoms-clause-reads
unfolding ◌>>=◌
returns-in_err-atoms-clause-reads c =
    rw (c.from_residual-in_err-atoms.ensures, header-parts, c.in_ok-rest.ensures 21, c.in_err-atoms.ensures.reads 21)

pub returns-in_err-clauses-clause-reads : goal.returns-in_err-clauses-clause-reads
unfolding ◌>>=◌
returns-in_err-clauses-clause-reads c =
    rw (c.from_residual-in_err-clauses.ensures, header-parts, c.in_ok-rest.ensures 21, c.in_ok-atoms.ensures.reads 21, c.in_err-clauses.ensures.reads 21)

pub returns-clause-reads : goal.returns-clause-reads
unfolding ◌>>=◌
returns-clause-reads c =
    rw (header-parts, c.in_ok-rest.ensures 21, c.in_ok-atoms.ensures.reads 21, c.in_ok-clauses.ensures.reads 21)
