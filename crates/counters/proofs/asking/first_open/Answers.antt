-- `asking::first_open` meets its contract: no word before the place is not false. Assumes nothing.
use Rattle.std.specs.Prelude.{◌<◌}
use Rattle.std.proofs.Common.{◌∙◌, rules, tests}
use Rattle.std.proofs.lemmas.Grind.{get_or_default_zero}
use Rattle.std.proofs.lemmas.Iterator.{YieldsList-from_slice}
use Rattle.std.proofs.lemmas.Iterator.Adapters.{serves_from_places}
use Rattle.std.proofs.lemmas.Iterator.Search.{position_from_yields_List}
use Rattle.counters.specs.ByNumber.{open_word}
use Rattle.counters.proofs.ClauseTurns.{open-place}
use Rattle.counters.proofs.asking.first_open.Goals as goal

pub position-requires-clause-callable : goal.position-requires-clause-callable
position-requires-clause-callable c =
    serves_from_places (YieldsList-from_slice _ c.iter.ensures.rest) (λ x q r. search (rules, tests))
    (λ x k l e. let small : x.now < 512 = rw (e ∙ get_or_default_zero _ k x.now l) (c.requires k l) in search (rules, tests))

pub returns : goal.returns
returns c =
    open-place _ _
    (position_from_yields_List (open_word c.args.values.now) _ _ _ c.position.ensures.ran (YieldsList-from_slice _ c.iter.ensures.rest) (λ x b q k. search (rules, tests)))
