-- `Counters::next_act` meets its contract: the first act of the clauses from the next that asks on is the first act of all. Assumes nothing.
use Rattle.std.specs.Prelude.{◌≤◌, refl}
use Rattle.std.proofs.Common.{sym, ◌∙◌, arith}
use Rattle.counters.specs.Asking.{its-number, asks-few, ask-next}
use Rattle.counters.proofs.ActTurns.{fit-first, act-turn, act-hit, act-hit-force, act-end}
use Rattle.counters.proofs.ClauseTurns.{act-conflict}
use Rattle.counters.proofs.Counters.next_act.Goals as goal

pub returns-then-self-c-eq0 : goal.returns-then-self-c-eq0
returns-then-self-c-eq0 c =
    let few : c.args.clauses ≤ 640 = omega (arith, c.requires.1.limit) in
    let (from, below, asks, none) = c.in-Some.ensures in
    let left = ask-next _ _ _ _ _ _ _ few c.requires.2.1 _ _ from none c.loop-c.invariant.left in
    act-hit _ _ _ _ _ _ _ _ left below (act-conflict _ _ _ _ _ _ _ (sym (its-number _ _ _ few c.requires.2.1 _ below) ∙ c.if-self-c-eq0.true)) refl

pub forced-requires : goal.forced-requires
forced-requires c =
    let few : c.args.clauses ≤ 640 = omega (arith, c.requires.1.limit) in
    let (from, below, asks, none) = c.in-Some.ensures in (
      fit-first _ _ (omega arith) c.requires.1,
      omega (arith, its-number _ _ _ few c.requires.2.1 _ below, asks-few _ _ _ few c.requires.2.1 _ below asks),
    )

pub returns-in-Some-forced : goal.returns-in-Some-forced
returns-in-Some-forced c =
    let (from, below, asks, none) = c.in-Some.ensures in
    let left = ask-next _ _ _ _ _ _ _ (omega (arith, c.requires.1.limit)) c.requires.2.1 _ _ from none c.loop-c.invariant.left in
    act-hit-force _ _ _ _ _ _ _ _ left below (sym c.in-Some-forced.ensures) _ refl

pub loop-c-preserved : goal.loop-c-preserved
loop-c-preserved c =
    let (from, below, asks, none) = c.in-Some.ensures in
    let left = ask-next _ _ _ _ _ _ _ (omega (arith, c.requires.1.limit)) c.requires.2.1 _ _ from none c.loop-c.invariant.left in
    record { within = omega arith; left = act-turn _ _ _ _ _ _ _ _ left below (sym c.in_default-forced.ensures) refl }

pub returns : goal.returns
returns c =
    let left = ask-next _ _ _ _ _ _ _ (omega (arith, c.requires.1.limit)) c.requires.2.1 _ _ c.loop-c.invariant.within c.in_default.ensures c.loop-c.invariant.left in
    act-end _ _ _ _ _ _ _ _ left (omega arith)
