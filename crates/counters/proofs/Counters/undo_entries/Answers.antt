-- `Counters::undo_entries` meets its contract, entry by entry. Assumes nothing.
use Rattle.std.specs.Prelude.{refl}
use Rattle.std.proofs.Common.{◌∙◌}
use Rattle.counters.specs.Undoing.{far-start, far-small, far-fits, far-turn, far-end}
use Rattle.counters.proofs.Counters.undo_entries.Goals as goal

pub loop-at-init : goal.loop-at-init
loop-at-init c = record { rows = refl; so_far = far-start }

pub undo-requires : goal.undo-requires
undo-requires c =
    let inv = c.loop-at.invariant.so_far in (
      far-small inv c.loop-at-test.true refl _ c.requires.3.1,
      c.requires.2,
      far-fits inv c.loop-at-test.true refl _ c.requires.3.1 c.requires.3.2,
    )

pub loop-at-preserved : goal.loop-at-preserved
loop-at-preserved c =
    let inv = c.loop-at.invariant in
    record { rows = c.undo.ensures.rows ∙ inv.rows; so_far = far-turn inv.so_far c.loop-at-test.true refl c.undo.ensures.kept }

pub returns-clause-kept : goal.returns-clause-kept
returns-clause-kept c = far-end c.loop-at.invariant.so_far c.loop-at-test.false
