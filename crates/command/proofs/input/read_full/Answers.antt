use Rattle.std.proofs.Common.{rules, subst}
use Rattle.std.specs.Io.KnownBytes.{Consumes}
use Rattle.std.proofs.KnownBytes.{Consumes-trans}
use Rattle.command.proofs.Filled.{filled-more}
use Rattle.command.proofs.input.read_full.Goals as goal

pub loop-count-preserved : goal.loop-count-preserved
loop-count-preserved g c =
    let kept = c.loop-count.invariant in
    let part = c.in_ok-more.ensures in
    (search rules, search rules, subst (Consumes _ _) (filled-more _ _ _ _ _ kept.0 part.bound.0) (Consumes-trans _ _ _ _ _ kept.2 part.bytes.0))
