-- `pipe::search_sheet` meets its contract: the refusal of the reader, or the search of what was read. Assumes nothing.
use Rattle.std.specs.Prelude.{refl}
use Rattle.encoding.specs.Encoding.{empty_index}
use Rattle.pipe.specs.ReachingLaws.{refused-reached, accepted-searchable, accepted-reached}
use Rattle.pipe.proofs.search_sheet.Goals as goal

pub read_sheet-requires : goal.read_sheet-requires
unfolding empty_index
read_sheet-requires c = refl

pub search-ended-requires : goal.search-ended-requires
unfolding empty_index
search-ended-requires c =
    let e = c.read_sheet in
    accepted-searchable _ e.result _ _ e.ensures _ c.in_ok-sizes.was refl refl _ _ _ _ _ (record {
      of_rules = refl;
      of_starts = refl;
      of_literals = refl;
      of_heads = refl;
      of_numbers = refl;
      of_table = refl;
      of_trail = refl;
      of_marks = refl;
    }) refl

pub returns-in_err-sizes : goal.returns-in_err-sizes
returns-in_err-sizes c =
    let e = c.read_sheet in
    refused-reached _ e.result _ _ e.ensures _ _ c.in_err-sizes.was _ c.from_residual.ensures.1

pub returns : goal.returns
unfolding empty_index
returns c =
    let e = c.read_sheet in
    accepted-reached _ e.result _ _ e.ensures _ c.in_ok-sizes.was refl refl _ _ _ _ _ (record {
      of_rules = refl;
      of_starts = refl;
      of_literals = refl;
      of_heads = refl;
      of_numbers = refl;
      of_table = refl;
      of_trail = refl;
      of_marks = refl;
    }) refl _ _ _ c.search-ended.ensures
