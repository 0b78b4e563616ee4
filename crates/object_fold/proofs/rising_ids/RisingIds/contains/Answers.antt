use Rattle.std.proofs.Common.{ap, ◌∙◌}
use Rattle.osm_base.specs.values.Ids.{has}
use Rattle.object_fold.proofs.SortedIds.{searched_has}
use Rattle.object_fold.proofs.rising_ids.RisingIds.contains.Goals as goal

pub returns : goal.returns
returns c = record {
  value = c.is_ok.ensures.value
      ∙ searched_has c.as_slice.result.now c.args.id c.place_of.result c.place_of.ensures.ok c.place_of.ensures.err
      ∙ ap (λ ids. has ids c.args.id) (c.as_slice.ensures.value ∙ c.self.view_is);
}
