use Rattle.std.proofs.Common.{ap, sym, ◌∙◌}
use Rattle.std.specs.FinMap as finite
use Rattle.osm_base.specs.map.Spots.{spot_cmp}
use Rattle.store_maps.proofs.sorted_rows.SortedRows.rows.Goals as goal

pub returns : goal.returns
returns c = record {
  rows = c.as_slice.ensures.value ∙ sym (finite.entries-from_sorted spot_cmp c.self.inside.rows.items c.self.invariant)
      ∙ ap finite.entries c.self.view_is;
}
