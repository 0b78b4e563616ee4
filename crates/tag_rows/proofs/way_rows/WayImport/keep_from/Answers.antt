use Rattle.std.proofs.Common.{ap, ◌∙◌}
use Rattle.std.specs.FinMap as finite
use Rattle.osm_base.specs.map.Objects.{ObjectSet}
use Rattle.osm_base.specs.values.Key.{way_key}
use Rattle.tag_rows.proofs.WayLaws.{more-held}
use Rattle.tag_rows.proofs.way_rows.WayImport.keep_from.Goals as goal

pub invariant_of-self-2 : goal.invariant_of-self-2
invariant_of-self-2 c = record {
  ids = c.in_ok-add_way.ensures.ids c.self.invariant.ids;
  others = λ way not.
      ap (λ (own : ObjectSet). finite.get own (way_key way)) c.in_ok-apply.ensures.ok
      ∙ more-held c.self.inside.objects c.self.inside.ways.items c.add_way.new.ways.items c.in_ok-entry.entry c.self.invariant.others
      c.in_ok-add_way.ensures.more c.in_ok-add_way.ensures.added way not;
}
