use Rattle.std.proofs.Common.{sym, subst}
use Rattle.std.specs.List.{AllByRecursion}
use Rattle.osm_base.specs.values.Key.{IsId}
use Rattle.tag_rows.proofs.WayLaws.{none-held}
use Rattle.tag_rows.proofs.way_rows.WayImport.new.Goals as goal

pub invariant_of-result : goal.invariant_of-result
invariant_of-result c = record {
  ids = subst (AllByRecursion IsId) (sym c.new-2.ensures.items) tt;
  others = λ way _. none-held c.new.result c.new.ensures.empty way;
}
