use Rattle.row_text.specs.Numbered.{by_number, seen}
use Rattle.osm_base.specs.values.KeyOrder.{key_cmp}
use Rattle.osm_base.proofs.KeyLaws.{key_cmp_total}
use Rattle.row_text.proofs.Ordered.{in_order, once-rising, IsOnce-IsPermutation}
use Rattle.row_text.proofs.TableRows.{by_number_total, by_number-IsAntisymmetric}
use Rattle.std.proofs.lemmas.List.Sorted.{IsPermutation-map, IsPermutation-trans}
use Rattle.row_text.proofs.numbered.put_in_order.Goals as goal

pub sort_unless_rising-requires : goal.sort_unless_rising-requires
sort_unless_rising-requires c =
    let order = by_number c.args.of_areas in
    let total = by_number_total c.args.of_areas in
    let same = by_number-IsAntisymmetric c.args.of_areas in
    IsOnce-IsPermutation order total same _ _
    (IsPermutation-map seen c.args.rows.now c.turn_relations.new.rows c.turn_relations.ensures.permutation)
    (once-rising order total same key_cmp key_cmp_total _ c.requires)

pub returns : goal.returns
returns c =
    let order = by_number c.args.of_areas in
    let total = by_number_total c.args.of_areas in
    let same = by_number-IsAntisymmetric c.args.of_areas in
    let moved = IsPermutation-trans c.args.rows.now c.turn_relations.new.rows c.sort_unless_rising.new.rows c.turn_relations.ensures.permutation
    c.sort_unless_rising.ensures.permutation in
    record {
      order = in_order order total same _ _ (IsPermutation-map seen c.args.rows.now c.sort_unless_rising.new.rows moved)
          (once-rising order total same key_cmp key_cmp_total _ c.requires) c.sort_unless_rising.ensures.rising;
    }
