-- A change, whole: its delta and the tiles that it makes due.
use Rattle.std.proofs.Common.{◌≡◌, ◌≤◌, ℕ, false, List, length, sym, ◌∙◌}
use Rattle.std.specs.FinMap as finite
use Rattle.std.specs.List.{list_any}
use Rattle.std.specs.Ordering.{eq_by_cmp}
use Rattle.osm_base.specs.declared.values.object.Entry.{Entry}
use Rattle.osm_base.specs.map.Objects.{ObjectSet, folded_all}
use Rattle.osm_base.specs.map.Pending.{PendingOf}
use Rattle.osm_base.specs.map.Spots.{SpotOf}
use Rattle.osm_base.specs.values.Ids.{AreRisingIds}
use Rattle.osm_base.specs.values.Key.{KeyOf}
use Rattle.osm_base.specs.values.KeyOrder.{key_cmp}
use Rattle.style_read.specs.Style.{StyleOf}
use Rattle.row_rules.specs.Material.{material_of}
use Rattle.row_rules.specs.Row.{tables}
use Rattle.row_rules.specs.Rows.{rows_in}
use Rattle.row_rules.proofs.TableMap.{get-tables}
use Rattle.dep_closure.specs.PendingSet.{LeavesRows}
use Rattle.geom_workers.specs.Keys.{keys_of}
use Rattle.tile_cover.specs.Table.{BoundsOf}
use Rattle.store_maps.specs.Delta.{IsDelta, row_in}
use Rattle.store_maps.specs.Told.{told_all}
use Rattle.store_maps.proofs.DeltaLaws.{told-delta}
use Rattle.store_maps.proofs.KeptRows.{row_from-past, row_in-rows}
use Rattle.update_step.specs.Due.{due_between, is_due_key}
use Rattle.update_step.proofs.DueLaws.{due-of-keys}
use Rattle.update_step.proofs.PendingKeys.{keys-rise, outside-kind}

module _ (style : StyleOf) (objects : ObjectSet) (change : List Entry) (set : PendingOf)
    (rising : AreRisingIds set.nodes × AreRisingIds set.ways × AreRisingIds set.relations)
    (leaves : LeavesRows style objects change set) where
  abbrev after : ObjectSet
  after = folded_all objects change

  was : (spot : SpotOf) → row_in (rows_in style objects spot.key) spot.table ≡ finite.get (tables style objects) spot
  was spot = row_in-rows style objects spot.key spot.table ∙ sym (get-tables style objects spot)

  is : (spot : SpotOf) → row_in (rows_in style after spot.key) spot.table ≡ finite.get (tables style after) spot
  is spot = row_in-rows style after spot.key spot.table ∙ sym (get-tables style after spot)

  past : (spot : SpotOf) → length style.tables ≤ spot.table → finite.get (tables style objects) spot ≡ finite.get (tables style after) spot
  past spot behind =
      get-tables style objects spot ∙ row_from-past style spot.table (material_of style objects spot.key) spot.key behind
      ∙ sym (get-tables style after spot ∙ row_from-past style spot.table (material_of style after spot.key) spot.key behind)

  outside : (spot : SpotOf) → list_any (eq_by_cmp key_cmp spot.key) (keys_of set) ≡ false
      → finite.get (tables style objects) spot ≡ finite.get (tables style after) spot
  outside spot none = get-tables style objects spot ∙ sym (leaves spot.table spot.key (outside-kind set spot.key.kind spot.key.id none))
      ∙ sym (get-tables style after spot)

  pub delta-is : IsDelta (finite.get (tables style objects)) (finite.get (tables style after))
      (told_all (length style.tables) (rows_in style objects) (rows_in style after) (keys_of set))
  delta-is = told-delta (rows_in style objects) (rows_in style after) (finite.get (tables style objects)) (finite.get (tables style after))
      (length style.tables) (keys_of set) was is past outside (keys-rise set rising)

  pub due-is : (bounds : BoundsOf) (zoom x y : ℕ)
      → list_any (λ (key : KeyOf). is_due_key style bounds (rows_in style objects key) (rows_in style after key) zoom x y) (keys_of set)
      ≡ due_between style bounds objects after zoom x y
  due-is bounds zoom x y = due-of-keys style bounds (tables style objects) (tables style after) (rows_in style objects)
      (rows_in style after) (keys_of set) was is past outside zoom x y
