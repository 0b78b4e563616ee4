-- All maps stand for the objects after a change, with all their rows, where no row changes but those that are built anew.
use Rattle.std.proofs.Common.{◌≡◌, ℕ, Bool, true, false, List, [], ◌∷◌, length, Option, ap}
use Rattle.std.specs.List.{list_any}
use Rattle.std.specs.Ordering.{eq_by_cmp}
use Rattle.osm_base.specs.declared.values.key.Kind.{Kind}
use Rattle.osm_base.specs.declared.values.key.Kind.TheVariants as kinds
use Rattle.osm_base.specs.declared.values.object.Entry.{Entry}
use Rattle.osm_base.specs.declared.values.row.Row.{Row}
use Rattle.osm_base.specs.declared.values.row.TableRow.{TableRow}
use Rattle.osm_base.specs.map.Objects.{ObjectSet, folded_all}
use Rattle.osm_base.specs.values.Key.{KeyOf}
use Rattle.osm_base.specs.values.KeyOrder.{key_cmp}
use Rattle.style_read.specs.Style.{StyleOf}
use Rattle.row_rules.specs.Condition.{reaches_nodes}
use Rattle.row_rules.specs.Row.{row}
use Rattle.row_rules.specs.Rows.{rows_below, rows_in}
use Rattle.store_maps.specs.Append.{appended, set_all_rows}
use Rattle.store_maps.specs.Maps.{Maps, set_rows}
use Rattle.store_maps.specs.Stands.{Stands, StandsOn}
use Rattle.store_maps.specs.Step.{AreProperEntries, change_on}
use Rattle.store_maps.proofs.ObjectMaps.{entries_stand}
use Rattle.store_maps.proofs.RowMaps.{rows_follow}

one_set : (reaches : Bool) (maps : Maps) (objects : ObjectSet) (kind : Kind) (id : ℕ) (rows : List TableRow) → StandsOn reaches maps objects
    → StandsOn reaches (set_rows maps kind id rows) objects
one_set reaches maps objects kinds.Node id rows stands = record {
  objects = record { nodes = stands.objects.nodes; ways = stands.objects.ways; relations = stands.objects.relations };
  index = record {
    ways_of_blocks = stands.index.ways_of_blocks;
    relations_of_nodes = stands.index.relations_of_nodes;
    relations_of_ways =
        stands.index.relations_of_ways;
  };
  proper = stands.proper;
}
one_set reaches maps objects kinds.Way id rows stands = record {
  objects = record { nodes = stands.objects.nodes; ways = stands.objects.ways; relations = stands.objects.relations };
  index = record {
    ways_of_blocks = stands.index.ways_of_blocks;
    relations_of_nodes = stands.index.relations_of_nodes;
    relations_of_ways =
        stands.index.relations_of_ways;
  };
  proper = stands.proper;
}
one_set reaches maps objects kinds.Relation id rows stands = record {
  objects = record { nodes = stands.objects.nodes; ways = stands.objects.ways; relations = stands.objects.relations };
  index = record {
    ways_of_blocks = stands.index.ways_of_blocks;
    relations_of_nodes = stands.index.relations_of_nodes;
    relations_of_ways =
        stands.index.relations_of_ways;
  };
  proper = stands.proper;
}

all_set : (reaches : Bool) (rows : KeyOf → List TableRow) (keys : List KeyOf) (maps : Maps) (objects : ObjectSet)
    → StandsOn reaches maps objects → StandsOn reaches (set_all_rows maps rows keys) objects
all_set reaches rows [] maps objects stands = stands
all_set reaches rows (own ∷ keys) maps objects stands =
    all_set reaches rows keys (set_rows maps own.kind own.id (rows own)) objects
    (one_set reaches maps objects own.kind own.id (rows own) stands)

pub appended_stands : (style : StyleOf) (maps : Maps) (objects : ObjectSet) (change : List Entry) (keys : List KeyOf)
    → Stands style maps objects → AreProperEntries change
    → ((own : KeyOf) → list_any (eq_by_cmp key_cmp own) keys ≡ false
    → rows_in style (folded_all objects change) own ≡ rows_in style objects own)
    → Stands style (appended maps change (rows_in style (folded_all objects change)) keys) (folded_all objects change)
appended_stands style maps objects change keys stands proper outside = record {
  on = all_set (reaches_nodes style) (rows_in style (folded_all objects change)) keys (change_on maps change) (folded_all objects change)
      (entries_stand (reaches_nodes style) change maps objects stands.on proper);
  rows = rows_follow (rows_in style (folded_all objects change)) (rows_in style objects) maps change keys stands.rows outside;
}

-- where the row of each table is the same, so are all rows of a key
pub rows_in-same : (style : StyleOf) (one other : ObjectSet) (own : KeyOf)
    → ((table : ℕ) → row style one table own ≡ row style other table own) → rows_in style one own ≡ rows_in style other own
unfolding rows_in
rows_in-same style one other own same = ap (λ (rows : ℕ → Option Row). rows_below rows (length style.tables)) (λ i table. same table i)
