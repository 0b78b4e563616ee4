-- What a change makes of a store, as its maps stood for objects and their rows.
-- osm2pgsql manual, "Updating an Existing Database": what depends on a changed object is processed again, and all else stays.
use Rattle.std.specs.Prelude.{◌≡◌, ◌≤◌, ◌||◌, ℕ, List, length, Result, IfOk, IfErr, OnOk}
use Rattle.std.specs.List.{list_any}
use Rattle.std.specs.FinMap as finite
use Rattle.osm_base.specs.declared.values.object.Entry.{Entry}
use Rattle.osm_base.specs.declared.values.row.RowChange.{RowChange}
use Rattle.osm_base.specs.declared.values.row.TableRow.{TableRow}
use Rattle.osm_base.specs.map.Objects.{ObjectSet, folded_all}
use Rattle.osm_base.specs.map.Pending.{PendingOf}
use Rattle.osm_base.specs.map.Spots.{changed_all}
use Rattle.osm_base.specs.values.Key.{KeyOf}
use Rattle.style_read.specs.Style.{StyleOf}
use Rattle.row_rules.specs.Row.{tables}
use Rattle.dep_closure.specs.PendingSet.{IsPendingOf, size}
use Rattle.tile_cover.specs.Table.{BoundsOf}
use Rattle.store_maps.specs.Append.{set_all_rows}
use Rattle.store_maps.specs.Delta.{IsDelta}
use Rattle.store_maps.specs.Maps.{Maps}
use Rattle.store_maps.specs.Stands.{Stands}
use Rattle.store_maps.specs.Told.{told_all}
use Rattle.update_step.specs.Due.{Tiles, due_between, is_due_key}
use Rattle.update_step.specs.Ends.{MayRefuse}
use Rattle.update_step.specs.declared.fault.StepFault.{StepFault}

-- these keys have their new rows in the store, which holds such maps now; how they differ from the old ones is told, and what that makes
-- due
-- is due beside what was
pub record Replaces {E : Type 0} (Now : Maps → Type 0) (style : StyleOf) (bounds : BoundsOf) (maps : Maps) (keys : List KeyOf)
    (old rows : KeyOf → List TableRow)
    (was is : Tiles) (result : Result (List RowChange) E) : Type 0 where
  pub holds : OnOk result (Now (set_all_rows maps rows keys))
  pub told : IfOk result (λ changes. changes ≡ told_all (length style.tables) old rows keys)
  pub due : OnOk result ((zoom x y : ℕ) → is zoom x y
      ≡ (was zoom x y || list_any (λ key. is_due_key style bounds (old key) (rows key) zoom x y) keys))

-- the store holds such maps now, and they stand for the objects after the entries. What is told leads from the tables before them to those
-- after them, and no more is told. The tiles between the two are due beside those that were. No more keys were pending than the limit, and
-- a refusal is one that may be.
pub record Changes {E : Type 0} (Now : Maps → Type 0) (MayBe : E → Type 0) (style : StyleOf) (bounds : BoundsOf) (limit : ℕ)
    (objects : ObjectSet) (entries : List Entry)
    (was is : Tiles) (result : Result (List RowChange) (StepFault E)) : Type 0 where
  pub stands : OnOk result ((after : Maps) × Now after × Stands style after (folded_all objects entries))
  pub told : IfOk result (IsDelta (finite.get (tables style objects)) (finite.get (tables style (folded_all objects entries))))
  pub applied : IfOk result (λ changes. changed_all (tables style objects) changes ≡ tables style (folded_all objects entries))
  pub due : OnOk result ((zoom x y : ℕ) → is zoom x y
      ≡ (was zoom x y || due_between style bounds objects (folded_all objects entries) zoom x y))
  pub few : OnOk result ((set : PendingOf) → IsPendingOf style objects entries set → size set ≤ limit)
  pub allowed : IfErr result (MayRefuse MayBe)
