-- The bytes of a store that stands for a state.
-- docs/FILES.md, "The root page" and "Chains": state 0 of a store that was only made, all of whose strings are empty; state 1 of an
-- imported one, with the style's bytes as string 1 and the due set as string 2. An old store has state 1 too, in format 1, with the
-- places of nodes alone and a style that does not reach nodes. A follower's has state 2, the style's bytes and the maps of rows alone.
use Rattle.std.specs.Prelude.{◌≡◌, ◌≢◌, ◌<◌, ◌≤◌, ℕ, List, [], Ok, IsTrue, false, true}
use Rattle.std.specs.FinMap as finite
use Rattle.std.specs.Int.{is_power_of_two}
use Rattle.style_read.specs.Reading.{reading}
use Rattle.tile_cover.specs.declared.runs.Run.{Run}
use Rattle.tile_cover.specs.Runs.{IsTileSet, has}
use Rattle.due_tiles.specs.Spelling.{set_bytes}
use Rattle.bucket_store.specs.Image.{HasImage, Image}
use Rattle.object_fold.specs.Listings.{HasIds}
use Rattle.row_rules.specs.Condition.{reaches_nodes}
use Rattle.store_maps.specs.Maps.{Maps}
use Rattle.store_maps.specs.Stands.{Stands}
use Rattle.store_check.specs.Kept.{HoldsMaps, HoldsOldMaps}
use Rattle.update_flow.specs.Due.{Tiles}
use Rattle.update_flow.specs.Roots.{is_blank}
use Rattle.update_flow.specs.State.{Following, Holding, State, formatted, imported, outdated, following}
use Rattle.row_store.specs.Tables.{HoldsTables}
use Rattle.update_flow.specs.declared.fault.TheConstants.{LAST_CHANGE}
use Rattle.update_flow.specs.declared.fields.TheConstants.{DUE_TEXT, FOLLOWING, IMPORTED, IMPORTED_FORMAT, OLD_FORMAT, STYLE_TEXT}

-- these bytes are those of this set of tiles
pub record AreDue (bytes : List ℕ) (due : Tiles) : Type 0 where
  pub runs : List Run
  pub is : IsTileSet runs
  pub bytes_are : bytes ≡ set_bytes runs
  pub tiles : (zoom x y : ℕ) → has runs zoom x y ≡ due zoom x y

-- a store that was only made: all of its chains are empty
pub record IsBlank (image : Image) : Type 0 where
  pub root : is_blank image.root ≡ true
  pub counted : image.root.changes ≤ LAST_CHANGE
  pub texts : (n : ℕ) → n < 8 → image.texts n ≡ []

-- the maps of a store stand for what it holds
pub record HasMapsOf (held : Holding) (image : Image) : Type 0 where
  pub maps : Maps
  pub kept : HoldsMaps held.style.tables image.maps maps
  pub stand : Stands held.style maps held.objects

-- the maps of an old store do, under a style that does not reach nodes
pub record HasOldMapsOf (held : Holding) (image : Image) : Type 0 where
  pub maps : Maps
  pub kept : HoldsOldMaps held.style.tables image.maps maps
  pub stand : Stands held.style maps held.objects
  pub unreached : reaches_nodes held.style ≡ false

-- an imported store of this format that holds this, in such maps
pub record IsOfFormat (format : ℕ) (MapsOf : Holding → Image → Type 0) (held : Holding) (image : Image) : Type 0 where
  pub root : image.root ≡ record { format = format; state = IMPORTED; changes = held.changes; buckets = held.buckets }
  pub counted : held.changes ≤ LAST_CHANGE
  pub some : 1 ≤ held.buckets
  pub power : IsTrue (is_power_of_two held.buckets)
  pub few : held.buckets ≤ 65536
  pub style_text : image.texts STYLE_TEXT ≡ held.style_bytes
  pub style : reading held.style_bytes ≡ Ok held.style
  pub due : AreDue (image.texts DUE_TEXT) held.due
  pub others : (n : ℕ) → n < 8 → n ≢ STYLE_TEXT → n ≢ DUE_TEXT → image.texts n ≡ []
  pub ids : HasIds held.objects
  pub maps : MapsOf held image

-- of the format of today, and of the old one
abbrev pub IsImported : Holding → Image → Type 0
IsImported held image = IsOfFormat IMPORTED_FORMAT HasMapsOf held image

abbrev pub IsOld : Holding → Image → Type 0
IsOld held image = IsOfFormat OLD_FORMAT HasOldMapsOf held image

-- a follower's store that holds this: beside its style and its rows it holds nothing
pub record IsFollowing (held : Following) (image : Image) : Type 0 where
  pub root : image.root ≡ record { format = IMPORTED_FORMAT; state = FOLLOWING; changes = held.version; buckets = held.buckets }
  pub counted : held.version ≤ LAST_CHANGE
  pub some : 1 ≤ held.buckets
  pub power : IsTrue (is_power_of_two held.buckets)
  pub few : held.buckets ≤ 65536
  pub style_text : image.texts STYLE_TEXT ≡ held.style_bytes
  pub style : reading held.style_bytes ≡ Ok held.style
  pub others : (n : ℕ) → n < 8 → n ≢ STYLE_TEXT → image.texts n ≡ []
  pub unlisted : (m : ℕ) → m < 6 → image.maps m ≡ finite.empty
  pub tables : HoldsTables held.style.tables image.maps held.tables

-- a store means a state
abbrev pub Means : State → Image → Type 0
Means formatted image = IsBlank image
Means (imported held) image = IsImported held image
Means (outdated held) image = IsOld held image
Means (following held) image = IsFollowing held image

-- the bytes of a store stand for this state
unfoldable pub StandsFor : List ℕ → State → Type 0
StandsFor bytes state = (image : Image) × Means state image × HasImage image bytes
