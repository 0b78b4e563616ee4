-- What a store means once one part of it is another.
use Rattle.std.proofs.Common.{◌≡◌, ◌<◌, ◌≤◌, ℕ, List, [], refl, sym, ap, ◌∙◌, arith}
use Rattle.osm_base.specs.map.Objects.{ObjectSet}
use Rattle.object_fold.specs.Listings.{HasIds}
use Rattle.tile_cover.specs.Runs.{IsTileSet, has}
use Rattle.tile_cover.specs.declared.runs.Run.{Run}
use Rattle.due_tiles.specs.Spelling.{set_bytes}
use Rattle.chain_store.specs.declared.root.Root.{Root}
use Rattle.bucket_store.specs.Image.{Image, with_root, with_text}
use Rattle.bucket_store.proofs.Images.{maps_with_root, maps_with_text, root_with_root, root_with_text, texts_beside, texts_here}
use Rattle.bucket_store.proofs.Images.{texts_with_root}
use Rattle.store_maps.specs.Maps.{Maps}
use Rattle.store_maps.specs.Stands.{Stands}
use Rattle.store_check.specs.Kept.{HoldsMaps}
use Rattle.update_flow.proofs.MapsKept.{kept_same}
use Rattle.update_flow.specs.Due.{Tiles, no_tiles}
use Rattle.update_flow.specs.Stands.{IsImported}
use Rattle.update_flow.specs.State.{Holding, cleared}
use Rattle.update_flow.specs.Settling.{counted_to, committed_due}
use Rattle.update_flow.specs.declared.fault.TheConstants.{LAST_CHANGE}
use Rattle.update_flow.specs.declared.fields.TheConstants.{DUE_TEXT, STYLE_TEXT}

abbrev pub with_due : Tiles → Holding → Holding
with_due due held = record held { due = due }

abbrev pub with_objects : ObjectSet → Holding → Holding
with_objects objects held = record held { objects = objects }

abbrev pub with_changes : ℕ → Holding → Holding
with_changes number held = record held { changes = number }

-- other tiles are due
pub due_becomes : (held : Holding) (image : Image) (runs : List Run) (due : Tiles) → IsImported held image → IsTileSet runs
    → ((zoom x y : ℕ) → has runs zoom x y ≡ due zoom x y) → IsImported (with_due due held) (with_text DUE_TEXT (set_bytes runs) image)
due_becomes held image runs due is set tiles = record {
  root = root_with_text DUE_TEXT (set_bytes runs) image ∙ is.root;
  counted = is.counted;
  some = is.some;
  power = is.power;
  few = is.few;
  style_text = texts_beside DUE_TEXT (set_bytes runs) image STYLE_TEXT (omega arith) ∙ is.style_text;
  style = is.style;
  due = record { runs = runs; is = set; bytes_are = texts_here DUE_TEXT (set_bytes runs) image DUE_TEXT refl; tiles = tiles };
  others = λ n below not_style not_due. texts_beside DUE_TEXT (set_bytes runs) image n not_due ∙ is.others n below not_style not_due;
  ids = is.ids;
  maps = record {
    maps = is.maps.maps;
    kept = kept_same held.style.tables image.maps (with_text DUE_TEXT (set_bytes runs) image).maps is.maps.maps
        (λ m. maps_with_text DUE_TEXT (set_bytes runs) image m) is.maps.kept;
    stand = is.maps.stand;
  };
}

-- no tile is
no_runs : IsTileSet []
no_runs = record { each = tt; apart = tt }

pub cleared_becomes : (held : Holding) (image : Image) → IsImported held image
    → IsImported (cleared held) (with_text DUE_TEXT (set_bytes []) image)
cleared_becomes held image is = due_becomes held image [] no_tiles is no_runs (λ zoom x y. refl)

-- there was another number of changes
pub count_becomes : (held : Holding) (image : Image) (root : Root) (number : ℕ) → IsImported held image → number ≤ LAST_CHANGE
    → root ≡ counted_to number image.root → IsImported (with_changes number held) (with_root root image)
count_becomes held image root number is counted same = record {
  root = root_with_root root image ∙ same ∙ ap (λ (r : Root). counted_to number r) is.root;
  counted = counted;
  some = is.some;
  power = is.power;
  few = is.few;
  style_text = texts_with_root root image STYLE_TEXT ∙ is.style_text;
  style = is.style;
  due = record {
    runs = is.due.runs;
    is = is.due.is;
    bytes_are = texts_with_root root image DUE_TEXT ∙ is.due.bytes_are;
    tiles =
        is.due.tiles;
  };
  others = λ n below not_style not_due. texts_with_root root image n ∙ is.others n below not_style not_due;
  ids = is.ids;
  maps = record {
    maps = is.maps.maps;
    kept = kept_same held.style.tables image.maps (with_root root image).maps is.maps.maps (λ m. maps_with_root root image m) is.maps.kept;
    stand = is.maps.stand;
  };
}

-- its maps stand for other objects
pub objects_become : (held : Holding) (rest now : Image) (maps : Maps) (objects : ObjectSet) → IsImported held rest → now.root ≡ rest.root
    → ((n : ℕ) → n < 8 → now.texts n ≡ rest.texts n) → HoldsMaps held.style.tables now.maps maps → Stands held.style maps objects
    → HasIds objects → IsImported (with_objects objects held) now
objects_become held rest now maps objects is root texts kept stand ids = record {
  root = root ∙ is.root;
  counted = is.counted;
  some = is.some;
  power = is.power;
  few = is.few;
  style_text = texts STYLE_TEXT (omega arith) ∙ is.style_text;
  style = is.style;
  due = record { runs = is.due.runs; is = is.due.is; bytes_are = texts DUE_TEXT (omega arith) ∙ is.due.bytes_are; tiles = is.due.tiles };
  others = λ n below not_style not_due. texts n below ∙ is.others n below not_style not_due;
  ids = ids;
  maps = record { maps = maps; kept = kept; stand = stand };
}

-- so many changes, and these due tiles
pub settled_becomes : (held : Holding) (image : Image) (runs : List Run) (due : Tiles) (number : ℕ) → IsImported held image → IsTileSet runs
    → ((zoom x y : ℕ) → has runs zoom x y ≡ due zoom x y) → number ≤ LAST_CHANGE
    → IsImported (with_changes number (with_due due held)) (committed_due number runs image)
settled_becomes held image runs due number is set tiles counted =
    count_becomes (with_due due held) (with_text DUE_TEXT (set_bytes runs) image) (counted_to number image.root) number
    (due_becomes held image runs due is set tiles) counted
    (ap (λ (r : Root). counted_to number r) (sym (root_with_text DUE_TEXT (set_bytes runs) image)))
