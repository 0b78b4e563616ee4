-- An old store with its nodes written anew is one of the format of today.
use Rattle.std.proofs.Common.{◌≡◌, ◌<◌, ℕ, ap, ◌∙◌, arith}
use Rattle.chain_store.specs.declared.root.Root.{Root}
use Rattle.bucket_store.specs.Image.{Image}
use Rattle.bucket_store.proofs.Images.{maps_with_root, root_with_root, texts_with_root}
use Rattle.store_check.specs.Kept.{HoldsMaps}
use Rattle.update_flow.proofs.MapsKept.{kept_same}
use Rattle.update_flow.specs.Settling.{migrated, migrated_root}
use Rattle.update_flow.specs.Stands.{IsImported, IsOld}
use Rattle.update_flow.specs.State.{Holding}
use Rattle.update_flow.specs.declared.fields.TheConstants.{DUE_TEXT, STYLE_TEXT}

pub migrated_becomes : (held : Holding) (rest now : Image) → (is : IsOld held rest) → now.root ≡ rest.root
    → ((n : ℕ) → n < 8 → now.texts n ≡ rest.texts n) → HoldsMaps held.style.tables now.maps is.maps.maps → IsImported held (migrated now)
migrated_becomes held rest now is root texts kept =
    let fields = migrated_root now.root in
    record {
      root = root_with_root fields now ∙ ap (λ (r : Root). migrated_root r) (root ∙ is.root);
      counted = is.counted;
      some = is.some;
      power = is.power;
      few = is.few;
      style_text = texts_with_root fields now STYLE_TEXT ∙ texts STYLE_TEXT (omega arith) ∙ is.style_text;
      style = is.style;
      due = record {
        runs = is.due.runs;
        is = is.due.is;
        bytes_are = texts_with_root fields now DUE_TEXT ∙ texts DUE_TEXT (omega arith) ∙ is.due.bytes_are;
        tiles = is.due.tiles;
      };
      others = λ n below not_style not_due. texts_with_root fields now n ∙ texts n below ∙ is.others n below not_style not_due;
      ids = is.ids;
      maps = record {
        maps = is.maps.maps;
        kept = kept_same held.style.tables now.maps (migrated now).maps is.maps.maps (λ m. maps_with_root fields now m) kept;
        stand = is.maps.stand;
      };
    }
