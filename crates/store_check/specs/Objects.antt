-- What reading maps 0 to 2 of a store finds: the objects, or the first value that is not right.
use Rattle.std.specs.Prelude.{◌<◌, ℕ}
use Rattle.style_read.specs.Style.{StyleOf}
use Rattle.value_bytes.specs.StoreMap.{map_number}
use Rattle.value_bytes.specs.declared.store_map.StoreMap.{StoreMap}
use Rattle.bucket_store.specs.Image.{Image}
use Rattle.store_check.specs.declared.objects.Found.{Found}
use Rattle.store_check.specs.declared.objects.Found.TheVariants as finds
use Rattle.store_check.specs.Held.{HeldOf, IsHeldOf}
use Rattle.store_check.specs.Values.{NodeMap, ObjectMap, ReadsObjects}
use Rattle.store_check.specs.Wrong.{IsFirstWrong, IsRightIn}

-- maps 0 to 2 read as objects of which this is kept, and each value of them is right
pub record HoldsObjects (style : StyleOf) (image : Image) (own : HeldOf) : Type 0 where
  pub nodes : NodeMap
  pub ways : ObjectMap
  pub relations : ObjectMap
  pub read : ReadsObjects image nodes ways relations
  pub held : IsHeldOf nodes ways relations own
  pub right : (map : StoreMap) → map_number map < 3 → (key : ℕ) → IsRightIn style image nodes ways relations map key

-- so it is, or this is the first value that is not right
abbrev pub FindsObjects : StyleOf → Image → Found → Type 0
FindsObjects style image (finds.Objects held) = HoldsObjects style image held
FindsObjects style image (finds.Wrong wrong) = IsFirstWrong style image wrong.map wrong.key
