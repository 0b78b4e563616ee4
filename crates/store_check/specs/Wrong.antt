-- The least key of which something is not so, and the first value of a store that is not right.
use Rattle.std.specs.Prelude.{◌≡◌, ◌<◌, ◌≤◌, ℕ, Option, None, Some}
use Rattle.style_read.specs.Style.{StyleOf}
use Rattle.value_bytes.specs.StoreMap.{map_number}
use Rattle.value_bytes.specs.declared.store_map.StoreMap.{StoreMap}
use Rattle.bucket_store.specs.Image.{Image}
use Rattle.store_check.specs.declared.wrong.Wrong.{Wrong}
use Rattle.store_check.specs.Values.{AreRight, IsLeastWrong, IsRight, NodeMap, ObjectMap, ReadsObjects, objects_of}

-- of all keys among those that were seen it is so, or this is the least of which it is not
abbrev pub IsLeastOf : (Seen Is : ℕ → Type 0) → Option ℕ → Type 0
IsLeastOf Seen Is None = (key : ℕ) → Seen key → Is key
IsLeastOf Seen Is (Some key) = (¬ Is key) × ((own : ℕ) → own < key → Seen own → Is own)

-- of all keys
abbrev pub IsLeast : (Is : ℕ → Type 0) → Option ℕ → Type 0
IsLeast Is found = IsLeastOf (λ key. Unit {0}) Is found

-- the values of a map that maps 0 to 2 of a store decide, or the first of these maps itself
abbrev pub IsRightIn : StyleOf → Image → NodeMap → ObjectMap → ObjectMap → StoreMap → (key : ℕ) → Type 0
IsRightIn style image nodes ways relations map key = IsRight style image nodes (objects_of nodes ways relations) map key

-- the first value that is not right: of the least map, and there of the least key. Maps 3 to 7 are judged by what maps 0 to 2 read as.
pub record IsFirstWrong (style : StyleOf) (image : Image) (map : StoreMap) (key : ℕ) : Type 0 where
  pub nodes : NodeMap
  pub ways : ObjectMap
  pub relations : ObjectMap
  pub read : 3 ≤ map_number map → ReadsObjects image nodes ways relations
  pub least : IsLeastWrong style image nodes (objects_of nodes ways relations) map key

-- maps 0 to 2 read as objects, and by these each value of each map is right
pub record AllRight (style : StyleOf) (image : Image) : Type 0 where
  pub nodes : NodeMap
  pub ways : ObjectMap
  pub relations : ObjectMap
  pub read : ReadsObjects image nodes ways relations
  pub right : AreRight style image nodes (objects_of nodes ways relations)

-- the value of a map under this key, if there is one
abbrev pub wrong_at : StoreMap → Option ℕ → Option Wrong
wrong_at map None = None
wrong_at map (Some key) = Some (record { map = map; key = key })

-- all values of a map are so, or this is its least key of which it is not
abbrev pub IsWrongIn : (StoreMap → ℕ → Type 0) → StoreMap → Option Wrong → Type 0
IsWrongIn Is map None = (key : ℕ) → Is map key
IsWrongIn Is map (Some own) = (own.map ≡ map) × (¬ Is map own.key) × ((key : ℕ) → key < own.key → Is map key)
