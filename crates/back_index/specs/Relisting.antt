-- The lists of the index, where an object comes, goes or changes. At an id that the old form of the object listed its own
-- id goes out of the list, and at one that the new form lists it comes in.
use Rattle.std.specs.Prelude.{◌≡◌, ℕ, Bool, true, false, List, [], ◌++◌, fold, Option, None, Some}
use Rattle.std.specs.Option.{option_map}
use Rattle.std.specs.FinMap as finite
use Rattle.osm_base.specs.values.Ids.{has}
use Rattle.bucket_records.specs.Records.{BucketMap}
use Rattle.value_bytes.specs.Forms.{IsNoValue}
use Rattle.store_maps.specs.Maps.{unless_empty}
use Rattle.store_maps.specs.Step.{with_id, without_id}
use Rattle.back_index.specs.Ids.{ids_bytes, AreListed}

-- ids in their order, each once
abbrev pub in_order : List ℕ → List ℕ
in_order ids = fold (λ rest id. with_id id rest) [] ids

-- what is kept of a list reads as these ids; where nothing is kept, as none
abbrev pub ReadsIds : Option (List ℕ) → List ℕ → Type 0
ReadsIds None ids = ids ≡ []
ReadsIds (Some bytes) ids = AreListed ids × (bytes ≡ ids_bytes ids)

-- it reads as no ids
abbrev pub IsUnread : Option (List ℕ) → Type 0
IsUnread None = ⊥
IsUnread (Some bytes) = IsNoValue ids_bytes AreListed bytes

-- what is kept of a list
abbrev pub kept_list : List ℕ → Option (List ℕ)
kept_list ids = option_map ids_bytes (unless_empty ids)

-- a list of which the old form's id goes out, and the new form's id comes in
abbrev pub turned : Bool → Bool → ℕ → List ℕ → List ℕ
turned true true own ids = ids
turned true false own ids = without_id own ids
turned false true own ids = with_id own ids
turned false false own ids = ids

-- a list can be turned: it is read, and where the old form is listed its id is there
pub record CanTurn (was : Bool) (own : ℕ) (found : Option (List ℕ)) (ids : List ℕ) : Type 0 where
  pub reads : ReadsIds found ids
  pub there : was ≡ true → has ids own ≡ true

-- of one map the lists of these ids are turned, and no other
pub record TurnsAt (own : ℕ) (old new done : List ℕ) (before after : BucketMap) : Type 0 where
  pub at : (id : ℕ) → has done id ≡ true → (ids : List ℕ) × CanTurn (has old id) own (finite.get before id) ids
      × (finite.get after id ≡ kept_list (turned (has old id) (has new id) own ids))
  pub others : (id : ℕ) → has done id ≡ false → finite.get after id ≡ finite.get before id

-- those at what the old form listed and at what the new form lists
abbrev pub Turns : ℕ → List ℕ → List ℕ → BucketMap → BucketMap → Type 0
Turns own old new before after = TurnsAt own old new (old ++ new) before after
