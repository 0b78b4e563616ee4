-- What the changes of a transaction make of the records of a bucket. A change of a key is its new value, or none where
-- the key is removed.
use Rattle.std.specs.Prelude.{ℕ, ◌==◌, nat_lt, if◌then◌else◌, List, [], ◌∷◌, ◌++◌, Option, Some, None, Vec}
use Rattle.std.specs.FinMap as map
use Rattle.std.specs.declared.alloc.Global.{Global}
use Rattle.bucket_records.specs.Records.{BucketMap}

-- changes of keys
abbrev pub ChangeList : Type 0
ChangeList = List (ℕ × Option (Vec ℕ Global))

-- a map with the changes made to it
abbrev pub change : BucketMap → ℕ → Option (Vec ℕ Global) → BucketMap
change values key None = map.remove values key
change values key (Some value) = map.insert values key value.items

unfoldable pub changed : BucketMap → ChangeList → BucketMap
changed values [] = values
changed values (one ∷ changes) = change (changed values changes) one.0 one.1

-- the map of records, and it with changes
unfoldable pub map_of : List (ℕ × List ℕ) → BucketMap
map_of records = map.from_sorted records

-- the records whose keys are below this one, and the others
unfoldable pub below : ℕ → List (ℕ × List ℕ) → List (ℕ × List ℕ)
below key [] = []
below key (one ∷ records) = if nat_lt one.0 key then one ∷ below key records else []

unfoldable pub from : ℕ → List (ℕ × List ℕ) → List (ℕ × List ℕ)
from key [] = []
from key (one ∷ records) = if nat_lt one.0 key then from key records else one ∷ records

-- those behind the first, where the first has this key
unfoldable pub behind : ℕ → List (ℕ × List ℕ) → List (ℕ × List ℕ)
behind key [] = []
behind key (one ∷ records) = if one.0 == key then records else one ∷ records

-- the record that a change makes
abbrev pub made : ℕ → Option (Vec ℕ Global) → List (ℕ × List ℕ)
made key None = []
made key (Some value) = (key, value.items) ∷ []

-- rising records with rising changes made to them
unfoldable pub merged : List (ℕ × List ℕ) → ChangeList → List (ℕ × List ℕ)
merged records [] = records
merged records (one ∷ changes) =
    below one.0 records ++ (made one.0 one.1 ++ merged (behind one.0 (from one.0 records)) changes)
