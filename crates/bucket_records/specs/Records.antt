-- The records of a bucket. A bucket holds keys with their values as records of key, length and bytes, by strictly rising
-- key. Bucket b of B has the keys that are b modulo B.
use Rattle.std.specs.Prelude.{◌≡◌, ℕ, ◌+◌, ◌%◌, ◌≤◌, List, [], ◌∷◌, ◌++◌}
use Rattle.std.specs.Ordering.{nat_cmp}
use Rattle.std.specs.FinMap as map
use Rattle.value_bytes.specs.Numbers.{number_bytes, IsNumber, counted_bytes, IsCounted}

-- a finite map from keys to values
abbrev pub BucketMap : Type 0
BucketMap = map.FinMap nat_cmp (List ℕ)

-- the bytes of a record
unfoldable pub record_bytes : ℕ → List ℕ → List ℕ
record_bytes key value = number_bytes key ++ counted_bytes value

-- a record has bytes
abbrev pub IsRecord : ℕ × List ℕ → Type 0
IsRecord record_of = IsNumber record_of.0 × IsCounted record_of.1

-- the bytes of records, one after another
unfoldable pub records_bytes : List (ℕ × List ℕ) → List ℕ
records_bytes [] = []
records_bytes (one ∷ records) = record_bytes one.0 one.1 ++ records_bytes records

-- these are records whose keys strictly rise, from this one on
unfoldable pub AreRecords : ℕ → List (ℕ × List ℕ) → Type 0
AreRecords least [] = Unit {0}
AreRecords least (one ∷ records) = (least ≤ one.0) × IsRecord one × AreRecords (one.0 + 1) records

-- their keys are those of one bucket of so many
unfoldable pub AreOf : ℕ → ℕ → List (ℕ × List ℕ) → Type 0
AreOf buckets bucket [] = Unit {0}
AreOf buckets bucket (one ∷ records) = (one.0 % buckets ≡ bucket) × AreOf buckets bucket records

-- these bytes are the records of a bucket
pub record IsBucket (buckets bucket : ℕ) (bytes : List ℕ) (records : List (ℕ × List ℕ)) : Type 0 where
  pub rise : AreRecords 0 records
  pub own : AreOf buckets bucket records
  pub bytes_are : bytes ≡ records_bytes records

-- these bytes are no bucket's records
abbrev pub IsNoBucket : ℕ → ℕ → List ℕ → Type 0
IsNoBucket buckets bucket bytes = (records : List (ℕ × List ℕ)) → ¬ IsBucket buckets bucket bytes records
