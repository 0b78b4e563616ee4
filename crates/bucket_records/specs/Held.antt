-- What a bucket is: a finite map, and the bytes that it was read from.
use Rattle.std.specs.Prelude.{ℕ, List, take}
use Rattle.std.specs.Coded.{Coded, code_by, coded×, coded_list, coded_ℕ}
use Rattle.std.specs.FinMap as map
use Rattle.bucket_records.specs.Records.{BucketMap, records_bytes}
use Rattle.bucket_records.specs.Changes.{ChangeList, changed, map_of}

-- the map as it is now, and the bytes of the one that was read
pub record HeldBucket : Type 0 where
  pub values : BucketMap
  pub origin : List ℕ

-- a bucket is stored as its parts
abbrev pub held_code : Coded HeldBucket
held_code =
    code_by (BucketMap × List ℕ) (coded× (map.code coded_ℕ (coded_list coded_ℕ)) (coded_list coded_ℕ))
    (λ held. (held.values, held.origin)) (λ parts. record { values = parts.0; origin = parts.1 }) (λ held. λ i. held)

-- the same with another map
abbrev pub with_values : HeldBucket → BucketMap → HeldBucket
with_values held values = record { values = values; origin = held.origin }

-- records of which so many were read, with changes
abbrev pub held : List (ℕ × List ℕ) → ℕ → ChangeList → HeldBucket
held records read changes = record { values = changed (map_of records) changes; origin = records_bytes (take read records) }
