-- One record in bytes.
use Rattle.std.specs.Prelude.{◌≡◌, ℕ, List, ◌++◌}
use Rattle.bucket_records.specs.Records.{record_bytes, IsRecord}

-- the bytes begin with this record, and behind it stand these
pub record StartsRecord (bytes : List ℕ) (key : ℕ) (value rest : List ℕ) : Type 0 where
  pub is : IsRecord (key, value)
  pub bytes_are : bytes ≡ record_bytes key value ++ rest

-- they begin so, and in no other way
pub record BeginsRecord (bytes : List ℕ) (key : ℕ) (value rest : List ℕ) : Type 0 where
  pub starts : StartsRecord bytes key value rest
  pub alone : (other : ℕ) (held behind : List ℕ) → StartsRecord bytes other held behind → (other ≡ key) × (held ≡ value) × (behind ≡ rest)

-- they begin with no record
abbrev pub IsRecordless : List ℕ → Type 0
IsRecordless bytes = (key : ℕ) (value rest : List ℕ) → ¬ StartsRecord bytes key value rest
