-- Where the records of a bucket stand in its bytes.
use Rattle.std.specs.Prelude.{◌≡◌, ℕ, zero, suc, ◌+◌, ◌*◌, ◌<◌, ◌≤◌, List, [], ◌∷◌, length, take, drop, slice_index_or}
use Rattle.std.specs.Int.{w64, from_le_bytes}
use Rattle.bucket_records.specs.Records.{records_bytes, AreRecords}

-- the number that stands at this byte
unfoldable pub number : List ℕ → ℕ → ℕ
number bytes at = from_le_bytes w64 (take 8 (drop at bytes))

-- the record that stands there
unfoldable pub record_at : List ℕ → ℕ → ℕ × List ℕ
record_at bytes at = (number bytes at, take (number bytes (at + 8)) (drop (at + 16) bytes))

-- so many records, one behind another from this byte on
unfoldable pub records_from : List ℕ → ℕ → ℕ → List (ℕ × List ℕ)
records_from bytes at zero = []
records_from bytes at (suc count) = record_at bytes at ∷ records_from bytes (at + (16 + number bytes (at + 8))) count

-- the key and the value of the record of this number
abbrev pub key_of : List (ℕ × List ℕ) → ℕ → ℕ
key_of records place = (slice_index_or records place (0, [])).0

abbrev pub value_of : List (ℕ × List ℕ) → ℕ → List ℕ
value_of records place = (slice_index_or records place (0, [])).1

-- these are the places where each sixteenth of the records begins, from the one behind the first sixteen on; there may be
-- fewer of them
abbrev pub AreMarks : List (ℕ × List ℕ) → List ℕ → Type 0
AreMarks records marks = (k d : ℕ) → k < length marks
    → (16 * (k + 1) < length records) × (slice_index_or marks k d ≡ length (records_bytes (take (16 * (k + 1)) records)))

-- these rising records are all of the bytes, so many, with no key above the last one, and have these marks
pub record Lies (bytes : List ℕ) (records : List (ℕ × List ℕ)) (count last : ℕ) (marks : List ℕ) : Type 0 where
  pub rise : AreRecords 0 records
  pub bytes_are : bytes ≡ records_bytes records
  pub many : count ≡ length records
  pub highest : (k : ℕ) → k < length records → key_of records k ≤ last
  pub marked : AreMarks records marks

-- those that are seen in the bytes lie so
abbrev pub IsIndexed : List ℕ → ℕ → ℕ → List ℕ → Type 0
IsIndexed bytes count last marks = Lies bytes (records_from bytes 0 count) count last marks

-- so many of the records have keys below this one
pub record IsPlaceOf (records : List (ℕ × List ℕ)) (key place : ℕ) : Type 0 where
  pub within : place ≤ length records
  pub below : (k : ℕ) → k < place → key_of records k < key
  pub from : (k : ℕ) → place ≤ k → k < length records → key ≤ key_of records k
