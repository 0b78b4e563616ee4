-- The record at the front of bytes.
use Rattle.std.proofs.Common.{ℕ, List, ◌++◌, sym, ap, ◌∙◌, append_assoc}
use Rattle.value_bytes.specs.Forms.{Begins, IsFront, IsFrontless}
use Rattle.value_bytes.specs.Numbers.{number_bytes, IsNumber, counted_bytes, IsCounted}
use Rattle.bucket_records.specs.Records.{record_bytes}
use Rattle.bucket_records.specs.Spelling.{StartsRecord, BeginsRecord, IsRecordless}

-- what begins with a record begins with its key, and behind it with its value
pub starts_key : (bytes : List ℕ) (key : ℕ) (value rest : List ℕ) → StartsRecord bytes key value rest
    → Begins number_bytes IsNumber bytes key (counted_bytes value ++ rest)
unfolding record_bytes
starts_key bytes key value rest starts = record {
  is = starts.is.0;
  bytes_are = starts.bytes_are ∙ append_assoc (number_bytes key) (counted_bytes value) rest;
}

pub begins_record : (bytes : List ℕ) (key : ℕ) (behind value rest : List ℕ) → IsFront number_bytes IsNumber bytes key behind
    → IsFront counted_bytes IsCounted behind value rest → BeginsRecord bytes key value rest
unfolding record_bytes
begins_record bytes key behind value rest first second = record {
  starts = record {
    is = (first.begins.is, second.begins.is);
    bytes_are = first.begins.bytes_are ∙ ap (λ (l : List ℕ). number_bytes key ++ l) second.begins.bytes_are
        ∙ sym (append_assoc (number_bytes key) (counted_bytes value) rest);
  };
  alone = λ other held after starts.
      let same = first.alone other (counted_bytes held ++ after) (starts_key bytes other held after starts) in
      let later = second.alone held after (record { is = starts.is.1; bytes_are = sym same.1 }) in
      (same.0, later.0, later.1);
}

pub recordless_key : (bytes : List ℕ) → IsFrontless number_bytes IsNumber bytes → IsRecordless bytes
recordless_key bytes none key value rest starts = none key (counted_bytes value ++ rest) (starts_key bytes key value rest starts)

pub recordless_value : (bytes : List ℕ) (key : ℕ) (behind : List ℕ) → IsFront number_bytes IsNumber bytes key behind
    → IsFrontless counted_bytes IsCounted behind → IsRecordless bytes
recordless_value bytes key behind first none other value rest starts =
    let same = first.alone other (counted_bytes value ++ rest) (starts_key bytes other value rest starts) in
    none value rest (record { is = starts.is.1; bytes_are = sym same.1 })
