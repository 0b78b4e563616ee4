-- Bytes are the records of one bucket at most.
use Rattle.std.proofs.Common.{◌≡◌, ℕ, ◌+◌, List, [], ◌∷◌, ◌++◌, length, refl, sym, ap, ◌∙◌, arith, length-append}
use Rattle.std.specs.FinMap as map
use Rattle.value_bytes.specs.Forms.{Begins}
use Rattle.value_bytes.specs.Numbers.{counted_bytes, IsCounted}
use Rattle.value_bytes.proofs.NumberLaws.{number_front}
use Rattle.value_bytes.proofs.CountedLaws.{counted_number, counted_front}
use Rattle.bucket_records.specs.Records.{BucketMap, record_bytes, records_bytes, AreRecords, IsBucket}
use Rattle.bucket_records.specs.Spelling.{StartsRecord, BeginsRecord}
use Rattle.bucket_records.proofs.Fronts.{starts_key, begins_record}
use Rattle.bucket_records.proofs.RecordLists.{length-record_bytes}
use Rattle.bucket_records.proofs.Finding.{front_of_records}

pub begins_of : (bytes : List ℕ) (key : ℕ) (value rest : List ℕ) → StartsRecord bytes key value rest → BeginsRecord bytes key value rest
begins_of bytes key value rest starts =
    let behind = counted_bytes value ++ rest in
    let own : Begins counted_bytes IsCounted behind value rest = record { is = starts.is.1; bytes_are = refl } in
    let count = number_front behind (length value) (value ++ rest) (counted_number behind value rest own) in
    begins_record bytes key behind value rest (number_front bytes key behind (starts_key bytes key value rest starts))
    (counted_front behind (length value) (value ++ rest) value rest count refl refl)

some_bytes : (one : ℕ × List ℕ) (records : List (ℕ × List ℕ)) → [] ≡ records_bytes (one ∷ records) → ⊥
unfolding records_bytes
some_bytes one records same =
    omega (
      arith,
      ap (λ (l : List ℕ). length l) same,
      length-append (record_bytes one.0 one.1) (records_bytes records),
      length-record_bytes one.0 one.1,
    )

no_bytes : (records : List (ℕ × List ℕ)) → records_bytes [] ≡ records_bytes records → [] ≡ records
unfolding records_bytes
no_bytes [] same = refl
no_bytes (one ∷ records) same = absurd (some_bytes one records same)

pub records_one : (least low : ℕ) (one two : List (ℕ × List ℕ)) → AreRecords least one → AreRecords low two
    → records_bytes one ≡ records_bytes two → one ≡ two
unfolding AreRecords
records_one least low [] two are-one are-two same = no_bytes two same
records_one least low (first ∷ one) [] are-one are-two same = sym (no_bytes (first ∷ one) (sym same))
records_one least low (first ∷ one) (second ∷ two) are-one are-two same =
    let starts = front_of_records (records_bytes (first ∷ one)) first one least are-one refl in
    let other = front_of_records (records_bytes (first ∷ one)) second two low are-two same in
    let alone = (begins_of (records_bytes (first ∷ one)) first.0 first.1 (records_bytes one) starts).alone second.0 second.1
    (records_bytes two) other in
    let later = records_one (first.0 + 1) (second.0 + 1) one two are-one.2 are-two.2 (sym alone.2) in
    let key = sym alone.0 in
    let value = sym alone.1 in
    λ i. (key i, value i) ∷ later i

pub bucket_one : (buckets bucket : ℕ) (bytes : List ℕ) (one two : BucketMap) → IsBucket buckets bucket bytes (map.entries one)
    → IsBucket buckets bucket bytes (map.entries two) → one ≡ two
bucket_one buckets bucket bytes one two first second =
    map.same_entries_map one two
    (records_one 0 0 (map.entries one) (map.entries two) first.rise second.rise (sym first.bytes_are ∙ second.bytes_are))
