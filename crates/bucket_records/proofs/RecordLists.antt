-- Records one after another.
use Rattle.std.proofs.Common.{◌≡◌, ℕ, zero, suc, ◌+◌, ◌*◌, ◌%◌, ◌<◌, ◌≤◌, List, [], ◌∷◌, ◌++◌, length, refl, sym, ap, ◌∙◌, arith}
use Rattle.std.proofs.Common.{append_assoc, length-append}
use Rattle.value_bytes.specs.Numbers.{number_bytes, counted_bytes}
use Rattle.value_bytes.proofs.NumberLaws.{length-number_bytes}
use Rattle.bucket_records.specs.Records.{record_bytes, records_bytes, AreRecords, AreOf, IsRecord}
use Rattle.bucket_records.specs.Places.{key_of}

pub records_bytes-nil : records_bytes [] ≡ []
unfolding records_bytes
records_bytes-nil = refl

pub records_bytes-append : (front back : List (ℕ × List ℕ)) → records_bytes (front ++ back) ≡ records_bytes front ++ records_bytes back
unfolding records_bytes
records_bytes-append [] back = refl
records_bytes-append (one ∷ front) back =
    ap (λ (l : List ℕ). record_bytes one.0 one.1 ++ l) (records_bytes-append front back)
    ∙ sym (append_assoc (record_bytes one.0 one.1) (records_bytes front) (records_bytes back))

pub records_bytes-one : (key : ℕ) (value : List ℕ) → records_bytes ((key, value) ∷ []) ≡ record_bytes key value ++ []
unfolding records_bytes
records_bytes-one key value = refl

-- what the least key behind records is
abbrev pub end_of : ℕ → List (ℕ × List ℕ) → ℕ
end_of least [] = least
end_of least (one ∷ records) = end_of (one.0 + 1) records

pub AreRecords-append : (least : ℕ) (front back : List (ℕ × List ℕ)) → AreRecords least front → AreRecords (end_of least front) back
    → AreRecords least (front ++ back)
unfolding AreRecords
AreRecords-append least [] back are-front are-back = are-back
AreRecords-append least (one ∷ front) back are-front are-back =
    (are-front.0, are-front.1, AreRecords-append (one.0 + 1) front back are-front.2 are-back)

pub AreRecords-none : (least : ℕ) → AreRecords least []
unfolding AreRecords
AreRecords-none least = tt

pub AreRecords-one : (least key : ℕ) (value : List ℕ) → least ≤ key → IsRecord (key, value) → AreRecords least ((key, value) ∷ [])
unfolding AreRecords
AreRecords-one least key value above is = (above, is, tt)

pub end_of-append : (least : ℕ) (front : List (ℕ × List ℕ)) (key : ℕ) (value : List ℕ) → end_of least (front ++ (key, value) ∷ []) ≡ key + 1
end_of-append least [] key value = refl
end_of-append least (one ∷ front) key value = end_of-append (one.0 + 1) front key value

-- a key above all of the records is at least what may follow them
pub end_above : (least key : ℕ) (records : List (ℕ × List ℕ)) → AreRecords least records → least ≤ key
    → ((k : ℕ) → k < length records → key_of records k < key) → end_of least records ≤ key
unfolding AreRecords
end_above least key [] are low above = low
end_above least key (one ∷ records) are low above =
    end_above (one.0 + 1) key records are.2 (let first : one.0 < key = above zero (omega arith) in omega (arith, first))
    (λ k inside. above (suc k) (omega arith))

-- a later part of records are records
pub AreRecords-less : (least low : ℕ) (records : List (ℕ × List ℕ)) → low ≤ least → AreRecords least records → AreRecords low records
unfolding AreRecords
AreRecords-less least low [] below are = tt
AreRecords-less least low (one ∷ records) below are = (omega (arith, are.0), are.1, are.2)

pub AreOf-append : (buckets bucket : ℕ) (front back : List (ℕ × List ℕ)) → AreOf buckets bucket front → AreOf buckets bucket back
    → AreOf buckets bucket (front ++ back)
unfolding AreOf
AreOf-append buckets bucket [] back of-front of-back = of-back
AreOf-append buckets bucket (one ∷ front) back of-front of-back = (of-front.0, AreOf-append buckets bucket front back of-front.1 of-back)

pub AreOf-one : (buckets bucket key : ℕ) (value : List ℕ) → key % buckets ≡ bucket → AreOf buckets bucket ((key, value) ∷ [])
unfolding AreOf
AreOf-one buckets bucket key value own = (own, tt)

pub AreOf-none : (buckets bucket : ℕ) → AreOf buckets bucket []
unfolding AreOf
AreOf-none buckets bucket = tt

-- one bucket has all keys
pub one_bucket : (least : ℕ) (records : List (ℕ × List ℕ)) → AreRecords least records → AreOf 1 0 records
unfolding AreRecords AreOf
one_bucket least [] are = tt
one_bucket least (one ∷ records) are = (omega arith, one_bucket (one.0 + 1) records are.2)

pub length-record_bytes : (key : ℕ) (value : List ℕ) → length (record_bytes key value) ≡ 16 + length value
unfolding record_bytes counted_bytes
length-record_bytes key value =
    let count = number_bytes (length value) in
    omega (
      arith,
      length-append (number_bytes key) (count ++ value),
      length-append count value,
      length-number_bytes key,
      length-number_bytes (length value),
    )

-- a record is more than one byte
pub many_within : (records : List (ℕ × List ℕ)) → 16 * length records ≤ length (records_bytes records)
unfolding records_bytes
many_within [] = omega arith
many_within (one ∷ records) =
    omega (
      arith,
      many_within records,
      length-append (record_bytes one.0 one.1) (records_bytes records),
      length-record_bytes one.0 one.1,
    )

-- the keys are below what may follow
least_end : (least : ℕ) (records : List (ℕ × List ℕ)) → AreRecords least records → least ≤ end_of least records
unfolding AreRecords
least_end least [] are = omega arith
least_end least (one ∷ records) are = omega (arith, are.0, least_end (one.0 + 1) records are.2)

pub below_end : (least : ℕ) (records : List (ℕ × List ℕ)) (k : ℕ) → AreRecords least records → k < length records
    → key_of records k < end_of least records
unfolding AreRecords
below_end least [] k are inside = absurd (omega arith)
below_end least (one ∷ records) zero are inside = let low = least_end (one.0 + 1) records are.2 in omega (arith, low)
below_end least (one ∷ records) (suc k) are inside = below_end (one.0 + 1) records k are.2 (omega arith)
