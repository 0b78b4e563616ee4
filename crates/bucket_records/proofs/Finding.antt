-- How far the records of a bucket were found in its bytes.
use Rattle.std.proofs.Common.{◌≡◌, ◌≢◌, ◌⊎◌, ℕ, ◌+◌, ◌*◌, ◌-◌, ◌%◌, ◌≤◌, List, [], ◌∷◌, ◌++◌, length, refl, sym, ap, subst, ◌∙◌, arith}
use Rattle.std.proofs.Common.{append_assoc, length-append}
use Rattle.std.proofs.lemmas.List.{append-nil}
use Rattle.bucket_records.specs.Records.{record_bytes, records_bytes, AreRecords, AreOf, IsBucket, IsNoBucket}
use Rattle.bucket_records.specs.Places.{AreMarks, Lies}
use Rattle.bucket_records.specs.Spelling.{StartsRecord, BeginsRecord, IsRecordless}
use Rattle.bucket_records.proofs.RecordLists.{records_bytes-append, records_bytes-one, AreRecords-append, AreRecords-one, AreOf-append}
use Rattle.bucket_records.proofs.RecordLists.{AreOf-one, below_end, end_of, end_of-append, length-record_bytes, many_within}
use Rattle.bucket_records.proofs.Marks.{marks_more, no_marks}

-- these records were found; whatever the bucket's records are, those behind make up the rest
pub record HasFound (buckets bucket : ℕ) (bytes rest : List ℕ) (least count last : ℕ) (marks : List ℕ) : Type 0 where
  pub done : List (ℕ × List ℕ)
  pub rise : AreRecords 0 done
  pub own : AreOf buckets bucket done
  pub bytes_are : bytes ≡ records_bytes done ++ rest
  pub many : count ≡ length done
  pub least_is : least ≡ end_of 0 done
  pub last_is : least ≤ last + 1
  pub marked : AreMarks done marks
  pub only : (records : List (ℕ × List ℕ)) → IsBucket buckets bucket bytes records
      → (later : List (ℕ × List ℕ)) × AreRecords least later × AreOf buckets bucket later × (rest ≡ records_bytes later)

pub found_none : (buckets bucket : ℕ) (bytes marks : List ℕ) (last : ℕ) → marks ≡ [] → HasFound buckets bucket bytes bytes 0 0 last marks
unfolding AreRecords AreOf records_bytes
found_none buckets bucket bytes marks last none = record {
  done = [];
  rise = tt;
  own = tt;
  bytes_are = refl;
  many = refl;
  least_is = refl;
  last_is = omega arith;
  marked = no_marks [] marks none;
  only = λ records is. (records, is.rise, is.own, is.bytes_are);
}

-- what stands at the front of records that are not none
pub front_of_records : (rest : List ℕ) (one : ℕ × List ℕ) (later : List (ℕ × List ℕ)) (least : ℕ) → AreRecords least (one ∷ later)
    → rest ≡ records_bytes (one ∷ later) → StartsRecord rest one.0 one.1 (records_bytes later)
unfolding AreRecords records_bytes
front_of_records rest one later least are rest-is = record { is = are.1; bytes_are = rest-is }

later_fits : (buckets bucket : ℕ) (rest : List ℕ) (least key : ℕ) (value behind : List ℕ) (later : List (ℕ × List ℕ))
    → BeginsRecord rest key value behind → AreRecords least later → AreOf buckets bucket later → rest ≡ records_bytes later
    → (least ≤ key) × (key % buckets ≡ bucket)
    × ((more : List (ℕ × List ℕ)) × AreRecords (key + 1) more × AreOf buckets bucket more × (behind ≡ records_bytes more))
unfolding AreRecords AreOf records_bytes
later_fits buckets bucket rest least key value behind [] begins are of rest-is =
    absurd (omega (
      arith,
      ap (λ (l : List ℕ). length l) (sym rest-is ∙ begins.starts.bytes_are),
      length-append (record_bytes key value) behind,
      length-record_bytes key value,
    ))
later_fits buckets bucket rest least key value behind (one ∷ more) begins are of rest-is =
    let same = begins.alone one.0 one.1 (records_bytes more) (front_of_records rest one more least are rest-is) in (
      omega (arith, are.0, same.0),
      ap (λ (n : ℕ). n % buckets) (sym same.0) ∙ of.0,
      (more, subst (λ (n : ℕ). AreRecords (n + 1) more) same.0 are.2, of.1, sym same.2),
    )

pub found_more : (buckets bucket : ℕ) (bytes rest : List ℕ) (least count last : ℕ) (marks : List ℕ) (key : ℕ) (value behind more : List ℕ)
    (begin : ℕ)
    → HasFound buckets bucket bytes rest least count last marks → BeginsRecord rest key value behind → least ≤ key → key % buckets ≡ bucket
    → begin ≡ length bytes - length rest
    → (more ≡ marks) ⊎ ((16 * (length marks + 1) ≡ count) × (more ≡ marks ++ begin ∷ []))
    → HasFound buckets bucket bytes behind (key + 1) (count + 1) key more
found_more buckets bucket bytes rest least count last marks key value behind more begin found begins fits own at marked =
    let one : List (ℕ × List ℕ) = (key, value) ∷ [] in
    let here : begin ≡ length (records_bytes found.done) =
    omega (arith, at, ap (λ (l : List ℕ). length l) found.bytes_are, length-append (records_bytes found.done) rest) in
    record {
      done = found.done ++ one;
      rise = AreRecords-append 0 found.done one found.rise
          (AreRecords-one (end_of 0 found.done) key value (omega (arith, fits, found.least_is)) begins.starts.is);
      own = AreOf-append buckets bucket found.done one found.own (AreOf-one buckets bucket key value own);
      bytes_are = found.bytes_are ∙ ap (λ (l : List ℕ). records_bytes found.done ++ l) begins.starts.bytes_are
          ∙ sym (append_assoc (records_bytes found.done) (record_bytes key value) behind)
          ∙ ap (λ (l : List ℕ). l ++ behind) (ap (λ (l : List ℕ). records_bytes found.done ++ l)
          (sym (records_bytes-one key value ∙ append-nil (record_bytes key value))) ∙ sym (records_bytes-append found.done one));
      many = omega (arith, found.many, length-append found.done one);
      least_is = sym (end_of-append 0 found.done key value);
      last_is = omega arith;
      marked = marks_more found.done (key, value) marks more count begin found.marked found.many here marked;
      only = λ records is.
          let later = found.only records is in
          (later_fits buckets bucket rest least key value behind later.0 begins later.1 later.2 later.3).2;
    }

-- at the end of the bytes all are found
pub found_all : (buckets bucket : ℕ) (bytes rest : List ℕ) (least count last : ℕ) (marks : List ℕ)
    → HasFound buckets bucket bytes rest least count last marks → rest ≡ []
    → (records : List (ℕ × List ℕ)) × IsBucket buckets bucket bytes records × Lies bytes records count last marks
found_all buckets bucket bytes rest least count last marks found none =
    let whole : bytes ≡ records_bytes found.done =
    found.bytes_are ∙ ap (λ (l : List ℕ). records_bytes found.done ++ l) none ∙ append-nil (records_bytes found.done) in (
      found.done,
      record { rise = found.rise; own = found.own; bytes_are = whole },
      record {
        rise = found.rise;
        bytes_are = whole;
        many = found.many;
        highest = λ k inside. let low = below_end 0 found.done k found.rise inside in omega (arith, low, found.least_is, found.last_is);
        marked = found.marked;
      },
    )

pub none_left : (l : List ℕ) → length l ≡ 0 → l ≡ []
none_left [] none = refl
none_left (x ∷ l) none = absurd (omega (arith, none))

-- as many records as were found take no more than the bytes
pub found_few : (buckets bucket : ℕ) (bytes rest : List ℕ) (least count last : ℕ) (marks : List ℕ)
    → HasFound buckets bucket bytes rest least count last marks → count + length rest ≤ length bytes
found_few buckets bucket bytes rest least count last marks found =
    omega (
      arith,
      found.many,
      many_within found.done,
      ap (λ (l : List ℕ). length l) found.bytes_are,
      length-append (records_bytes found.done) rest,
    )

-- where the rest begins with no record, or with one that may not stand there, the bytes are no bucket's
later_recordless : (rest : List ℕ) (least : ℕ) (later : List (ℕ × List ℕ)) → rest ≢ [] → IsRecordless rest → AreRecords least later
    → rest ≡ records_bytes later → ⊥
unfolding records_bytes
later_recordless rest least [] some none are rest-is = some rest-is
later_recordless rest least (one ∷ later) some none are rest-is =
    none one.0 one.1 (records_bytes later) (front_of_records rest one later least are rest-is)

pub refused_recordless : (buckets bucket : ℕ) (bytes rest : List ℕ) (least count last : ℕ) (marks : List ℕ)
    → HasFound buckets bucket bytes rest least count last marks
    → rest ≢ [] → IsRecordless rest → IsNoBucket buckets bucket bytes
refused_recordless buckets bucket bytes rest least count last marks found some none records is =
    let later = found.only records is in later_recordless rest least later.0 some none later.1 later.3

pub refused_unfit : (buckets bucket : ℕ) (bytes rest : List ℕ) (least count last : ℕ) (marks : List ℕ) (key : ℕ) (value behind : List ℕ)
    → HasFound buckets bucket bytes rest least count last marks → BeginsRecord rest key value behind
    → ((least ≤ key) × (key % buckets ≡ bucket) → ⊥) → IsNoBucket buckets bucket bytes
refused_unfit buckets bucket bytes rest least count last marks key value behind found begins unfit records is =
    let later = found.only records is in
    let fits = later_fits buckets bucket rest least key value behind later.0 begins later.1 later.2 later.3 in
    unfit (fits.0, fits.1)
