-- The records at their places in the bytes.
use Rattle.std.proofs.Common.{◌≡◌, ◌⊎◌, ℕ, zero, suc, ◌+◌, ◌*◌, ◌-◌, ◌<◌, ◌≤◌, List, [], ◌∷◌, ◌++◌, length, take, drop, refl, sym, ap}
use Rattle.std.proofs.Common.{subst, ◌∙◌, arith, append_assoc, length-append}
use Rattle.std.proofs.Math.Seq.{take-append_seam, drop-append_seam, take-add}
use Rattle.std.proofs.lemmas.List.{drop-drop, append-nil, take-append-drop, drop_more}
use Rattle.std.proofs.lemmas.Nat.{from_le_bytes-to_le_bytes_8}
use Rattle.std.specs.Int.{w64, from_le_bytes}
use Rattle.value_bytes.specs.Numbers.{number_bytes, IsNumber, counted_bytes}
use Rattle.value_bytes.proofs.NumberLaws.{length-number_bytes}
use Rattle.bucket_records.specs.Records.{record_bytes, records_bytes, AreRecords, IsRecord, IsBucket}
use Rattle.bucket_records.specs.Places.{number, record_at, records_from, IsIndexed, Lies, key_of, value_of}
use Rattle.bucket_records.specs.Spelling.{StartsRecord}
use Rattle.bucket_records.proofs.RecordLists.{records_bytes-append, records_bytes-one, AreRecords-append, AreRecords-one, end_of, end_above}
use Rattle.bucket_records.proofs.RecordLists.{length-record_bytes}
use Rattle.bucket_records.proofs.Marks.{marks_more}

number_again : (n : ℕ) → IsNumber n → from_le_bytes w64 (number_bytes n) ≡ n
unfolding number_bytes
number_again n small = from_le_bytes-to_le_bytes_8 n small

-- what stands behind a front of that length
pub drop_front : (front rest : List ℕ) (at : ℕ) → at ≡ length front → drop at (front ++ rest) ≡ rest
drop_front front rest at is = ap (λ (n : ℕ). drop n (front ++ rest)) is ∙ drop-append_seam front rest

take_front : (front rest : List ℕ) (at : ℕ) → at ≡ length front → take at (front ++ rest) ≡ front
take_front front rest at is = ap (λ (n : ℕ). take n (front ++ rest)) is ∙ take-append_seam front rest

number_there : (bytes : List ℕ) (at n : ℕ) (rest : List ℕ) → IsNumber n → drop at bytes ≡ number_bytes n ++ rest → number bytes at ≡ n
unfolding number
number_there bytes at n rest small there =
    ap (λ (l : List ℕ). from_le_bytes w64 (take 8 l)) there
    ∙ ap (λ (l : List ℕ). from_le_bytes w64 l) (take_front (number_bytes n) rest 8 (sym (length-number_bytes n))) ∙ number_again n small

drop_again : (bytes : List ℕ) (at more : ℕ) (front rest : List ℕ) → drop at bytes ≡ front ++ rest → more ≡ length front
    → drop (at + more) bytes ≡ rest
drop_again bytes at more front rest there is =
    sym (drop-drop more at bytes) ∙ ap (λ (l : List ℕ). drop more l) there ∙ drop_front front rest more is

pair_same : {n m : ℕ} {xs ys : List ℕ} → n ≡ m → xs ≡ ys → ◌≡◌ {A = ℕ × List ℕ} (n, xs) (m, ys)
pair_same first second = λ i. (first i, second i)

-- the length of the value stands behind the key
pub count_there : (bytes : List ℕ) (at key : ℕ) (value rest : List ℕ) → IsRecord (key, value)
    → drop at bytes ≡ record_bytes key value ++ rest
    → number bytes (at + 8) ≡ length value
unfolding record_bytes counted_bytes
count_there bytes at key value rest is there =
    let count = number_bytes (length value) in
    let front : drop at bytes ≡ number_bytes key ++ (count ++ value ++ rest) =
    there ∙ append_assoc (number_bytes key) (count ++ value) rest in
    let middle : drop (at + 8) bytes ≡ count ++ (value ++ rest) =
    drop_again bytes at 8 (number_bytes key) (count ++ value ++ rest) front (sym (length-number_bytes key))
    ∙ append_assoc count value rest in
    number_there bytes (at + 8) (length value) (value ++ rest) is.1 middle

pub record_there : (bytes : List ℕ) (at key : ℕ) (value rest : List ℕ) → IsRecord (key, value)
    → drop at bytes ≡ record_bytes key value ++ rest
    → record_at bytes at ≡ (key, value)
unfolding record_at record_bytes counted_bytes
record_there bytes at key value rest is there =
    let count = number_bytes (length value) in
    let front : drop at bytes ≡ number_bytes key ++ (count ++ value ++ rest) =
    there ∙ append_assoc (number_bytes key) (count ++ value) rest in
    let first = number_there bytes at key (count ++ value ++ rest) is.0 front in
    let middle : drop (at + 8) bytes ≡ count ++ (value ++ rest) =
    drop_again bytes at 8 (number_bytes key) (count ++ value ++ rest) front (sym (length-number_bytes key))
    ∙ append_assoc count value rest in
    let second = number_there bytes (at + 8) (length value) (value ++ rest) is.1 middle in
    let eight : at + 8 + 8 ≡ at + 16 = omega arith in
    let last : drop (at + 16) bytes ≡ value ++ rest =
    ap (λ (n : ℕ). drop n bytes) (sym eight)
    ∙ drop_again bytes (at + 8) 8 count (value ++ rest) middle (sym (length-number_bytes (length value))) in
    let own : take (number bytes (at + 8)) (drop (at + 16) bytes) ≡ value =
    ap (λ (l : List ℕ). take (number bytes (at + 8)) l) last ∙ take_front value rest (number bytes (at + 8)) second in
    pair_same first own

-- as many records as stand there are found there
pub records_there : (bytes : List ℕ) (at least : ℕ) (records : List (ℕ × List ℕ)) (rest : List ℕ) → AreRecords least records
    → drop at bytes ≡ records_bytes records ++ rest → records_from bytes at (length records) ≡ records
unfolding AreRecords records_bytes records_from
records_there bytes at least [] rest are there = refl
records_there bytes at least (one ∷ records) rest are there =
    let own = record_bytes one.0 one.1 in
    let front : drop at bytes ≡ own ++ (records_bytes records ++ rest) = there ∙ append_assoc own (records_bytes records) rest in
    let next : at + (16 + number bytes (at + 8)) ≡ at + length own =
    omega (arith, count_there bytes at one.0 one.1 (records_bytes records ++ rest) are.1 front, length-record_bytes one.0 one.1) in
    let later = ap (λ (n : ℕ). records_from bytes n (length records)) next
    ∙ records_there bytes (at + length own) (one.0 + 1) records rest are.2
    (drop_again bytes at (length own) own (records_bytes records ++ rest) front refl) in
    λ i. record_there bytes at one.0 one.1 (records_bytes records ++ rest) are.1 front i ∷ later i

pub records_bytes-cut : (records : List (ℕ × List ℕ)) (place : ℕ)
    → records_bytes records ≡ records_bytes (take place records) ++ records_bytes (drop place records)
records_bytes-cut records place =
    ap records_bytes (sym (take-append-drop place records)) ∙ records_bytes-append (take place records) (drop place records)

-- what is seen lies so
pub lies : (bytes : List ℕ) (count last : ℕ) (marks : List ℕ) (records : List (ℕ × List ℕ)) → IsIndexed bytes count last marks
    → records_from bytes 0 count ≡ records → Lies bytes records count last marks
lies bytes count last marks records indexed is = subst (λ (l : List (ℕ × List ℕ)). Lies bytes l count last marks) is indexed

-- and what lies so is seen
pub lies_seen : (bytes : List ℕ) (count last : ℕ) (marks : List ℕ) (records : List (ℕ × List ℕ)) → Lies bytes records count last marks
    → records_from bytes 0 count ≡ records
lies_seen bytes count last marks records lie =
    ap (λ (n : ℕ). records_from bytes 0 n) lie.many
    ∙ records_there bytes 0 0 records [] lie.rise (lie.bytes_are ∙ sym (append-nil (records_bytes records)))

pub lies_indexed : (bytes : List ℕ) (count last : ℕ) (marks : List ℕ) (records : List (ℕ × List ℕ)) → Lies bytes records count last marks
    → IsIndexed bytes count last marks
lies_indexed bytes count last marks records lie =
    subst (λ (l : List (ℕ × List ℕ)). Lies bytes l count last marks) (sym (lies_seen bytes count last marks records lie)) lie

-- the records before a number end within the bytes, and the others stand behind
pub lies_within : (bytes : List ℕ) (records : List (ℕ × List ℕ)) (place : ℕ) → bytes ≡ records_bytes records
    → length (records_bytes (take place records)) ≤ length bytes
lies_within bytes records place are =
    let whole = ap (λ (l : List ℕ). length l) (are ∙ records_bytes-cut records place) in
    omega (arith, whole, length-append (records_bytes (take place records)) (records_bytes (drop place records)))

pub lies_behind : (bytes : List ℕ) (records : List (ℕ × List ℕ)) (place at : ℕ) → bytes ≡ records_bytes records
    → at ≡ length (records_bytes (take place records)) → drop at bytes ≡ records_bytes (drop place records)
lies_behind bytes records place at are is =
    ap (λ (l : List ℕ). drop at l) (are ∙ records_bytes-cut records place)
    ∙ drop_front (records_bytes (take place records)) (records_bytes (drop place records)) at is

pub lies_front : (bytes : List ℕ) (records : List (ℕ × List ℕ)) (place at : ℕ) → bytes ≡ records_bytes records
    → at ≡ length (records_bytes (take place records)) → take at bytes ≡ records_bytes (take place records)
lies_front bytes records place at are is =
    ap (λ (l : List ℕ). take at l) (are ∙ records_bytes-cut records place)
    ∙ take_front (records_bytes (take place records)) (records_bytes (drop place records)) at is

-- the bytes from one number to another
pub lies_between : (bytes : List ℕ) (records : List (ℕ × List ℕ)) (from to begin end : ℕ) → bytes ≡ records_bytes records → from ≤ to
    → begin ≡ length (records_bytes (take from records)) → end ≡ length (records_bytes (take to records))
    → drop begin (take end bytes) ≡ records_bytes (take (to - from) (drop from records))
lies_between bytes records from to begin end are order begin-is end-is =
    let many : to ≡ from + (to - from) = omega arith in
    let front : take to records ≡ take from records ++ take (to - from) (drop from records) =
    ap (λ (n : ℕ). take n records) many ∙ take-add from (to - from) records in
    ap (λ (l : List ℕ). drop begin l) (lies_front bytes records to end are end-is ∙ ap records_bytes front
    ∙ records_bytes-append (take from records) (take (to - from) (drop from records)))
    ∙ drop_front (records_bytes (take from records)) (records_bytes (take (to - from) (drop from records))) begin begin-is

pub ordered_within : (records : List (ℕ × List ℕ)) (from to : ℕ) → from ≤ to
    → length (records_bytes (take from records)) ≤ length (records_bytes (take to records))
ordered_within records from to order =
    let many : to ≡ from + (to - from) = omega arith in
    let front : take to records ≡ take from records ++ take (to - from) (drop from records) =
    ap (λ (n : ℕ). take n records) many ∙ take-add from (to - from) records in
    let whole = ap (λ (l : List (ℕ × List ℕ)). length (records_bytes l)) front
    ∙ ap (λ (l : List ℕ). length l) (records_bytes-append (take from records) (take (to - from) (drop from records))) in
    omega (arith, whole, length-append (records_bytes (take from records)) (records_bytes (take (to - from) (drop from records))))

-- a record of the list has bytes
pub record_in : (least : ℕ) (records : List (ℕ × List ℕ)) (place : ℕ) → AreRecords least records → place < length records
    → IsRecord (key_of records place, value_of records place)
unfolding AreRecords
record_in least [] place are inside = absurd (omega arith)
record_in least (one ∷ records) zero are inside = are.1
record_in least (one ∷ records) (suc place) are inside = record_in (one.0 + 1) records place are.2 (omega arith)

-- and stands at the front of the bytes from it on
pub front_there : (records : List (ℕ × List ℕ)) (place : ℕ) (rest : List ℕ) → AreRecords 0 records → place < length records
    → rest ≡ records_bytes (drop place records)
    → StartsRecord rest (key_of records place) (value_of records place) (records_bytes (drop (place + 1) records))
unfolding records_bytes
front_there records place rest rise inside is = record {
  is = record_in 0 records place rise inside;
  bytes_are = is ∙ ap records_bytes (drop_more records place (0, []) inside);
}

-- the bytes from a record on, by their length
pub begin_there : (records : List (ℕ × List ℕ)) (place : ℕ) (bytes rest : List ℕ) → bytes ≡ records_bytes records
    → rest ≡ records_bytes (drop place records) → length bytes ≡ length (records_bytes (take place records)) + length rest
begin_there records place bytes rest are is =
    ap (λ (l : List ℕ). length l) (are ∙ records_bytes-cut records place)
    ∙ length-append (records_bytes (take place records)) (records_bytes (drop place records))
    ∙ ap (λ (l : List ℕ). length (records_bytes (take place records)) + length l) (sym is)

-- no key of the records and of one more is above its own
highest_push : (records : List (ℕ × List ℕ)) (key : ℕ) (value : List ℕ) → ((k : ℕ) → k < length records → key_of records k < key)
    → (k : ℕ) → k < length (records ++ (key, value) ∷ []) → key_of (records ++ (key, value) ∷ []) k ≤ key
highest_push [] key value above zero inside = omega arith
highest_push [] key value above (suc k) inside = absurd (omega (arith, inside))
highest_push (one ∷ records) key value above zero inside = let first : one.0 < key = above zero (omega arith) in omega (arith, first)
highest_push (one ∷ records) key value above (suc k) inside =
    highest_push records key value (λ j within. above (suc j) (omega (arith, within))) k (omega (arith, inside))

-- a record more at the end
pub lies_push : (bytes more : List ℕ) (count last : ℕ) (marks places : List ℕ) (records : List (ℕ × List ℕ)) (key : ℕ) (value : List ℕ)
    (begin : ℕ)
    → Lies bytes records count last marks → ((k : ℕ) → k < length records → key_of records k < key) → IsRecord (key, value)
    → more ≡ bytes ++ record_bytes key value → begin ≡ length bytes
    → (places ≡ marks) ⊎ ((16 * (length marks + 1) ≡ count) × (places ≡ marks ++ begin ∷ []))
    → Lies more (records ++ (key, value) ∷ []) (count + 1) key places
lies_push bytes more count last marks places records key value begin lie above is more-is begin-is marked =
    let one : List (ℕ × List ℕ) = (key, value) ∷ [] in
    record {
      rise = AreRecords-append 0 records one lie.rise
          (AreRecords-one (end_of 0 records) key value (end_above 0 key records lie.rise (omega arith) above) is);
      bytes_are = more-is ∙ ap (λ (l : List ℕ). l ++ record_bytes key value) lie.bytes_are
          ∙ ap (λ (l : List ℕ). records_bytes records ++ l) (sym (records_bytes-one key value ∙ append-nil (record_bytes key value)))
          ∙ sym (records_bytes-append records one);
      many = omega (arith, lie.many, length-append records one);
      highest = highest_push records key value above;
      marked = marks_more records (key, value) marks places count begin lie.marked lie.many
          (begin-is ∙ ap (λ (l : List ℕ). length l) lie.bytes_are) marked;
    }

-- records that the bytes are lie in what is seen of these
pub lies_bucket : (buckets bucket : ℕ) (bytes seen : List ℕ) (count last : ℕ) (marks : List ℕ) → seen ≡ bytes
    → (records : List (ℕ × List ℕ)) × IsBucket buckets bucket seen records × Lies seen records count last marks
    → (records : List (ℕ × List ℕ)) × IsBucket buckets bucket bytes records × Lies bytes records count last marks
lies_bucket buckets bucket bytes seen count last marks same found =
    subst (λ (l : List ℕ). (records : List (ℕ × List ℕ)) × IsBucket buckets bucket l records × Lies l records count last marks) same found

pub bucket_seen : (buckets bucket : ℕ) (bytes : List ℕ) (count last : ℕ) (marks : List ℕ)
    → (records : List (ℕ × List ℕ)) × IsBucket buckets bucket bytes records × Lies bytes records count last marks
    → IsBucket buckets bucket bytes (records_from bytes 0 count)
bucket_seen buckets bucket bytes count last marks found =
    subst (λ (l : List (ℕ × List ℕ)). IsBucket buckets bucket bytes l) (sym (lies_seen bytes count last marks found.0 found.2)) found.1

-- the bytes of the first records are the front of those of all
pub front_bytes : (records : List (ℕ × List ℕ)) (place at : ℕ) → at ≡ length (records_bytes (take place records))
    → take at (records_bytes records) ≡ records_bytes (take place records)
front_bytes records place at is =
    ap (λ (l : List ℕ). take at l) (records_bytes-cut records place)
    ∙ take_front (records_bytes (take place records)) (records_bytes (drop place records)) at is
