-- So many records were copied.
use Rattle.std.proofs.Common.{◌≡◌, ◌-◌, ◌≤◌, length, take, drop}
use Rattle.bucket_records.specs.Records.{records_bytes}
use Rattle.bucket_records.proofs.listing.copied_records.Given as goal

abbrev pub invariant-loop-place : goal.invariant-loop-place
invariant-loop-place l =
    (l.place ≤ length l.records) × (l.copies.items ≡ take l.place l.records) × (l.rest ≡ records_bytes (drop l.place l.records))

abbrev pub decreases-loop-place : goal.decreases-loop-place
decreases-loop-place l = length l.records - l.place
