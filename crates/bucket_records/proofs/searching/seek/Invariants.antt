-- The records before the place are below the key.
use Rattle.std.proofs.Common.{◌≡◌, ℕ, ◌-◌, ◌<◌, ◌≤◌, length, drop}
use Rattle.bucket_records.specs.Places.{key_of}
use Rattle.bucket_records.specs.Records.{records_bytes}
use Rattle.bucket_records.proofs.searching.seek.Given as goal

abbrev pub invariant-loop-place : goal.invariant-loop-place
invariant-loop-place l =
    (l.place ≤ length l.records) × (l.rest ≡ records_bytes (drop l.place l.records)) × ((k : ℕ) → k < l.place → key_of l.records k < l.key)

abbrev pub decreases-loop-place : goal.decreases-loop-place
decreases-loop-place l = length l.records - l.place
