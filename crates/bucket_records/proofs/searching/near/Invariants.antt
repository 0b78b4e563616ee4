-- The records before the place are below the key.
use Rattle.std.proofs.Common.{◌≡◌, ℕ, ◌-◌, ◌<◌, ◌≤◌, length, drop}
use Rattle.bucket_records.specs.Places.{key_of}
use Rattle.bucket_records.specs.Records.{records_bytes}
use Rattle.bucket_records.proofs.searching.near.Given as goal

abbrev pub invariant-loop-low : goal.invariant-loop-low
invariant-loop-low l =
    (l.low ≤ l.high) × (l.place ≤ length l.records) × (l.rest ≡ records_bytes (drop l.place l.records))
    × ((k : ℕ) → k < l.place → key_of l.records k < l.key) × (1 ≤ l.high → 1 ≤ length l.records)

abbrev pub decreases-loop-low : goal.decreases-loop-low
decreases-loop-low l = l.high - l.low
