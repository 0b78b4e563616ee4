-- The rest begins with the record of this number.
use Rattle.std.proofs.Common.{◌≡◌, ◌-◌, ◌≤◌, drop}
use Rattle.bucket_records.specs.Records.{records_bytes}
use Rattle.bucket_records.proofs.searching.rest_from.Given as goal

abbrev pub invariant-loop-at : goal.invariant-loop-at
invariant-loop-at l = (l.at ≤ l.place) × (l.rest ≡ records_bytes (drop l.at l.records))

abbrev pub decreases-loop-at : goal.decreases-loop-at
decreases-loop-at l = l.place - l.at
