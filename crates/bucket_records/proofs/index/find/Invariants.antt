-- What was found so far; each record takes some of the rest.
use Rattle.std.proofs.Common.{◌+◌, ◌≤◌, length}
use Rattle.bucket_records.proofs.Finding.{HasFound}
use Rattle.bucket_records.proofs.index.find.Given as goal

abbrev pub invariant-loop-rest : goal.invariant-loop-rest
invariant-loop-rest l =
    HasFound l.buckets l.bucket l.bytes l.rest l.least l.count l.last l.marks.items × (l.count + length l.rest ≤ length l.bytes)

abbrev pub decreases-loop-rest : goal.decreases-loop-rest
decreases-loop-rest l = length l.rest
