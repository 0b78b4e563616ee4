-- What is written, and then what is left, is all of it; what the changes so far make are records.
use Rattle.std.proofs.Common.{◌≡◌, ◌≤◌, ◌++◌, length, drop}
use Rattle.bucket_records.specs.Records.{records_bytes}
use Rattle.bucket_records.specs.Changes.{merged}
use Rattle.bucket_records.proofs.Merges.{AreMade}
use Rattle.bucket_records.proofs.merging.merged_bytes.Given as goal

abbrev pub invariant-loop-key : goal.invariant-loop-key
invariant-loop-key l = record {
  can : (goal.iterator-loop-key).can_next l.key-iterator;
  finite : (goal.iterator-loop-key).is_finite l.key-iterator;
  within : l.at ≤ length l.records;
  written : l.out.items ++ records_bytes (merged (drop l.at l.records) (drop (length l.yielded) l.changes.entries))
      ≡ records_bytes (merged l.records l.changes.entries);
  made : AreMade l.changes.entries (length l.yielded);
}
