-- Records are of the one bucket of all keys.
use Rattle.std.proofs.Common.{sym, subst, ◌∙◌}
use Rattle.value_bytes.specs.Forms.{NeedsFor}
use Rattle.bucket_records.specs.Records.{IsNoBucket}
use Rattle.bucket_records.proofs.OneSpelling.{records_one}
use Rattle.bucket_records.proofs.RecordLists.{one_bucket}
use Rattle.bucket_records.proofs.listing.known_records.Goals as goal

pub unreachable-requires : goal.unreachable-requires
unreachable-requires c =
    subst (λ fault. NeedsFor (IsNoBucket 1 0 c.args.bytes.items) fault) c.in-Err-NotSpelled.field-0-is c.in-Err-NotSpelled.ensures.refused
    c.requires.0
    (record { rise = c.requires.1; own = one_bucket 0 c.requires.0 c.requires.1; bytes_are = c.requires.2 })

pub returns-in-Ok : goal.returns-in-Ok
returns-in-Ok c records rise same =
    let found = c.in-Ok.ensures.records in
    records_one 0 0 c.in-Ok.records records found.rise rise (sym found.bytes_are ∙ same)
