-- The bytes are cut where the record of this number begins.
use Rattle.std.proofs.Common.{ℕ, List, take, ap, ◌∙◌}
use Rattle.bucket_records.proofs.RecordPlaces.{front_bytes}
use Rattle.bucket_records.proofs.records.Records.into_front.Goals as goal

pub returns : goal.returns
returns c =
    c.truncate.ensures.items ∙ ap (λ (l : List ℕ). take c.begin_of-end.result l) c.into_bytes-bytes.ensures.bytes
    ∙ front_bytes c.args.self c.args.count c.begin_of-end.result c.begin_of-end.ensures
