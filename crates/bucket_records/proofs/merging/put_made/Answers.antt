-- A new value makes one record, and none makes none.
use Rattle.std.proofs.Common.{◌≡◌, ◌++◌, ℕ, List, Option, Vec, sym, ap, subst, ◌∙◌, arith}
use Rattle.std.proofs.lemmas.List.{append-nil}
use Rattle.std.specs.declared.alloc.Global.{Global}
use Rattle.bucket_records.specs.Records.{record_bytes, records_bytes, AreRecords, IsRecord}
use Rattle.bucket_records.specs.Changes.{made}
use Rattle.bucket_records.proofs.RecordLists.{records_bytes-nil, records_bytes-one, AreRecords-none, AreRecords-one}
use Rattle.bucket_records.proofs.merging.put_made.Goals as goal

pub returns-in-Ok-clause-bytes : goal.returns-in-Ok-clause-bytes
returns-in-Ok-clause-bytes c =
    let own = c.in-Some.value in
    let one : record_bytes c.args.key c.as_slice.result.now ≡ records_bytes (made c.args.key c.args.change.now) =
    ap (λ (l : List ℕ). record_bytes c.args.key l) c.as_slice.ensures.value
    ∙ sym (append-nil (record_bytes c.args.key own.items)) ∙ sym (records_bytes-one c.args.key own.items)
    ∙ ap (λ (o : Option (Vec ℕ Global)). records_bytes (made c.args.key o)) (sym c.in-Some.is) in
    c.in-Ok.ensures.ok ∙ ap (λ (l : List ℕ). c.args.out.now.items ++ l) one

pub returns-in-Ok-clause-are : goal.returns-in-Ok-clause-are
returns-in-Ok-clause-are c =
    let own = c.in-Some.value in
    let is : IsRecord (c.args.key, own.items) =
    subst (λ (l : List ℕ). IsRecord (c.args.key, l)) c.as_slice.ensures.value c.in-Ok.ensures.is in
    subst (λ (o : Option (Vec ℕ Global)). AreRecords c.args.key (made c.args.key o)) (sym c.in-Some.is)
    (AreRecords-one c.args.key c.args.key own.items (omega arith) is)

pub returns-in-None-clause-bytes : goal.returns-in-None-clause-bytes
returns-in-None-clause-bytes c =
    sym (append-nil c.args.out.now.items) ∙ ap (λ (l : List ℕ). c.args.out.now.items ++ l)
    (sym records_bytes-nil ∙ ap (λ (o : Option (Vec ℕ Global)). records_bytes (made c.args.key o)) (sym c.in-None.is))

pub returns-in-None-clause-are : goal.returns-in-None-clause-are
returns-in-None-clause-are c =
    subst (λ (o : Option (Vec ℕ Global)). AreRecords c.args.key (made c.args.key o)) (sym c.in-None.is) (AreRecords-none c.args.key)
