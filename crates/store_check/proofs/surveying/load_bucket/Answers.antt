-- A bucket whose pages were told has marks on them.
use Rattle.std.proofs.Common.{ap}
use Rattle.page_journal.specs.Journal.{is_broken}
use Rattle.bucket_store.specs.Buckets.{bucket_count}
use Rattle.bucket_store.specs.Image.{bucket_chain}
use Rattle.bucket_store.specs.Transaction.{chains_of}
use Rattle.value_bytes.specs.StoreMap.{map_number}
use Rattle.store_check.proofs.Steps.{bucket_owner, loads_none, loads_one}
use Rattle.store_check.proofs.surveying.load_bucket.Goals as goal

pub returns-in-Ok : goal.returns-in-Ok
returns-in-Ok g c = record {
  loads = loads_one (bucket_chain (map_number c.args.map) c.args.bucket) c.in-Ok.pages c.args.buckets.now c.bucket_pages.new.buckets
      c.begin.new.self c.args.marks.now c.mark.new.self
      (bucket_owner c.args.map c.args.bucket (bucket_count (chains_of c.args.buckets.now)) c.requires.bucket (chains_of c.args.buckets.now).few)
      c.requires.fresh.begun c.in-Ok.ensures.lists
      (record {
        begun = c.begin.ensures.begun;
        opens = c.begin.ensures.open;
        kept = c.begin.ensures.kept;
        going = c.begin.ensures.going;
        same = c.begin.ensures.same;
        whole = ap (λ j. is_broken j) c.begin.ensures.journal;
      })
      c.mark.ensures.many c.mark.ensures.marked;
}

pub returns-in-Err : goal.returns-in-Err
returns-in-Err g c = record {
  loads = loads_none (bucket_chain (map_number c.args.map) c.args.bucket) c.args.buckets.now c.bucket_pages.new.buckets c.args.marks.now
      c.args.marks.now c.in-Err.fault c.in-Err.ensures.lists;
}
