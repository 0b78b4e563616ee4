-- The records of the bucket of a key are copied, where the store has one.
use Rattle.std.proofs.Common.{◌%◌, ℕ, List, Err, Ok, refl, sym, subst, ◌∙◌}
use Rattle.page_journal.specs.declared.fault.StoreFault.TheVariants.{OutOfMemory}
use Rattle.bucket_store.specs.Image.{IsBucketOf}
use Rattle.bucket_store.specs.Transaction.{bucket_at}
use Rattle.bucket_store.proofs.Bare.{bare_records}
use Rattle.bucket_store.proofs.Frames.{content_at, keeps_after, keeps_same, touches_none}
use Rattle.bucket_store.proofs.Numbered.{no_entries}
use Rattle.value_bytes.specs.StoreMap.{map_number}
use Rattle.value_bytes.proofs.MapNumbers.{map_number-below}
use Rattle.bucket_store.proofs.buckets.Buckets.records.Goals as goal

pub returns-then-is_bare-clause-records : goal.returns-then-is_bare-clause-records
returns-then-is_bare-clause-records g c =
    let self = c.args.self.now in
    let bare = c.is_bare.ensures.none c.if-is_bare.true in
    record {
      value = λ pages was values has. c.new.ensures.items ∙ sym (no_entries values (bare pages values has));
      found = λ rest now has. subst (λ (records : List (ℕ × List ℕ)).
          IsBucketOf now (map_number c.args.map) (c.args.key % now.root.buckets) records) (sym c.new.ensures.items)
          (bare_records rest now self (map_number c.args.map) c.args.key (map_number-below c.args.map) c.requires.ready.some bare has);
      answers = λ pages was. tt;
      sound = λ rest now has. tt;
      keeps = keeps_same self (Ok c.new.result);
    }

pub returns-then-is_bare-clause-touches : goal.returns-then-is_bare-clause-touches
returns-then-is_bare-clause-touches g c =
    let self = c.args.self.now in
    touches_none (bucket_at self (map_number c.args.map) c.args.key) self c.new.result c.requires.ready.going

pub returns-in-Ok-clause-records : goal.returns-in-Ok-clause-records
returns-in-Ok-clause-records g c =
    let old = c.args.self.now in
    let mid = c.bring.new.self in
    let brings = c.in_default.ensures.brings in
    record {
      value = λ pages was values has.
          c.in-Ok.ensures.records pages values
          (content_at (map_number c.args.map) c.args.key old mid c.in_default.ensures.touches.stays brings.keeps.content pages was values
          has);
      found = λ rest now has. c.in-Ok.ensures.found rest now (brings.keeps.has refl rest now has);
      answers = λ pages was. tt;
      sound = λ rest now has. tt;
      keeps = record { content = brings.keeps.content; has = λ quiet. brings.keeps.has refl };
    }

pub returns-in-Err-listed-clause-records : goal.returns-in-Err-listed-clause-records
returns-in-Err-listed-clause-records g c = record {
  value = tt;
  found = tt;
  answers = λ pages was. tt;
  sound = λ rest now has. tt;
  keeps = keeps_after c.args.self.now c.bring.new.self _ _ (Err OutOfMemory) c.in_default.ensures.brings.keeps refl refl;
}
