-- What the bucket of a key has is copied, where the store has one.
use Rattle.std.proofs.Common.{Err, None, Ok, refl, sym}
use Rattle.page_journal.specs.declared.fault.StoreFault.TheVariants.{OutOfMemory}
use Rattle.bucket_store.specs.Transaction.{bucket_at}
use Rattle.bucket_store.proofs.Bare.{none_got}
use Rattle.bucket_store.proofs.Frames.{content_at, keeps_after, keeps_same, touches_none}
use Rattle.value_bytes.specs.StoreMap.{map_number}
use Rattle.bucket_store.proofs.buckets.Buckets.get.Goals as goal

pub returns-then-is_bare-clause-bytes : goal.returns-then-is_bare-clause-bytes
returns-then-is_bare-clause-bytes g c =
    let self = c.args.self.now in
    let bare = c.is_bare.ensures.none c.if-is_bare.true in
    record {
      value = λ pages was values has. none_got values c.args.key (bare pages values has);
      found = λ rest now has. sym (c.is_bare.ensures.found c.if-is_bare.true rest now has);
      answers = λ pages was. tt;
      sound = λ rest now has. tt;
      keeps = keeps_same self (Ok None);
    }

pub returns-then-is_bare-clause-touches : goal.returns-then-is_bare-clause-touches
returns-then-is_bare-clause-touches g c =
    let self = c.args.self.now in
    touches_none (bucket_at self (map_number c.args.map) c.args.key) self None c.requires.ready.going

pub returns-in-Ok-clause-bytes : goal.returns-in-Ok-clause-bytes
returns-in-Ok-clause-bytes g c =
    let old = c.args.self.now in
    let mid = c.bring.new.self in
    let brings = c.in_default.ensures.brings in
    record {
      value = λ pages was values has.
          c.in-Ok.ensures.value pages values
          (content_at (map_number c.args.map) c.args.key old mid c.in_default.ensures.touches.stays brings.keeps.content pages was values
          has);
      found = λ rest now has. c.in-Ok.ensures.found rest now (brings.keeps.has refl rest now has);
      answers = λ pages was. tt;
      sound = λ rest now has. tt;
      keeps = record { content = brings.keeps.content; has = λ quiet. brings.keeps.has refl };
    }

pub returns-in-Err-copied-clause-bytes : goal.returns-in-Err-copied-clause-bytes
returns-in-Err-copied-clause-bytes g c = record {
  value = tt;
  found = tt;
  answers = λ pages was. tt;
  sound = λ rest now has. tt;
  keeps = keeps_after c.args.self.now c.bring.new.self _ _ (Err OutOfMemory) c.in_default.ensures.brings.keeps refl refl;
}
