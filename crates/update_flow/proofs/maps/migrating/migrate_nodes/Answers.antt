-- A bucket more is written anew, and all buckets are the map.
use Rattle.std.proofs.Common.{◌≡◌, ◌∙◌, Ok, Err, ap, arith}
use Rattle.chain_store.specs.declared.root.Root.{Root}
use Rattle.bucket_store.specs.Buckets.{bucket_count}
use Rattle.bucket_store.specs.Transaction.{chains_of}
use Rattle.update_flow.proofs.Migrations.{old_sound, once_none, once_of, once_then, ready_once, renewed_maps, renews_all, renews_first}
use Rattle.update_flow.proofs.Migrations.{renews_next, renews_once}
use Rattle.update_flow.proofs.Migrations.{unread_next}
use Rattle.update_flow.proofs.maps.migrating.migrate_nodes.Goals as goal

pub loop-bucket-init : goal.loop-bucket-init
loop-bucket-init g c = record {
  ready = c.requires.ready;
  once = once_none c.args.buckets.now c.requires.ready.going;
  renews = λ rest now owns. (now, owns, renews_first now);
}

pub loop-bucket-preserved : goal.loop-bucket-preserved
loop-bucket-preserved g c =
    let inv = c.loop-bucket.invariant in
    let did = c.in_default.ensures in
    let old = c.args.buckets.now in
    let mid = c.loop-bucket.buckets in
    let new = c.renew_bucket.new.buckets in
    record {
      ready = ready_once mid new inv.ready (once_of did.once);
      once = once_then old mid new (Ok tt) inv.once (once_of did.once);
      renews = λ rest now owns.
          let count : c.root-count.result.buckets ≡ now.root.buckets = ap (λ (r : Root). r.buckets) (c.root-count.ensures ∙ owns.root) in
          let was = inv.renews rest now owns in
          let done = did.renews rest was.0 was.1 in
          (done.0, done.1, renews_next now was.0 done.0 c.loop-bucket.bucket (omega (arith, c.loop-bucket-test.true, count)) was.2 done.2);
    }

pub returns-in-Err-clause-sound : goal.returns-in-Err-clause-sound
returns-in-Err-clause-sound g c definitions under maps had =
    let count : c.root-count.result.buckets ≡ had.now.root.buckets = ap (λ (r : Root). r.buckets) (c.root-count.ensures ∙ had.has.root) in
    let was = c.loop-bucket.invariant.renews under.rest had.now had.has in
    old_sound definitions under maps c.args.buckets.now had c.in-Err.fault
    (unread_next c.args.buckets.now c.loop-bucket.buckets had.now was.0 c.loop-bucket.bucket c.in-Err.fault
    (omega (arith, c.loop-bucket-test.true, count)) c.loop-bucket.invariant.once.looks.stays was.2
    (c.in-Err.ensures.once.stops under.rest was.0 was.1 tt))

pub returns-in-Err-clause-once : goal.returns-in-Err-clause-once
returns-in-Err-clause-once g c =
    renews_once
    (once_then {T = Unit {0}} c.args.buckets.now c.loop-bucket.buckets c.renew_bucket.new.buckets
    (Err c.in-Err.fault) c.loop-bucket.invariant.once
    (once_of c.in-Err.ensures.once))
    (λ rest now owns given.
    let count : c.root-count.result.buckets ≡ now.root.buckets = ap (λ (r : Root). r.buckets) (c.root-count.ensures ∙ owns.root) in
    let was = c.loop-bucket.invariant.renews rest now owns in
    unread_next c.args.buckets.now c.loop-bucket.buckets now was.0 c.loop-bucket.bucket c.in-Err.fault
    (omega (arith, c.loop-bucket-test.true, count)) c.loop-bucket.invariant.once.looks.stays was.2
    (c.in-Err.ensures.once.stops rest was.0 was.1 tt))

pub returns-clause-renews : goal.returns-clause-renews
returns-clause-renews g c rest now owns =
    let count : c.root-count.result.buckets ≡ now.root.buckets = ap (λ (r : Root). r.buckets) (c.root-count.ensures ∙ owns.root) in
    let own : bucket_count (chains_of c.args.buckets.now) ≡ now.root.buckets = ap (λ (r : Root). r.buckets) owns.root in
    let was = c.loop-bucket.invariant.renews rest now owns in (
      was.0,
      was.1,
      renews_all now was.0 c.loop-bucket.bucket (omega (arith, c.requires.ready.some, own))
          (omega (arith, c.loop-bucket-test.false, count)) was.2,
    )

pub returns-clause-becomes : goal.returns-clause-becomes
returns-clause-becomes g c definitions under maps had =
    let now = had.now in
    let owns = had.has in
    let count : c.root-count.result.buckets ≡ now.root.buckets = ap (λ (r : Root). r.buckets) (c.root-count.ensures ∙ owns.root) in
    let own : bucket_count (chains_of c.args.buckets.now) ≡ now.root.buckets = ap (λ (r : Root). r.buckets) owns.root in
    let was = c.loop-bucket.invariant.renews under.rest now owns in
    let all = renews_all now was.0 c.loop-bucket.bucket (omega (arith, c.requires.ready.some, own))
    (omega (arith, c.loop-bucket-test.false, count)) was.2 in
    record {
      now = was.0;
      has = was.1;
      root = all.only.root ∙ had.root;
      texts = λ n below. all.only.texts n ∙ had.texts n below;
      kept = renewed_maps definitions now was.0 maps all had.kept;
    }

pub returns-clause-once : goal.returns-clause-once
returns-clause-once g c =
    renews_once
    (c.loop-bucket.invariant.once)
    (λ rest now owns given. tt)
