-- A bucket that was read is there as it is in the store, and the others are as they were.
use Rattle.std.proofs.Common.{◌≡◌, Err, Ok, ap, false, refl, sym}
use Rattle.std.specs.FinMap as map
use Rattle.page_journal.specs.Journal.{is_broken}
use Rattle.page_journal.specs.declared.fault.StoreFault.TheVariants.{OutOfMemory}
use Rattle.chain_store.specs.Chains.{disk_of, journal_of}
use Rattle.chain_store.specs.Known.{Lists}
use Rattle.chain_store.specs.declared.root.Root.{Root}
use Rattle.bucket_records.specs.Held.{HeldBucket}
use Rattle.bucket_store.specs.Buckets.{bucket_count}
use Rattle.bucket_store.specs.declared.cache.Cached.{Cached}
use Rattle.bucket_store.proofs.Bringing.{brought}
use Rattle.bucket_store.proofs.BucketLaws.{bucket_string}
use Rattle.bucket_store.proofs.Frames.{alone_of, brings_read, cause_of, keeps_low, keeps_same, leaves_low, quiet_cause, touches_none}
use Rattle.bucket_store.proofs.Listings.{sound_chain}
use Rattle.bucket_store.proofs.Once.{read_more, unread_chain}
use Rattle.bucket_store.proofs.Openings.{bucket_some, buckets_more, buckets_same, content_is, content_more, none_content, none_of}
use Rattle.bucket_store.proofs.Openings.{open_later, open_more}
use Rattle.bucket_store.proofs.Openings.{put_there, some_of, stored_later, there_own}
use Rattle.bucket_store.proofs.Origins.{origin_same}
use Rattle.bucket_store.proofs.Wholes.{bad_more, content_before, same_contents}
use Rattle.bucket_store.proofs.buckets.Buckets.bring_chain.Goals as goal

pub invariant_of-self-in-Ok-add : goal.invariant_of-self-in-Ok-add
invariant_of-self-in-Ok-add g c =
    let own : Cached = record { bucket = c.in-Ok.bucket; changed = false } in
    let many : bucket_count c.args.self.now.chains ≡ bucket_count c.read_bucket.new.chains =
    ap (λ (r : Root). r.buckets) (sym c.in-Ok.ensures.leaves.stays.root) in
    record {
      going = λ _. c.in-Ok.ensures.leaves.going;
      own = buckets_same _ _ c.add.new.self many
          (buckets_more (bucket_count c.args.self.now.chains) c.args.self.now.cache c.add.new.self c.args.n own
          c.in-Ok-add.ensures.added c.args.self.now.own c.requires.ready.bucket c.in-Ok.ensures.own);
      once = λ _.
          let none = none_of c.has.result (map.get c.args.self.now.cache c.args.n) c.has.ensures.1 c.if-has.false in
          let are = c.args.self.now.once c.requires.ready.going in
          read_more c.args.self.now.cache c.add.new.self c.args.n own c.in-Ok-add.ensures.added _ _ _
          (disk_of c.args.self.now.chains) (disk_of c.read_bucket.new.chains)
          (c.in-Ok.ensures.leaves.reads (unread_chain _ c.args.self.now.cache c.args.n are c.requires.ready.bucket.0 none))
          c.in-Ok.ensures.leaves.known are;
    }

pub read_bucket-requires-clause-string : goal.read_bucket-requires-clause-string
read_bucket-requires-clause-string g c = bucket_string (bucket_count c.args.self.now.chains) c.args.n c.requires.ready.bucket

pub read_bucket-requires-clause-some : goal.read_bucket-requires-clause-some
read_bucket-requires-clause-some g c = bucket_some (bucket_count c.args.self.now.chains) c.args.n c.requires.ready.bucket

pub returns-then-has : goal.returns-then-has
returns-then-has g c =
    let self = c.args.self.now in
    let there = c.has.ensures.0 c.if-has.true in
    let found = there_own (map.get self.cache c.args.n) there in
    record {
      only = record {
        brings = record {
          there = there;
          had = λ pages was. (
            found.0.bucket.values,
            content_is pages self.chains
                (map.get self.cache c.args.n) c.args.n found.0 found.0.bucket.values found.1 refl,
          );
          answers = λ pages was. tt;
          sound = λ rest now has. tt;
          keeps = keeps_same self (Ok tt);
        };
        contents = same_contents self;
        touches = touches_none c.args.n self tt c.requires.ready.going;
      };
    }

pub returns-in-Err : goal.returns-in-Err
returns-in-Err g c =
    let self = c.args.self.now in
    let none = none_of c.has.result (map.get self.cache c.args.n) c.has.ensures.1 c.if-has.false in
    let done = c.in-Err.ensures in
    let alone = alone_of HeldBucket (Unit {0}) (is_broken (journal_of self.chains)) c.in-Err.fault done.leaves.alone in
    record {
      only = record {
        brings = record {
          there = tt;
          had = tt;
          answers = λ pages was. brings_read pages self c.args.n c.in-Err.fault none (done.answers pages was.open_chains);
          sound = λ rest now has.
              sound_chain c.in-Err.fault rest now self c.args.n c.requires.ready.bucket
              (λ pages was. brings_read pages self c.args.n c.in-Err.fault none (done.answers pages was.open_chains)) alone has;
          keeps = keeps_low {T = Unit {0}} self _ (Err c.in-Err.fault) refl done.leaves.stays done.leaves.opens done.leaves.broken;
        };
        contents = tt;
        touches = leaves_low _ self _ (Err c.in-Err.fault) refl done.leaves.stays done.leaves.opens alone done.leaves.broken tt refl
            (cause_of HeldBucket (Unit {0}) _ _ c.in-Err.fault done.leaves.cause);
      };
    }

pub returns-in-Ok-add : goal.returns-in-Ok-add
returns-in-Ok-add g c =
    let old = c.args.self.now in
    let mid = c.read_bucket.new.chains in
    let own : Cached = record { bucket = c.in-Ok.bucket; changed = false } in
    let none = none_of c.has.result (map.get old.cache c.args.n) c.has.ensures.1 c.if-has.false in
    let done = c.in-Ok.ensures in
    let stays = done.leaves.stays in
    let is = c.in-Ok-add.ensures.added in
    record {
      only = brought c.args.n old _
          (record {
            opens = λ pages was.
                let stored = stored_later pages old.chains mid c.args.n c.in-Ok.bucket.values stays
                (done.answers pages was.open_chains).0 in
                let origin = origin_same pages old.chains mid c.args.n c.in-Ok.bucket stays.kept
                (ap (λ (l : Lists). map.get l c.args.n) stays.written)
                (done.answers pages was.open_chains).1 in
                open_more pages mid old.cache c.add.new.self c.args.n own is (λ same. stored) origin
                (open_later pages old.chains mid old.cache stays (done.leaves.opens pages was.open_chains) was);
            later = λ pages was other values has.
                content_more pages old.chains mid old.cache c.add.new.self c.args.n own stays is (done.answers pages was.open_chains).0 none
                other values has;
            before = λ pages was other values has.
                content_before pages old.chains mid old.cache c.add.new.self c.args.n own stays is
                (done.answers pages was.open_chains).0 none
                other values has;
            bad = λ pages k at bad. bad_more pages old.chains mid old.cache c.add.new.self c.args.n own stays is k at bad;
          })
          (some_of _ own (put_there old.cache c.add.new.self c.args.n own is))
          (λ pages was. (
            c.in-Ok.bucket.values,
            none_content (map.get old.cache c.args.n) pages old.chains c.args.n c.in-Ok.bucket.values none
                (done.answers pages was.open_chains).0,
          ))
          stays done.leaves.broken
          (done.leaves.reads (unread_chain _ old.cache c.args.n (old.once c.requires.ready.going) c.requires.ready.bucket.0 none)) refl
          (quiet_cause _ _ _ refl (done.leaves.cause.later));
    }

pub returns-in-Err-add : goal.returns-in-Err-add
returns-in-Err-add g c =
    let old = c.args.self.now in
    let done = c.in-Ok.ensures.leaves in
    let same = c.in-Err-add.ensures.added in
    record {
      only = record {
        brings = record {
          there = tt;
          had = tt;
          answers = λ pages was. tt;
          sound = λ rest now has. tt;
          keeps = keeps_low old _ (Err OutOfMemory) same done.stays done.opens done.broken;
        };
        contents = tt;
        touches = leaves_low _ old _ (Err OutOfMemory) same done.stays done.opens tt done.broken tt refl
            (quiet_cause _ _ _ refl (done.cause.later));
      };
    }
