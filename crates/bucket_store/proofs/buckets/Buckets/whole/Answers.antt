-- All buckets are the map.
use Rattle.std.proofs.Common.{◌≡◌, ◌<◌, ◌%◌, ◌||◌, ℕ, Bool, Err, refl, ap, subst, ◌∙◌, arith, mod-lt}
use Rattle.std.specs.FinMap as map
use Rattle.std.specs.Ordering.{nat_cmp}
use Rattle.page_journal.specs.Answers.{answers_disk_fault}
use Rattle.page_journal.specs.Journal.{is_broken}
use Rattle.chain_store.specs.Answers.{IsReadAnswer}
use Rattle.chain_store.specs.Chains.{journal_of}
use Rattle.chain_store.specs.declared.root.Root.{Root}
use Rattle.bucket_records.specs.Records.{BucketMap}
use Rattle.bucket_store.specs.Buckets.{bucket_count}
use Rattle.bucket_store.specs.Transaction.{BringsBucket, chains_of}
use Rattle.bucket_store.proofs.Frames.{alone_of, cause_of, keeps_read, leaves_read}
use Rattle.bucket_store.proofs.Holding.{has_bucket, has_later, looks_same, looks_then}
use Rattle.bucket_store.proofs.KeyReads.{keys_none}
use Rattle.bucket_store.proofs.Sound.{sound_bring}
use Rattle.bucket_store.proofs.Writings.{still_then}
use Rattle.bucket_store.proofs.Wholes.{brings_map, contents_then, gathered_all, none_more, place_low, read_same, read_then, reads_bucket}
use Rattle.bucket_store.proofs.Wholes.{same_contents, some_later, some_more, sound_of, there_more}
use Rattle.value_bytes.specs.StoreMap.{map_number}
use Rattle.value_bytes.proofs.MapNumbers.{map_number-below}
use Rattle.bucket_store.proofs.buckets.Buckets.whole.Goals as goal

pub loop-bucket-preserved : goal.loop-bucket-preserved
loop-bucket-preserved g c =
    let was = c.loop-bucket.invariant in
    let done = c.in_default.ensures in
    let old = c.args.self.now in
    let mid = c.loop-bucket.self in
    let new = c.add_bucket.new.self in
    let which = map_number c.args.map in
    let bucket = c.loop-bucket.bucket in
    let n = c.chain_of-n.result in
    let count : c.root-count.result.buckets ≡ bucket_count (chains_of old) = ap (λ (r : Root). r.buckets) c.root-count.ensures in
    let low : bucket < bucket_count (chains_of old) = omega (arith, c.loop-bucket-test.true, count) in
    let at = c.chain_of-n.ensures.chain in
    record {
      going = done.only.touches.refused;
      still = still_then _ _ _ was.still done.only.touches.broken;
      same = looks_then old mid new was.same done.only.touches.same;
      stays = read_then old mid new was.stays done.only.touches.stays;
      contents = contents_then old mid new was.contents done.only.contents;
      reads = reads_bucket _ which bucket n old mid new at was.stays done.only.touches.reads was.reads;
      there = λ pages opened.
          there_more old mid which bucket n c.loop-bucket.whole c.add_bucket.new.whole was.stays was.contents low at done.only.brings.had
          done.added pages opened (was.there pages opened);
      some = λ pages opened.
          some_more old mid which bucket n c.loop-bucket.whole c.add_bucket.new.whole was.stays was.contents low at done.only.brings.had
          done.added pages opened
          (was.none pages opened) (was.some pages opened);
      none = λ pages opened.
          none_more old mid which bucket n c.loop-bucket.whole c.add_bucket.new.whole was.stays was.contents low at done.only.brings.had
          done.added pages opened (was.none pages opened);
    }

pub loop-bucket-init : goal.loop-bucket-init
loop-bucket-init g c =
    let self = c.args.self.now in
    record {
      going = c.requires.ready.going;
      still = refl;
      same = looks_same self;
      stays = read_same self;
      contents = same_contents self;
      reads = keys_none (λ m key. m ≡ (map_number c.args.map)) self;
      there = λ pages opened k less. absurd (omega (arith, less));
      some = λ pages opened key values has low. absurd (omega (arith, low));
      none = λ pages opened key high. ap (λ m. map.get m key) c.new-whole.ensures.empty ∙ map.get-empty nat_cmp key;
    }

pub returns-in-Err-clause-whole : goal.returns-in-Err-clause-whole
returns-in-Err-clause-whole g c =
    let was = c.loop-bucket.invariant in
    let done = c.in-Err.ensures in
    let old = c.args.self.now in
    let mid = c.loop-bucket.self in
    let new = c.add_bucket.new.self in
    let which = map_number c.args.map in
    let bucket = c.loop-bucket.bucket in
    let n = c.chain_of-n.result in
    let count : c.root-count.result.buckets ≡ bucket_count (chains_of old) = ap (λ (r : Root). r.buckets) c.root-count.ensures in
    let low : bucket < bucket_count (chains_of old) = omega (arith, c.loop-bucket-test.true, count) in
    record {
      value = tt;
      found = tt;
      answers = λ pages opened.
          brings_map BucketMap pages old mid which bucket n c.in-Err.fault was.contents
          (place_low old mid which bucket n was.stays low c.chain_of-n.ensures.chain)
          low (was.there pages opened) (done.only.brings.answers pages (was.contents.opens pages opened));
      sound = λ rest now has.
          sound_of (Unit {0}) BucketMap c.in-Err.fault
          (sound_bring {T = Unit {0}} (Err c.in-Err.fault) rest now mid which bucket (map_number-below c.args.map)
          (some_later old mid was.stays c.requires.ready.some)
          (λ pages opened. subst (λ (k : ℕ). BringsBucket {T = Unit {0}} pages mid k (Err c.in-Err.fault)) c.chain_of-n.ensures.chain
          (done.only.brings.answers pages opened))
          done.only.touches.alone (has_later rest now old mid was.stays (was.still ∙ has.whole) was.contents.opens was.contents.later has));
      keeps = keeps_read {T = BucketMap} old new (Err c.in-Err.fault) (read_then old mid new was.stays done.only.touches.stays)
          (λ pages opened. done.only.touches.opens pages (was.contents.opens pages opened))
          (done.only.touches.broken ∙ ap (λ (b : Bool). b || answers_disk_fault {T = Unit {0}} (Err c.in-Err.fault)) was.still)
          (λ pages opened other values has. done.only.brings.keeps.content pages (was.contents.opens pages opened) other values
          (was.contents.later pages opened other values has));
    }

pub returns-in-Err-clause-touches : goal.returns-in-Err-clause-touches
returns-in-Err-clause-touches g c =
    let was = c.loop-bucket.invariant in
    let done = c.in-Err.ensures.only.touches in
    let old = c.args.self.now in
    let mid = c.loop-bucket.self in
    let new = c.add_bucket.new.self in
    leaves_read {T = BucketMap} _ old new (Err c.in-Err.fault) (read_then old mid new was.stays done.stays)
    (λ pages opened. done.opens pages (was.contents.opens pages opened))
    (subst (λ (b : Bool). IsReadAnswer {T = BucketMap} b (Err c.in-Err.fault)) was.still
    (alone_of (Unit {0}) BucketMap (is_broken (journal_of (chains_of mid))) c.in-Err.fault done.alone))
    (done.broken ∙ ap (λ (b : Bool). b || answers_disk_fault {T = Unit {0}} (Err c.in-Err.fault)) was.still) tt done.refused
    (cause_of (Unit {0}) BucketMap _ _ c.in-Err.fault
    (record {
      later = omega (arith, was.same.later, done.cause.later);
      failed =
          λ failed. omega (arith, was.same.later, done.cause.failed failed);
    }))

pub returns-clause-whole : goal.returns-clause-whole
returns-clause-whole g c =
    let was = c.loop-bucket.invariant in
    let old = c.args.self.now in
    let mid = c.loop-bucket.self in
    let count : c.root-count.result.buckets ≡ bucket_count (chains_of old) = ap (λ (r : Root). r.buckets) c.root-count.ensures in
    let low : (key : ℕ) → key % bucket_count (chains_of old) < bucket_count (chains_of old) = λ key. mod-lt key c.requires.ready.some in
    record {
      value = λ pages opened key values has. was.some pages opened key values has (omega (arith, low key, c.loop-bucket-test.false, count));
      found = λ rest now has.
          gathered_all c.loop-bucket.whole (now.maps (map_number c.args.map)) (λ key.
          let own = has_bucket rest now old (map_number c.args.map) key (map_number-below c.args.map) c.requires.ready.some has in
          was.some has.pages has.opens key own.0 own.1 (omega (arith, low key, c.loop-bucket-test.false, count)) ∙ own.2);
      answers = λ pages opened. tt;
      sound = λ rest now has. tt;
      keeps = record {
        content = was.contents.later;
        has = λ quiet rest now has. has_later rest now old mid was.stays (was.still ∙ has.whole) was.contents.opens was.contents.later has;
      };
    }
