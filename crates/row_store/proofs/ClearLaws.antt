-- Keys are taken out of a map, one after another.
use Rattle.std.proofs.Common.{◌≡◌, ◌≢◌, ◌⊎◌, inl, inr, ◌<◌, ◌≤◌, ◌%◌, ℕ, Bool, false, cond, List, [], Option, Some, None}
use Rattle.std.proofs.Common.{Result, Ok, Err, refl, sym, ap, subst, ◌∙◌, arith, mod-lt, eq-eqb}
use Rattle.std.specs.Prelude.{◌==◌, Vec}
use Rattle.std.specs.declared.alloc.Global.{Global}
use Rattle.std.specs.Option.{IsSome}
use Rattle.std.specs.Cmp.{nat_cmp_total}
use Rattle.std.specs.FinMap as map
use Rattle.std.specs.FinMap.{nat_cmp-IsAntisymmetric}
use Rattle.std.proofs.lemmas.Bool.{ne_eqb}
use Rattle.outside.specs.declared.disk.Disk.{Ghosts}
use Rattle.page_journal.specs.Journal.{is_broken}
use Rattle.page_journal.specs.declared.fault.StoreFault.{StoreFault}
use Rattle.page_journal.specs.declared.fault.StoreFault.TheVariants as refusals
use Rattle.chain_store.specs.Chains.{disk_of, journal_of}
use Rattle.chain_store.specs.declared.root.Root.{Root}
use Rattle.chain_store.proofs.Times.{same_or}
use Rattle.bucket_records.specs.Records.{BucketMap}
use Rattle.bucket_store.specs.Buckets.{bucket_count}
use Rattle.bucket_store.specs.Image.{Has, Image, bucket_chain, with_entry, with_value}
use Rattle.bucket_store.specs.Transaction.{BringsBucket, Content, IsOpenStore, bucket_at, chains_of, has_refused}
use Rattle.bucket_store.specs.Calls.{GetsRecords}
use Rattle.bucket_store.specs.Typed.{TakesValue, Touches}
use Rattle.bucket_store.specs.declared.buckets.Buckets.{Buckets}
use Rattle.bucket_store.proofs.Frames.{alone_of, cause_of}
use Rattle.bucket_store.proofs.Holding.{looks_same, looks_then}
use Rattle.bucket_store.proofs.Images.{entry_beside, entry_here, maps_beside, maps_here, root_with_value, texts_with_value}
use Rattle.style_read.specs.declared.style.TableDef.{TableDef}
use Rattle.row_store.specs.Clearing.{ClearsMap, TakesOut, Took, Without, without_map, without_rows}
use Rattle.row_store.specs.Loading.{Among, Looks}
use Rattle.row_store.specs.Tables.{HoldsTables}
use Rattle.row_store.proofs.LoadLaws.{all_among}
use Rattle.row_store.proofs.LookLaws.{looks_on, or_false, read_same, read_then, sound_of}
use Rattle.row_store.proofs.TableLaws.{no_tables}
use Rattle.row_store.proofs.TurnCalls.{bad_before}

-- A store without some keys of a map.
module _ (which : ℕ) where
  without_none : (image : Image) → Without which (λ key. ⊥) image image
  without_none image = record {
    root = refl;
    texts = λ n. refl;
    others = λ m apart. refl;
    gone = λ key none. absurd none;
    fewer = λ key. inl refl;
  }

  without_then : (One Two All : ℕ → Type 0) (old mid new : Image) → Without which One old mid → Without which Two mid new
      → ((key : ℕ) → All key → One key ⊎ Two key) → Without which All old new
  without_then One Two All old mid new first second split = record {
    root = second.root ∙ first.root;
    texts = λ n. second.texts n ∙ first.texts n;
    others = λ m apart. second.others m apart ∙ first.others m apart;
    gone = λ key all. elim (split key all) [
      | inl one ↦ elim (second.fewer key) [ inl same ↦ same ∙ first.gone key one | inr none ↦ none ]
      | inr two ↦ second.gone key two
    ];
    fewer = λ key. elim (second.fewer key) [
      | inl same ↦ elim (first.fewer key) [ inl still ↦ inl (same ∙ still) | inr none ↦ inr (same ∙ none) ]
      | inr none ↦ inr none
    ];
  }

  without_more : (One All : ℕ → Type 0) (old new : Image) → Without which One old new
      → ((key : ℕ) → All key → IsSome (map.get (old.maps which) key) → One key) → Without which All old new
  without_more One All old new without leads = record {
    root = without.root;
    texts = without.texts;
    others = without.others;
    gone = λ key all. elim (without.fewer key) [
      | inl same ↦
          elim (map.get (old.maps which) key) as (λ found. map.get (old.maps which) key ≡ found → map.get (new.maps which) key ≡ None) [
            | None ↦ λ none. same ∙ none
            | Some bytes ↦ λ some. without.gone key (leads key all (subst (λ (o : Option (List ℕ)). IsSome o) (sym some) refl))
          ] refl
      | inr none ↦ none
    ];
    fewer = without.fewer;
  }

  without_one : (key : ℕ) (image : Image) → Without which (λ k. k ≡ key) image (with_value which key None image)
  without_one key image =
      let here : (with_value which key None image).maps which ≡ with_entry key None (image.maps which) = maps_here which key None image which refl in
      let at : (k : ℕ) → map.get ((with_value which key None image).maps which) k ≡ map.get (with_entry key None (image.maps which)) k =
      λ k. ap (λ (m : BucketMap). map.get m k) here in
      record {
        root = root_with_value which key None image;
        texts = λ n. texts_with_value which key None image n;
        others = λ m apart. maps_beside which key None image m apart;
        gone = λ k same. at k ∙ entry_here key None (image.maps which) k same;
        fewer = λ k. elim (same_or k key) [
          | inl same ↦ inr (at k ∙ entry_here key None (image.maps which) k same)
          | inr apart ↦ inl (at k ∙ entry_beside key None (image.maps which) k apart)
        ];
      }

  -- without any it is the store without the map
  pub without_all : (old new : Image) → Without which (λ key. Unit {0}) old new → new ≡ without_map which old
  unfolding without_map
  without_all old new without =
      let empty : new.maps which ≡ map.empty =
      map.same_map nat_cmp_total nat_cmp-IsAntisymmetric (new.maps which) map.empty
      (λ key. without.gone key tt ∙ sym (map.get-empty _ key)) in
      let maps : (m : ℕ) → new.maps m ≡ cond (m == which) map.empty (old.maps m) = λ m. elim (same_or m which) [
        | inl same ↦
            ap (λ (k : ℕ). new.maps k) same ∙ empty
            ∙ sym (ap (λ (b : Bool). cond b map.empty (old.maps m)) (eq-eqb m which same))
        | inr apart ↦ without.others m apart ∙ sym (ap (λ (b : Bool). cond b map.empty (old.maps m)) (ne_eqb m which apart))
      ] in
      λ i. record { root = without.root i; texts = λ n. without.texts n i; maps = λ m. maps m i }

  emptied : (image : Image) → (without_map which image).maps which ≡ map.empty
  unfolding without_map
  emptied image = ap (λ (b : Bool). cond b map.empty (image.maps which)) (eq-eqb which which refl)

  beside : (image : Image) (m : ℕ) → m ≢ which → (without_map which image).maps m ≡ image.maps m
  unfolding without_map
  beside image m apart = ap (λ (b : Bool). cond b map.empty (image.maps m)) (ne_eqb m which apart)

pub no_rows_left : (now : Image) (definitions : List TableDef) → HoldsTables definitions (without_rows now).maps map.empty
no_rows_left now definitions =
    no_tables definitions (without_rows now).maps
    (beside 7 (without_map 6 now) 6 (λ is. absurd (omega (arith, is))) ∙ emptied 6 now) (emptied 7 (without_map 6 now))

module _ {D : Type 0} {g : Ghosts D} where
  -- Calls that took keys out.
  pub took_none : (which : ℕ) (buckets : Buckets D g) → has_refused buckets ≡ false → Took which (λ key. ⊥) buckets buckets
  took_none which buckets going = record {
    gone = λ rest now has. (now, without_none which now, has);
    opens = λ pages opens. opens;
    keeps = λ pages opens n values has. (values, has);
    same = looks_same buckets;
    stays = read_same buckets;
    still = refl;
    going = going;
  }

  pub took_then : (which : ℕ) (One Two All : ℕ → Type 0) (old mid new : Buckets D g) → Took which One old mid → Took which Two mid new
      → ((key : ℕ) → All key → One key ⊎ Two key) → Took which All old new
  took_then which One Two All old mid new first second split = record {
    gone = λ rest now has.
        let one = first.gone rest now has in
        let two = second.gone rest one.0 one.2 in
        (two.0, without_then which One Two All now one.0 two.0 one.1 two.1 split, two.2);
    opens = λ pages opens. second.opens pages (first.opens pages opens);
    keeps = λ pages opens n values has.
        let one = first.keeps pages opens n values has in
        second.keeps pages (first.opens pages opens) n one.0 one.1;
    same = looks_then old mid new first.same second.same;
    stays = read_then old mid new first.stays second.stays;
    still = second.still ∙ first.still;
    going = second.going;
  }

  pub cleared_before : {T : Type 0} (which other : ℕ) (Part : ℕ → Type 0) (old mid : Buckets D g) (result : Result T StoreFault)
      → Took other Part old mid
      → (pages : List (List ℕ)) → IsOpenStore pages old → ClearsMap pages mid which result → ClearsMap pages old which result
  cleared_before which other Part old mid (Ok done) took pages opens is = tt
  cleared_before which other Part old mid (Err refusals.NotFormatted) took pages opens is = tt
  cleared_before which other Part old mid (Err refusals.NotEmpty) took pages opens is = tt
  cleared_before which other Part old mid (Err (refusals.BadStore at)) took pages opens is = (
    is.0,
    subst (λ (r : Root). is.0 < r.buckets) took.stays.root is.1,
    bad_before pages old mid (bucket_chain which is.0) at took.stays (took.keeps pages opens (bucket_chain which is.0)) is.2,
  )
  cleared_before which other Part old mid (Err refusals.DiskFault) took pages opens is = tt
  cleared_before which other Part old mid (Err (refusals.StoreFull many)) took pages opens is = tt
  cleared_before which other Part old mid (Err refusals.Broken) took pages opens is = tt
  cleared_before which other Part old mid (Err refusals.OutOfMemory) took pages opens is = tt

  -- calls that were answered, and then one that is refused
  pub err_then : {T : Type 0} (which : ℕ) (One Two All : ℕ → Type 0) (old mid new : Buckets D g) (fault : StoreFault)
      → Took which One old mid → TakesOut {T = T} which Two mid new (Err fault) → TakesOut {T = T} which All old new (Err fault)
  err_then {T} which One Two All old mid new fault first out = record {
    took = tt;
    answers = λ pages opens. cleared_before {T = T} which which One old mid (Err fault) first pages opens
        (out.answers pages (first.opens pages opens));
    sound = λ rest now has. let one = first.gone rest now has in out.sound rest one.0 one.2;
    opens = λ pages opens. out.opens pages (first.opens pages opens);
    looks = looks_on old mid new (Err fault) first.same first.stays first.still out.looks;
  }

  -- or any
  pub out_then : {T : Type 0} (which : ℕ) (One Two All : ℕ → Type 0) (old mid new : Buckets D g) (result : Result T StoreFault)
      → Took which One old mid
      → TakesOut which Two mid new result → ((key : ℕ) → All key → One key ⊎ Two key) → TakesOut which All old new result
  out_then which One Two All old mid new (Ok done) first out split = record {
    took = took_then which One Two All old mid new first out.took split;
    answers = λ pages opens. tt;
    sound = λ rest now has. tt;
    opens = λ pages opens. out.opens pages (first.opens pages opens);
    looks = looks_on old mid new (Ok done) first.same first.stays first.still out.looks;
  }
  out_then which One Two All old mid new (Err fault) first out split = err_then which One Two All old mid new fault first out

  pub took_more : (which : ℕ) (One All : ℕ → Type 0) (old new : Buckets D g) → Took which One old new
      → ((key : ℕ) → All key → One key) → Took which All old new
  took_more which One All old new took leads = record {
    gone = λ rest now has.
        let one = took.gone rest now has in
        (one.0, without_more which One All now one.0 one.1 (λ key all some. leads key all), one.2);
    opens = took.opens;
    keeps = took.keeps;
    same = took.same;
    stays = took.stays;
    still = took.still;
    going = took.going;
  }

  looks_done : (which : ℕ) (Part : ℕ → Type 0) (old new : Buckets D g) → Took which Part old new → Looks {T = Unit {0}} old new (Ok (tt {0}))
  looks_done which Part old new took = record {
    same = took.same;
    stays = took.stays;
    alone = tt;
    broken = took.still ∙ sym (or_false (is_broken (journal_of (chains_of old))));
    refused = took.going;
    cause = record { later = took.same.later; failed = λ is. absurd (cc (is)) };
  }

  pub out_done : (which : ℕ) (Part : ℕ → Type 0) (old new : Buckets D g) → Took which Part old new
      → TakesOut {T = Unit {0}} which Part old new (Ok (tt {0}))
  out_done which Part old new took = record {
    took = took;
    answers = λ pages opens. tt;
    sound = λ rest now has. tt;
    opens = took.opens;
    looks = looks_done which Part old new took;
  }

  -- One key is taken out.
  looks_of : {T : Type 0} (which key : ℕ) (old new : Buckets D g) (result : Result T StoreFault) → Touches which key old new result
      → Looks old new result
  looks_of which key old new result touches = record {
    same = touches.same;
    stays = touches.stays;
    alone = touches.alone;
    broken = touches.broken;
    refused = touches.refused;
    cause = touches.cause;
  }

  looks_err : (T U : Type 0) (old new : Buckets D g) (fault : StoreFault) → Looks {T = T} old new (Err fault) → Looks {T = U} old new (Err fault)
  looks_err T U old new fault looks = record {
    same = looks.same;
    stays = looks.stays;
    alone = alone_of T U (is_broken (journal_of (chains_of old))) fault looks.alone;
    broken = looks.broken;
    refused = looks.refused;
    cause = cause_of T U (disk_of (chains_of old)).faults (disk_of (chains_of new)).faults fault looks.cause;
  }

  cleared_err : (T U : Type 0) (pages : List (List ℕ)) (buckets : Buckets D g) (which key : ℕ) (fault : StoreFault)
      → 1 ≤ bucket_count (chains_of buckets)
      → BringsBucket {T = T} pages buckets (bucket_at buckets which key) (Err fault) → ClearsMap {T = U} pages buckets which (Err fault)
  cleared_err T U pages buckets which key refusals.NotFormatted some is = tt
  cleared_err T U pages buckets which key refusals.NotEmpty some is = tt
  cleared_err T U pages buckets which key (refusals.BadStore at) some is =
      (key % bucket_count (chains_of buckets), mod-lt key (omega (arith, some)), is)
  cleared_err T U pages buckets which key refusals.DiskFault some is = tt
  cleared_err T U pages buckets which key (refusals.StoreFull many) some is = tt
  cleared_err T U pages buckets which key refusals.Broken some is = tt
  cleared_err T U pages buckets which key refusals.OutOfMemory some is = tt

  pub key_refused : (which key : ℕ) (Part : ℕ → Type 0) (old new : Buckets D g) (fault : StoreFault) → 1 ≤ bucket_count (chains_of old)
      → TakesValue which key old new (Err fault) → Touches {T = Bool} which key old new (Err fault)
      → TakesOut {T = Unit {0}} which Part old new (Err fault)
  key_refused which key Part old new fault some takes touches = record {
    took = tt;
    answers = λ pages opens. cleared_err Bool (Unit {0}) pages old which key fault some (takes.answers pages opens);
    sound = λ rest now has. sound_of Bool (Unit {0}) fault (takes.sound rest now has);
    opens = touches.opens;
    looks = looks_err Bool (Unit {0}) old new fault (looks_of which key old new (Err fault) touches);
  }

  kept_content : (which key : ℕ) (old new : Buckets D g) (was : Bool) → TakesValue which key old new (Ok was)
      → (pages : List (List ℕ)) → IsOpenStore pages old → (n : ℕ) (values : BucketMap) → Content pages old n values
      → (later : BucketMap) × Content pages new n later
  kept_content which key old new was takes pages opens n values has = elim (same_or n (bucket_at old which key)) [
    | inl same ↦ (
      map.remove values key,
      subst (λ (k : ℕ). Content pages new k (map.remove values key)) (sym same)
          (takes.here pages opens values (subst (λ (k : ℕ). Content pages old k values) same has)).1,
    )
    | inr apart ↦ (values, takes.others pages opens n values apart has)
  ]

  pub key_taken : (which key : ℕ) (old new : Buckets D g) (was : Bool) → TakesValue which key old new (Ok was)
      → Touches which key old new (Ok was) → Took which (λ k. k ≡ key) old new
  key_taken which key old new was takes touches = record {
    gone = λ rest now has. (with_value which key None now, without_one which key now, (takes.has rest now has).1);
    opens = touches.opens;
    keeps = kept_content which key old new was takes;
    same = touches.same;
    stays = touches.stays;
    still = touches.broken ∙ or_false (is_broken (journal_of (chains_of old)));
    going = touches.refused;
  }

  -- The records of a bucket are got, and taken out.
  pub records_refused : (which key : ℕ) (Part : ℕ → Type 0) (old new : Buckets D g) (fault : StoreFault)
      → 1 ≤ bucket_count (chains_of old)
      → GetsRecords which key old new (Err fault) → Touches {T = Vec (ℕ × List ℕ) Global} which key old new (Err fault)
      → TakesOut {T = Unit {0}} which Part old new (Err fault)
  records_refused which key Part old new fault some gets touches = record {
    took = tt;
    answers = λ pages opens. cleared_err (Vec (ℕ × List ℕ) Global) (Unit {0}) pages old which key fault some (gets.answers pages opens);
    sound = λ rest now has. sound_of (Vec (ℕ × List ℕ) Global) (Unit {0}) fault (gets.sound rest now has);
    opens = touches.opens;
    looks = looks_err (Vec (ℕ × List ℕ) Global) (Unit {0}) old new fault (looks_of which key old new (Err fault) touches);
  }

  records_got : (which key : ℕ) (old mid : Buckets D g) (records : Vec (ℕ × List ℕ) Global) → GetsRecords which key old mid (Ok records)
      → Touches which key old mid (Ok records) → Took which (λ k. ⊥) old mid
  records_got which key old mid records gets touches = record {
    gone = λ rest now has. (now, without_none which now, gets.keeps.has refl rest now has);
    opens = touches.opens;
    keeps = λ pages opens n values has. (values, gets.keeps.content pages opens n values has);
    same = touches.same;
    stays = touches.stays;
    still = touches.broken ∙ or_false (is_broken (journal_of (chains_of old)));
    going = touches.refused;
  }

  abbrev InBucket : Buckets D g → ℕ → ℕ → Type 0
  InBucket buckets bucket key = key % bucket_count (chains_of buckets) ≡ bucket % bucket_count (chains_of buckets)

  -- what a map has of a bucket is among its records
  bucket_gone : (which bucket : ℕ) (old mid new : Buckets D g) (records : Vec (ℕ × List ℕ) Global) → GetsRecords which bucket old mid (Ok records)
      → Took which (Among records.items) mid new → (rest now : Image) → Has rest now old
      → (later : Image) × Without which (InBucket old bucket) now later × Has rest later new
  bucket_gone which bucket old mid new records gets took rest now has =
      let one = took.gone rest now (gets.keeps.has refl rest now has) in
      let count : bucket_count (chains_of old) ≡ now.root.buckets = ap (λ (r : Root). r.buckets) has.root in (
        one.0,
        without_more which (Among records.items) (InBucket old bucket) now one.0 one.1 (λ key mine some.
            all_among [] None which (λ spot. None) now (bucket % now.root.buckets) records.items (gets.found rest now has) key some
            (subst (λ (n : ℕ). key % n ≡ bucket % n) count mine)),
        one.2,
      )

  pub bucket_out : (which bucket : ℕ) (old mid new : Buckets D g) (records : Vec (ℕ × List ℕ) Global) (result : Result (Unit {0}) StoreFault)
      → GetsRecords which bucket old mid (Ok records) → Touches which bucket old mid (Ok records)
      → TakesOut which (Among records.items) mid new result → TakesOut which (InBucket old bucket) old new result
  bucket_out which bucket old mid new records (Err fault) gets touches out =
      err_then which (λ k. ⊥) (Among records.items) (InBucket old bucket) old mid new fault (records_got which bucket old mid records gets touches) out
  bucket_out which bucket old mid new records (Ok done) gets touches out =
      let got = records_got which bucket old mid records gets touches in
      let both = took_then which (λ k. ⊥) (Among records.items) (Among records.items) old mid new got out.took (λ key among. inr among) in
      out_done which (InBucket old bucket) old new (record {
        gone = bucket_gone which bucket old mid new records gets out.took;
        opens = both.opens;
        keeps = both.keeps;
        same = both.same;
        stays = both.stays;
        still = both.still;
        going = both.going;
      })
