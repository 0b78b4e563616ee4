-- Two calls on one key, one after the other.
use Rattle.std.proofs.Common.{◌≡◌, inl, inr, ◌+◌, ◌*◌, ◌||◌, ℕ, Bool, cond, List, length, Option, Some, None, Result}
use Rattle.std.proofs.Common.{Ok, Err, OnOk, refl, sym, ap, subst, ◌∙◌, arith, option_map}
use Rattle.std.specs.Option.{MatchOption}
use Rattle.std.specs.Cmp.{nat_cmp_total}
use Rattle.std.specs.Ordering.{is_eq}
use Rattle.std.specs.declared.cmp.Ordering.{Ordering}
use Rattle.std.specs.FinMap as map
use Rattle.outside.specs.Disk.{DiskView}
use Rattle.outside.specs.declared.disk.Disk.{Ghosts}
use Rattle.osm_base.specs.declared.values.row.Row.{Row}
use Rattle.osm_base.specs.declared.values.row.TableRow.{TableRow}
use Rattle.osm_base.specs.map.Spots.{SpotOf, TableMap, with_row}
use Rattle.osm_base.specs.values.Key.{IsId}
use Rattle.page_journal.specs.Answers.{answers_disk_fault}
use Rattle.page_journal.specs.Journal.{home_count, is_broken}
use Rattle.page_journal.specs.declared.fault.StoreFault.{StoreFault}
use Rattle.page_journal.specs.declared.fault.StoreFault.TheVariants as refusals
use Rattle.page_journal.specs.declared.layout.TheConstants.{PAGE_LEN}
use Rattle.page_journal.proofs.ReadCounts.{reads_more, reads_then}
use Rattle.style_read.specs.declared.style.TableDef.{TableDef}
use Rattle.chain_store.specs.Answers.{IsReadAnswer}
use Rattle.chain_store.specs.Chains.{OnlyRead, disk_of, first_of, journal_of, read_of, written_of}
use Rattle.chain_store.specs.Known.{Lists, MayRead}
use Rattle.chain_store.specs.Links.{page_in}
use Rattle.chain_store.specs.Store.{IsRefused, kept_first}
use Rattle.chain_store.specs.declared.chains.Chains.{Chains}
use Rattle.chain_store.specs.declared.kept.Kept.{Kept}
use Rattle.chain_store.specs.declared.root.Root.{Root}
use Rattle.chain_store.specs.Chains.{LoadedIs}
use Rattle.chain_store.proofs.Unique.{not_refused}
use Rattle.bucket_records.specs.Records.{BucketMap, IsBucket}
use Rattle.bucket_records.proofs.MapLaws.{equal_of}
use Rattle.bucket_store.specs.Buckets.{IsBadChain, Stored, bucket_count, bucket_in}
use Rattle.bucket_store.specs.Image.{Has, Image, IsSoundAnswer, with_value}
use Rattle.bucket_store.specs.Reads.{MayReadChain}
use Rattle.bucket_store.specs.Transaction.{BringsBucket, Content, IsBad, IsOpenStore, bucket_at, cached_of, chains_of}
use Rattle.bucket_store.specs.Typed.{Gets, GetsValue, SetsValue, TakesValue, Touches}
use Rattle.bucket_store.specs.declared.buckets.Buckets.{Buckets}
use Rattle.bucket_store.specs.declared.cache.Cached.{Cached}
use Rattle.bucket_store.proofs.Holding.{looks_then}
use Rattle.bucket_store.proofs.Openings.{loaded_one}
use Rattle.bucket_store.proofs.TypedLaws.{at_same}
use Rattle.store_maps.specs.Asked.{row_key}
use Rattle.store_maps.specs.Maps.{kept_rows, unless_empty}
use Rattle.row_store.specs.Maps.{map_of}
use Rattle.row_store.specs.Rows.{AreRows, rows_bytes}
use Rattle.row_store.specs.Tables.{HoldsTables, MaySpell, MayTurn, SetsBytes, SetsRow, turned, turned_bytes}
use Rattle.row_store.proofs.LookLaws.{or_false, read_then, rose_later, sound_of}
use Rattle.row_store.proofs.TableLaws.{kind_held, read_rows_are, row_maps, tables_turned}

-- What both read.
put_there : (lists : Lists) (n : ℕ) (ns : List ℕ) → map.get (map.insert lists n ns) n ≡ Some ns
put_there lists n ns =
    map.get-insert nat_cmp_total lists n ns n ∙ ap (λ (r : Ordering). cond (is_eq r) (Some ns) (map.get lists n)) (equal_of n n refl)

may_read_then : (end n : ℕ) (old mid new : Lists) (before between after : DiskView) → MayRead end n old mid before between
    → MayRead end n mid new between after → MayRead end n old new before after
may_read_then end n old mid new before between after (inl same) (inl still) =
    inl (still.0 ∙ same.0, reads_then 0 0 end before.reads between.reads after.reads same.1 still.1)
may_read_then end n old mid new before between after (inl same) (inr one) =
    inr (
      ap (λ (l : Lists). map.get l n) (sym same.0) ∙ one.0,
      (
        one.1.0,
        one.1.1 ∙ ap (λ (l : Lists). map.insert l n one.1.0) same.0,
        reads_more (0 + length one.1.0) (length one.1.0) end end before.reads after.reads (omega arith) (omega arith)
            (reads_then 0 (length one.1.0) end before.reads between.reads after.reads same.1 one.1.2),
      ),
    )
may_read_then end n old mid new before between after (inr one) (inl still) =
    inr (
      one.0,
      (
        one.1.0,
        still.0 ∙ one.1.1,
        reads_more (length one.1.0 + 0) (length one.1.0) end end before.reads after.reads (omega arith) (omega arith)
            (reads_then (length one.1.0) 0 end before.reads between.reads after.reads one.1.2 still.1),
      ),
    )
may_read_then end n old mid new before between after (inr one) (inr again) =
    absurd (let there : map.get mid n ≡ Some one.1.0 = ap (λ (l : Lists). map.get l n) one.1.1 ∙ put_there old n one.1.0 in
    cc (there, again.0))

-- A bucket that cannot be read.
loaded_refused : (pages : List (List ℕ)) (n first at : ℕ) (own : Option (List ℕ)) (bytes : List ℕ) → LoadedIs pages n first own bytes
    → own ≡ None → IsRefused pages n first at → ⊥
loaded_refused pages n first at None bytes is none refused =
    not_refused (page_in pages) (length pages + 1) n first is.ns at is.has refused
loaded_refused pages n first at (Some own) bytes is none refused = absurd (cc)

module _ {D : Type 0} {g : Ghosts D} where
  both_read : {T : Type 0} (which key : ℕ) (old mid new : Buckets D g) (result : Result T StoreFault) → OnlyRead (chains_of old) (chains_of mid)
      → MayReadChain (bucket_at old which key) old mid → OnOk result (MayReadChain (bucket_at mid which key) mid new)
      → OnOk result (MayReadChain (bucket_at old which key) old new)
  both_read which key old mid new (Err fault) stays first second = tt
  both_read which key old mid new (Ok value) stays first second =
      let n = bucket_at old which key in
      may_read_then (PAGE_LEN * home_count (journal_of (chains_of old))) n (read_of (chains_of old)) (read_of (chains_of mid))
      (read_of (chains_of new)) (disk_of (chains_of old)) (disk_of (chains_of mid)) (disk_of (chains_of new)) first
      (subst (λ (home : ℕ). MayRead (PAGE_LEN * home) n (read_of (chains_of mid)) (read_of (chains_of new)) (disk_of (chains_of mid))
      (disk_of (chains_of new))) stays.looked.pages
      (subst (λ (k : ℕ). MayRead (PAGE_LEN * home_count (journal_of (chains_of mid))) k (read_of (chains_of mid)) (read_of (chains_of new))
      (disk_of (chains_of mid)) (disk_of (chains_of new))) (at_same old mid which key stays) second))

  pub touches_then : {T U : Type 0} (which key : ℕ) (old mid new : Buckets D g) (value : T) (result : Result U StoreFault)
      → Touches which key old mid (Ok value) → Touches which key mid new result → Touches which key old new result
  touches_then which key old mid new value result first second =
      let still : is_broken (journal_of (chains_of mid)) ≡ is_broken (journal_of (chains_of old)) =
      first.broken ∙ or_false (is_broken (journal_of (chains_of old))) in
      record {
        opens = λ pages was. second.opens pages (first.opens pages was);
        alone = subst (λ (b : Bool). IsReadAnswer b result) still second.alone;
        stays = read_then old mid new first.stays second.stays;
        broken = second.broken ∙ ap (λ (b : Bool). b || answers_disk_fault result) still;
        reads = both_read which key old mid new result first.stays first.reads second.reads;
        refused = second.refused;
        cause = record {
          later = omega (arith, first.cause.later, second.cause.later);
          failed = λ is. rose_later (disk_of (chains_of old)).faults (disk_of (chains_of mid)).faults (disk_of (chains_of new)).faults
              first.cause.later (second.cause.failed is);
        };
        same = looks_then old mid new first.same second.same;
      }

  stored_bad : (pages : List (List ℕ)) (chains : Chains D g) (n at : ℕ) (values : BucketMap) → Stored pages chains n values
      → IsBadChain pages chains n at → ⊥
  stored_bad pages chains n at values stored (inl refused) =
      loaded_refused pages n (first_of chains n) at (map.get (written_of chains) n) stored.bytes stored.loaded refused.0 refused.1
  stored_bad pages chains n at values stored (inr bad) =
      let same = loaded_one pages n (first_of chains n) (map.get (written_of chains) n) stored.bytes bad.0 stored.loaded bad.1 in
      bad.2 (map.entries values) (subst (λ (l : List ℕ). IsBucket (bucket_count chains) (bucket_in n) l (map.entries values)) same
      stored.spells)

  -- of a bucket that is bad the transaction has no records
  pub content_bad : (pages : List (List ℕ)) (buckets : Buckets D g) (n at : ℕ) (values : BucketMap) → Content pages buckets n values
      → IsBad pages buckets n at → ⊥
  content_bad pages buckets n at values content bad =
      stored_bad pages (chains_of buckets) n at values
      (subst (λ (o : Option Cached). MatchOption o (Stored pages (chains_of buckets) n values) (λ own. own.bucket.values ≡ values)) bad.0
      content) bad.1

  -- a chain that is bad was so before
  chain_before : (pages : List (List ℕ)) (old new : Chains D g) (n at : ℕ) → OnlyRead old new → IsBadChain pages new n at
      → IsBadChain pages old n at
  chain_before pages old new n at stays (inl refused) =
      inl (
        ap (λ (l : Lists). map.get l n) (sym stays.written) ∙ refused.0,
        subst (λ (k : Kept). IsRefused pages n (kept_first k n) at) stays.kept refused.1,
      )
  chain_before pages old new n at stays (inr bad) =
      inr (
        bad.0,
        subst (λ (l : Lists). LoadedIs pages n (first_of old n) (map.get l n) bad.0) stays.written
            (subst (λ (k : Kept). LoadedIs pages n (kept_first k n) (map.get (written_of new) n) bad.0) stays.kept bad.1),
        λ records is. bad.2 records (subst (λ (r : Root). IsBucket r.buckets (bucket_in n) bad.0 records) (sym stays.root) is),
        bad.3 ∙ ap (λ (k : Kept). kept_first k n) stays.kept,
      )

  -- and so was a bucket, where each that the transaction had it has still
  pub bad_before : (pages : List (List ℕ)) (old new : Buckets D g) (n at : ℕ) → OnlyRead (chains_of old) (chains_of new)
      → ((values : BucketMap) → Content pages old n values → (later : BucketMap) × Content pages new n later) → IsBad pages new n at
      → IsBad pages old n at
  bad_before pages old new n at stays keeps bad =
      elim (map.get (cached_of old) n) as (λ found. map.get (cached_of old) n ≡ found → IsBad pages old n at) [
        | None ↦ λ none. (none, chain_before pages (chains_of old) (chains_of new) n at stays bad.1)
        | Some own ↦ λ is.
            let still = keeps own.bucket.values
            (subst (λ (o : Option Cached). MatchOption o (Stored pages (chains_of old) n own.bucket.values)
            (λ held. held.bucket.values ≡ own.bucket.values)) (sym is) refl) in
            absurd (content_bad pages new n at still.0 still.1 bad)
      ] refl

  -- A value is set or taken out.
  pub sets_some : (which key : ℕ) (bytes : List ℕ) (old new : Buckets D g) (result : Result (Unit {0}) StoreFault)
      → SetsValue which key bytes old new result → SetsBytes which key (Some bytes) old new result
  sets_some which key bytes old new result sets = record { answers = sets.answers; has = sets.has; sound = sets.sound }

  pub takes_ok : (which key : ℕ) (old new : Buckets D g) (was : Bool) → TakesValue which key old new (Ok was)
      → SetsBytes which key None old new (Ok tt)
  takes_ok which key old new was takes = record {
    answers = λ pages opens. tt;
    has = λ rest now has. (takes.has rest now has).1;
    sound = λ rest now has. tt;
  }

  brings_of : (T U : Type 0) (pages : List (List ℕ)) (buckets : Buckets D g) (n : ℕ) (fault : StoreFault)
      → BringsBucket {T = T} pages buckets n (Err fault) → BringsBucket {T = U} pages buckets n (Err fault)
  brings_of T U pages buckets n refusals.NotFormatted is = is
  brings_of T U pages buckets n refusals.NotEmpty is = is
  brings_of T U pages buckets n (refusals.BadStore page) is = is
  brings_of T U pages buckets n refusals.DiskFault is = is
  brings_of T U pages buckets n (refusals.StoreFull many) is = is
  brings_of T U pages buckets n refusals.Broken is = is
  brings_of T U pages buckets n refusals.OutOfMemory is = is

  pub takes_err : (which key : ℕ) (old new : Buckets D g) (fault : StoreFault) → TakesValue which key old new (Err fault)
      → SetsBytes which key None old new (Err fault)
  takes_err which key old new fault takes = record {
    answers = λ pages opens. brings_of Bool (Unit {0}) pages old (bucket_at old which key) fault (takes.answers pages opens);
    has = tt;
    sound = λ rest now has. sound_of Bool (Unit {0}) fault (takes.sound rest now has);
  }

  -- A row is turned: the rows of its key are got, and then others are set.
  turns_of : (definitions : List TableDef) (pages : List (List ℕ)) (buckets : Buckets D g) (which key : ℕ) (fault : StoreFault)
      → Gets rows_bytes (AreRows definitions) pages buckets which key (Err fault) → MayTurn definitions pages buckets which key (Err fault)
  turns_of definitions pages buckets which key refusals.NotFormatted is = is
  turns_of definitions pages buckets which key refusals.NotEmpty is = is
  turns_of definitions pages buckets which key (refusals.BadStore page) is = is
  turns_of definitions pages buckets which key refusals.DiskFault is = is
  turns_of definitions pages buckets which key (refusals.StoreFull many) is = is
  turns_of definitions pages buckets which key refusals.Broken is = is
  turns_of definitions pages buckets which key refusals.OutOfMemory is = is

  -- they are not got
  module _ (definitions : List TableDef) (spot : SpotOf) (row : Option Row) (old new : Buckets D g) where
    abbrev which : ℕ
    which = map_of spot.key.kind

    abbrev number : ℕ
    number = row_key spot.key.kind spot.key.id

    got_sound : (rest now : Image) (tables : TableMap) → HoldsTables definitions now.maps tables → (result : Result (Option (List TableRow)) StoreFault)
        → GetsValue rows_bytes (AreRows definitions) which number old new result → Has rest now old → IsSoundAnswer result
    got_sound rest now tables holds result gets has =
        let held = kind_held definitions now tables row holds spot.key.kind in
        gets.sound rest now held.0 has held.1

    pub not_got : (fault : StoreFault)
        → ((pages : List (List ℕ)) → IsOpenStore pages old → Gets rows_bytes (AreRows definitions) pages old which number (Err fault))
        → GetsValue rows_bytes (AreRows definitions) which number old new (Err fault) → SetsRow definitions spot row old new (Err fault)
    not_got fault answers gets = record {
      answers = λ pages opens. turns_of definitions pages old which number fault (answers pages opens);
      has = tt;
      tables = tt;
      sound = λ rest now tables has holds.
          sound_of (Option (List TableRow)) (Unit {0}) fault (got_sound rest now tables holds (Err fault) gets has);
    }

    -- there is no memory for others
    pub no_room : SetsRow definitions spot row old new (Err refusals.OutOfMemory)
    no_room = record { answers = λ pages opens. tt; has = tt; tables = tt; sound = λ rest now tables has holds. tt }

  -- they are got, and others are set
  module _ (definitions : List TableDef) (spot : SpotOf) (row : Option Row) (old mid new : Buckets D g)
      (found : Option (List TableRow)) (rows : List TableRow) (is : rows ≡ turned (kept_rows found) spot.table row)
      (gets : GetsValue rows_bytes (AreRows definitions) (map_of spot.key.kind) (row_key spot.key.kind spot.key.id) old mid (Ok found))
      (stays : OnlyRead (chains_of old) (chains_of mid)) (opens : (pages : List (List ℕ)) → IsOpenStore pages old → IsOpenStore pages mid) where
    abbrev at_map : ℕ
    at_map = map_of spot.key.kind

    abbrev at_key : ℕ
    at_key = row_key spot.key.kind spot.key.id

    set_answers : (result : Result (Unit {0}) StoreFault) (pages : List (List ℕ)) → IsOpenStore pages old
        → BringsBucket pages mid (bucket_at mid at_map at_key) result → MayTurn definitions pages old at_map at_key result
    set_answers (Ok done) pages was brings = tt
    set_answers (Err refusals.NotFormatted) pages was brings = tt
    set_answers (Err refusals.NotEmpty) pages was brings = tt
    set_answers (Err (refusals.BadStore page)) pages was brings =
        let same = at_same old mid at_map at_key stays in
        inl (bad_before pages old mid (bucket_at old at_map at_key) page stays
        (λ values had. (values, gets.keeps.content pages was (bucket_at old at_map at_key) values had))
        (subst (λ (n : ℕ). IsBad pages mid n page) same brings))
    set_answers (Err refusals.DiskFault) pages was brings = tt
    set_answers (Err (refusals.StoreFull many)) pages was brings = tt
    set_answers (Err refusals.Broken) pages was brings = tt
    set_answers (Err refusals.OutOfMemory) pages was brings = tt

    set_sound : (result : Result (Unit {0}) StoreFault) → SetsBytes at_map at_key (option_map rows_bytes (unless_empty rows)) mid new result
        → (rest now : Image) → Has rest now old → IsSoundAnswer result
    set_sound result sets rest now has = sets.sound rest now (gets.keeps.has refl rest now has)

    has_turned : (rest now : Image) → Has rest now old
        → ((rest now : Image) → Has rest now mid → Has rest (with_value at_map at_key (option_map rows_bytes (unless_empty rows)) now) new)
        → Has rest (with_value at_map at_key (turned_bytes found spot.table row) now) new
    has_turned rest now has sets =
        subst (λ (l : List TableRow). Has rest (with_value at_map at_key (option_map rows_bytes (unless_empty l)) now) new) is
        (sets rest now (gets.keeps.has refl rest now has))

    pub row_set : IsId spot.key.id → (result : Result (Unit {0}) StoreFault)
        → SetsBytes at_map at_key (option_map rows_bytes (unless_empty rows)) mid new result → OnOk result (MaySpell definitions rows)
        → SetsRow definitions spot row old new result
    row_set good (Err fault) sets may = record {
      answers = λ pages was. set_answers (Err fault) pages was (sets.answers pages (opens pages was));
      has = tt;
      tables = tt;
      sound = λ rest now tables has holds. set_sound (Err fault) sets rest now has;
    }
    row_set good (Ok done) sets may = record {
      answers = λ pages was. tt;
      has = λ rest now has. (found, gets.bytes rest now has, has_turned rest now has sets.has);
      tables = λ rest now tables has holds.
          let same = read_rows_are definitions now tables row holds spot.key.kind spot.key.id found (gets.bytes rest now has) in
          let had = row_maps holds.node_rows holds.other_rows in (
            turned_bytes found spot.table row,
            has_turned rest now has sets.has,
            subst (λ (o : Option (List TableRow)). HoldsTables definitions (with_value at_map at_key (turned_bytes o spot.table row) now).maps
                (with_row tables spot row)) (sym same)
                (tables_turned definitions now tables row holds spot.table spot.key.kind spot.key.id good
                (subst (λ (o : Option (List TableRow)). MaySpell definitions (turned (kept_rows o) spot.table row)) same
                (subst (λ (l : List TableRow). MaySpell definitions l) is may))),
          );
      sound = λ rest now tables has holds. tt;
    }
