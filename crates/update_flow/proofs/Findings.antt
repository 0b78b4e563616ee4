-- What is found in the buckets of a store is what the maps have that these hold.
use Rattle.std.proofs.Common.{◌≡◌, ℕ, Bool, List, Option, None, Result, Ok, Err, IfOk, OnOk, refl, sym, ap, subst, ◌∙◌, ◌||◌, true, false}
use Rattle.std.proofs.Common.{arith}
use Rattle.std.specs.FinMap as finite
use Rattle.std.specs.Result.{IsErrOf}
use Rattle.osm_base.specs.declared.values.key.Kind.{Kind}
use Rattle.osm_base.specs.declared.values.key.Kind.TheVariants as kinds
use Rattle.osm_base.specs.declared.values.object.Object.{Object}
use Rattle.osm_base.specs.declared.values.row.TableRow.{TableRow}
use Rattle.outside.specs.declared.disk.Disk.{Ghosts}
use Rattle.page_journal.specs.declared.fault.StoreFault.{StoreFault}
use Rattle.page_journal.specs.declared.fault.StoreFault.TheVariants.{NotFormatted, NotEmpty, BadStore, DiskFault, StoreFull, Broken}
use Rattle.page_journal.specs.declared.fault.StoreFault.TheVariants.{OutOfMemory}
use Rattle.page_journal.specs.Journal.{is_broken}
use Rattle.chain_store.specs.Answers.{IsReadAnswer}
use Rattle.chain_store.specs.Chains.{disk_of, journal_of}
use Rattle.chain_store.specs.declared.chains.Chains.{Chains}
use Rattle.style_read.specs.declared.style.TableDef.{TableDef}
use Rattle.bucket_store.specs.Image.{Has, Image, IsSoundAnswer}
use Rattle.bucket_store.specs.Transaction.{chains_of, has_refused}
use Rattle.bucket_store.specs.Typed.{GetsValue, Touches}
use Rattle.bucket_store.specs.declared.buckets.Buckets.{Buckets}
use Rattle.bucket_store.proofs.TypedLaws.{read_same}
use Rattle.value_bytes.specs.Nodes.{record_bytes, IsRecord}
use Rattle.value_bytes.specs.declared.nodes.NodeRecord.{NodeRecord}
use Rattle.middle_objs.specs.Maps.{map_of}
use Rattle.value_bytes.specs.Objects.{object_bytes, IsStored}
use Rattle.store_maps.specs.Asked.{row_key}
use Rattle.row_store.specs.Maps.{map_of as rows_map_of}
use Rattle.row_store.specs.Rows.{rows_bytes, AreRows}
use Rattle.back_index.specs.Asking.{reads_none}
use Rattle.back_index.specs.Calls.{IsAnswered}
use Rattle.back_index.specs.Ids.{ids_bytes, AreListed}
use Rattle.back_index.specs.Reads.{HasReadOnly, ReadsBuckets}
use Rattle.back_index.specs.Relisting.{IsUnread, ReadsIds}
use Rattle.back_index.specs.Visits.{Refuses}
use Rattle.back_index.proofs.Held.{decoded_reads, reads_one}
use Rattle.back_index.proofs.ReadKeys.{reads_result}
use Rattle.back_index.proofs.Reading.{refuses_more, unread_not}
use Rattle.value_bytes.specs.Maps.{HoldsMap}
use Rattle.object_fold.specs.Listing.{ListingOf, listers}
use Rattle.update_flow.specs.maps.Calls.{IsAllowed}
use Rattle.update_flow.specs.maps.Laws.{allowed_of}
use Rattle.store_maps.specs.Asked.{May}
use Rattle.store_maps.specs.Maps.{Maps, object_in, rows_at, way_or_relation_in}
use Rattle.update_flow.specs.maps.Held.{Beside, HasMaps}
use Rattle.update_flow.specs.maps.Touched.{Asks, Finds, Touched}

-- an answer of one call is one of another
pub sound_of : (T U : Type 0) (fault : StoreFault) → IsSoundAnswer {T = T} (Err fault) → IsSoundAnswer {T = U} (Err fault)
sound_of T U NotFormatted is = is
sound_of T U NotEmpty is = is
sound_of T U (BadStore page) is = is
sound_of T U DiskFault is = is
sound_of T U (StoreFull pages) is = is
sound_of T U Broken is = is
sound_of T U OutOfMemory is = is

alone_of : (T U : Type 0) (broken : Bool) (fault : StoreFault) → IsReadAnswer {T = T} broken (Err fault)
    → IsReadAnswer {T = U} broken (Err fault)
alone_of T U broken NotFormatted is = is
alone_of T U broken NotEmpty is = is
alone_of T U broken (BadStore page) is = is
alone_of T U broken DiskFault is = is
alone_of T U broken (StoreFull pages) is = is
alone_of T U broken Broken is = is
alone_of T U broken OutOfMemory is = is

or_none : (b : Bool) → (b || false) ≡ b
or_none true = refl
or_none false = refl

err_of : (T U : Type 0) (fault other : StoreFault) → IsErrOf {T = U} (Err fault) other → IsErrOf {T = T} (Err fault) other
err_of T U fault other is = let same : fault ≡ other = cc (is) in λ i. Err (same i)

-- of a node there is no form
pub node_none : (maps : Maps) (kind : Kind) (id : ℕ) → kind ≡ kinds.Node → None ≡ way_or_relation_in maps kind id
node_none maps kind id is = subst (λ (k : Kind). None ≡ way_or_relation_in maps k id) (sym is) refl

-- of a key that is none of a node the form is the object
pub object_form : (maps : Maps) (kind : Kind) (id : ℕ) → (kind ≡ kinds.Node → ⊥) → way_or_relation_in maps kind id ≡ object_in maps kind id
object_form maps kinds.Node id apart = absurd (apart refl)
object_form maps kinds.Way id apart = refl
object_form maps kinds.Relation id apart = refl

-- a list of the index that maps hold
module _ (now : Image) (which id : ℕ) (listing : ListingOf) (held : HoldsMap ids_bytes AreListed (now.maps which) listing) where
  pub list_found : (ids : List ℕ) → ReadsIds (finite.get (now.maps which) id) ids → ids ≡ listers listing id
  list_found ids reads = reads_one (finite.get (now.maps which) id) ids (finite.get listing id) reads (held id)

  pub list_allowed : (page : ℕ) (fault : StoreFault) → Refuses (λ at. IsUnread (finite.get (now.maps which) id) × (at ≡ page)) fault
      → IsAllowed fault
  list_allowed page fault refuses =
      let none : (at : ℕ) → IsUnread (finite.get (now.maps which) id) × (at ≡ page) → ⊥ = λ at bad.
      unread_not (finite.get (now.maps which) id) (listers listing id) bad.0
      (decoded_reads (finite.get (now.maps which) id) (finite.get listing id) (held id)) in
      allowed_of fault (refuses_more (λ at. IsUnread (finite.get (now.maps which) id) × (at ≡ page)) (λ at. ⊥) none fault refuses)

-- nothing was asked
pub touched_none : {D T : Type 0} {g : Ghosts D} (buckets : Buckets D g) (value : T) → has_refused buckets ≡ false
    → Touched buckets buckets (Ok value)
touched_none buckets value going = record {
  stays = read_same buckets buckets refl;
  alone = tt;
  broken = sym (or_none (is_broken (journal_of (chains_of buckets))));
  refused = going;
  cause = record { later = omega arith; failed = λ is. absurd (cc) };
  reads = reads_none buckets;
}

module _ {D : Type 0} {g : Ghosts D} (old new : Buckets D g) where
  -- a call on a key, by all that it leaves
  pub touched_key : {T : Type 0} (which key : ℕ) (result : Result T StoreFault) → Touches which key old new result → Touched old new result
  touched_key which key result does = record {
    stays = does.stays;
    alone = does.alone;
    broken = does.broken;
    refused = does.refused;
    cause = does.cause;
    reads = reads_result old new which key result does.reads;
  }

  -- a call on the index
  pub touched_index : {T : Type 0} (result : Result T StoreFault) → IsAnswered old new result → OnOk result (ReadsBuckets old new)
      → Touched old new result
  touched_index result does reads = record {
    stays = does.stays;
    alone = does.alone;
    broken = does.broken;
    refused = does.refused;
    cause = does.cause;
    reads = reads;
  }

  pub answers_of : {T : Type 0} (result : Result T StoreFault) → Touched old new result → IsAnswered old new result
  answers_of result does = record {
    stays = does.stays;
    alone = does.alone;
    broken = does.broken;
    refused = does.refused;
    cause =
        does.cause;
  }

  -- an answer of a call, told as one of another
  pub told_ok : {T U : Type 0} (value : T) (other : U) → Touched old new (Ok value) → Touched old new (Ok other)
  told_ok value other does = record {
    stays = does.stays;
    alone = tt;
    broken = does.broken;
    refused = does.refused;
    cause = record { later = does.cause.later; failed = λ is. absurd (cc (is)) };
    reads = does.reads;
  }

  pub told_err : (T U : Type 0) (fault : StoreFault) → Touched {T = T} old new (Err fault) → Touched {T = U} old new (Err fault)
  told_err T U fault does = record {
    stays = does.stays;
    alone = alone_of T U (is_broken (journal_of (chains_of old))) fault does.alone;
    broken = does.broken;
    refused = does.refused;
    cause = record { later = does.cause.later; failed = λ is. does.cause.failed (err_of T U fault DiskFault is) };
    reads = tt;
  }

  -- a transaction that is refused for want of memory
  pub touched_refused : (T : Type 0) → chains_of new ≡ chains_of old → has_refused new ≡ true → Touched {T = T} old new (Err OutOfMemory)
  touched_refused T chains refused = record {
    stays = read_same old new chains;
    alone = tt;
    broken = ap (λ (c : Chains D g). is_broken (journal_of c)) chains ∙ sym (or_none (is_broken (journal_of (chains_of old))));
    refused = refused;
    cause = record { later = omega (arith, ap (λ (c : Chains D g). (disk_of c).faults) chains); failed = λ is. absurd (cc) };
    reads = tt;
  }

  pub found_has : {V : Type 0} (spell : V → List ℕ) (Is : V → Type 0) (which key : ℕ) (result : Result (Option V) StoreFault)
      → GetsValue spell Is which key old new result → OnOk result ((rest now : Image) → Has rest now old → Has rest now new)
  found_has spell Is which key (Ok found) gets = gets.keeps.has refl
  found_has spell Is which key (Err fault) gets = tt

  -- a value that is found by one call on a key
  pub asks_key : {V : Type 0} (spell : V → List ℕ) (Is : V → Type 0) (which key : ℕ) (result : Result (Option V) StoreFault)
      → GetsValue spell Is which key old new result → Touches which key old new result → (Keys : May → Type 0)
      → ((may : May) → Keys may → HasReadOnly may old → HasReadOnly may new) → Asks Keys old new result
  asks_key spell Is which key result gets does Keys within = record {
    has = found_has spell Is which key result gets;
    within = within;
    touched = touched_key which key result does;
  }

  -- the way or the relation of a key
  pub way_or_relation_finds : (definitions : List TableDef) (kind : Kind) (id : ℕ) (result : Result (Option Object) StoreFault)
      → (kind ≡ kinds.Node → ⊥)
      → GetsValue object_bytes (IsStored kind) (map_of kind) id old new result
      → Finds definitions (λ maps. way_or_relation_in maps kind id) old result
  way_or_relation_finds definitions kinds.Node id result apart gets = absurd (apart refl)
  way_or_relation_finds definitions kinds.Way id (Ok found) apart gets = record {
    found = λ under maps had. gets.value under.rest had.now maps.ways had.has had.kept.ways;
    sound = λ under maps had. tt;
  }
  way_or_relation_finds definitions kinds.Way id (Err fault) apart gets = record {
    found = tt;
    sound = λ under maps had. gets.sound under.rest had.now maps.ways had.has had.kept.ways;
  }
  way_or_relation_finds definitions kinds.Relation id (Ok found) apart gets = record {
    found = λ under maps had. gets.value under.rest had.now maps.relations had.has had.kept.relations;
    sound = λ under maps had. tt;
  }
  way_or_relation_finds definitions kinds.Relation id (Err fault) apart gets = record {
    found = tt;
    sound = λ under maps had. gets.sound under.rest had.now maps.relations had.has had.kept.relations;
  }

  -- what is kept of a node
  pub record_found : (id : ℕ) (found : Option NodeRecord) → GetsValue record_bytes IsRecord 0 id old new (Ok found)
      → (definitions : List TableDef) (under : Beside) (maps : Maps) → HasMaps definitions under maps old → found ≡ finite.get maps.nodes id
  record_found id found gets definitions under maps had = gets.value under.rest had.now maps.nodes had.has had.kept.nodes

  pub record_sound : (T : Type 0) (id : ℕ) (fault : StoreFault) → GetsValue record_bytes IsRecord 0 id old new (Err fault)
      → (definitions : List TableDef) (under : Beside) (maps : Maps) → HasMaps definitions under maps old
      → IsSoundAnswer {T = T} (Err fault)
  record_sound T id fault gets definitions under maps had =
      sound_of (Option NodeRecord) T fault (gets.sound under.rest had.now maps.nodes had.has had.kept.nodes)

  -- the rows of a key
  module _ (definitions : List TableDef) where
    rows_found : (kind : Kind) (id : ℕ) (result : Result (Option (List TableRow)) StoreFault)
        → GetsValue rows_bytes (AreRows definitions) (rows_map_of kind) (row_key kind id) old new result
        → IfOk result (λ found. (under : Beside) (maps : Maps) → HasMaps definitions under maps old → found ≡ rows_at maps kind id)
    rows_found kind id (Err fault) gets = tt
    rows_found kinds.Node id (Ok found) gets = λ under maps had. gets.value under.rest had.now maps.node_rows had.has had.kept.node_rows
    rows_found kinds.Way id (Ok found) gets = λ under maps had. gets.value under.rest had.now maps.other_rows had.has had.kept.other_rows
    rows_found kinds.Relation id (Ok found) gets =
        λ under maps had. gets.value under.rest had.now maps.other_rows had.has had.kept.other_rows

    rows_sound : (kind : Kind) (id : ℕ) (result : Result (Option (List TableRow)) StoreFault)
        → GetsValue rows_bytes (AreRows definitions) (rows_map_of kind) (row_key kind id) old new result
        → (under : Beside) (maps : Maps) → HasMaps definitions under maps old → IsSoundAnswer result
    rows_sound kinds.Node id result gets under maps had = gets.sound under.rest had.now maps.node_rows had.has had.kept.node_rows
    rows_sound kinds.Way id result gets under maps had = gets.sound under.rest had.now maps.other_rows had.has had.kept.other_rows
    rows_sound kinds.Relation id result gets under maps had = gets.sound under.rest had.now maps.other_rows had.has had.kept.other_rows

    pub rows_finds : (kind : Kind) (id : ℕ) (result : Result (Option (List TableRow)) StoreFault)
        → GetsValue rows_bytes (AreRows definitions) (rows_map_of kind) (row_key kind id) old new result
        → Finds definitions (λ maps. rows_at maps kind id) old result
    rows_finds kind id result gets = record { found = rows_found kind id result gets; sound = rows_sound kind id result gets }
