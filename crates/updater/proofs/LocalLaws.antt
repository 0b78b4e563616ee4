-- How much of its store an append reads, turn by turn.
use Rattle.std.proofs.Common.{◌≡◌, ◌≢◌, ◌≤◌, ◌+◌, ◌-◌, ℕ, Option, None, List, [], ◌∷◌, length, Result, Ok, Err, OnOk, refl, sym, ◌∙◌, subst}
use Rattle.std.proofs.Common.{arith}
use Rattle.std.specs.Result.{result_err}
use Rattle.osm_base.specs.declared.values.object.Entry.{Entry}
use Rattle.outside.specs.Bytes.{IfTold, IsTold}
use Rattle.std.proofs.lemmas.Option.{same_Some}
use Rattle.outside.specs.Disk.{DiskView, Only, ReadLog, Tells}
use Rattle.outside.specs.Inputs.{FilesView}
use Rattle.outside.specs.Sink.{SinkView}
use Rattle.outside.specs.declared.disk.Disk.{Ghosts}
use Rattle.page_journal.specs.Crash.{IsAtRest}
use Rattle.page_journal.specs.Pages.{gate}
use Rattle.page_journal.specs.declared.layout.TheConstants.{OPEN}
use Rattle.chain_store.specs.Kept.{page_total}
use Rattle.chain_store.specs.Reads.{pages_read}
use Rattle.tile_cover.specs.Table.{BoundsOf}
use Rattle.store_maps.specs.Asked.{May}
use Rattle.update_step.specs.Touch.{MayTouch}
use Rattle.update_flow.specs.AtRest.{IsAt, OpensAs}
use Rattle.update_flow.specs.ChangeReads.{ReadsTouched}
use Rattle.update_flow.specs.Handle.{Handle, IsOpen, view_of}
use Rattle.update_flow.specs.OpeningReads.{ReadsToOpen}
use Rattle.update_flow.specs.Stands.{StandsFor}
use Rattle.update_flow.specs.State.{Holding, State, imported, changed}
use Rattle.update_flow.specs.Updater.{disk_of, handle_of}
use Rattle.update_flow.specs.declared.updater.Updater.{Updater}
use Rattle.run_promise.specs.declared.files.Files.{Files}
use Rattle.run_promise.specs.Files.{IsBounds, IsChange}
use Rattle.updater.specs.FileReads.{IsRead}
use Rattle.run_promise.specs.Locality.{AppendsAll, AppendsThere, HoldChanges, IsLocal, IsNextStore, IsStore, MoreReads, ReadsEach}
use Rattle.updater.specs.Versions.{AppendsHere, AppendsSoFar, ReadsOne}
use Rattle.run_promise.specs.World.{World, world}

pub on_ok_so : {T E : Type 0} (result : Result T E) (P Q : Type 0) → (P → Q) → OnOk result P → OnOk result Q
on_ok_so (Ok value) P Q f own = f own
on_ok_so (Err fault) P Q f own = tt

more_reads : (one two : ℕ) (first second third : Option ReadLog) → MoreReads one first second → MoreReads two second third
    → MoreReads (one + two) first third
more_reads one two first second third f g = λ log is.
    let here = f log is in
    let there = g here.0 here.1 in
    let low = here.2 in
    let high = there.2 in
    (there.0, there.1, omega (arith, low, high))

-- no change costs nothing
pub reads_none : (bounds : BoundsOf) (pages : List (List ℕ)) (held : Holding) (log : Option ReadLog)
    → ReadsEach bounds pages held [] log log
reads_none bounds pages held log = λ mays touch. (0, refl, λ first is. (first, is, omega arith))

-- a change, and those behind it
reads_more : (bounds : BoundsOf) (held : Holding) (change : List Entry) (changes : List (List Entry)) (pages next : List (List ℕ))
    (first second third : Option ReadLog)
    → ReadsOne held change pages first second → IsNextStore pages next (changed bounds change held)
    → ReadsEach bounds next (changed bounds change held) changes second third
    → ReadsEach bounds pages held (change ∷ changes) first third
reads_more bounds held change changes pages next first second third one is later = λ mays touch.
    let here = one (mays 0) touch.0 in
    let there = later (λ place. mays (place + 1)) touch.1 in
    (here.0 + there.0, (here.0, there.0, next, here.1, is, there.1, refl), more_reads here.0 there.0 first second third here.2 there.2)

-- what one change costs
pub reads_one : (held : Holding) (change : List Entry) (pages : List (List ℕ)) (before after : DiskView)
    → ((may : May) → MayTouch held.style held.objects change may → (pages : List (List ℕ)) → IsAtRest pages before
    → ReadsTouched may held.buckets pages before after)
    → IsAtRest pages before → ReadsOne held change pages before.reads after.reads
reads_one held change pages before after reads rests = λ may touch.
    let own = reads may touch pages rests in (
      pages_read own.2.read + length own.2.free,
      record {
        kept = own.0;
        keeps = own.1;
        read = own.2.read;
        each = own.2.each;
        are = own.2.are;
        free = own.2.free;
        is_free = own.2.is_free;
        is = refl;
      },
      own.2.count,
    )

-- a store at rest has home pages
store_at : (held : Holding) (view : DiskView) → IsAt (imported held) view
    → (pages : List (List ℕ)) × IsStore pages held × IsAtRest pages view
unfolding StandsFor
store_at held view at =
    let home = at.stands.2.state.home in (
      at.stands.2.state.pages,
      record { bytes = at.bytes; home = home; stands = at.stands },
      (at.bytes, record { told = at.told; only = at.only; shut = at.shut; home = home }),
    )

-- nothing is appended yet
pub appends_begin : (bounds : BoundsOf) (held : Holding) (pages : List (List ℕ)) (first : ℕ) (files : FilesView) (store : Handle)
    → IsOpen (imported held) store
    → IsAtRest pages (view_of store) → AppendsSoFar bounds held pages first first files files store store
appends_begin bounds held pages first files store is rests = record {
  at = held;
  opened = is;
  here = pages;
  rests = rests;
  others = λ other from. refl;
  leads = λ later last hold reads. (later, omega arith, hold, reads);
}

-- one more is
pub appends_next : (bounds : BoundsOf) (held : Holding) (pages : List (List ℕ)) (first file : ℕ) (files now read : FilesView)
    (before store after : Handle)
    → AppendsSoFar bounds held pages first file files now before store
    → ((at : Holding) (here : List (List ℕ)) → IsOpen (imported at) store → IsAtRest here (view_of store)
    → AppendsHere bounds at here file now read store after)
    → AppendsSoFar bounds held pages first (file + 1) files read before after
appends_next bounds held pages first file files now read before store after so next =
    let one = next so.at so.here so.opened so.rests in
    let left = store_at (changed bounds one.change so.at) (view_of after) one.opened.at_rest in
    record {
      at = changed bounds one.change so.at;
      opened = one.opened;
      here = left.0;
      rests = left.2;
      others = λ other from. one.others other (λ is. absurd (let two : other ≡ file = is in omega (arith, from, two)))
          ∙ so.others other (omega (arith, from));
      leads = λ later last hold reads.
          let led = so.leads (one.change ∷ later) last (
            subst (λ (told : Option (List ℕ)). IfTold told (λ bytes. IsChange file bytes (Ok one.change)))
                (so.others file (omega arith)) one.accepted,
            hold,
          )
          (reads_more bounds so.at one.change later so.here left.0 (view_of store).reads (view_of after).reads last one.reads
          (record { store = left.1; needed = one.needed left.0 left.2 }) reads) in
          (led.0, (let many = led.1 in omega (arith, many)), led.2, led.3);
    }

-- all are
pub appends_end : (bounds : BoundsOf) (held : Holding) (pages : List (List ℕ)) (first count file : ℕ) (files now : FilesView)
    (before after : Handle) → file ≡ first + count
    → AppendsSoFar bounds held pages first file files now before after
    → AppendsThere bounds held pages first count files (view_of before).reads (view_of after).reads
appends_end bounds held pages first count file files now before after end so =
    let led = so.leads [] (view_of after).reads tt (reads_none bounds so.here so.at (view_of after).reads) in
    record { changes = led.0; many = (let many = led.1 in omega (arith, many, end)); hold = led.2; reads = led.3 }

-- what files hold that were not touched meanwhile
hold_back : (old new : FilesView) (file : ℕ) (changes : List (List Entry)) → ((other : ℕ) → file ≤ other → new.left other ≡ old.left other)
    → HoldChanges new file changes → HoldChanges old file changes
hold_back old new file [] same hold = tt
hold_back old new file (change ∷ changes) same hold = (
  subst (λ (told : Option (List ℕ)). IfTold told (λ bytes. IsChange file bytes (Ok change))) (same file (omega arith)) hold.0,
  hold_back old new (file + 1) changes (λ other from. same other (omega (arith, from))) hold.1,
)

-- behind the reading of the boundaries
pub appends_all : (own : Files) (held : Holding) (pages : List (List ℕ)) (bounds : BoundsOf) (old read : FilesView)
    (before after : Option ReadLog)
    → IsRead (IsBounds own.first) own.first bounds old read
    → AppendsThere bounds held pages (own.first + 1) (own.count - 1) read before after
    → AppendsAll own held pages old before after
appends_all own held pages bounds old read before after is there = record {
  bounds = bounds;
  accepted = is.accepted;
  there = record {
    changes = there.changes;
    many = there.many;
    hold = hold_back old read (own.first + 1) there.changes
        (λ other from. is.alone.others other (λ same. absurd (let two : other ≡ own.first = same in omega (arith, from, two)))) there.hold;
    reads = there.reads;
  };
}

-- behind the opening
pub local_run : (own : Files) (old new : World) (between : DiskView)
    → ((bytes : List ℕ) (state : State) → Tells old.disk bytes → StandsFor bytes state → OpensAs state None between)
    → ((bytes : List ℕ) (state : State) → Tells old.disk bytes → StandsFor bytes state → gate bytes ≢ OPEN
    → ReadsToOpen bytes old.disk between)
    → ((bytes : List ℕ) → Tells old.disk bytes → gate bytes ≢ OPEN → between.content ≡ old.disk.content)
    → (IsTold old.disk.content → (held : Holding) (pages : List (List ℕ)) → IsAt (imported held) between → IsAtRest pages between
    → AppendsAll own held pages old.files between.reads new.disk.reads) → IsLocal own old new
local_run own old new between opens once same all = λ bytes held pages told shut stands home.
    let at = (opens bytes (imported held) told stands).found refl in
    let cost = once bytes (imported held) told stands shut in
    let count = 2 + page_total cost.directories + length cost.style in
    let rests : IsAtRest pages between = (
      bytes,
      record {
        told = same bytes told shut ∙ told;
        only = subst (λ (b : List ℕ). Only b between.crashes)
            (same_Some at.bytes bytes (sym at.told ∙ same bytes told shut ∙ told)) at.only;
        shut = shut;
        home = home;
      },
    ) in (
      between.reads,
      (
        count,
        record {
          pages = cost.pages;
          home = cost.home;
          directories = cost.directories;
          eight = cost.eight;
          are = cost.are;
          style = cost.style;
          has = cost.has;
          is = refl;
        },
        λ first is. (let log = cost.count first is in (log.0, log.1, log.2)),
      ),
      all (bytes, told) held pages at rests,
    )

-- the same over the disk that was opened, and that is handed back
pub local_over : {D : Type 0} {g : Ghosts D} (own : Files) (files : FilesView) (view : DiskView) (output : SinkView) (disk : D)
    (updater : Updater D g) → disk_of updater ≡ disk
    → ((bytes : List ℕ) (state : State) → Tells view bytes → StandsFor bytes state → OpensAs state None (g.view disk))
    → ((bytes : List ℕ) (state : State) → Tells view bytes → StandsFor bytes state → gate bytes ≢ OPEN
    → ReadsToOpen bytes view (g.view disk))
    → ((bytes : List ℕ) → Tells view bytes → gate bytes ≢ OPEN → (g.view disk).content ≡ view.content)
    → (IsTold view.content → (state : State) → IsAt state (g.view disk) → IsOpen state (handle_of updater))
    → (final : Updater D g) (last : D) → last ≡ disk_of final → (now : FilesView) (told : SinkView)
    → ((held : Holding) (pages : List (List ℕ)) → IsOpen (imported held) (handle_of updater) → IsAtRest pages (view_of (handle_of updater))
    → AppendsAll own held pages files (view_of (handle_of updater)).reads (view_of (handle_of final)).reads)
    → IsLocal own (world files view output) (world now (g.view last) told)
local_over {D} {g} own files view output disk updater taken opens once same open_so final last closed now told all =
    local_run own (world files view output) (world now (g.view last) told) (g.view disk) opens once same (λ before held pages at rests.
    subst (λ (d : D). AppendsAll own held pages files (g.view disk).reads (g.view d).reads) (sym closed)
    (subst (λ (d : D). AppendsAll own held pages files (g.view d).reads (g.view (disk_of final)).reads) taken
    (all held pages (open_so before (imported held) at) (subst (λ (d : D). IsAtRest pages (g.view d)) (sym taken) rests))))

pub where_done : {T E : Type 0} (result : Result T E) (P : Type 0) → OnOk result P → result_err result ≡ None → P
where_done (Ok value) P own none = own
where_done (Err fault) P own none = absurd (cc)
