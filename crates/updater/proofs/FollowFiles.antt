-- A file of a feed is followed block by block, and file after file.
use Rattle.std.proofs.Common.{◌≡◌, ◌≤◌, ◌<◌, ◌+◌, ◌⊎◌, ℕ, suc, true, false, Bool, Option, Some, None, Result, Ok, Err, List}
use Rattle.std.proofs.Common.{[], ◌∷◌, ◌++◌, length}
use Rattle.std.proofs.Common.{inl, inr, refl, sym, ◌∙◌, ap, subst, arith}
use Rattle.std.specs.Prelude.{IfSome}
use Rattle.osm_base.specs.bounds.Limits.{standard}
use Rattle.osm_base.specs.declared.bounds.limits.LimitNumbers.{LimitNumbers}
use Rattle.outside.specs.Bytes.{BothKnown, IfTold}
use Rattle.outside.specs.Causes.{Rose}
use Rattle.outside.specs.Inputs.{FilesView}
use Rattle.outside.specs.Sink.{SinkView}
use Rattle.outside.specs.Reads.{IsReadAlone, ReadsNoOther}
use Rattle.opl_lines.specs.Lines.{lines_of}
use Rattle.opl_lines.proofs.LineLemmas.{lines_of-some}
use Rattle.style_read.specs.Style.{StyleOf}
use Rattle.delta_feed.specs.Blocks.{Comes as ComeTo, nothing, refused, whole}
use Rattle.delta_feed.specs.Feeding.{GivesBlock, IsGoing, lines_left}
use Rattle.delta_feed.proofs.Known.{reads_on}
use Rattle.delta_feed.specs.Stops.{Stops}
use Rattle.delta_feed.specs.declared.block.Block.{Block}
use Rattle.delta_feed.specs.declared.block.Block.TheVariants as blocks
use Rattle.delta_feed.specs.declared.block.Stage.TheVariants as stages
use Rattle.delta_feed.specs.declared.fault.FeedFault.{FeedFault}
use Rattle.delta_feed.specs.declared.fault.FeedFault.TheVariants as feed
use Rattle.delta_feed.specs.declared.reader.FeedReader.{FeedReader}
use Rattle.update_flow.specs.Handle.{Handle, style_of, view_of}
use Rattle.update_flow.specs.State.{State, formatted, imported, outdated, following, Follow, after, style_in}
use Rattle.run_promise.specs.declared.fault.Fault.{Fault}
use Rattle.run_promise.specs.declared.fault.Fault.TheVariants as faults
use Rattle.run_promise.specs.Comes.{Comes, IsOfFeed}
use Rattle.run_promise.specs.Course.{Course, ends}
use Rattle.run_promise.specs.Courses.{follows_files}
use Rattle.run_promise.specs.Followed.{FeedEnd, IsFeed, IsFeedFrom, IsGap, MayComeNext, feed_fault, over, stopped, unseen}
use Rattle.run_promise.specs.Leaves.{HasCause, Leaves}
use Rattle.run_promise.specs.Progress.{Progress, Ending, at_file, past}
use Rattle.run_promise.specs.World.{Before, world}
use Rattle.updater.specs.Following.{FollowsFile, FollowsThen, IsBaseless, IsFirst, IsFollowing, IsLeft}
use Rattle.updater.specs.Following.{IsOfBlock, IsOver}
use Rattle.updater.specs.Following.{IsWithin, MayFollow, TakesBlock, TakesNext}
use Rattle.updater.specs.Heads.{GoesOn, IsHead}
use Rattle.updater.proofs.BaseLaws.{whole_over_none}
use Rattle.updater.proofs.FollowRuns.{follows_on}
use Rattle.updater.proofs.HeadLaws.{ends_here, past_file}
use Rattle.updater.proofs.SoFarLaws as parts
use Rattle.updater.proofs.StoreDeeds.{shows_here}
use Rattle.updater.proofs.VersionRuns.{goes_back}

-- ---- what is left of a file

pub alone_none : (file : ℕ) (files : FilesView) → IsReadAlone file files files
alone_none file files = record { others = λ other not. refl; later = omega arith }

pub alone_more : (file : ℕ) (first second third : FilesView) → IsReadAlone file first second → IsReadAlone file second third
    → IsReadAlone file first third
alone_more file first second third one two = record {
  others = λ other not. two.others other not ∙ one.others other not;
  later = omega (arith, one.later, two.later);
}

-- only this file is asked for
module _ {I : Type 0} (reads : I → List ℕ → I → Type 0) (view : I → FilesView) (file : ℕ) where
  pub read_none : (inputs : I) → reads inputs [] inputs → ReadsNoOther file (λ asked. reads inputs asked inputs) (view inputs) (view
      inputs)
  read_none inputs none = record { asked = (0, none); alone = alone_none file (view inputs) }

  pub read_more : ((first second third : I) (before after : List ℕ) → reads first before second → reads second after third
      → reads first (before ++ after) third)
      → (first second third : I) → ReadsNoOther file (λ asked. reads first asked second) (view first) (view second)
      → ReadsNoOther file (λ asked. reads second asked third) (view second) (view third)
      → ReadsNoOther file (λ asked. reads first asked third) (view first) (view third)
  read_more reads_then first second third one two =
      reads_on reads view file file refl reads_then first second third one two

some_told : (told : Option (List ℕ)) (P : List ℕ → Type 0) → IfSome told P → IfTold told P
some_told told P own = λ bytes is. subst (λ (o : Option (List ℕ)). IfSome o P) is own

-- what was known before is known after
known_after : (left rest : Option (List ℕ)) (P : List ℕ → List ℕ → Type 0) → BothKnown left rest P → (bytes : List ℕ)
    → left ≡ Some bytes → (behind : List ℕ) × (rest ≡ Some behind) × P bytes behind
known_after left rest P both bytes is = by rest (subst (λ (o : Option (List ℕ)). BothKnown o rest P) is both)
  where
    by : (rest : Option (List ℕ)) → BothKnown (Some bytes) rest P → (behind : List ℕ) × (rest ≡ Some behind) × P bytes behind
    by None both = absurd both
    by (Some behind) both = (behind, refl, both)

-- what is known of the bytes before and after where no line is left, and where a block comes first
abbrev NoneLeft : (before after : FeedReader) → (bytes behind : List ℕ) → Type 0
NoneLeft before after bytes behind = (lines_left before bytes ≡ []) × (lines_left after behind ≡ [])

abbrev ComesFirst : State → Block → (before after : FeedReader) → (bytes behind : List ℕ) → Type 0
ComesFirst state block before after bytes behind = ComeTo standard (style_in state) stages.Between before.lines.number
    (lines_left before bytes) (whole block after.lines.number (lines_left after behind))

-- no line is left of no bytes alone
no_bytes : (bytes : List ℕ) → lines_of bytes ≡ [] → bytes ≡ []
no_bytes [] none = refl
no_bytes (byte ∷ bytes) none = absurd
    (let some = lines_of-some (byte ∷ bytes) (omega arith) in
    let zero_is = ap (λ (own : List (List ℕ)). length own) none in omega (arith, some, zero_is))

no_rest : (one other : List ℕ) → one ++ other ≡ [] → other ≡ []
no_rest [] other none = none
no_rest (byte ∷ one) other none = absurd (cc)

-- at the end of a file nothing comes any more
over_comes : (limits : LimitNumbers) (base : Option StyleOf) (number : ℕ) → ComeTo limits base stages.Between number [] nothing
unfolding ComeTo
over_comes limits base number = refl

-- a block that is read comes first
pub first_read : (state : State) (block : Block) (before after : FeedReader) (left rest : Option (List ℕ)) (base : Option StyleOf)
    → before.limits ≡ standard → base ≡ style_in state
    → BothKnown left rest (λ bytes behind. GivesBlock base before after (lines_left before bytes) (lines_left after behind) (Some block))
    → IsFirst state block before after left rest
first_read state block before after left rest base limits same gives = by left rest gives
  where
    by : (left rest : Option (List ℕ))
        → BothKnown left rest (λ bytes behind. GivesBlock base before after (lines_left before bytes) (lines_left after behind) (Some
        block))
        → IsFirst state block before after left rest
    by None rest gives = tt
    by (Some bytes) None gives = absurd gives
    by (Some bytes) (Some behind) gives =
        subst (λ (own : Option StyleOf). ComeTo standard own stages.Between before.lines.number (lines_left before bytes)
        (whole block after.lines.number (lines_left after behind))) same
        (subst (λ (own : LimitNumbers). ComeTo own base stages.Between before.lines.number (lines_left before bytes)
        (whole block after.lines.number (lines_left after behind))) limits gives)

-- the blocks behind it are left behind it
left_behind : (file : ℕ) (state : State) (block : Block) (before after_it : FeedReader) (left rest : Option (List ℕ)) → MayComeNext
    state block
    → IsFirst state block before after_it left rest → (told : List Block) (end : FeedEnd)
    → IsLeft file (after state (Follow block)) after_it rest told end → IsLeft file state before left (block ∷ told) end
left_behind file state block before after_it left rest may first told end fits = λ bytes is.
    let own = known_after left rest (ComesFirst state block before after_it) first bytes is in
    (after_it.lines.number, lines_left after_it own.0, own.2, may, fits own.0 own.1)

-- what is told of a block at which the run ends is left of its file
left_of_block : (file : ℕ) (state : State) (block : Block) (before after_it : FeedReader) (left rest : Option (List ℕ))
    → IsFirst state block before after_it left rest → (told : List Block) (end : FeedEnd) → IsOfBlock file state block told end
    → IsLeft file state before left told end
left_of_block file state block before after_it left rest first told end (inl (none, is)) =
    subst (λ (own : List Block). IsLeft file state before left own end) (sym none)
    (subst (λ (own : FeedEnd). IsLeft file state before left [] own) (sym is) (λ bytes own. tt))
left_of_block file state block before after_it left rest first told end (inr (inl (one, is, may))) =
    subst (λ (own : List Block). IsLeft file state before left own end) (sym one)
    (subst (λ (own : FeedEnd). IsLeft file state before left (block ∷ []) own) (sym is)
    (left_behind file state block before after_it left rest may first [] unseen (λ bytes own. tt)))
left_of_block file state block before after_it left rest first told end (inr (inr (fault, none, is, why))) =
    subst (λ (own : List Block). IsLeft file state before left own end) (sym none)
    (subst (λ (own : FeedEnd). IsLeft file state before left [] own) (sym is)
    (λ bytes own. let known = known_after left rest (ComesFirst state block before after_it) first bytes own in
    by bytes known.0 known.2 why))
  where
    baseless : (state : State) (block : Block) (number later : ℕ) (lines behind : List (List ℕ)) → IsBaseless state block
        → ComeTo standard (style_in state) stages.Between number lines (whole block later behind) → ⊥
    baseless formatted (blocks.Full version style_bytes style rows) number later lines behind own comes = own
    baseless formatted (blocks.Delta delta) number later lines behind own comes =
        whole_over_none standard number later lines behind (blocks.Delta delta) comes
    baseless (imported held) block number later lines behind own comes = own
    baseless (outdated held) block number later lines behind own comes = own
    baseless (following held) block number later lines behind own comes = own

    by : (bytes behind : List ℕ) → ComesFirst state block before after_it bytes behind → IsGap file state block fault ⊎ IsBaseless state block
        → IsFeedFrom file state before.lines.number (lines_left before bytes) [] (stopped fault)
    by bytes behind comes (inl gap) = inr (block, after_it.lines.number, lines_left after_it behind, comes, gap)
    by bytes behind comes (inr none) = absurd
        (baseless state block before.lines.number after_it.lines.number (lines_left before bytes) (lines_left after_it behind) none comes)

-- ---- the next block of a file

module _ (start done : Progress) (state : State) (file : ℕ) (old : Before) (files left read : FilesView) (store : Handle) (output :
    SinkView)
    (alone : IsReadAlone file files left) (more : IsReadAlone file left read)
    (head : IsHead start done state file old files store output) where
  -- the file is not read on, and why
  module _ (before after_it : FeedReader) (limits : before.limits ≡ standard) (base : Option StyleOf) (same : base ≡ style_in state) where
    abbrev Stopped : FeedFault → Type 0
    Stopped fault = TakesNext file (Err (feed_fault file fault)) start done state old files before after_it left read store output

    abbrev IsRefused : FeedFault → List ℕ → Type 0
    IsRefused fault bytes = ComeTo before.limits base stages.Between before.lines.number (lines_left before bytes) (refused fault)

    leaves_so : (fault : Fault) → HasCause old (world read (view_of store) output) (Some fault)
        → Leaves start (at_file file done fault) old (world read (view_of store) output)
    leaves_so fault cause = parts.leaves_file start done file old files (view_of store) output
        (record { unread = head.unread; so_far = head.so_far }) {A = Unit {0}} (λ bytes found. Unit {0}) file (omega arith) read fault
        (alone_more file files left read alone more) cause

    is_refused : (fault : FeedFault) → IfSome (left.left file) (IsRefused fault)
        → IsLeft file state before (left.left file) [] (stopped (feed_fault file fault))
    is_refused fault found = λ bytes is. inl (
      fault,
      subst (λ (own : Option StyleOf). ComeTo standard own stages.Between before.lines.number (lines_left before bytes) (refused fault))
          same
          (subst (λ (own : LimitNumbers). ComeTo own base stages.Between before.lines.number (lines_left before bytes) (refused fault))
          limits (some_told (left.left file) (IsRefused fault) found bytes is)),
      refl,
    )

    -- the run ends with the fault that the lines have
    stops_so : (fault : FeedFault) → IfSome (left.left file) (IsRefused fault) → IsOfFeed file (feed_fault file fault)
        → HasCause old (world read (view_of store) output) (Some (feed_fault file fault)) → Stopped fault
    stops_so fault found own cause = record {
      told = [];
      end = stopped (feed_fault file fault);
      so = is_refused fault found;
      ending = at_file file done (feed_fault file fault);
      for = refl;
      comes = λ count. inr (own, refl);
      leaves = leaves_so (feed_fault file fault) cause;
    }

    pub not_read : (fault : FeedFault) → Stops (λ fault. IfSome (left.left file) (IsRefused fault)) (Rose left.faults read.faults) fault
        → Stopped fault
    not_read (feed.Bad line why) found = stops_so (feed.Bad line why) found refl tt
    not_read (feed.NoBase line) found = stops_so (feed.NoBase line) found tt tt
    not_read (feed.Limit which value) found = stops_so (feed.Limit which value) found tt tt
    not_read feed.ReadFault rose = record {
      told = [];
      end = unseen;
      so = λ bytes is. tt;
      ending = at_file file done (faults.ReadFault file);
      for = refl;
      comes = λ count. inl refl;
      leaves = leaves_so (faults.ReadFault file) (omega (arith, head.so_far.reads, alone.later, rose));
    }
    not_read feed.OutOfMemory found = record {
      told = [];
      end = unseen;
      so = λ bytes is. tt;
      ending = at_file file done faults.OutOfMemory;
      for = refl;
      comes = λ count. inr refl;
      leaves = leaves_so faults.OutOfMemory tt;
    }

-- where the reader's file is this one
not_read_there : (file : ℕ) (start done : Progress) (state : State) (old : Before) (files left read : FilesView) (store : Handle)
    (output : SinkView) → IsReadAlone file files left → IsReadAlone file left read → (head : IsHead start done state file old files
    store output)
    → (before after_it : FeedReader) → before.limits ≡ standard → (base : Option StyleOf) → base ≡ style_of store → (fault : FeedFault)
    → Stops (λ fault. IfSome (left.left file)
    (λ bytes. ComeTo before.limits base stages.Between before.lines.number (lines_left before bytes) (refused fault)))
    (Rose left.faults read.faults) fault
    → TakesNext file (Err (feed_fault file fault)) start done state old files before after_it left read store output
not_read_there file start done state old files left read store output alone more head before after_it limits base same fault stops =
    not_read start done state file old files left read store output alone more head before after_it limits base
    (same ∙ (shows_here done.store done.cut state store head.here).style_is) fault stops

pub not_read_of : (own file : ℕ) → own ≡ file → (start done : Progress) (state : State) (old : Before) (files left read : FilesView)
    (store : Handle) (output : SinkView) → IsReadAlone file files left → IsReadAlone own left read
    → IsHead start done state file old files store output
    → (before after_it : FeedReader) → before.limits ≡ standard → (base : Option StyleOf) → base ≡ style_of store → (fault : FeedFault)
    → Stops (λ fault. IfSome (left.left own)
    (λ bytes. ComeTo before.limits base stages.Between before.lines.number (lines_left before bytes) (refused fault)))
    (Rose left.faults read.faults) fault
    → TakesNext file (Err (feed_fault file fault)) start done state old files before after_it left read store output
not_read_of own file is start done state old files left read store output alone more head before after_it limits base same fault stops =
    not_read_there file start done state old files left read store output alone
    (subst (λ (o : ℕ). IsReadAlone o left read) is more) head before after_it limits base same fault
    (subst (λ (o : ℕ). Stops (λ fault. IfSome (left.left o)
    (λ bytes. ComeTo before.limits base stages.Between before.lines.number (lines_left before bytes) (refused fault)))
    (Rose left.faults read.faults) fault) is stops)

-- only this file was asked for
pub read_alone : (own file : ℕ) → own ≡ file → (asks : List ℕ → Type 0) (old new : FilesView) → ReadsNoOther own asks old new
    → ReadsNoOther file asks old new
read_alone own file is asks old new read = subst (λ (o : ℕ). ReadsNoOther o asks old new) is read

-- the file is at its end
pub next_over : (own file : ℕ) → own ≡ file → (start done : Progress) (state : State) (old : Before) (files left read : FilesView)
    (store : Handle) (output : SinkView) → IsHead start done state file old files store output → (before after_it : FeedReader)
    (base : Option StyleOf) (found : Option Block) → found ≡ None
    → BothKnown (left.left own) (read.left own)
    (λ bytes behind. GivesBlock base before after_it (lines_left before bytes) (lines_left after_it behind) found)
    → TakesNext file (Ok false) start done state old files before after_it left read store output
next_over own file is start done state old files left read store output head before after_it base found none gives = (
  subst (λ (o : ℕ). IsOver before after_it (left.left o) (read.left o)) is
      (subst (λ (f : Option Block). BothKnown (left.left own) (read.left own)
      (λ bytes behind. GivesBlock base before after_it (lines_left before bytes) (lines_left after_it behind) f)) none gives),
  head,
)

-- a block was read, and was taken or not
abbrev next_of : Option Fault → Result Bool Fault
next_of None = Ok true
next_of (Some fault) = Err fault

block_read : (start done : Progress) (state : State) (file : ℕ) (old : Before) (files left read : FilesView) (before after_it : FeedReader)
    (block : Block) (store : Handle) (output : SinkView) → IsFirst state block before after_it (left.left file) (read.left file)
    → (own : Option Fault) → TakesBlock file block own start done state old files read store output
    → TakesNext file (next_of own) start done state old files before after_it left read store output
block_read start done state file old files left read before after_it block store output first None taken = (block, first, taken)
block_read start done state file old files left read before after_it block store output first (Some fault) stop = record {
  told = stop.told;
  end = stop.end;
  so = left_of_block file state block before after_it (left.left file) (read.left file) first stop.told stop.end stop.so;
  ending = stop.ending;
  for = stop.for;
  comes = stop.comes;
  leaves = stop.leaves;
}

pub block_told : (own file : ℕ) → own ≡ file → (start done : Progress) (state : State) (old : Before) (files left read : FilesView)
    (store : Handle) (output : SinkView) → IsReadAlone file files left → IsReadAlone own left read
    → IsHead start done state file old files store output → (before after_it : FeedReader) → before.limits ≡ standard
    → (base : Option StyleOf) → base ≡ style_of store → (found : Option Block) (block : Block) → found ≡ Some block
    → BothKnown (left.left own) (read.left own)
    (λ bytes behind. GivesBlock base before after_it (lines_left before bytes) (lines_left after_it behind) found)
    → (last : Handle) (told_all : SinkView) (answer : Option Fault)
    → (IsReadAlone file files read → TakesBlock file block answer start done state old files read last told_all)
    → TakesNext file (next_of answer) start done state old files before after_it left read last told_all
block_told own file is start done state old files left read store output alone more head before after_it limits base same found block some
    gives last told_all answer taken =
    block_read start done state file old files left read before after_it block last told_all
    (subst (λ (o : ℕ). IsFirst state block before after_it (left.left o) (read.left o)) is
    (first_read state block before after_it (left.left own) (read.left own) base limits
    (same ∙ (shows_here done.store done.cut state store head.here).style_is)
    (subst (λ (f : Option Block). BothKnown (left.left own) (read.left own)
    (λ bytes behind. GivesBlock base before after_it (lines_left before bytes) (lines_left after_it behind) f)) some gives)))
    answer (taken (alone_more file files left read alone (subst (λ (o : ℕ). IsReadAlone o left read) is more)))

-- a block takes a line at least
pub block_lines : (before after_it : FeedReader) (found : Option Block) (block : Block) → found ≡ Some block
    → IfSome found (λ _. (before.lines.number < after_it.lines.number) × (after_it.lines.number ≤ before.limits.lines))
    → before.lines.number < after_it.lines.number
block_lines before after_it found block some rise =
    (subst (λ (own : Option Block). IfSome own (λ _. (before.lines.number < after_it.lines.number)
    × (after_it.lines.number ≤ before.limits.lines))) some rise).0

-- and no more are taken than may be
pub lines_within : (reader : FeedReader) → IsGoing reader → reader.limits ≡ standard → reader.lines.number ≤ standard.lines
lines_within reader going same =
    omega (arith, going.ready.keeps.counted, going.ready.most, ap (λ (own : LimitNumbers). own.lines) same)

-- ---- a file

follows-more : (file count : ℕ) (state : State) (old : Before) (done : Progress) (ending : Ending) (told : List Block) (end : FeedEnd)
    → IfTold (old.left file) (λ bytes. IsFeed file state bytes told end) → FollowsThen old file told end state done count ending
    → Comes old (follows_files file (suc count) state) done ending
unfolding follows_files
follows-more file count state old done ending told end is comes = (told, end, is, comes)

module _ (file : ℕ) (start done : Progress) (first : State) (old : Before) (files : FilesView) where
  -- nothing of it is read yet
  pub first_within : MayFollow first → (reader : FeedReader) → reader.lines.number ≡ 0 → ((bytes : List ℕ) → lines_left reader bytes ≡
      lines_of bytes)
      → (store : Handle) (output : SinkView) → IsHead start done first file old files store output
      → IsWithin file start done first old files reader files store output
  first_within may reader none all store output head = record {
    further = done;
    state = first;
    may = may;
    head = head;
    told = λ own. own;
    leads = λ told end count ending fits comes. (
      told,
      end,
      (λ bytes is. subst (λ (own : List (List ℕ)). IsFeedFrom file first 0 own told end) (all bytes)
          (subst (λ (own : ℕ). IsFeedFrom file first own (lines_left reader bytes) told end) none (fits bytes is))),
      comes,
    );
  }

  module _ (reader : FeedReader) (now : FilesView) (store : Handle) (output : SinkView)
      (turn : IsWithin file start done first old files reader now store output)
      (after_it : FeedReader) (read : FilesView) (last : Handle) (told_all : SinkView) where
    -- what the answer says is so of its value
    abbrev Next : Bool → Type 0
    Next value = TakesNext file (Ok value) start turn.further turn.state old files reader after_it now read last told_all

    within_taken : Next true → IsWithin file start done first old files after_it read last told_all
    within_taken (block, comes_first, taken) = record {
      further = taken.further;
      state = after turn.state (Follow block);
      may = follows_on turn.state block turn.may;
      head = taken.head;
      told = λ own.
          let left = turn.told own in
          let rest = known_after (now.left file) (read.left file) (ComesFirst turn.state block reader after_it) comes_first left.0 left.1 in
          (rest.0, rest.1);
      leads = λ told end count ending fits comes. turn.leads (block ∷ told) end count ending
          (left_behind file turn.state block reader after_it (now.left file) (read.left file) taken.comes comes_first told end fits)
          (taken.leads told end count ending comes);
    }

    -- one block more is taken
    pub next_within : (value : Bool) → value ≡ true → Next value → IsWithin file start done first old files after_it read last told_all
    next_within value is next = within_taken (subst Next is next)

    within_over : IsReadAlone file files read → Next false → FollowsFile file None start done first old read last told_all
    within_over alone (none, head) = (
      past file turn.further,
      turn.state,
      turn.may,
      past_file start turn.further turn.state file old files last told_all head {A = Unit {0}} (λ bytes found. Unit {0}) file (omega arith)
          read tt
          (record {
            accepted = λ bytes is. tt;
            at_end = λ bytes is.
                let left = turn.told (bytes, is) in
                let rest = known_after (now.left file) (read.left file) (NoneLeft reader after_it) none left.0 left.1 in
                rest.1 ∙ ap Some (no_rest after_it.ahead rest.0 (no_bytes (after_it.ahead ++ rest.0) rest.2.1));
            alone = alone;
          }),
      λ count ending comes.
          let own = turn.leads [] over count ending (λ bytes is.
          let rest = known_after (now.left file) (read.left file) (NoneLeft reader after_it) none bytes is in
          subst (λ (own : List (List ℕ)). ComeTo standard (style_in turn.state) stages.Between reader.lines.number own nothing)
          (sym rest.2.0) (over_comes standard (style_in turn.state) reader.lines.number)) (inr comes) in
          follows-more file count first old done ending own.0 own.1 (λ bytes is. own.2 bytes (as_before head ∙ is)) own.3,
    )
      where
        as_before : IsHead start turn.further turn.state file old files last told_all → files.left file ≡ old.left file
        as_before head = head.so_far.others file (head.unread file (omega arith)) (λ e. absurd (cc))

    -- or the file is at its end
    pub last_within : IsReadAlone file files read → (value : Bool) → value ≡ false → Next value
        → FollowsFile file None start done first old read last told_all
    last_within alone value is next = within_over alone (subst Next is next)

    -- or the run ends in it
    pub stops_within : (fault : Fault) → TakesNext file (Err fault) start turn.further turn.state old files reader after_it now read
        last told_all
        → FollowsFile file (Some fault) start done first old read last told_all
    stops_within fault stop = λ count.
        let own = turn.leads stop.told stop.end count stop.ending stop.so (stop.comes count) in (
          stop.ending,
          stop.for,
          follows-more file count first old done stop.ending own.0 own.1 (λ bytes is. own.2 bytes (as_before ∙ is)) own.3,
          stop.leaves,
        )
      where
        as_before : files.left file ≡ old.left file
        as_before = turn.head.so_far.others file (turn.head.unread file (omega arith)) (λ e. absurd (cc))

-- ---- all of them

follows-none : (state : State) (file left : ℕ) → left ≡ 0 → follows_files file left state ≡ ends
unfolding follows_files
follows-none state file left is = ap (λ n. follows_files file n state) is

module _ (first count : ℕ) (start done : Progress) (state : State) (old : Before) where
  -- none is followed yet
  pub first_following : MayFollow state → (left : ℕ) → left ≡ count → (files : FilesView) (store : Handle) (output : SinkView)
      → IsHead start done state first old files store output
      → IsFollowing first count start done state first left old files store output
  first_following may left is files store output head = record {
    further = done;
    now = state;
    may = may;
    head = head;
    leads = λ ending comes. subst (λ (own : ℕ). Comes old (follows_files first own state) done ending) is comes;
  }

  module _ (file left less : ℕ) (many : left ≡ suc less) (files : FilesView) (store : Handle) (output : SinkView)
      (turn : IsFollowing first count start done state file left old files store output) (read : FilesView) (last : Handle)
      (told_all : SinkView) where
    leads_turn : (ending : Ending) → Comes old (follows_files file (suc less) turn.now) turn.further ending
        → Comes old (follows_files first count state) done ending
    leads_turn ending comes = turn.leads ending
        (subst (λ (own : ℕ). Comes old (follows_files file own turn.now) turn.further ending) (sym many) comes)

    -- one file more is
    pub next_following : ((old : Before) (start done : Progress) (state : State) → MayFollow state
        → IsHead start done state file old files store output → FollowsFile file None start done state old read last told_all)
        → IsFollowing first count start done state (file + 1) less old read last told_all
    next_following goes =
        let own = goes old start turn.further turn.now turn.may turn.head in
        record {
          further = own.0;
          now = own.1;
          may = own.2;
          head = own.3;
          leads = λ ending comes. leads_turn ending (own.4 less ending comes);
        }

    -- or the run ends in it
    pub ends_in_following : (fault : Fault)
        → ((old : Before) (start done : Progress) (state : State) → MayFollow state
        → IsHead start done state file old files store output → FollowsFile file (Some fault) start done state old read last told_all)
        → GoesOn (follows_files first count state) start done (Some fault) old (world read (view_of last) told_all)
    ends_in_following fault goes =
        goes_back (follows_files first count state) (follows_files file (suc less) turn.now) start done turn.further (Some fault) old
        (world read (view_of last) told_all) (goes old start turn.further turn.now turn.may turn.head less) leads_turn

  -- all are followed
  pub last_following : (file left : ℕ) → left ≡ 0 → (files : FilesView) (store : Handle) (output : SinkView)
      → IsFollowing first count start done state file left old files store output
      → GoesOn (follows_files first count state) start done None old (world files (view_of store) output)
  last_following file left none files store output turn =
      goes_back (follows_files first count state) ends start done turn.further None old (world files (view_of store) output)
      (ends_here start turn.further turn.now file old files store output turn.head)
      (λ ending comes. turn.leads ending
      (subst (λ (own : Course). Comes old own turn.further ending) (sym (follows-none turn.now file left none)) comes))
