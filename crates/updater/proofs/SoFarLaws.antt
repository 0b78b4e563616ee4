-- The deeds of a run between two of which its files and its output alone matter.
use Rattle.std.proofs.Common.{◌≡◌, ◌≤◌, ◌+◌, ℕ, Option, Some, None, List, [], ◌∷◌, ◌++◌, Result, ⊎_elim, inl, inr, refl, sym, ◌∙◌, ap}
use Rattle.std.proofs.Common.{subst, arith}
use Rattle.std.specs.Io.KnownBytes.{Appends, Keeps}
use Rattle.std.proofs.lemmas.List.{append-nil}
use Rattle.outside.specs.Bytes.{AppendsPrefix, BothKnown, IfTold}
use Rattle.outside.specs.Causes.{Rose}
use Rattle.outside.specs.Disk.{DiskView}
use Rattle.outside.specs.Inputs.{FilesView}
use Rattle.outside.specs.Sink.{SinkView}
use Rattle.run_promise.specs.declared.fault.Fault.{Fault}
use Rattle.run_promise.specs.declared.fault.Fault.TheVariants as faults
use Rattle.run_promise.specs.Comes.{AreTold, Comes, IsCertain, BreaksIn, unread, short, refused}
use Rattle.run_promise.specs.Course.{Course, ends, refuses, reads, tells, writes, feeds}
use Rattle.run_promise.specs.FeedBlocks.{IsFeedBlock}
use Rattle.outside.specs.Reads.{IsReadAlone}
use Rattle.updater.specs.FileReads.{IsRead, IsUnread, StopsFor}
use Rattle.updater.specs.Heads.{GoesOn, IsSoFar}
use Rattle.run_promise.specs.Leaves.{HasCause, Leaves, StandsOn}
use Rattle.run_promise.specs.Progress.{Standing, unused, unknown, keeps, half_made, Progress, Ending, at, at_file, at_text, past, plus}
use Rattle.run_promise.specs.Progress.{IsIn}
use Rattle.run_promise.specs.World.{Before, GrewBy, world}
use Rattle.run_promise.proofs.HistoryLaws.{append_more}

rose_later : (before between now : ℕ) → before ≤ between → Rose between now → Rose before now
rose_later before between now p q = omega (arith, p, q)

-- what stands after a run that is not at its end stands after a fault too
stands_so : (fault : Fault) (store : Standing) (old : Before) (new : DiskView) → StandsOn None store old new
    → StandsOn (Some fault) store old new
stands_so fault unused old new h = h
stands_so fault unknown old new h = tt
stands_so fault (keeps kept) old new h = (h.0, λ _. h.1 (λ e. absurd (cc)))
stands_so fault half_made old new h = tt

-- the output took what it took, and then this
front_nil : (front rest : List ℕ) → [] ≡ front ++ rest → front ≡ []
front_nil [] rest is = refl
front_nil (byte ∷ front) rest is = absurd (cc)

-- what was taken is what was written
took_whole : (one two written : List ℕ) → GrewBy written [] one two → two ≡ one ++ written
took_whole one two written took = took.grown ∙ ap (λ (own : List ℕ). one ++ written ++ own) (front_nil took.front took.rest took.cut)
    ∙ append-nil (one ++ written)

took_more : (first second third : Option (List ℕ)) (written text : List ℕ) → BothKnown first second (GrewBy written [])
    → Appends second third text → BothKnown first third (GrewBy (written ++ text) [])
took_more None second third written text took more = tt
took_more (Some one) None third written text took more = absurd took
took_more (Some one) (Some two) None written text took more = absurd more
took_more (Some one) (Some two) (Some three) written text took more = record {
  front = [];
  rest = [];
  cut = refl;
  grown = more ∙ ap (λ (own : List ℕ). own ++ text) (took_whole one two written took) ∙ append_more one written text
      ∙ sym (append-nil (one ++ (written ++ text)));
}

took_same : (first second third : Option (List ℕ)) (written : List ℕ) → BothKnown first second (GrewBy written [])
    → Keeps second third → BothKnown first third (GrewBy written [])
took_same None second third written took kept = tt
took_same (Some one) None third written took kept = absurd took
took_same (Some one) (Some two) None written took kept = absurd kept
took_same (Some one) (Some two) (Some three) written took kept =
    subst (λ (own : List ℕ). GrewBy written [] one own) (sym kept) took

took_half : (first second third : Option (List ℕ)) (written text : List ℕ) → BothKnown first second (GrewBy written [])
    → AppendsPrefix second third text → BothKnown first third (GrewBy written text)
took_half None second third written text took more = tt
took_half (Some one) None third written text took more = absurd took
took_half (Some one) (Some two) None written text took more = absurd more
took_half (Some one) (Some two) (Some three) written text took more =
    record {
      front = more.0;
      rest = more.1;
      cut = more.2;
      grown =
          more.3 ∙ ap (λ (own : List ℕ). own ++ more.0) (took_whole one two written took);
    }

module _ (start done : Progress) (next : ℕ) (old : Before) (files : FilesView) (disk : DiskView) (output : SinkView)
    (head : IsSoFar start done next old files disk output) where
  -- the run ends here
  pub ends_here : GoesOn ends start done None old (world files disk output)
  ends_here = (at done None, refl, refl, head.so_far)

  -- with a fault that blames nothing outside
  pub leaves_here : (fault : Fault) → HasCause old (world files disk output) (Some fault)
      → Leaves start (at done (Some fault)) old (world files disk output)
  leaves_here fault cause = record {
    output = head.so_far.output;
    at_end = head.so_far.at_end;
    others = head.so_far.others;
    store = stands_so fault done.store old disk head.so_far.store;
    moments = head.so_far.moments;
    cause = cause;
    reads = head.so_far.reads;
    writes = head.so_far.writes;
    disk = head.so_far.disk;
  }

  pub refuses_here : (fault : Fault) → HasCause old (world files disk output) (Some fault)
      → GoesOn (refuses fault) start done (Some fault) old (world files disk output)
  refuses_here fault cause = (at done (Some fault), refl, refl, leaves_here fault cause)

  -- a file is read
  module _ {A : Type 0} (Reads : List ℕ → Result A Fault → Type 0) (file : ℕ) (above : next ≤ file) (new : FilesView) where
    untouched : ¬ IsIn done.read file
    untouched = head.unread file above

    as_before : files.left file ≡ old.left file
    as_before = head.so_far.others file untouched (λ e. absurd (cc))

    elsewhere : IsReadAlone file files new → (other : ℕ) → IsIn done.read other → new.left other ≡ files.left other
    elsewhere alone other read = alone.others other (λ same. untouched (subst (IsIn done.read) same read))

    -- to its end
    pub past_file : (found : A) → IsRead Reads file found files new → IsSoFar start (past file done) (file + 1) old new disk output
    past_file found read = record {
      unread = λ other high own. ⊎_elim (λ (same : other ≡ file). omega (arith, same, high))
          (λ (in_it : IsIn done.read other). head.unread other (omega (arith, above, high)) in_it) own;
      so_far = record {
        output = head.so_far.output;
        at_end = λ other own. ⊎_elim
            (λ (same : other ≡ file). subst (λ (own : ℕ). IfTold (old.left own) (λ _. new.left own ≡ Some [])) (sym same)
            (λ bytes told. read.at_end bytes (as_before ∙ told)))
            (λ (in_it : IsIn done.read other) bytes told. elsewhere read.alone other in_it ∙ head.so_far.at_end other in_it bytes told) own;
        others = λ other not reading. read.alone.others other (λ same. not (inl same))
            ∙ head.so_far.others other (λ in_it. not (inr in_it)) reading;
        store = head.so_far.store;
        moments = head.so_far.moments;
        cause = tt;
        reads = omega (arith, head.so_far.reads, read.alone.later);
        writes = head.so_far.writes;
        disk = head.so_far.disk;
      };
    }

    pub leads_file : (found : A) → IsRead Reads file found files new → (rest : A → Course) (ending : Ending)
        → Comes old (rest found) (past file done) ending → Comes old (reads file Reads rest) done ending
    leads_file found read rest ending comes = inr (found, (λ bytes told. read.accepted bytes (as_before ∙ told)), comes)

    -- or the run ends in it
    pub leaves_file : (fault : Fault) → IsReadAlone file files new → HasCause old (world new disk output) (Some fault)
        → Leaves start (at_file file done fault) old (world new disk output)
    leaves_file fault alone cause = record {
      output = head.so_far.output;
      at_end = λ other read bytes told. elsewhere alone other read ∙ head.so_far.at_end other read bytes told;
      others = λ other not reading. alone.others other (λ same. reading (ap Some same)) ∙ head.so_far.others other not (λ e. absurd (cc));
      store = stands_so fault done.store old disk head.so_far.store;
      moments = head.so_far.moments;
      cause = cause;
      reads = omega (arith, head.so_far.reads, alone.later);
      writes = head.so_far.writes;
      disk = head.so_far.disk;
    }

    stops_why : (rest : A → Course) (fault : Fault) → StopsFor Reads file fault files new → IsReadAlone file files new
        → BreaksIn A file (old.left file) Reads done (at_file file done fault) × HasCause old (world new disk output) (Some fault)
    stops_why rest (faults.ReadFault own) why alone = (
      unread (ap (λ (at : ℕ). at_file file done (faults.ReadFault at)) why.0),
      rose_later old.read_faults files.faults new.faults head.so_far.reads why.1,
    )
    stops_why rest faults.OutOfMemory why alone = (short refl, tt)
    stops_why rest (faults.Malformed own line cause) why alone =
        (refused (faults.Malformed own line cause) why.0 (λ bytes told. why.1 bytes (as_before ∙ told)) refl, tt)
    stops_why rest (faults.BadStyle own cause part) why alone =
        (refused (faults.BadStyle own cause part) why.0 (λ bytes told. why.1 bytes (as_before ∙ told)) refl, tt)
    stops_why rest (faults.BadBounds own line) why alone =
        (refused (faults.BadBounds own line) why.0 (λ bytes told. why.1 bytes (as_before ∙ told)) refl, tt)
    stops_why rest (faults.BadQuery own line cause) why alone =
        (refused (faults.BadQuery own line cause) why.0 (λ bytes told. why.1 bytes (as_before ∙ told)) refl, tt)
    stops_why rest (faults.Limit which value) why alone =
        (refused (faults.Limit which value) why.0 (λ bytes told. why.1 bytes (as_before ∙ told)) refl, tt)
    stops_why rest (faults.BadFeed own line cause) why alone = absurd why.0
    stops_why rest (faults.Gap own have got) why alone = absurd why.0
    stops_why rest faults.Usage why alone = absurd why.0
    stops_why rest faults.NotFormatted why alone = absurd why.0
    stops_why rest faults.NotEmpty why alone = absurd why.0
    stops_why rest faults.NotImported why alone = absurd why.0
    stops_why rest faults.AlreadyImported why alone = absurd why.0
    stops_why rest faults.OldFormat why alone = absurd why.0
    stops_why rest faults.Follower why alone = absurd why.0
    stops_why rest faults.UnknownTable why alone = absurd why.0
    stops_why rest (faults.BadStore page) why alone = absurd why.0
    stops_why rest faults.WriteFault why alone = absurd why.0
    stops_why rest faults.DiskFault why alone = absurd why.0

    pub stops_in_file : (fault : Fault) → IsUnread Reads file fault files new → (rest : A → Course)
        → GoesOn (reads file Reads rest) start done (Some fault) old (world new disk output)
    stops_in_file fault stop rest =
        let why = stops_why rest fault stop.why stop.alone in
        (at_file file done fault, refl, inl why.0, leaves_file fault stop.alone why.1)

  -- a text is told
  pub past_text : (text : List ℕ) (new : SinkView) → Appends output.taken new.taken text → output.faults ≤ new.faults
      → IsSoFar start (plus text done) next old files disk new
  past_text text new all later = record {
    unread = head.unread;
    so_far = record {
      output = took_more old.taken output.taken new.taken done.written text head.so_far.output all;
      at_end = head.so_far.at_end;
      others = head.so_far.others;
      store = head.so_far.store;
      moments = head.so_far.moments;
      cause = tt;
      reads = head.so_far.reads;
      writes = omega (arith, head.so_far.writes, later);
      disk = head.so_far.disk;
    };
  }

  pub leaves_text : (text : List ℕ) (new : SinkView) → AppendsPrefix output.taken new.taken text → output.faults ≤ new.faults
      → Rose output.faults new.faults → Leaves start (at_text text done faults.WriteFault) old (world files disk new)
  leaves_text text new front later rose = record {
    output = took_half old.taken output.taken new.taken done.written text head.so_far.output front;
    at_end = head.so_far.at_end;
    others = head.so_far.others;
    store = stands_so faults.WriteFault done.store old disk head.so_far.store;
    moments = head.so_far.moments;
    cause = rose_later old.write_faults output.faults new.faults head.so_far.writes rose;
    reads = head.so_far.reads;
    writes = omega (arith, head.so_far.writes, later);
    disk = head.so_far.disk;
  }

  pub stops_in_line : (text : List ℕ) (new : SinkView) (rest : Course) → AppendsPrefix output.taken new.taken text
      → output.faults ≤ new.faults → Rose output.faults new.faults
      → GoesOn (tells text rest) start done (Some faults.WriteFault) old (world files disk new)
  stops_in_line text new rest front later rose =
      (at_text text done faults.WriteFault, refl, inl refl, leaves_text text new front later rose)

  pub stops_in_text : (Fits : List ℕ → Type 0) (text : List ℕ) (new : SinkView) (rest : Course)
      → (AreTold old done.read → IsCertain done.store → Fits text) → AppendsPrefix output.taken new.taken text → output.faults ≤ new.faults
      → Rose output.faults new.faults → GoesOn (writes Fits rest) start done (Some faults.WriteFault) old (world files disk new)
  stops_in_text Fits text new rest fits front later rose =
      (at_text text done faults.WriteFault, refl, inr (text, fits, inl refl), leaves_text text new front later rose)

  pub stops_short : (Fits : List ℕ → Type 0) (rest : Course)
      → GoesOn (writes Fits rest) start done (Some faults.OutOfMemory) old (world files disk output)
  stops_short Fits rest = (at done (Some faults.OutOfMemory), refl, inl refl, leaves_here faults.OutOfMemory tt)

  -- a block of a feed is told in part, or there is no memory for it
  pub stops_in_block : (Fits : List ℕ → Type 0) (text : List ℕ) (new : SinkView) (rest : Course) → IsFeedBlock text
      → (AreTold old done.read → IsCertain done.store → Fits text) → AppendsPrefix output.taken new.taken text → output.faults ≤ new.faults
      → Rose output.faults new.faults → GoesOn (feeds Fits rest) start done (Some faults.WriteFault) old (world files disk new)
  stops_in_block Fits text new rest block fits front later rose =
      (at_text text done faults.WriteFault, refl, inr (text, block, fits, inl refl), leaves_text text new front later rose)

  pub short_of_block : (Fits : List ℕ → Type 0) (new : SinkView) (rest : Course) → Keeps output.taken new.taken
      → output.faults ≤ new.faults → GoesOn (feeds Fits rest) start done (Some faults.OutOfMemory) old (world files disk new)
  short_of_block Fits new rest kept later = (
    at done (Some faults.OutOfMemory),
    refl,
    inl refl,
    record {
      output = took_same old.taken output.taken new.taken done.written head.so_far.output kept;
      at_end = head.so_far.at_end;
      others = head.so_far.others;
      store = stands_so faults.OutOfMemory done.store old disk head.so_far.store;
      moments = head.so_far.moments;
      cause = tt;
      reads = head.so_far.reads;
      writes = omega (arith, head.so_far.writes, later);
      disk = head.so_far.disk;
    },
  )
