-- A run that gathers the entries of its files, turn by turn.
use Rattle.std.proofs.Common.{fold, ◌≡◌, ◌≢◌, ◌≤◌, ◌+◌, ℕ, suc, Option, Some, None, List, [], ◌++◌, Result, Ok, Err, OnOk, OnErr, IfErr}
use Rattle.std.proofs.Common.{refl, sym, ◌∙◌, ap, subst, arith, ⊎_elim, inl, inr}
use Rattle.std.specs.Result.{result_err}
use Rattle.std.specs.Io.KnownBytes.{Appends}
use Rattle.std.proofs.lemmas.List.Sums.{fold-append}
use Rattle.osm_base.specs.declared.values.object.Entry.{Entry}
use Rattle.osm_base.specs.bounds.Limits.{standard}
use Rattle.outside.specs.Bytes.{AppendsPrefix, BothKnown, IfTold, IsTold}
use Rattle.outside.specs.Causes.{Rose, HasCause as HasCauseOf}
use Rattle.outside.specs.Disk.{DiskView}
use Rattle.outside.specs.Inputs.{FilesView}
use Rattle.outside.specs.Sink.{SinkView}
use Rattle.opl_files.specs.declared.fault.FileFault.{FileFault}
use Rattle.opl_files.specs.declared.fault.FileFault.TheVariants as file_faults
use Rattle.opl_files.specs.Entries.{entries_of}
use Rattle.opl_files.specs.Keeps.{kept_all}
use Rattle.opl_files.specs.Reading.{ReadsAll, IsFaultOf}
use Rattle.opl_files.specs.Stops.{Stops}
use Rattle.run_promise.specs.declared.fault.Fault.{Fault}
use Rattle.run_promise.specs.declared.fault.Fault.TheVariants as faults
use Rattle.run_promise.specs.Comes.{Comes, BreaksIn, unread, short, refused}
use Rattle.run_promise.specs.Course.{Course, ends, reads, writes_text}
use Rattle.run_promise.specs.Courses.{gathers}
use Rattle.run_promise.specs.Files.{IsChange, fault_in, of_file, change_in}
use Rattle.run_promise.specs.Leaves.{Leaves, StandsOn, HasCause}
use Rattle.run_promise.specs.Progress.{Standing, unused, Ending, begun, at, at_file, at_text, past, plus, IsIn}
use Rattle.run_promise.specs.Runs.{GoesBy}
use Rattle.updater.specs.Turns.{IsTurn}
use Rattle.run_promise.specs.World.{World, world, Before, remembered, Took, GrewBy}
use Rattle.updater.proofs.Deeds.{took_nothing, took_all, took_front}

gathers-step : (file left count : ℕ) (entries : List Entry) (rest : List Entry → Course) → left ≡ suc count
    → gathers file left entries rest ≡ reads file (IsChange file) (λ more. gathers (file + 1) count (entries ++ more) rest)
unfolding gathers
gathers-step file left count entries rest is = ap (λ n. gathers file n entries rest) is

gathers-none : (file left : ℕ) (entries : List Entry) (rest : List Entry → Course) → left ≡ 0
    → gathers file left entries rest ≡ rest entries
unfolding gathers
gathers-none file left entries rest is = ap (λ n. gathers file n entries rest) is

rose_later : (before between now : ℕ) → before ≤ between → Rose between now → Rose before now
rose_later before between now p q = omega (arith, p, q)

-- what was read of a file
record Found {K : Type 0} (after : K → Entry → K) (file : ℕ) (before now : K) (told left : Option (List ℕ)) : Type 0 where
  more : List Entry
  accepted : IfTold told (λ bytes. change_in file bytes ≡ Ok more)
  made : IsTold told → now ≡ fold after before more
  at_end : IfTold told (λ _. left ≡ Some [])

-- a fault of the bytes of a file, as that of a run
of_told : (file : ℕ) (fault : FileFault) (told : Option (List ℕ)) → IsFaultOf standard told fault
    → IfTold told (λ bytes. change_in file bytes ≡ Err (fault_in file fault))
of_told file fault None h bytes is = absurd (cc)
of_told file fault (Some known) h bytes is =
    let same : known ≡ bytes = cc in
    ap (of_file file) (subst (λ (own : List ℕ). entries_of standard own ≡ Err fault) same h)

-- the call that a fault of a file blames
file_cause : (before : Before) (now : World) (file : ℕ) (fault : FileFault) (here : FileFault → Type 0) (read : Type 0)
    → (read → Rose before.read_faults now.files.faults)
    → Stops here read fault → HasCause before now (Some (fault_in file fault))
file_cause before now file (file_faults.Malformed line why) here read r h = tt
file_cause before now file (file_faults.Limit which value) here read r h = tt
file_cause before now file file_faults.ReadFault here read r h = r h
file_cause before now file file_faults.OutOfMemory here read r h = tt

module _ {K : Type 0} (after : K → Entry → K) where
  entries_made : (file : ℕ) (before now : K) (result : Result (List Entry) FileFault) → kept_all after before result ≡ Ok now
      → (more : List Entry) × (of_file file result ≡ Ok more) × (now ≡ fold after before more)
  entries_made file before now (Ok entries) is = (entries, refl, (let same : fold after before entries ≡ now = cc in sym same))
  entries_made file before now (Err fault) is = absurd (cc)

  found : (file : ℕ) (before now : K) (told left : Option (List ℕ)) → ReadsAll after standard before now told left
      → Found after file before now told left
  found file before now None left h = record {
    more = [];
    accepted = λ bytes is. absurd (cc);
    made = λ t. absurd (let none : None ≡ Some t.0 = t.1 in cc);
    at_end = λ bytes is. absurd (cc);
  }
  found file before now (Some bytes) None h = absurd h
  found file before now (Some bytes) (Some later) h =
      let e = entries_made file before now (entries_of standard bytes) h.0 in
      record {
        more = e.0;
        accepted = λ own is. let same : bytes ≡ own = cc in subst (λ (own : List ℕ). change_in file own ≡ Ok e.0) same e.1;
        made = λ _. e.2;
        at_end = λ own is. ap Some h.1;
      }

module _ {K : Type 0} (after : K → Entry → K) (start : K) (rest : List Entry → Course) (course : Course) (files : FilesView)
    (disk : DiskView) (output : SinkView) where
  abbrev old : Before
  old = remembered (world files disk output)

  abbrev Turn : (file left : ℕ) → K → FilesView → Type 0
  Turn file left now view = IsTurn after start rest course file left old now view

  -- nothing is read yet
  pub first_turn : (file left : ℕ) (now : K) → now ≡ start → course ≡ gathers file left [] rest → Turn file left now files
  first_turn file left now none is = record {
    done = begun unused 0;
    entries = [];
    untouched = refl;
    unwritten = refl;
    leads_back = λ ending comes. subst (λ (own : Course). Comes old own (begun unused 0) ending) (sym is) comes;
    made = λ _. none;
    unread = λ other _ h. h;
    at_end = λ other h. absurd h;
    others = λ other _. refl;
    later = omega arith;
  }

  module _ (file left count : ℕ) (many : left ≡ suc count) (before : K) (between new : FilesView) (turn : Turn file left before between)
      (others : (other : ℕ) → other ≢ file → new.left other ≡ between.left other) (later : between.faults ≤ new.faults) where
    here : between.left file ≡ files.left file
    here = turn.others file (turn.unread file (omega arith))

    elsewhere : (other : ℕ) → IsIn turn.done.read other → new.left other ≡ between.left other
    elsewhere other read = others other (λ same. turn.unread file (omega arith) (subst (IsIn turn.done.read) same read))

    leads : (ending : Ending) → Comes old (reads file (IsChange file) (λ more. gathers (file + 1) count (turn.entries ++ more) rest))
        turn.done ending → Comes old course (begun unused 0) ending
    leads ending comes = turn.leads_back ending
        (subst (λ (own : Course). Comes old own turn.done ending) (sym (gathers-step file left count turn.entries rest many)) comes)

    -- one file more is read
    pub next_turn : (now : K) → ReadsAll after standard before now (between.left file) (new.left file) → Turn (file + 1) count now new
    next_turn now reading =
        let f = found after file before now (files.left file) (new.left file)
        (subst (λ (told : Option (List ℕ)). ReadsAll after standard before now told (new.left file)) here reading) in
        record {
          done = past file turn.done;
          entries = turn.entries ++ f.more;
          untouched = turn.untouched;
          unwritten = turn.unwritten;
          leads_back = λ ending comes. leads ending (inr (f.more, f.accepted, comes));
          made = λ told. f.made (told file (inl refl)) ∙ ap (λ own. fold after own f.more) (turn.made (λ other read. told other (inr read)))
              ∙ sym (fold-append after start turn.entries f.more);
          unread = λ other above read. ⊎_elim (λ (same : other ≡ file). absurd (omega (arith, same, above)))
              (λ in_it. turn.unread other (omega (arith, above)) in_it) read;
          at_end = λ other read. ⊎_elim
              (λ (same : other ≡ file). subst (λ own. IfTold (files.left own) (λ _. new.left own ≡ Some [])) (sym same) f.at_end)
              (λ in_it bytes told. elsewhere other in_it ∙ turn.at_end other in_it bytes told) read;
          others = λ other not. others other (λ same. not (inl same)) ∙ turn.others other (λ in_it. not (inr in_it));
          later = omega (arith, turn.later, later);
        }

    breaks : (fault : FileFault) → Stops (IsFaultOf standard (files.left file)) (Rose between.faults new.faults) fault
        → BreaksIn (List Entry) file (files.left file) (IsChange file) turn.done (at_file file turn.done (fault_in file fault))
    breaks (file_faults.Malformed line why) h =
        refused (faults.Malformed file line why) refl (of_told file (file_faults.Malformed line why) (files.left file) h) refl
    breaks (file_faults.Limit which value) h =
        refused (faults.Limit which value) tt (of_told file (file_faults.Limit which value) (files.left file) h) refl
    breaks file_faults.ReadFault h = unread refl
    breaks file_faults.OutOfMemory h = short refl

    -- the run ends in this file
    pub ends_in_file : (fault : FileFault) → Stops (IsFaultOf standard (between.left file)) (Rose between.faults new.faults) fault
        → GoesBy course (begun unused 0) (Some (fault_in file fault)) (world files disk output) (world new disk output)
    ends_in_file fault stops =
        let at_old = subst (λ (told : Option (List ℕ)). Stops (IsFaultOf standard told) (Rose between.faults new.faults) fault) here
        stops in (
          at_file file turn.done (fault_in file fault),
          refl,
          leads (at_file file turn.done (fault_in file fault)) (inl (breaks fault at_old)),
          record {
            output = subst (λ (written : List ℕ). Took written [] old (world new disk output)) (sym turn.unwritten)
                (took_nothing output.taken);
            at_end = λ other read bytes told. elsewhere other read ∙ turn.at_end other read bytes told;
            others = λ other not elsewhere. others other (λ same. elsewhere (ap Some same)) ∙ turn.others other not;
            store = subst (λ (store : Standing). StandsOn (Some (fault_in file fault)) store old disk) (sym turn.untouched) refl;
            moments = tt;
            cause = file_cause old (world new disk output) file fault (IsFaultOf standard (files.left file))
                (Rose between.faults new.faults)
                (λ rose. rose_later files.faults between.faults new.faults turn.later rose) at_old;
            reads = omega (arith, turn.later, later);
            writes = omega arith;
            disk = omega arith;
          },
        )

  module _ (file left : ℕ) (none : left ≡ 0) (now : K) (between : FilesView) (turn : Turn file left now between) where
    pub leads_on : (ending : Ending) → Comes old (rest turn.entries) turn.done ending → Comes old course (begun unused 0) ending
    leads_on ending comes = turn.leads_back ending
        (subst (λ (own : Course). Comes old own turn.done ending) (sym (gathers-none file left turn.entries rest none)) comes)

-- a run that writes a text of the entries of all its files
module _ {K : Type 0} (after : K → Entry → K) (start : K) (text_of : List Entry → List ℕ) (made_text : K → List ℕ)
    (law : (entries : List Entry) → made_text (fold after start entries) ≡ text_of entries)
    (course : Course) (files : FilesView) (disk : DiskView) (output : SinkView) (file left : ℕ) (none : left ≡ 0) (now : K)
    (between : FilesView)
    (turn : IsTurn after start (λ entries. writes_text (text_of entries) ends) course file left
    (remembered (world files disk output)) now between) where
  abbrev before : Before
  before = remembered (world files disk output)

  leads_text : (ending : Ending) → Comes before (writes_text (text_of turn.entries) ends) turn.done ending
      → Comes before course (begun unused 0) ending
  leads_text ending comes = leads_on after start
      (λ entries. writes_text (text_of entries) ends) course files disk output file left none now between turn ending comes

  leaves : (written half : List ℕ) (fault : Option Fault) (new : SinkView) → BothKnown output.taken new.taken (GrewBy written half)
      → HasCause before (world between disk new) fault → output.faults ≤ new.faults
      → Leaves (begun unused 0) (record { done = record turn.done { written = written }; reading = None; writing = half; fault = fault })
      before (world between disk new)
  leaves written half fault new took cause later = record {
    output = took;
    at_end = turn.at_end;
    others = λ other not _. turn.others other not;
    store = subst (λ (store : Standing). StandsOn fault store before disk) (sym turn.untouched) refl;
    moments = tt;
    cause = cause;
    reads = turn.later;
    writes = later;
    disk = omega arith;
  }

  from_none : (whole half : List ℕ) (new : SinkView) → BothKnown output.taken new.taken (GrewBy whole half)
      → BothKnown output.taken new.taken (GrewBy (turn.done.written ++ whole) half)
  from_none whole half new took = subst (λ (written : List ℕ). BothKnown output.taken new.taken (GrewBy (written ++ whole) half))
      (sym turn.unwritten) took

  -- there is no memory for the text
  pub ends_short : (fault : Option Fault) → fault ≡ Some faults.OutOfMemory
      → GoesBy course (begun unused 0) fault (world files disk output) (world between disk output)
  ends_short fault is = subst (λ (own : Option Fault).
      GoesBy course (begun unused 0) own (world files disk output) (world between disk output)) (sym is) (
        at turn.done (Some faults.OutOfMemory),
        refl,
        leads_text (at turn.done (Some faults.OutOfMemory)) (inl refl),
        leaves turn.done.written [] (Some faults.OutOfMemory) output
            (subst (λ (written : List ℕ). BothKnown output.taken output.taken (GrewBy written [])) (sym turn.unwritten)
            (took_nothing output.taken)) tt (omega arith),
      )

  -- the text is written, or the output fails
  pub ends_told : (text : List ℕ) (new : SinkView) (result : Result (Unit {0}) Fault) → text ≡ made_text now
      → OnOk result (Appends output.taken new.taken text)
      → OnErr result (AppendsPrefix output.taken new.taken text) → IfErr result (λ fault. fault ≡ faults.WriteFault)
      → HasCauseOf output.faults new.faults result
      → GoesBy course (begun unused 0) (result_err result) (world files disk output) (world between disk new)
  ends_told text new (Ok value) is all front alone cause = (
    at (plus text turn.done) None,
    refl,
    leads_text (at (plus text turn.done) None) (inr (text, λ told _. is ∙ ap made_text (turn.made told) ∙ law turn.entries, inr refl)),
    leaves (turn.done.written ++ text) [] None new (from_none text [] new (took_all output.taken new.taken text all)) tt cause.later,
  )
  ends_told text new (Err fault) is all front alone cause = (
    at_text text turn.done faults.WriteFault,
    ap Some (sym alone),
    leads_text (at_text text turn.done faults.WriteFault)
        (inr (text, λ told _. is ∙ ap made_text (turn.made told) ∙ law turn.entries, inl refl)),
    leaves turn.done.written text (Some faults.WriteFault) new
        (subst (λ (written : List ℕ). BothKnown output.taken new.taken (GrewBy written text)) (sym turn.unwritten)
        (took_front output.taken new.taken text front)) cause.failed cause.later,
  )
