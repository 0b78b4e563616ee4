-- How far a file was read that is read by lots.
use Rattle.std.proofs.Common.{◌≡◌, ℕ, ◌+◌, ◌-◌, ◌≤◌, ◌<◌, Bool, false, true, cond, Option, Some, None, Result, Ok, Err, List, [], ◌++◌, length, drop, take}
use Rattle.std.proofs.Common.{replicate, length-append, append_assoc, refl, sym, ◌∙◌, ap, subst, arith}
use Rattle.std.proofs.lemmas.List.{replicate-append-replicate, take-append-drop}
use Rattle.osm_base.specs.declared.bounds.limits.LimitNumbers.{LimitNumbers}
use Rattle.osm_base.specs.declared.values.object.Entry.{Entry}
use Rattle.osm_base.specs.values.Key.{KeyOf}
use Rattle.opl_lines.specs.Lines.{lines_of}
use Rattle.outside.specs.Causes.{Rose}
use Rattle.outside.specs.Inputs.{FilesView}
use Rattle.opl_files.specs.declared.ahead.Ahead.{Ahead}
use Rattle.opl_files.specs.declared.fault.FileFault.{FileFault}
use Rattle.opl_files.specs.declared.fault.FileFault.TheVariants as faults
use Rattle.opl_files.specs.declared.lots.LotReader.{LotReader}
use Rattle.opl_files.specs.declared.parts.Share.{Share}
use Rattle.opl_files.specs.declared.passed.Passed.{Passed}
use Rattle.opl_files.specs.declared.progress.Progress.{Progress}
use Rattle.opl_files.specs.declared.scan.TheConstants.{PIECE}
use Rattle.opl_files.specs.Ahead.{MovesOn, ReadsBehind}
use Rattle.opl_files.specs.Entries.{entries_of}
use Rattle.opl_files.specs.Keeps.{kept_all}
use Rattle.opl_files.specs.Lots.{ReadsNoFurtherThan, HasLines, HasLots, HasCome, IsAtEnd, IsNew, IsReading, IsThere, all_kept}
use Rattle.opl_files.specs.Parts.{AreShares, GoesOn, none_passed, keeps_to, TakesLines}
use Rattle.opl_files.specs.Progress.{entries_from, entries_left, HasRead, ReadsOn, IsKeptFault}
use Rattle.object_fold.specs.Keeps.{TakesNext}
use Rattle.opl_files.specs.Reading.{ReadsAll, ReadsAtMost, ReadsNoFurther, IsFaultOf, LeavesOpen}
use Rattle.outside.specs.Reads.{ReadsNoOther, MovesBytes}
use Rattle.opl_files.specs.Stops.{Stops}
use Rattle.opl_files.proofs.Lines.{entries_from-none}
use Rattle.opl_files.proofs.Undecided.{LeavesOpen-none}
use Rattle.opl_files.proofs.WholeFile.{entries_of-start, kept_all-err}
use Rattle.opl_lines.proofs.LineLemmas.{lines_of-none}

-- causes

pub Stops-weaker : (found other : FileFault → Type 0) (failed also : Type 0) (fault : FileFault)
    → ((own : FileFault) → found own → other own) → (failed → also) → Stops found failed fault → Stops other also fault
Stops-weaker found other failed also (faults.Malformed line why) one two stops = one (faults.Malformed line why) stops
Stops-weaker found other failed also (faults.Limit which value) one two stops = one (faults.Limit which value) stops
Stops-weaker found other failed also faults.ReadFault one two stops = two stops
Stops-weaker found other failed also faults.OutOfMemory one two stops = tt

pub rose_later : (before between now : ℕ) → before ≤ between → Rose between now → Rose before now
rose_later before between now least rose = omega (arith, least, rose)

pub rose_still : (before between now : ℕ) → between ≤ now → Rose before between → Rose before now
rose_still before between now least rose = omega (arith, least, rose)

-- which file was read

module _ {I : Type 0} (reads : I → List ℕ → I → Type 0) (view : I → FilesView) (file : ℕ) where
  pub read_then : ((first second third : I) (before after : List ℕ) → reads first before second → reads second after third
      → reads first (before ++ after) third)
      → (old now new : I) → ReadsNoOther file (λ asked. reads old asked now) (view old) (view now)
      → ReadsNoOther file (λ asked. reads now asked new) (view now) (view new)
      → ReadsNoOther file (λ asked. reads old asked new) (view old) (view new)
  read_then law old now new so_far again = record {
    asked = (
      so_far.asked.0 + again.asked.0,
      subst (λ files. reads old files new) (replicate-append-replicate so_far.asked.0 again.asked.0 file)
          (law old now new (replicate so_far.asked.0 file) (replicate again.asked.0 file) so_far.asked.1 again.asked.1),
    );
    alone = record {
      others = λ other differs. again.alone.others other differs ∙ so_far.alone.others other differs;
      later = omega (arith, so_far.alone.later, again.alone.later);
    };
  }

-- bytes are kept behind others

pub less_left : (lot old new : ℕ) (before more : Bool) → before ≡ true → old < lot → (more ≡ true → old < new)
    → cond more (1 + (lot - new)) 0 < cond before (1 + (lot - old)) 0
less_left lot old new false more is few grows = absurd (cc)
less_left lot old new true false is few grows = omega (arith, few)
less_left lot old new true true is few grows = let further = grows refl in omega (arith, few, further)

pub moves_none : (ahead : Ahead) (left : Option (List ℕ)) → MovesOn ahead ahead left left
moves_none ahead None = tt
moves_none ahead (Some bytes) = (refl, λ none is. none is)

pub moves_more : (old now new : Ahead) (start left rest : Option (List ℕ)) → MovesOn old now start left
    → MovesBytes now.kept.items new.kept.items new.more left rest → MovesOn old new start rest
moves_more old now new None left rest so_far again = tt
moves_more old now new (Some all) None rest so_far again = absurd so_far
moves_more old now new (Some all) (Some bytes) None so_far again = again
moves_more old now new (Some all) (Some bytes) (Some later) so_far again = (so_far.0 ∙ again.0, λ none is. again.1 is)

pub moves_behind : (old now : Ahead) (most count : ℕ) (start left rest : Option (List ℕ)) → length now.kept.items + count ≤ most
    → MovesOn old now start left → ReadsAtMost count left rest → ReadsBehind most old.kept.items start rest
moves_behind old now most count None left rest few so_far read = tt
moves_behind old now most count (Some all) None rest few so_far read = absurd so_far
moves_behind old now most count (Some all) (Some bytes) None few so_far read = read
moves_behind old now most count (Some all) (Some bytes) (Some later) few so_far read = (
  now.kept.items ++ read.0,
  so_far.0 ∙ ap (λ own. now.kept.items ++ own) read.1 ∙ sym (append_assoc now.kept.items read.0 later),
  omega (arith, few, read.2, length-append now.kept.items read.0),
)

pub moves_few : (old new : Ahead) (most : ℕ) (left rest : Option (List ℕ)) → length new.kept.items ≤ most → MovesOn old new left rest
    → ReadsBehind most old.kept.items left rest
moves_few old new most None rest few moves = tt
moves_few old new most (Some bytes) None few moves = moves
moves_few old new most (Some bytes) (Some later) few moves = (new.kept.items, moves.0, few)

pub behind_none : (most : ℕ) (kept : List ℕ) (left : Option (List ℕ)) → length kept ≤ most → ReadsBehind most kept left left
behind_none most kept None few = tt
behind_none most kept (Some bytes) few = (kept, refl, few)

-- how far a file was read

module _ {K : Type 0} (after : K → Entry → K) (limits : LimitNumbers) (first : K) where
  open_front : (passed : Passed) (keeper : K) (front : List ℕ)
      → ((rest : List ℕ) → kept_all after first (entries_of limits (front ++ rest)) ≡ keeps_to after limits passed keeper rest)
      → LeavesOpen limits front
  open_front passed keeper front same fault certain =
      let none : keeps_to after limits passed keeper [] ≡ Ok keeper =
      ap (λ lines. kept_all after keeper (entries_from limits passed lines)) lines_of-none
      ∙ ap (kept_all after keeper) (entries_from-none limits passed) in
      let wrong : ◌≡◌ {A = Result K FileFault} (Ok keeper) (Err fault) =
      sym none ∙ sym (same []) ∙ ap (kept_all after first) (certain []) in
      absurd (cc)

  pub lots_none : (passed : Passed) (kept : List ℕ) → passed ≡ none_passed → kept ≡ [] → (left : Option (List ℕ))
      → HasLots after limits first passed first kept left left
  lots_none passed kept none empty None = tt
  lots_none passed kept none empty (Some bytes) = record {
    front = [];
    parts = ap (λ own. own ++ bytes) (sym empty);
    same = λ rest. ap (kept_all after first) (sym (entries_of-start limits none_passed rest refl))
        ∙ ap (λ own. keeps_to after limits own first rest) (sym none);
  }

  pub lots_stop : (passed : Passed) (keeper : K) (kept : List ℕ) (most : ℕ) (start left : Option (List ℕ)) → HasLots after limits first passed keeper kept start left
      → length kept ≤ most → ReadsNoFurtherThan most limits start left
  lots_stop passed keeper kept most None left has few = tt
  lots_stop passed keeper kept most (Some all) None has few = has
  lots_stop passed keeper kept most (Some all) (Some bytes) has few = record {
    before = has.front;
    last = kept;
    parts = has.parts;
    undecided = open_front passed keeper has.front has.same;
    few = few;
  }

  -- more is read behind a lot that waits

  pub fill_stop : (passed : Passed) (keeper : K) (before kept : List ℕ) (most each : ℕ) (start left rest : Option (List ℕ))
      → HasLots after limits first passed keeper (before ++ kept) start left → ReadsBehind each kept left rest → length before + each ≤ most
      → ReadsNoFurtherThan most limits start rest
  fill_stop passed keeper before kept most each None left rest has read few = tt
  fill_stop passed keeper before kept most each (Some all) None rest has read few = absurd has
  fill_stop passed keeper before kept most each (Some all) (Some bytes) None has read few = read
  fill_stop passed keeper before kept most each (Some all) (Some bytes) (Some later) has read few = record {
    before = has.front;
    last = before ++ read.0;
    parts = has.parts ∙ ap (λ own. has.front ++ own) (append_assoc before kept bytes ∙ ap (λ own. before ++ own) read.1
        ∙ sym (append_assoc before read.0 later));
    undecided = open_front passed keeper has.front has.same;
    few = omega (arith, few, read.2, length-append before read.0);
  }

  pub cut_stop : (passed : Passed) (keeper : K) (bytes lot kept : List ℕ) (ahead : Ahead) (most each : ℕ) (start left rest : Option (List ℕ))
      → HasLots after limits first passed keeper (bytes ++ kept) start left → lot ++ ahead.kept.items ≡ kept
      → ReadsBehind each ahead.kept.items left rest → length bytes + length kept + each ≤ most → ReadsNoFurtherThan most limits start rest
  cut_stop passed keeper bytes lot kept ahead most each start left rest has cut read few =
      let whole = ap (λ own. bytes ++ own) (sym cut) ∙ sym (append_assoc bytes lot ahead.kept.items) in
      fill_stop passed keeper (bytes ++ lot) ahead.kept.items most each start left rest
      (subst (λ (own : List ℕ). HasLots after limits first passed keeper own start left) whole has) read
      (omega (arith, few, length-append bytes lot, ap length cut, length-append lot ahead.kept.items))

  filled_lines : (passed : Passed) (keeper : K) (before : List ℕ) (old new : Ahead) (start left rest : Option (List ℕ))
      → HasLots after limits first passed keeper (before ++ old.kept.items) start left → MovesOn old new left rest
      → HasLots after limits first passed keeper (before ++ new.kept.items) start rest
  filled_lines passed keeper before old new None left rest has moves = tt
  filled_lines passed keeper before old new (Some all) None rest has moves = absurd has
  filled_lines passed keeper before old new (Some all) (Some bytes) None has moves = moves
  filled_lines passed keeper before old new (Some all) (Some bytes) (Some later) has moves = record {
    front = has.front;
    parts = has.parts ∙ ap (λ own. has.front ++ own) (append_assoc before old.kept.items bytes ∙ ap (λ own. before ++ own) moves.0
        ∙ sym (append_assoc before new.kept.items later));
    same = has.same;
  }

  filled_end : (passed : Passed) (keeper : K) (kept : List ℕ) (old new : Ahead) (start left rest : Option (List ℕ))
      → HasCome after limits first passed keeper kept old.more start left → MovesOn old new left rest → new.more ≡ false → IsAtEnd start rest
  filled_end passed keeper kept old new None left rest has moves none = tt
  filled_end passed keeper kept old new (Some all) None rest has moves none = absurd has.lots
  filled_end passed keeper kept old new (Some all) (Some bytes) None has moves none = moves
  filled_end passed keeper kept old new (Some all) (Some bytes) (Some later) has moves none = moves.1 has.ended none

  pub filled : (passed : Passed) (keeper : K) (before : List ℕ) (old new : Ahead) (start left rest : Option (List ℕ))
      → HasCome after limits first passed keeper (before ++ old.kept.items) old.more start left → MovesOn old new left rest
      → HasCome after limits first passed keeper (before ++ new.kept.items) new.more start rest
  filled passed keeper before old new start left rest has moves = record {
    lots = filled_lines passed keeper before old new start left rest has.lots moves;
    ended = filled_end passed keeper (before ++ old.kept.items) old new start left rest has moves;
  }

  -- of the lot that waits lines are taken

  taken_lines : (old : Passed) (given : K) (new : Passed) (keeper : K) (bytes kept : List ℕ) (used : ℕ) (start left : Option (List ℕ))
      → HasLots after limits first old given (bytes ++ kept) start left → TakesLines after limits old given (take used bytes) new keeper []
      → HasLots after limits first new keeper (drop used bytes ++ kept) start left
  taken_lines old given new keeper bytes kept used None left has takes = tt
  taken_lines old given new keeper bytes kept used (Some all) None has takes = has
  taken_lines old given new keeper bytes kept used (Some all) (Some more) has takes =
      let front = take used bytes in
      let rest = drop used bytes in
      record {
        front = has.front ++ front;
        parts = has.parts ∙ ap (λ own. has.front ++ ((own ++ kept) ++ more)) (sym (take-append-drop used bytes))
            ∙ ap (λ own. has.front ++ (own ++ more)) (append_assoc front rest kept)
            ∙ ap (λ own. has.front ++ own) (append_assoc front (rest ++ kept) more)
            ∙ sym (append_assoc has.front front ((rest ++ kept) ++ more));
        same = λ own. ap (λ all. kept_all after first (entries_of limits all)) (append_assoc has.front front own) ∙ has.same (front ++ own) ∙ takes own;
      }

  pub taken : (old : Passed) (given : K) (new : Passed) (keeper : K) (bytes kept : List ℕ) (more : Bool) (used : ℕ) (start left : Option (List ℕ))
      → HasCome after limits first old given (bytes ++ kept) more start left → TakesLines after limits old given (take used bytes) new keeper []
      → HasCome after limits first new keeper (drop used bytes ++ kept) more start left
  taken old given new keeper bytes kept more used start left has takes =
      record { lots = taken_lines old given new keeper bytes kept used start left has.lots takes; ended = has.ended }

  -- a lot is taken out of the bytes that were read ahead, more is read, and lines of the one that waits are taken; of both so much waits

  pub turned : (old : Passed) (given : K) (new last : Passed) (keeper : K) (bytes lot kept waits rest : List ℕ) (more : Bool) (before now next : Ahead)
      (used : ℕ) (start left later : Option (List ℕ)) → HasCome after limits first old given (bytes ++ kept) more start left
      → before.more ≡ more → lot ++ before.kept.items ≡ kept → MovesOn before now left later
      → TakesLines after limits old given (take used bytes) new keeper [] → waits ++ rest ≡ drop used bytes ++ lot → last ≡ new
      → next.more ≡ now.more → next.kept.items ≡ rest ++ now.kept.items
      → HasCome after limits first last keeper (waits ++ next.kept.items) next.more start later
  turned old given new last keeper bytes lot kept waits rest more before now next used start left later has same cut moves takes all is ends behind =
      let ahead = now.kept.items in
      let whole = ap (λ own. bytes ++ own) (sym cut) ∙ sym (append_assoc bytes lot before.kept.items) in
      let read = filled old given (bytes ++ lot) before now start left later
      (subst (λ (own : List ℕ × Bool). HasCome after limits first old given own.0 own.1 start left) (λ i. (whole i, sym same i)) has) moves in
      let apart = append_assoc bytes lot ahead in
      let given_now = taken old given new keeper bytes (lot ++ ahead) now.more used start later
      (subst (λ (own : List ℕ). HasCome after limits first old given own now.more start later) apart read) takes in
      let after_all = sym (append_assoc (drop used bytes) lot ahead) ∙ ap (λ own. own ++ ahead) (sym all) ∙ append_assoc waits rest ahead
      ∙ ap (λ own. waits ++ own) (sym behind) in
      subst (λ (own : Passed × List ℕ × Bool). HasCome after limits first own.0 keeper own.1 own.2 start later)
      (λ i. (sym is i, after_all i, sym ends i)) given_now

  -- nothing is read yet

  pub new_there : (lot : ℕ) (reader : LotReader) → IsNew lot reader → (left : Option (List ℕ)) → IsThere after limits first reader first left left
  new_there lot reader new left = record {
    lots = lots_none reader.waiting.passed (all_kept reader) new.passed (ap (λ own. own ++ reader.ahead.kept.items) new.bytes ∙ new.kept) left;
    ended = λ none. let more = new.more in absurd (cc);
  }

pub new_reads : {K : Type 0} (takes : K → KeyOf → Type 0) (limits : LimitNumbers) (lot : ℕ) (reader : LotReader) (keeper : K) → IsNew lot reader
    → TakesNext takes None keeper → IsReading takes limits reader keeper
new_reads takes limits lot reader keeper new next = record {
  room = new.room;
  goes = subst (λ (own : Passed). GoesOn takes limits own keeper) (sym new.passed)
      (record { lines = omega arith; entries = omega arith; next = next });
  shares = subst (λ (own : List Share). AreShares limits reader.waiting.bytes.items own) (sym new.shares) tt;
  few = omega (arith, ap length new.bytes);
  next = omega (arith, ap length new.kept);
}

-- one reader goes on

module _ {K : Type 0} (after : K → Entry → K) (limits : LimitNumbers) (whole : K) (reader : LotReader) (given : K) (first : Progress)
    (behind : (bytes : List ℕ) → entries_left limits first bytes ≡ entries_from limits reader.waiting.passed (lines_of bytes)) where
  begins : (all bytes : List ℕ) (has : HasLines after limits whole reader.waiting.passed given reader.ahead.kept.items all bytes) (rest : List ℕ)
      → kept_all after whole (entries_of limits (has.front ++ rest)) ≡ kept_all after given (entries_left limits first rest)
  begins all bytes has rest = has.same rest ∙ ap (kept_all after given) (sym (behind rest))

  pub goes_on : (progress : Progress) (now : K) → ((later : List ℕ)
      → kept_all after given (entries_left limits first (reader.ahead.kept.items ++ later)) ≡ kept_all after now (entries_left limits progress later))
      → (start left : Option (List ℕ)) → HasLots after limits whole reader.waiting.passed given reader.ahead.kept.items start left
      → HasRead after limits whole progress now start left
  goes_on progress now takes None left has = tt
  goes_on progress now takes (Some all) None has = has
  goes_on progress now takes (Some all) (Some bytes) has = record {
    front = has.front ++ reader.ahead.kept.items;
    parts = has.parts ∙ sym (append_assoc has.front reader.ahead.kept.items bytes);
    same = λ rest. ap (λ own. kept_all after whole (entries_of limits own)) (append_assoc has.front reader.ahead.kept.items rest)
        ∙ begins all bytes has (reader.ahead.kept.items ++ rest) ∙ takes rest;
  }

  pub stops_on : (fault : FileFault) → ((later : List ℕ)
      → kept_all after given (entries_left limits first (reader.ahead.kept.items ++ later)) ≡ Err fault)
      → (start left : Option (List ℕ)) → HasLots after limits whole reader.waiting.passed given reader.ahead.kept.items start left
      → IsFaultOf limits start fault
  stops_on fault stops None left has = tt
  stops_on fault stops (Some all) None has = absurd has
  stops_on fault stops (Some all) (Some bytes) has =
      kept_all-err after whole (entries_of limits all) fault
      (ap (λ own. kept_all after whole (entries_of limits own)) has.parts ∙ begins all bytes has (reader.ahead.kept.items ++ bytes) ∙ stops bytes)

module _ {K : Type 0} (after : K → Entry → K) (limits : LimitNumbers) (whole : K) (progress : Progress) (now : K) where
  pub ends_well : (last : K) → kept_all after now (entries_left limits progress []) ≡ Ok last
      → (start left : Option (List ℕ)) → IsAtEnd start left → HasRead after limits whole progress now start left
      → ReadsAll after limits whole last start left
  ends_well last is None left end read = tt
  ends_well last is (Some all) None end read = read
  ends_well last is (Some all) (Some bytes) end read = (
    ap (λ own. kept_all after whole (entries_of limits own)) read.parts ∙ read.same bytes
        ∙ ap (λ own. kept_all after now (entries_left limits progress own)) end ∙ is,
    end,
  )

  pub stops_reading : (fault : FileFault) (start left : Option (List ℕ)) → HasRead after limits whole progress now start left
      → IsKeptFault after limits progress now left fault → IsFaultOf limits start fault
  stops_reading fault None left read is = tt
  stops_reading fault (Some all) None read is = absurd read
  stops_reading fault (Some all) (Some bytes) read is = kept_all-err after whole (entries_of limits all) fault
      (ap (λ own. kept_all after whole (entries_of limits own)) read.parts ∙ read.same bytes ∙ is)

  pub stops_ending : (fault : FileFault) → kept_all after now (entries_left limits progress []) ≡ Err fault
      → (start left : Option (List ℕ)) → IsAtEnd start left → HasRead after limits whole progress now start left
      → IsFaultOf limits start fault
  stops_ending fault is None left end read = tt
  stops_ending fault is (Some all) None end read = absurd read
  stops_ending fault is (Some all) (Some bytes) end read = kept_all-err after whole (entries_of limits all) fault
      (ap (λ own. kept_all after whole (entries_of limits own)) read.parts ∙ read.same bytes
      ∙ ap (λ own. kept_all after now (entries_left limits progress own)) end ∙ is)

-- where one more read gives nothing the file is at its end
pub read_to_end : {K : Type 0} (after : K → Entry → K) (limits : LimitNumbers) (whole : K) (old new : Progress) (before now : K) (more : Bool)
    (start left rest : Option (List ℕ)) → HasRead after limits whole old before start left
    → ReadsOn after limits old before new now more left rest → more ≡ false → IsAtEnd start rest
read_to_end after limits whole old new before now more None left rest read on none = tt
read_to_end after limits whole old new before now more (Some all) None rest read on none = absurd read
read_to_end after limits whole old new before now more (Some all) (Some bytes) None read on none = on
read_to_end after limits whole old new before now more (Some all) (Some bytes) (Some later) read on none = on.1 none

-- no further than a read is no further than more than a read
pub no_further : (limits : LimitNumbers) (most : ℕ) (start rest : Option (List ℕ)) → PIECE ≤ most → ReadsNoFurther limits start rest
    → ReadsNoFurtherThan most limits start rest
no_further limits most None rest few stops = tt
no_further limits most (Some all) None few stops = stops
no_further limits most (Some all) (Some later) few stops = record {
  before = stops.before;
  last = stops.last;
  parts = stops.parts;
  undecided = stops.undecided;
  few = omega (arith, few, stops.one_read);
}

-- the whole file, from its start

pub at_start : (limits : LimitNumbers) (most : ℕ) (left : Option (List ℕ)) → ReadsNoFurtherThan most limits left left
at_start limits most None = tt
at_start limits most (Some bytes) =
    record { before = []; last = []; parts = refl; undecided = LeavesOpen-none limits; few = omega arith }
