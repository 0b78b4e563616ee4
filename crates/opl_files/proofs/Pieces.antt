-- How far a file was read, from one read to the next.
use Rattle.std.proofs.Common.{◌≡◌, ℕ, suc, zero, ◌+◌, ◌≤◌, Bool, Option, Some, None, Result, Ok, Err, OnErr, List, [], ◌∷◌, ◌++◌}
use Rattle.std.proofs.Common.{length, replicate, length-append, append_assoc, refl, sym, ◌∙◌, ap, subst, arith}
use Rattle.std.specs.Io.KnownBytes.{Consumes, Keeps}
use Rattle.outside.specs.Bytes.{BothKnown}
use Rattle.outside.specs.Inputs.{FilesView}
use Rattle.osm_base.specs.declared.bounds.limits.LimitNumbers.{LimitNumbers}
use Rattle.osm_base.specs.declared.values.object.Entry.{Entry}
use Rattle.opl_files.specs.declared.progress.Progress.{Progress}
use Rattle.opl_files.specs.declared.scan.TheConstants.{PIECE}
use Rattle.opl_files.specs.Entries.{entries_of}
use Rattle.opl_files.specs.Keeps.{kept_all}
use Rattle.opl_files.specs.Progress.{entries_left, IsReady, HasRead, ReadsPiece}
use Rattle.opl_files.specs.Reading.{ReadsAtMost, ReadsNoFurther}
use Rattle.outside.specs.Reads.{ReadsNoOther, ReadsOnce, MovesBytes}
use Rattle.opl_files.proofs.Undecided.{LeavesOpen-none, undecided}

-- what holds anyway holds at an error
pub on_err : {A E : Type 0} (result : Result A E) (P : Type 0) → P → OnErr result P
on_err (Ok value) P holds = tt
on_err (Err why) P holds = holds

-- one read

pub reads_none : (count : ℕ) (left rest : Option (List ℕ)) → Keeps left rest → ReadsAtMost count left rest
reads_none count None rest kept = tt
reads_none count (Some bytes) None kept = kept
reads_none count (Some bytes) (Some later) kept = ([], sym kept, omega arith)

pub reads_some : (count : ℕ) (left rest : Option (List ℕ)) (piece : List ℕ) → Consumes left rest piece → length piece ≤ count
    → ReadsAtMost count left rest
reads_some count None rest piece read few = tt
reads_some count (Some bytes) None piece read few = read
reads_some count (Some bytes) (Some later) piece read few = (piece, read, few)

pub reads_nothing : (count : ℕ) (left : Option (List ℕ)) → ReadsAtMost count left left
reads_nothing count None = tt
reads_nothing count (Some bytes) = ([], refl, omega arith)

-- one behind bytes that are kept
pub reads_behind : (max count : ℕ) (kept : List ℕ) (start left rest : Option (List ℕ)) → length kept ≤ max
    → BothKnown start left (λ before after. before ≡ kept ++ after)
    → ReadsAtMost count left rest → ReadsAtMost (max + count) start rest
reads_behind max count kept None left rest within whole read = tt
reads_behind max count kept (Some all) None rest within whole read = absurd whole
reads_behind max count kept (Some all) (Some bytes) None within whole read = read
reads_behind max count kept (Some all) (Some bytes) (Some later) within whole read = (
  kept ++ read.0,
  whole ∙ ap (λ own. kept ++ own) read.1 ∙ sym (append_assoc kept read.0 later),
  omega (arith, within, read.2, length-append kept read.0),
)

-- of no more bytes than there is room for
pub reads_within : (count more : ℕ) (left rest : Option (List ℕ)) → count ≤ more → ReadsAtMost count left rest → ReadsAtMost more left rest
reads_within count more None rest few read = tt
reads_within count more (Some bytes) None few read = read
reads_within count more (Some bytes) (Some later) few read = (read.0, read.1, omega (arith, few, read.2))

module _ {K : Type 0} (after : K → Entry → K) (limits : LimitNumbers) where
  pub read_piece : (old : Progress) (before : K) (new : Progress) (now : K) (left rest : Option (List ℕ)) (piece : List ℕ)
      → Consumes left rest piece
      → ((later : List ℕ) → kept_all after before (entries_left limits old (piece ++ later))
      ≡ kept_all after now (entries_left limits new later))
      → ReadsPiece after limits old before new now left rest
  read_piece old before new now None rest piece read same = tt
  read_piece old before new now (Some bytes) None piece read same = read
  read_piece old before new now (Some bytes) (Some later) piece read same = record { front = piece; parts = read; same = same }

  -- all reads so far

  pub read_nothing : (before : K) (progress : Progress) → ((bytes : List ℕ) → entries_left limits progress bytes ≡ entries_of limits bytes)
      → (left : Option (List ℕ)) → HasRead after limits before progress before left left
  read_nothing before progress start None = tt
  read_nothing before progress start (Some bytes) =
      record { front = []; parts = refl; same = λ rest. ap (kept_all after before) (sym (start rest)) }

  pub read_more : (first : K) (old : Progress) (before : K) (new : Progress) (now : K) (start left rest : Option (List ℕ))
      → HasRead after limits first old before start left → ReadsPiece after limits old before new now left rest
      → HasRead after limits first new now start rest
  read_more first old before new now None left rest so_far more = tt
  read_more first old before new now (Some all) None rest so_far more = absurd so_far
  read_more first old before new now (Some all) (Some bytes) None so_far more = more
  read_more first old before new now (Some all) (Some bytes) (Some later) so_far more = record {
    front = so_far.front ++ more.front;
    parts = so_far.parts ∙ ap (λ own. so_far.front ++ own) more.parts ∙ sym (append_assoc so_far.front more.front later);
    same = λ rest. ap (λ own. kept_all after first (entries_of limits own)) (append_assoc so_far.front more.front rest)
        ∙ so_far.same (more.front ++ rest) ∙ more.same rest;
  }

  pub read_comes_to : (first : K) (progress : Progress) (now : K) (start left : Option (List ℕ))
      → HasRead after limits first progress now start left
      → BothKnown start left (λ bytes rest. kept_all after first (entries_of limits bytes)
      ≡ kept_all after now (entries_left limits progress rest))
  read_comes_to first progress now None left so_far = tt
  read_comes_to first progress now (Some all) None so_far = so_far
  read_comes_to first progress now (Some all) (Some bytes) so_far =
      ap (λ own. kept_all after first (entries_of limits own)) so_far.parts ∙ so_far.same bytes

  -- where they end before the end of the file

  pub stops_in_time : (first : K) (progress : Progress) (now : K) (start left rest : Option (List ℕ)) → IsReady limits progress
      → HasRead after limits first progress now start left → ReadsAtMost PIECE left rest → ReadsNoFurther limits start rest
  stops_in_time first progress now None left rest ready so_far read = tt
  stops_in_time first progress now (Some all) None rest ready so_far read = absurd so_far
  stops_in_time first progress now (Some all) (Some bytes) None ready so_far read = read
  stops_in_time first progress now (Some all) (Some bytes) (Some later) ready so_far read = record {
    before = so_far.front;
    last = read.0;
    parts = so_far.parts ∙ ap (λ own. so_far.front ++ own) read.1;
    undecided = undecided after limits first progress now ready so_far.front so_far.same;
    one_read = read.2;
  }

pub stops_at_start : (limits : LimitNumbers) (left : Option (List ℕ)) → ReadsNoFurther limits left left
stops_at_start limits None = tt
stops_at_start limits (Some bytes) = record {
  before = [];
  last = [];
  parts = refl;
  undecided = LeavesOpen-none limits;
  one_read =
      omega arith;
}

-- which file was read

replicate-more : (count file : ℕ) → replicate count file ++ file ∷ [] ≡ replicate (suc count) file
replicate-more zero file = refl
replicate-more (suc count) file = ap (λ files. file ∷ files) (replicate-more count file)

module _ {I : Type 0} (reads : I → List ℕ → I → Type 0) (view : I → FilesView) (file : ℕ) where
  pub read_never : ((inputs : I) → reads inputs [] inputs) → (old : I)
      → ReadsNoOther file (λ asked. reads old asked old) (view old) (view old)
  read_never law old = record { asked = (0, law old); alone = record { others = λ other differs. refl; later = omega arith } }

  pub read_again : ((first second third : I) (before after : List ℕ) → reads first before second → reads second after third
      → reads first (before ++ after) third)
      → (old now new : I) → ReadsNoOther file (λ asked. reads old asked now) (view old) (view now)
      → ReadsOnce file (λ asked. reads now asked new) (view now) (view new)
      → ReadsNoOther file (λ asked. reads old asked new) (view old) (view new)
  read_again law old now new so_far again = record {
    asked = (
      suc so_far.asked.0,
      subst (λ files. reads old files new) (replicate-more so_far.asked.0 file)
          (law old now new (replicate so_far.asked.0 file) (file ∷ []) so_far.asked.1 again.asked),
    );
    alone = record {
      others = λ other differs. again.alone.others other differs ∙ so_far.alone.others other differs;
      later = omega (arith, so_far.alone.later, again.alone.later);
    };
  }

-- the bytes of a file that are kept

pub whole_none : (kept : List ℕ) → kept ≡ [] → (left : Option (List ℕ)) → BothKnown left left (λ before after. before ≡ kept ++ after)
whole_none kept none None = tt
whole_none kept none (Some bytes) = ap (λ own. own ++ bytes) (sym none)

pub whole_more : (kept new : List ℕ) (more : Bool) (start left rest : Option (List ℕ))
    → BothKnown start left (λ before after. before ≡ kept ++ after)
    → MovesBytes kept new more left rest → BothKnown start rest (λ before after. before ≡ new ++ after)
whole_more kept new more None left rest whole moves = tt
whole_more kept new more (Some all) None rest whole moves = absurd whole
whole_more kept new more (Some all) (Some bytes) None whole moves = moves
whole_more kept new more (Some all) (Some bytes) (Some later) whole moves = whole ∙ moves.0
