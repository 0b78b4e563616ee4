-- Files that are read one after another, as long as none is refused.
use Rattle.std.proofs.Common.{◌≡◌, ◌≢◌, ◌≤◌, ◌⊎◌, inl, inr, ⊎_elim, ℕ, zero, suc, ◌+◌, Option, Some, List, [], ◌∷◌, ◌++◌, length}
use Rattle.std.proofs.Common.{replicate, length-append, refl, sym, ◌∙◌, subst, arith}
use Rattle.std.specs.List.{AllByRecursion}
use Rattle.osm_base.specs.declared.bounds.limits.LimitNumbers.{LimitNumbers}
use Rattle.outside.specs.Bytes.{BothKnown}
use Rattle.outside.specs.Causes.{Rose}
use Rattle.outside.specs.Inputs.{FilesView}
use Rattle.outside.specs.Reads.{ReadsNoOther}
use Rattle.change_pipe.specs.declared.parcel.Parcel.{Parcel}
use Rattle.change_pipe.specs.Files.{AreRead, Beside, Between, HasAll, ReadsAmong}
use Rattle.change_pipe.specs.Parcels.{AreParcels, HasFailed, IsAtEnd, IsParcelOf, IsReadAs, IsReadFault, IsWhole}
use Rattle.change_pipe.proofs.ParcelLaws.{all_last, all_snoc, failed_snoc, parcels_snoc}

-- the files before this one were read, these are their parcels, and none was refused
pub record HasRead (limits : LimitNumbers) (first file : ℕ) (asks : List ℕ → Type 0) (start now : FilesView)
    (parcels : List Parcel) : Type 0 where
  pub read : AreRead limits first file start now parcels
  pub among : ReadsAmong first file asks start now
  pub whole : AllByRecursion IsWhole parcels
  pub many : first + length parcels ≡ file

-- no file was read
pub among_none : (first end : ℕ) (asks : List ℕ → Type 0) (files : FilesView) → asks [] → ReadsAmong first end asks files files
among_none first end asks files none = record { asked = ([], none, tt); others = λ other beside. refl; ended = λ file end. end; later = omega arith }

pub read_none : (limits : LimitNumbers) (first : ℕ) (asks : List ℕ → Type 0) (files : FilesView) → asks []
    → HasRead limits first first asks files files []
read_none limits first asks files none = record {
  read = record { are = tt; few = omega arith; at_end = tt; rose = λ failed. absurd failed; last = λ refused. absurd (refused tt) };
  among = among_none first first asks files none;
  whole = tt;
  many = omega arith;
}

-- files that are among some are among more

widen : (first file end : ℕ) → file ≤ end → (files : List ℕ) → AllByRecursion (Between first file) files
    → AllByRecursion (Between first end) files
widen first file end within [] all = tt
widen first file end within (one ∷ files) all = ((all.0.0, omega (arith, within, all.0.1)), widen first file end within files all.1)

beside_less : (first file end other : ℕ) → file ≤ end → Beside first end other → Beside first file other
beside_less first file end other within beside = ⊎_elim (λ low. inl low) (λ high. inr (omega (arith, within, high))) beside

pub among_within : (first file end : ℕ) (asks : List ℕ → Type 0) (old new : FilesView) → file ≤ end → ReadsAmong first file asks old new
    → ReadsAmong first end asks old new
among_within first file end asks old new within among = record {
  asked = (among.asked.0, among.asked.1, widen first file end within among.asked.0 among.asked.2);
  others = λ other beside. among.others other (beside_less first file end other within beside);
  ended = among.ended;
  later = among.later;
}

pub read_within : (limits : LimitNumbers) (first file end : ℕ) (old new : FilesView) (parcels : List Parcel) → file ≤ end
    → AreRead limits first file old new parcels → AreRead limits first end old new parcels
read_within limits first file end old new parcels within read = record {
  are = read.are;
  few = let few = read.few in omega (arith, within, few);
  at_end = read.at_end;
  rose = read.rose;
  last = read.last;
}

-- all files were read
pub all_read : (first file count : ℕ) (parcels : List Parcel) → first + length parcels ≡ file → first + count ≡ file → HasAll count parcels
all_read first file count parcels many is whole = omega (arith, many, is)

-- none is asked for behind one that was refused
pub refused_last : (count : ℕ) (parcels : List Parcel) (parcel : Parcel) → ¬ IsWhole parcel → HasAll count (parcels ++ parcel ∷ [])
refused_last count parcels parcel refused whole = absurd (refused (all_last IsWhole parcels parcel whole))

-- files that are at their end stay there, while another is read
ends_kept : (limits : LimitNumbers) (start old new : FilesView) (file : ℕ) → ((other : ℕ) → other ≢ file → new.left other ≡ old.left other)
    → (parcels : List Parcel) (first : ℕ) → AreParcels limits start first parcels → first + length parcels ≤ file
    → AllByRecursion (IsAtEnd start old) parcels → AllByRecursion (IsAtEnd start new) parcels
ends_kept limits start old new file others [] first are low at = tt
ends_kept limits start old new file others (one ∷ parcels) first are low at = (
  λ whole. subst (λ (left : Option (List ℕ)). BothKnown (start.left one.file) left (λ bytes later. later ≡ []))
      (sym (others one.file (λ same. absurd (let is = are.0 in omega (arith, same, is, low))))) (at.0 whole),
  ends_kept limits start old new file others parcels (first + 1) are.3 (omega (arith, low)) at.1,
)

-- a count that rose has risen since earlier, and stays so
rose_between : (start old new late : ℕ) → start ≤ old → new ≤ late → Rose old new → Rose start late
rose_between start old new late before after rose = omega (arith, before, after, rose)

all_append : (P : ℕ → Type 0) (one other : List ℕ) → AllByRecursion P one → AllByRecursion P other → AllByRecursion P (one ++ other)
all_append P [] other all more = more
all_append P (file ∷ files) other all more = (all.0, all_append P files other all.1 more)

all_same : (P : ℕ → Type 0) (file count : ℕ) → P file → AllByRecursion P (replicate count file)
all_same P file zero own = tt
all_same P file (suc count) own = (own, all_same P file count own)

-- a number is another or the same
same_or : (a b : ℕ) → (a ≡ b) ⊎ (a ≢ b)
same_or a b = grind arith

module _ {I : Type 0} (view : I → FilesView) (reads : I → List ℕ → I → Type 0)
    (then_reads : (first second third : I) (before after : List ℕ) → reads first before second → reads second after third
    → reads first (before ++ after) third)
    (limits : LimitNumbers) (first file : ℕ) (start old new : I) (parcels : List Parcel) (parcel : Parcel)
    (so_far : HasRead limits first file (λ asked. reads start asked old) (view start) (view old) parcels)
    (is : IsParcelOf limits file (view old) (view new) parcel)
    (alone : ReadsNoOther file (λ asked. reads old asked new) (view old) (view new)) where
  least : first ≤ file
  least = let many = so_far.many in omega (arith, many)

  -- the file was as it was in the beginning
  same : (view old).left file ≡ (view start).left file
  same = so_far.among.others file (inr (omega arith))

  is_other : (other : ℕ) → Beside first (file + 1) other → other ≡ file → ⊥
  is_other other beside same =
      ⊎_elim (λ low. let least = least in omega (arith, same, low, least)) (λ high. omega (arith, same, high)) beside

  -- a file that was at its end is there still, that one and each other
  ended_one : (other : ℕ) → (view old).left other ≡ Some [] → (view new).left other ≡ Some []
  ended_one other end = ⊎_elim (λ (own : other ≡ file). subst (λ (one : ℕ). (view old).left one ≡ Some [] → (view new).left one ≡ Some [])
      (sym own) is.ended end) (λ (apart : other ≢ file). alone.alone.others other apart ∙ end) (same_or other file)

  -- a file more was read, and no other
  pub among_more : ReadsAmong first (file + 1) (λ asked. reads start asked new) (view start) (view new)
  among_more =
      let among = so_far.among in
      let own = alone.asked in
      record {
        asked = (
          among.asked.0 ++ replicate own.0 file,
          then_reads start old new among.asked.0 (replicate own.0 file) among.asked.1 own.1,
          all_append _ among.asked.0 (replicate own.0 file) (widen first file (file + 1) (omega arith) among.asked.0 among.asked.2)
              (all_same _ file own.0 (least, omega arith)),
        );
        others = λ other beside.
            alone.alone.others other (λ same. absurd (is_other other beside same))
            ∙ among.others other (beside_less first file (file + 1) other (omega arith) beside);
        ended = λ other end. ended_one other (among.ended other end);
        later = let after = alone.alone.later in let before = among.later in omega (arith, before, after);
      }

  kept : AllByRecursion (IsAtEnd (view start) (view new)) parcels
  kept = ends_kept limits (view start) (view old) (view new) file alone.alone.others parcels first so_far.read.are
      (let many = so_far.many in omega (arith, many)) so_far.read.at_end

  rose_before : HasFailed parcels → Rose (view start).faults (view new).faults
  rose_before failed = rose_between (view start).faults (view start).faults (view old).faults (view new).faults (omega arith)
      alone.alone.later (so_far.read.rose failed)

  -- its parcel is not handed on
  pub read_unput : AreRead limits first (file + 1) (view start) (view new) parcels
  read_unput = record {
    are = so_far.read.are;
    few = let few = so_far.read.few in omega (arith, few);
    at_end = kept;
    rose = rose_before;
    last = λ refused. absurd (refused so_far.whole);
  }

  own_body : IsReadAs limits ((view start).left file) parcel.body
  own_body = subst (λ (left : Option (List ℕ)). IsReadAs limits left parcel.body) same is.body

  own_end : IsAtEnd (view start) (view new) parcel
  own_end whole = subst (λ (own : ℕ). BothKnown ((view start).left own) ((view new).left own) (λ bytes later. later ≡ [])) (sym is.number)
      (subst (λ (left : Option (List ℕ)). BothKnown left ((view new).left file) (λ bytes later. later ≡ [])) same
      (subst (λ (own : ℕ). BothKnown ((view old).left own) ((view new).left own) (λ bytes later. later ≡ [])) is.number (is.at_end whole)))

  own_rose : IsReadFault parcel.body → Rose (view start).faults (view new).faults
  own_rose fault = rose_between (view start).faults (view old).faults (view new).faults (view new).faults so_far.among.later (omega arith)
      (is.rose fault)

  -- it is handed on
  pub read_more : AreRead limits first (file + 1) (view start) (view new) (parcels ++ parcel ∷ [])
  read_more = record {
    are = parcels_snoc limits (view start) parcel parcels first file so_far.many so_far.read.are so_far.whole (is.number, own_body);
    few = let many = so_far.many in omega (arith, many, length-append parcels (parcel ∷ []));
    at_end = all_snoc _ parcels parcel kept own_end;
    rose = λ failed. ⊎_elim rose_before own_rose (failed_snoc parcels parcel failed);
    last = λ refused other high. among_more.others other
        (inr (let many = so_far.many in omega (arith, many, high, length-append parcels (parcel ∷ []))));
  }

  -- and was not refused
  pub read_next : IsWhole parcel
      → HasRead limits first (file + 1) (λ asked. reads start asked new) (view start) (view new) (parcels ++ parcel ∷ [])
  read_next whole = record {
    read = read_more;
    among = among_more;
    whole = all_snoc IsWhole parcels parcel so_far.whole whole;
    many = let many = so_far.many in omega (arith, many, length-append parcels (parcel ∷ []));
  }
