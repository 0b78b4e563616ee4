-- Lists of parcels, one more after another, and fronts of them.
use Rattle.std.proofs.Common.{◌≡◌, ◌≢◌, ◌≤◌, ◌⊎◌, inl, inr, ⊎_elim, ℕ, ◌+◌, List, [], ◌∷◌, ◌++◌, length, length-append, refl, sym, subst, arith}
use Rattle.std.specs.List.{AllByRecursion}
use Rattle.osm_base.specs.declared.bounds.limits.LimitNumbers.{LimitNumbers}
use Rattle.outside.specs.Inputs.{FilesView}
use Rattle.change_pipe.specs.declared.parcel.Parcel.{Parcel}
use Rattle.change_pipe.specs.Files.{AreRead}
use Rattle.change_pipe.specs.Parcels.{AreParcels, HasFailed, IsReadAs, IsReadFault, IsWhole}

-- what is so of each is so of one more
pub all_snoc : (P : Parcel → Type 0) (parcels : List Parcel) (parcel : Parcel) → AllByRecursion P parcels → P parcel
    → AllByRecursion P (parcels ++ parcel ∷ [])
all_snoc P [] parcel all own = (own, tt)
all_snoc P (one ∷ parcels) parcel all own = (all.0, all_snoc P parcels parcel all.1 own)

-- and of the last of them
pub all_last : (P : Parcel → Type 0) (parcels : List Parcel) (parcel : Parcel) → AllByRecursion P (parcels ++ parcel ∷ []) → P parcel
all_last P [] parcel all = all.0
all_last P (one ∷ parcels) parcel all = all_last P parcels parcel all.1

-- and of those in front of others
pub all_front : (P : Parcel → Type 0) (front rest : List Parcel) → AllByRecursion P (front ++ rest) → AllByRecursion P front
all_front P [] rest all = tt
all_front P (one ∷ front) rest all = (all.0, all_front P front rest all.1)

-- where a read failed, it was one of those before or the last one
pub failed_snoc : (parcels : List Parcel) (parcel : Parcel) → HasFailed (parcels ++ parcel ∷ [])
    → HasFailed parcels ⊎ IsReadFault parcel.body
failed_snoc [] parcel failed = ⊎_elim (λ own. inr own) (λ none. absurd none) failed
failed_snoc (one ∷ parcels) parcel failed =
    ⊎_elim (λ first. inl (inl first)) (λ more.
    ⊎_elim (λ earlier. inl (inr earlier)) (λ own. inr own) (failed_snoc parcels parcel more)) failed

-- one of those in front is one of all
pub failed_front : (front rest : List Parcel) → HasFailed front → HasFailed (front ++ rest)
failed_front [] rest failed = absurd failed
failed_front (one ∷ front) rest failed = ⊎_elim (λ own. inl own) (λ more. inr (failed_front front rest more)) failed

-- where one is the last there is one
snoc_some : (parcels : List Parcel) (parcel : Parcel) → parcels ++ parcel ∷ [] ≢ []
snoc_some [] parcel none = absurd (cc)
snoc_some (one ∷ parcels) parcel none = absurd (cc)

module _ (limits : LimitNumbers) (files : FilesView) (parcel : Parcel) where
  abbrev IsOf : ℕ → Type 0
  IsOf file = (parcel.file ≡ file) × IsReadAs limits (files.left file) parcel.body

  -- a parcel of the next file comes behind others, of which none was refused
  pub parcels_snoc : (parcels : List Parcel) (file next : ℕ) → file + length parcels ≡ next → AreParcels limits files file parcels
      → AllByRecursion IsWhole parcels → IsOf next → AreParcels limits files file (parcels ++ parcel ∷ [])
  parcels_snoc [] file next is are whole own =
      let here : IsOf file = subst IsOf (omega (arith, is)) own in
      (here.0, here.1, λ some. absurd (some refl), tt)
  parcels_snoc (one ∷ parcels) file next is are whole own =
      (are.0, are.1, λ _. whole.0, parcels_snoc parcels (file + 1) next (omega (arith, is)) are.3 whole.1 own)

-- the last one is of the next file, and none before it was refused
pub parcels_last : (limits : LimitNumbers) (files : FilesView) (parcel : Parcel) (parcels : List Parcel) (first file : ℕ)
    → first + length parcels ≡ file → AreParcels limits files first (parcels ++ parcel ∷ [])
    → (parcel.file ≡ file) × IsReadAs limits (files.left file) parcel.body × AllByRecursion IsWhole parcels
parcels_last limits files parcel [] first file is are =
    let here = subst (λ own. (parcel.file ≡ own) × IsReadAs limits (files.left own) parcel.body) (omega (arith, is)) (are.0, are.1) in
    (here.0, here.1, tt)
parcels_last limits files parcel (one ∷ parcels) first file is are =
    let later = parcels_last limits files parcel parcels (first + 1) file (omega (arith, is)) are.3 in
    (later.0, later.1, (are.2 (λ none. absurd (snoc_some parcels parcel none)), later.2))

-- none was refused before another one
pub whole_before : (limits : LimitNumbers) (files : FilesView) (next : Parcel) (rest : List Parcel) (front : List Parcel) (file : ℕ)
    → AreParcels limits files file (front ++ next ∷ rest) → AllByRecursion IsWhole front
whole_before limits files next rest [] file are = tt
whole_before limits files next rest (one ∷ []) file are = (are.2 (λ none. absurd (cc)), tt)
whole_before limits files next rest (one ∷ other ∷ front) file are =
    (are.2 (λ none. absurd (cc)), whole_before limits files next rest (other ∷ front) (file + 1) are.3)

-- those in front of others
pub parcels_front : (limits : LimitNumbers) (files : FilesView) (file : ℕ) (front rest : List Parcel)
    → AreParcels limits files file (front ++ rest) → AreParcels limits files file front
parcels_front limits files file [] rest are = tt
parcels_front limits files file (one ∷ []) rest are = (are.0, are.1, λ some. absurd (some refl), tt)
parcels_front limits files file (one ∷ next ∷ front) rest are =
    (are.0, are.1, λ _. are.2 (λ none. absurd (cc)), parcels_front limits files (file + 1) (next ∷ front) rest are.3)

-- a front with one that was refused is all of them, and behind it no file was touched
last_front : (limits : LimitNumbers) (first end : ℕ) (old new : FilesView) (front rest : List Parcel)
    → AreRead limits first end old new (front ++ rest) → ¬ AllByRecursion IsWhole front → (other : ℕ) → first + length front ≤ other
    → new.left other ≡ old.left other
last_front limits first end old new front [] read refused other high =
    let rest : List Parcel = [] in
    read.last (λ whole. refused (all_front IsWhole front [] whole)) other (omega (arith, high, length-append front rest))
last_front limits first end old new front (next ∷ rest) read refused other high =
    absurd (refused (whole_before limits old next rest front first read.are))

-- what was taken, a front of the parcels of files, are parcels of these
pub read_front : (limits : LimitNumbers) (first end : ℕ) (old new : FilesView) (put got taken rest : List Parcel) → put ≡ got ++ rest
    → taken ≡ got → AreRead limits first end old new put → AreRead limits first end old new taken
read_front limits first end old new put got taken rest order is read =
    let all : AreRead limits first end old new (got ++ rest) = subst (AreRead limits first end old new) order read in
    subst (AreRead limits first end old new) (sym is) (record {
      are = parcels_front limits old first got rest all.are;
      few = let few = all.few in omega (arith, length-append got rest, few);
      at_end = all_front _ got rest all.at_end;
      rose = λ failed. all.rose (failed_front got rest failed);
      last = last_front limits first end old new got rest all;
    })
