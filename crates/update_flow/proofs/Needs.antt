-- What a step leaves, or tells, are the home pages that are needed.
use Rattle.std.proofs.Common.{◌≡◌, ◌∙◌, inl, inr, ℕ, List, Option, None, Some, Err, arith, subst, sym}
use Rattle.std.proofs.lemmas.Option.{same_Some}
use Rattle.outside.specs.Disk.{DiskView, Only, Stays}
use Rattle.osm_base.specs.declared.bounds.limits.LimitNumbers.{LimitNumbers}
use Rattle.page_journal.specs.Crash.{IsAtRest}
use Rattle.page_journal.specs.Home.{Home}
use Rattle.page_journal.specs.Pages.{gate}
use Rattle.page_journal.specs.declared.fault.StoreFault.{StoreFault}
use Rattle.page_journal.specs.declared.fault.StoreFault.TheVariants as store
use Rattle.page_journal.specs.declared.layout.TheConstants.{OPEN}
use Rattle.bucket_store.specs.Image.{Image}
use Rattle.bucket_store.specs.Needed.{FitsImage, NeedsPages}
use Rattle.update_flow.specs.maps.Calls.{IsAllowed}
use Rattle.update_step.specs.Ends.{MayRefuse}
use Rattle.update_step.specs.declared.fault.StepFault.{StepFault}
use Rattle.update_step.specs.declared.fault.StepFault.TheVariants as steps
use Rattle.update_flow.specs.AtRest.{IsAt}
use Rattle.update_flow.specs.Faults.{of_store}
use Rattle.update_flow.specs.Needed.{FitsLimit, Grows, HasStood, NeedsFrom, NeedsOn}
use Rattle.update_flow.specs.Stands.{StandsFor}
use Rattle.update_flow.specs.State.{State}
use Rattle.update_flow.specs.Steps.{of_step}
use Rattle.update_flow.specs.Within.{IsSound}
use Rattle.update_flow.specs.declared.fault.FlowFault.{FlowFault}
use Rattle.update_flow.specs.declared.fault.FlowFault.TheVariants as flow

-- what is needed, told otherwise
pub fits_as : (limits : LimitNumbers) (P Q : ℕ → Type 0) (fault : Option FlowFault) → ((many : ℕ) → P many → Q many)
    → FitsLimit limits P fault → FitsLimit limits Q fault
fits_as limits P Q None turn fits = (fits.0, turn fits.0 fits.1, fits.2)
fits_as limits P Q (Some (flow.Store store.NotFormatted)) turn fits = tt
fits_as limits P Q (Some (flow.Store store.NotEmpty)) turn fits = tt
fits_as limits P Q (Some (flow.Store (store.BadStore page))) turn fits = tt
fits_as limits P Q (Some (flow.Store store.DiskFault)) turn fits = tt
fits_as limits P Q (Some (flow.Store (store.StoreFull pages))) turn fits = (turn pages fits.0, fits.1)
fits_as limits P Q (Some (flow.Store store.Broken)) turn fits = tt
fits_as limits P Q (Some (flow.Store store.OutOfMemory)) turn fits = tt
fits_as limits P Q (Some flow.NotImported) turn fits = tt
fits_as limits P Q (Some flow.AlreadyImported) turn fits = tt
fits_as limits P Q (Some flow.OldFormat) turn fits = tt
fits_as limits P Q (Some flow.LastChange) turn fits = tt
fits_as limits P Q (Some (flow.TooMany value)) turn fits = tt
fits_as limits P Q (Some flow.OutOfMemory) turn fits = tt

-- a refusal of a store that means a state is never for its pages
pub sound_fits : (limits : LimitNumbers) (P : ℕ → Type 0) (fault : FlowFault) → IsSound (Some fault) → FitsLimit limits P (Some fault)
sound_fits limits P (flow.Store store.NotFormatted) sound = tt
sound_fits limits P (flow.Store store.NotEmpty) sound = tt
sound_fits limits P (flow.Store (store.BadStore page)) sound = tt
sound_fits limits P (flow.Store store.DiskFault) sound = tt
sound_fits limits P (flow.Store (store.StoreFull pages)) sound = absurd sound
sound_fits limits P (flow.Store store.Broken) sound = tt
sound_fits limits P (flow.Store store.OutOfMemory) sound = tt
sound_fits limits P flow.NotImported sound = tt
sound_fits limits P flow.AlreadyImported sound = tt
sound_fits limits P flow.OldFormat sound = tt
sound_fits limits P flow.LastChange sound = tt
sound_fits limits P (flow.TooMany value) sound = tt
sound_fits limits P flow.OutOfMemory sound = tt

module _ (limits : LimitNumbers) (P : ℕ → Type 0) where
  allowed_fits : (fault : StoreFault) → IsAllowed fault → FitsLimit limits P (Some (of_store fault))
  allowed_fits store.NotFormatted allowed = tt
  allowed_fits store.NotEmpty allowed = tt
  allowed_fits (store.BadStore page) allowed = tt
  allowed_fits store.DiskFault allowed = tt
  allowed_fits (store.StoreFull pages) allowed = absurd allowed
  allowed_fits store.Broken allowed = tt
  allowed_fits store.OutOfMemory allowed = tt

  -- nor is one of a change of its maps
  pub step_fits : (why : StepFault StoreFault) → MayRefuse IsAllowed why → FitsLimit limits P (Some (of_step why))
  step_fits (steps.Store fault) allowed = allowed_fits fault allowed
  step_fits (steps.TooMany value) allowed = tt
  step_fits steps.OutOfMemory allowed = tt

-- a refusal of the commit tells what is needed
pub commit_fits : (limits : LimitNumbers) (before most now : ℕ) (image : Image) (fault : StoreFault) → most ≡ limits.pages
    → FitsImage before image most now (Err fault) → FitsLimit limits (NeedsPages before image) (Some (of_store fault))
commit_fits limits before most now image store.NotFormatted same fits = tt
commit_fits limits before most now image store.NotEmpty same fits = tt
commit_fits limits before most now image (store.BadStore page) same fits = tt
commit_fits limits before most now image store.DiskFault same fits = tt
commit_fits limits before most now image (store.StoreFull pages) same fits = (fits.0, omega (arith, same, fits.1))
commit_fits limits before most now image store.Broken same fits = tt
commit_fits limits before most now image store.OutOfMemory same fits = tt

-- what a store on a disk needs a store of its state needs
pub needs_from : (limits : LimitNumbers) (first : Option (List ℕ)) (state next : State) (disk : DiskView) (many : ℕ) → IsAt state disk
    → HasStood limits first disk
    → NeedsOn disk next many → NeedsFrom limits first state next many
needs_from limits first state next disk many at stood on =
    let home : Home on.pages at.bytes =
    subst (λ (bytes : List ℕ). Home on.pages bytes) (same_Some on.rests.0 at.bytes (sym on.rests.1.told ∙ at.told)) on.rests.1.home in
    record {
      bytes = at.bytes;
      stands = at.stands;
      pages = on.pages;
      home = home;
      stood = stood at.bytes at.told on.pages home;
      needs = on.needs;
    }

-- a store at rest has home pages
pub rests_at : (state : State) (disk : DiskView) → IsAt state disk → (pages : List (List ℕ)) × IsAtRest pages disk
unfolding StandsFor
rests_at state disk at =
    (at.stands.2.state.pages, (at.bytes, record { told = at.told; only = at.only; shut = at.shut; home = at.stands.2.state.home }))

-- behind a step they are within the limit
pub stood_grown : (limits : LimitNumbers) (first : Option (List ℕ)) (one other : State) (old new : DiskView) → IsAt one old → IsAt other new
    → Grows limits other old new → HasStood limits first new
stood_grown limits first one other old new was is grown = λ bytes told pages home.
    let before = rests_at one old was in
    let same : is.bytes ≡ bytes = same_Some is.bytes bytes (sym is.told ∙ told) in
    inl (grown before.0 pages before.1 (
      bytes,
      record {
        told = told;
        only = subst (λ (b : List ℕ). Only b new.crashes) same is.only;
        shut = subst (λ (b : List ℕ). gate b ≡ OPEN → ⊥) same is.shut;
        home = home;
      },
    )).1

-- behind the opening they are those that were told first
pub stood_opened : (limits : LimitNumbers) (first : Option (List ℕ)) (disk : DiskView)
    → ((bytes : List ℕ) → first ≡ Some bytes → (gate bytes ≡ OPEN → ⊥) → disk.content ≡ first)
    → HasStood limits first disk
stood_opened limits first disk same = λ bytes told pages home.
    inr (λ own was shut. subst (λ (b : List ℕ). Home pages b) (same_Some bytes own (sym told ∙ same own was shut ∙ was)) home)

-- a look changes none
pub stood_stays : (limits : LimitNumbers) (first : Option (List ℕ)) (old new : DiskView) → Stays old new → HasStood limits first old
    → HasStood limits first new
stood_stays limits first old new stays stood = λ bytes told pages home. stood bytes (sym stays.content ∙ told) pages home
