-- What the opening of a store finds.
use Rattle.std.specs.Prelude.{◌≡◌, ◌≢◌, ℕ, Bool, true, false, List, Option, None, Some, is_some, Result, Ok, Err, IfErr, IfOk, IsErrOf, OnOk}
use Rattle.std.specs.Result.{result_err}
use Rattle.outside.specs.Bytes.{IfTold, IsTold}
use Rattle.outside.specs.Disk.{DiskView, Stays}
use Rattle.page_journal.specs.Home.{HasOpenJournal, Home, IsFormatted}
use Rattle.page_journal.specs.Pages.{gate}
use Rattle.page_journal.specs.declared.layout.TheConstants.{OPEN}
use Rattle.page_journal.specs.declared.fault.StoreFault.TheVariants.{BadStore, NotFormatted}
use Rattle.chain_store.specs.Directories.{root_in}
use Rattle.chain_store.specs.declared.root.Root.{Root}
use Rattle.chain_store.specs.Links.{page_in}
use Rattle.style_read.specs.Style.{StyleOf}
use Rattle.bucket_store.specs.Image.{HoldsImage, Image}
use Rattle.bucket_store.specs.Opening.{Fits}
use Rattle.bucket_store.specs.declared.resting.Resting.{Resting}
use Rattle.update_flow.specs.AtRest.{HasFlowCause, IsDamaged}
use Rattle.update_flow.specs.OpeningReads.{ReadsStyle}
use Rattle.update_flow.specs.Refusals.{IsNoDiskFault, IsOpenFault, MayFind}
use Rattle.update_flow.specs.declared.fault.FlowFault.{FlowFault}
use Rattle.update_flow.specs.declared.fault.FlowFault.TheVariants.{Store}
use Rattle.update_flow.specs.declared.opened.Opened.{Opened}
use Rattle.update_flow.specs.Roots.{AreFieldsOf, is_following}
use Rattle.update_flow.specs.Stands.{Means}
use Rattle.update_flow.specs.State.{State, changes_in, follows, following, style_in, was_old}
use Rattle.update_flow.specs.Within.{IsSound}

-- what an opening has found is a store of this state, on a disk like this
pub record Found (state : State) (disk : DiskView) (opened : Opened) : Type 0 where
  pub changes_are : opened.changes ≡ changes_in state
  pub style_is : opened.style ≡ style_in state
  pub old_is : opened.outdated ≡ was_old state
  pub own : follows state ≡ false
  pub fits : Fits opened.store disk

-- where it has found nothing to go on with, it is one of a follower
abbrev pub FoundIn : State → DiskView → Option Opened → Type 0
FoundIn state disk None = follows state ≡ true
FoundIn state disk (Some opened) = Found state disk opened

-- the disk holds a store that means this state
pub record HoldsState (state : State) (disk : DiskView) : Type 0 where
  pub image : Image
  pub holds : HoldsImage image disk
  pub means : Means state image

-- this is so of the root page of bytes whose journal is shut
abbrev pub IfRoot : (Root → Type 0) → List ℕ → Type 0
IfRoot Is bytes = gate bytes ≢ OPEN → (pages : List (List ℕ)) → Home pages bytes → Is (root_in (page_in pages 1))

-- it has the fields of such a store
abbrev pub RootTells : Option StyleOf → Bool → ℕ → List ℕ → Type 0
RootTells style outdated changes bytes = IfRoot (AreFieldsOf style outdated changes) bytes

-- the fields of a follower's store of this version
pub record AreOfFollower (version : ℕ) (root : Root) : Type 0 where
  pub kind : is_following root ≡ true
  pub count : version ≡ root.changes

-- the fields of what was found, or those of a follower's store
abbrev pub AreFieldsFor : Option Opened → Root → Type 0
AreFieldsFor None root = is_following root ≡ true
AreFieldsFor (Some opened) root = AreFieldsOf opened.style opened.outdated opened.changes root

-- the fields of a store of this state
abbrev pub AreFieldsIn : State → Root → Type 0
AreFieldsIn (following held) root = AreOfFollower held.version root
AreFieldsIn state root = AreFieldsOf (style_in state) (was_old state) (changes_in state) root

-- bytes with such a root page are those of what was found, or of a follower's store of some version
abbrev pub RootTold : Option (List ℕ) → Option Opened → Type 0
RootTold content None = (version : ℕ) × IfTold content (IfRoot (AreOfFollower version))
RootTold content (Some opened) = IfTold content (RootTells opened.style opened.outdated opened.changes)

-- bytes, whatever they stand for, may be opened as a store of this state: they have the form of a store, and its root page tells so
pub record MayOpenAs (state : State) (bytes : List ℕ) : Type 0 where
  pub formed : IsFormatted bytes
  pub fields : IfRoot (AreFieldsIn state) bytes

-- whatever a disk holds, its opening is answered so and leaves it so; of what it has found the bytes as they were tell this
pub record OpensWith {T : Type 0} (Told : Option (List ℕ) → T → Type 0) (old new : DiskView) (result : Result T FlowFault) : Type 0 where
  pub alone : IfErr result IsOpenFault
  pub no_store : IsErrOf result (Store NotFormatted) → IfTold old.content (λ bytes. ¬ IsFormatted bytes)
  pub formed : OnOk result (IfTold old.content IsFormatted)
  pub fields : IfOk result (Told old.content)
  pub untouched : IsErrOf result (Store NotFormatted) → Stays old new
  pub told : IsTold old.content → IsNoDiskFault (result_err result) → IsTold new.content
  pub bad : (page : ℕ) → IsErrOf result (Store (BadStore page)) → IfTold old.content IsDamaged
  pub same : IfTold old.content (λ bytes. gate bytes ≢ OPEN → new.content ≡ old.content)
  pub looked : IfTold old.content (λ bytes. ¬ HasOpenJournal bytes → Stays old new)
  pub cause : HasFlowCause (result_err result) old new

abbrev pub OpensAny : (old new : DiskView) → Result (Option Opened) FlowFault → Type 0
OpensAny old new result = OpensWith RootTold old new result

-- an answer that has found a store, where it has
abbrev pub as_found : Result Opened FlowFault → Result (Option Opened) FlowFault
as_found (Ok opened) = Ok (Some opened)
as_found (Err fault) = Err fault

-- an imported store with so many changes, an old one or not
pub record IsStyled (changes : ℕ) (outdated : Bool) (opened : Opened) : Type 0 where
  pub changes_are : opened.changes ≡ changes
  pub old_is : opened.outdated ≡ outdated
  pub styled : is_some opened.style ≡ true

-- and a look for the state of a store of which this was read
pub record Finds {T : Type 0} (found : Resting) (old new : DiskView) (result : Result T FlowFault) : Type 0 where
  pub alone : IfErr result MayFind
  pub stays : Stays old new
  pub once : OnOk result ((state : State) → Fits found old → HoldsState state old → ReadsStyle old new)
  pub cause : HasFlowCause (result_err result) old new

-- and refuses nothing of a store that means a state but where its disk fails or memory runs out
pub record FindsSoundly {T : Type 0} (found : Resting) (old new : DiskView) (result : Result T FlowFault) : Type 0 where
  pub finds : Finds found old new result
  pub sound : Fits found old → (state : State) → HoldsState state old → IsSound (result_err result)
