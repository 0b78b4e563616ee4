-- What a look at the whole of a store finds.
use Rattle.std.specs.Prelude.{◌≡◌, ◌≢◌, ◌⊎◌, ◌<◌, ℕ, Bool, List, [], true, false, Option, None, Some, Result, Ok, Err, OnOk}
use Rattle.std.specs.Result.{result_err}
use Rattle.outside.specs.Disk.{DiskView}
use Rattle.outside.specs.declared.disk.Disk.{Ghosts}
use Rattle.page_journal.specs.Home.{Home}
use Rattle.page_journal.specs.declared.fault.StoreFault.TheVariants as store
use Rattle.chain_store.specs.Chains.{OnlyRead}
use Rattle.chain_store.specs.Directories.{IsCount}
use Rattle.chain_store.specs.Store.{kept_first}
use Rattle.chain_store.specs.declared.kept.Kept.{Kept}
use Rattle.bucket_store.specs.Buckets.{chain_at}
use Rattle.bucket_store.specs.Image.{Has, Image}
use Rattle.bucket_store.specs.Opening.{Fits, opened_root}
use Rattle.bucket_store.specs.Transaction.{IsOpenStore, chains_of, has_refused}
use Rattle.bucket_store.specs.declared.buckets.Buckets.{Buckets}
use Rattle.style_read.specs.Reading.{reading}
use Rattle.style_read.specs.Style.{StyleOf}
use Rattle.value_bytes.specs.StoreMap.{map_number}
use Rattle.value_bytes.specs.declared.store_map.StoreMap.{StoreMap}
use Rattle.store_check.specs.BadPage.{IsUnused}
use Rattle.store_check.specs.Reading.{IsUnwritten}
use Rattle.store_check.specs.Wrong.{IsFirstWrong}
use Rattle.update_flow.specs.BadPage.{IsBadImage, IsBadWithin, IsImageOf, IsUnread, WritesStyle, root_told}
use Rattle.update_flow.specs.Roots.{AreFieldsOf, is_blank, is_imported}
use Rattle.update_flow.specs.Sound.{IsSoundImport}
use Rattle.update_flow.specs.Stands.{IsBlank}
use Rattle.update_flow.specs.State.{Holding}
use Rattle.update_flow.specs.Within.{IsGoing, RunsWithin}
use Rattle.update_flow.specs.declared.fault.FlowFault.{FlowFault}
use Rattle.update_flow.specs.declared.fault.FlowFault.TheVariants as flow
use Rattle.update_flow.specs.declared.fields.TheConstants.{STYLE_TEXT}
use Rattle.update_flow.specs.declared.opened.Opened.{Opened}

-- what a sound store means
abbrev pub IsSoundImage : Image → Type 0
IsSoundImage image = IsBlank image ⊎ ((held : Holding) × IsSoundImport held image)

-- these are the home pages of a sound store
pub record AreSound (pages : List (List ℕ)) : Type 0 where
  pub image : Image
  pub of : IsImageOf image pages
  pub is : IsSoundImage image

-- the opened store was read of these bytes, and is so on this disk
pub record IsReadOf (bytes : List ℕ) (opened : Opened) (view : DiskView) : Type 0 where
  pub fits : Fits opened.store view
  pub home : Home fits.pages bytes
  pub count : IsCount (opened_root opened.store).buckets
  pub fields : AreFieldsOf opened.style opened.outdated opened.changes (opened_root opened.store)

-- loading the style may give this answer
abbrev pub LoadsStyle : List (List ℕ) → Kept → Result StyleOf FlowFault → Type 0
LoadsStyle pages kept (Ok style) = WritesStyle pages kept style
LoadsStyle pages kept (Err (flow.Store (store.BadStore at))) = IsUnread pages kept at
LoadsStyle pages kept (Err _) = Unit {0}

-- a judgement of a store may be this: it is sound, or it is not and this page is blamed
abbrev pub Judges : List (List ℕ) → Kept → Option FlowFault → Type 0
Judges pages kept None = AreSound pages
Judges pages kept (Some (flow.Store (store.BadStore at))) = (¬ AreSound pages) × IsBadWithin pages kept at
Judges pages kept (Some _) = Unit {0}

-- the style of this image is not read, which is blamed on the root page
pub record IsStyleless (image : Image) (at : ℕ) : Type 0 where
  pub one : at ≡ 1
  pub none : (style : StyleOf) → reading (image.texts STYLE_TEXT) ≢ Ok style

-- the same of one whose chains were read
abbrev pub JudgesImage : Kept → Image → Option FlowFault → Type 0
JudgesImage kept image None = IsSoundImage image
JudgesImage kept image (Some (flow.Store (store.BadStore at))) =
    (¬ IsSoundImage image) × (((is_imported image.root ≡ true) × IsStyleless image at) ⊎ IsBadImage kept image at)
JudgesImage kept image (Some _) = Unit {0}

-- the fields are those of a store that is no old one
abbrev pub IsOfToday : Image → Type 0
IsOfToday image = (is_blank image.root ≡ true) ⊎ (is_imported image.root ≡ true)

-- the home pages tell fields of a store that is no old one
pub record TellsToday (pages : List (List ℕ)) : Type 0 where
  pub count : IsCount (root_told pages).buckets
  pub kind : (is_blank (root_told pages) ≡ true) ⊎ (is_imported (root_told pages) ≡ true)

-- a text is empty, or not
abbrev pub IsEmptyText : Bool → List ℕ → Type 0
IsEmptyText true bytes = bytes ≡ []
IsEmptyText false bytes = bytes ≢ []

-- this one is empty if it is to be, or it is to be and is not
abbrev pub IsEmptyAt : ℕ → Bool → Image → Type 0
IsEmptyAt n true image = IsUnused n → image.texts n ≡ []
IsEmptyAt n false image = IsUnused n × (image.texts n ≢ [])

-- those below a number that are to be empty are, or one is not
abbrev pub AreEmptyBelow : ℕ → Bool → Image → Type 0
AreEmptyBelow count true image = (n : ℕ) → n < count → IsUnused n → image.texts n ≡ []
AreEmptyBelow count false image = (n : ℕ) × IsUnused n × (image.texts n ≢ [])

-- a call has only read, and has refused nothing
pub record HasOnlyRead {D : Type 0} {g : Ghosts D} (old new : Buckets D g) : Type 0 where
  pub going : has_refused new ≡ false
  pub has : (rest : Image) → Has rest rest old → Has rest rest new
  pub stays : OnlyRead (chains_of old) (chains_of new)

-- what a call that only reads leaves, whatever its answer
pub record OnlyReads {T D : Type 0} {g : Ghosts D} (old new : Buckets D g) (result : Result T FlowFault) : Type 0 where
  pub only : OnOk result (HasOnlyRead old new)
  pub runs : RunsWithin old new (result_err result)

-- a store may be judged under these buckets: they have refused nothing, and nothing was written
pub record MayJudge {D : Type 0} {g : Ghosts D} (buckets : Buckets D g) : Type 0 where
  pub ready : IsGoing buckets
  pub unwritten : IsUnwritten buckets

-- what was opened tells the same of its store
pub record IsAsOpened (opened now : Opened) : Type 0 where
  pub changes_are : now.changes ≡ opened.changes
  pub style_is : now.style ≡ opened.style
  pub old_is : now.outdated ≡ opened.outdated

-- by this style a value is the first that is not right, and its bucket begins at this page
pub record IsWrongAt (style : StyleOf) (kept : Kept) (image : Image) (at : ℕ) : Type 0 where
  pub map : StoreMap
  pub key : ℕ
  pub first : IsFirstWrong style image map key
  pub begins : at ≡ kept_first kept (chain_at image.root.buckets (map_number map) key)

-- what is refused at a page is refused at the root page
abbrev pub rooted : FlowFault → FlowFault
rooted (flow.Store (store.BadStore page)) = flow.Store (store.BadStore 1)
rooted fault = fault

-- the root page is blamed unless this is so
abbrev pub fault_unless : Bool → Option FlowFault
fault_unless true = None
fault_unless false = Some (flow.Store (store.BadStore 1))

-- and the store under it is open with the pages that it had
pub record HasReadText {D : Type 0} {g : Ghosts D} (old new : Buckets D g) : Type 0 where
  pub only : HasOnlyRead old new
  pub opens : (pages : List (List ℕ)) → IsOpenStore pages old → IsOpenStore pages new
