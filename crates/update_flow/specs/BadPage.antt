-- Which page is blamed of a store that is not sound: the first of these rules that applies.
-- docs/FILES.md, "The root page" and "Chains": what is read of a store is refused at the page that is not as it is to be. All that no
-- chain tells is blamed on page 1, the root page.
use Rattle.std.specs.Prelude.{◌≡◌, ◌≢◌, ◌⊎◌, ◌<◌, ℕ, List, [], true, false, Ok, Err}
use Rattle.page_journal.specs.Answers.{HomeRefused, JournalRefused}
use Rattle.page_journal.specs.Home.{Home}
use Rattle.page_journal.specs.declared.fault.StoreFault.TheVariants.{BadStore}
use Rattle.chain_store.specs.Answers.{ReadsKept}
use Rattle.chain_store.specs.Directories.{root_in}
use Rattle.chain_store.specs.Links.{page_in}
use Rattle.chain_store.specs.State.{IsState}
use Rattle.chain_store.specs.Store.{HasBytes, IsRefused, Keeps, kept_first}
use Rattle.chain_store.specs.declared.kept.Kept.{Kept}
use Rattle.chain_store.specs.declared.root.Root.{Root}
use Rattle.bucket_store.specs.Buckets.{chain_at}
use Rattle.bucket_store.specs.Image.{Image, Spells}
use Rattle.row_rules.specs.Condition.{reaches_nodes}
use Rattle.style_read.specs.Reading.{reading}
use Rattle.style_read.specs.Style.{StyleOf}
use Rattle.tile_cover.specs.Runs.{IsTileSet}
use Rattle.value_bytes.specs.Forms.{IsNoValue}
use Rattle.value_bytes.specs.StoreMap.{map_number}
use Rattle.value_bytes.specs.declared.store_map.StoreMap.{StoreMap}
use Rattle.due_tiles.specs.Spelling.{set_bytes}
use Rattle.store_check.specs.BadPage.{AreLoaded, AreOwned, IsFirstRefused, IsLeftOver, IsUnused}
use Rattle.store_check.specs.Wrong.{AllRight, IsFirstWrong}
use Rattle.update_flow.specs.Roots.{is_blank, is_following, is_imported, is_old}
use Rattle.update_flow.specs.declared.fault.TheConstants.{LAST_CHANGE}
use Rattle.update_flow.specs.declared.fields.TheConstants.{DUE_TEXT, STYLE_TEXT}

-- the fields that home pages tell
abbrev pub root_told : List (List ℕ) → Root
root_told pages = root_in (page_in pages 1)

-- these home pages mean this
pub record IsImageOf (image : Image) (pages : List (List ℕ)) : Type 0 where
  pub strings : ℕ → List ℕ
  pub state : IsState image.root strings pages
  pub spells : Spells image strings

-- fields of no store: of none that was only made, of no imported one, of no old one, and of no follower's
pub record AreOfNoStore (root : Root) : Type 0 where
  pub made : is_blank root ≡ false
  pub begun : is_imported root ≡ false
  pub old : is_old root ≡ false
  pub own : is_following root ≡ false

-- the chain of the style has these bytes
abbrev pub HasStyleText : List (List ℕ) → Kept → List ℕ → Type 0
HasStyleText pages kept text = HasBytes pages STYLE_TEXT (kept_first kept STYLE_TEXT) text

-- the style is not read: its chain is refused, or its bytes write no style
pub data IsUnread (pages : List (List ℕ)) (kept : Kept) (at : ℕ) : Type 0 where
  NoText : IsRefused pages STYLE_TEXT (kept_first kept STYLE_TEXT) at → IsUnread pages kept at
  NoStyle : (text : List ℕ) → HasStyleText pages kept text → ((style : StyleOf) → reading text ≢ Ok style) → at ≡ 1 → IsUnread pages kept at

-- and these bytes write this one
pub record WritesStyle (pages : List (List ℕ)) (kept : Kept) (style : StyleOf) : Type 0 where
  pub text : List ℕ
  pub has : HasStyleText pages kept text
  pub reads : reading text ≡ Ok style

-- an imported store or an old one is refused for its style: it is not read, or it is that of an old store and reaches nodes
pub data IsBadStyle (pages : List (List ℕ)) (kept : Kept) (at : ℕ) : Type 0 where
  Unread : IsUnread pages kept at → IsBadStyle pages kept at
  Reaches : (style : StyleOf) → WritesStyle pages kept style → is_old (root_told pages) ≡ true → reaches_nodes style ≡ true → at ≡ 1
      → IsBadStyle pages kept at

-- a value is the first that is not right, and its bucket begins at this page, or it is 0 where the bucket is empty
pub record IsBadValue (kept : Kept) (image : Image) (at : ℕ) : Type 0 where
  pub style : StyleOf
  pub read : reading (image.texts STYLE_TEXT) ≡ Ok style
  pub map : StoreMap
  pub key : ℕ
  pub first : IsFirstWrong style image map key
  pub begins : at ≡ kept_first kept (chain_at image.root.buckets (map_number map) key)

-- each value of an imported store is right by its style
pub record HasRightValues (image : Image) : Type 0 where
  pub style : StyleOf
  pub read : reading (image.texts STYLE_TEXT) ≡ Ok style
  pub right : AllRight style image

-- what no value tells: a store that was only made has a text, or too many changes; of an imported one the due tiles are not spelled, or
-- a text that is to be empty is not
pub data IsBadRest (image : Image) : Type 0 where
  MadeWithText : is_blank image.root ≡ true → (n : ℕ) → n < 8 → image.texts n ≢ [] → IsBadRest image
  MadeWithChanges : is_blank image.root ≡ true → LAST_CHANGE < image.root.changes → IsBadRest image
  NoDue : is_imported image.root ≡ true → HasRightValues image → IsNoValue set_bytes IsTileSet (image.texts DUE_TEXT) → IsBadRest image
  FullText : is_imported image.root ≡ true → HasRightValues image → (n : ℕ) → IsUnused n → image.texts n ≢ [] → IsBadRest image

-- of a store of which each chain was read, that of the value that is not right, or else the root page
pub data IsBadImage (kept : Kept) (image : Image) (at : ℕ) : Type 0 where
  BadValue : is_imported image.root ≡ true → IsBadValue kept image at → IsBadImage kept image at
  BadRest : IsBadRest image → at ≡ 1 → IsBadImage kept image at

-- of a store whose root page and directories were read
pub data IsBadWithin (pages : List (List ℕ)) (kept : Kept) (at : ℕ) : Type 0 where
  BadFields : AreOfNoStore (root_told pages) → at ≡ 1 → IsBadWithin pages kept at
  BadStyle : (is_imported (root_told pages) ≡ true) ⊎ (is_old (root_told pages) ≡ true) → IsBadStyle pages kept at → IsBadWithin pages kept at
  BadChain : IsFirstRefused pages kept at → IsBadWithin pages kept at
  LeftOver : AreLoaded pages kept → IsLeftOver pages kept at → IsBadWithin pages kept at
  NoChain : AreLoaded pages kept → AreOwned pages kept → (n refused : ℕ) → IsUnused n → IsRefused pages n (kept_first kept n) refused → at ≡ 1
      → IsBadWithin pages kept at
  BadMeaning : (image : Image) → IsImageOf image pages → IsBadImage kept image at → IsBadWithin pages kept at

-- this page of bytes that are no sound store is blamed
pub data IsBadPage (bytes : List ℕ) (at : ℕ) : Type 0 where
  BadJournal : JournalRefused bytes at → IsBadPage bytes at
  BadHome : HomeRefused bytes at → IsBadPage bytes at
  BadFront : (pages : List (List ℕ)) → Home pages bytes → ReadsKept pages (Err (BadStore at)) → IsBadPage bytes at
  BadInside : (pages : List (List ℕ)) (kept : Kept) → Home pages bytes → Keeps pages kept → IsBadWithin pages kept at → IsBadPage bytes at
