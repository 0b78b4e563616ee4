-- Why a store is sound, or is not.
use Rattle.std.proofs.Common.{◌≡◌, ◌≢◌, ◌⊎◌, inl, inr, ℕ, ◌==◌, ◌&&◌, ◌<◌, not, Bool, true, false, List, [], ◌∷◌, length, Option, Some, None}
use Rattle.std.proofs.Common.{◌≤◌, ◌+◌, ◌||◌, Ok, Err}
use Rattle.std.proofs.Common.{refl, sym, ap, subst, ◌∙◌, arith, ⊎_elim, nat_le}
use Rattle.std.proofs.lemmas.Bool.Decides.{nat_tests}
use Rattle.std.specs.Prelude.{IsErrOf}
use Rattle.page_journal.specs.Home.{Home}
use Rattle.page_journal.specs.declared.fault.StoreFault.{StoreFault}
use Rattle.page_journal.specs.declared.fault.StoreFault.TheVariants as store
use Rattle.chain_store.specs.Chains.{LoadedIs, Loads, first_of, journal_of, kept_of}
use Rattle.chain_store.specs.Directories.{IsCount, root_in}
use Rattle.chain_store.specs.Known.{Lists}
use Rattle.chain_store.specs.Kept.{AreLong}
use Rattle.chain_store.specs.Links.{page_in}
use Rattle.chain_store.specs.Store.{HasBytes, IsRefused, Keeps, kept_first}
use Rattle.chain_store.specs.declared.kept.Kept.{Kept}
use Rattle.chain_store.specs.declared.root.Root.{Root}
use Rattle.chain_store.proofs.Looks.{looked_same, looked_then}
use Rattle.chain_store.proofs.Unique.{bytes_one}
use Rattle.bucket_store.specs.Calls.{IsBegun}
use Rattle.bucket_store.specs.Image.{Has, Image}
use Rattle.bucket_store.specs.Transaction.{IsOpenStore, chains_of, has_refused}
use Rattle.bucket_store.specs.declared.buckets.Buckets.{Buckets}
use Rattle.bucket_store.proofs.Holding.{has_anew, kept_holds, none_refused}
use Rattle.outside.specs.declared.disk.Disk.{Ghosts}
use Rattle.std.specs.FinMap as finite
use Rattle.update_flow.specs.Within.{is_whole_store}
use Rattle.bucket_store.proofs.Reopened.{image_state}
use Rattle.style_read.specs.Reading.{reading}
use Rattle.style_read.specs.Style.{StyleOf}
use Rattle.tile_cover.specs.Runs.{IsTileSet}
use Rattle.value_bytes.specs.Forms.{IsNoValue}
use Rattle.due_tiles.specs.Spelling.{set_bytes}
use Rattle.store_check.specs.BadPage.{AreChains, AreLoaded, AreOwned, IsUnused, Surveys, buckets_told}
use Rattle.store_check.specs.Maps.{HasSoundMapsOf}
use Rattle.store_check.specs.Wrong.{AllRight}
use Rattle.store_check.proofs.Loads.{surveyed_means}
use Rattle.store_check.proofs.Meaning.{never_refused}
use Rattle.store_check.proofs.Surveyed.{level_or_apart}
use Rattle.store_check.proofs.Unsound.{all_right_sound, wrong_unsound}
use Rattle.update_flow.specs.BadPage.{AreOfNoStore, BadChain, BadMeaning, BadRest, BadStyle, BadValue, FullText}
use Rattle.update_flow.specs.BadPage.{IsBadStyle, IsBadWithin, IsImageOf, IsUnread, LeftOver, MadeWithChanges, MadeWithText, NoChain, NoDue}
use Rattle.update_flow.specs.BadPage.{NoStyle, NoText, Reaches, Unread, root_told}
use Rattle.update_flow.specs.Due.{Tiles}
use Rattle.update_flow.specs.Faults.{of_store}
use Rattle.update_flow.specs.Judged.{AreEmptyBelow, AreSound, IsEmptyText, IsOfToday, IsSoundImage, IsStyleless, IsWrongAt, Judges, JudgesImage}
use Rattle.update_flow.specs.Judged.{HasOnlyRead, IsEmptyAt, LoadsStyle, fault_unless, rooted}
use Rattle.update_flow.specs.Roots.{is_blank, is_following, is_imported, is_of, is_old}
use Rattle.update_flow.specs.Sound.{HasSoundMaps, IsSound, IsSoundImport}
use Rattle.update_flow.specs.Stands.{AreDue}
use Rattle.update_flow.specs.State.{Holding}
use Rattle.update_flow.specs.declared.fault.FlowFault.{FlowFault}
use Rattle.update_flow.specs.declared.fault.FlowFault.TheVariants as flow
use Rattle.update_flow.specs.declared.fault.TheConstants.{LAST_CHANGE}
use Rattle.update_flow.specs.declared.fields.TheConstants.{DUE_TEXT, IMPORTED_FORMAT, OLD_FORMAT, STYLE_TEXT}
use Rattle.update_flow.proofs.Openings.{format_root}

-- bytes are those of a sound store where their home pages are
pub home_of_sound : (bytes : List ℕ) (pages : List (List ℕ)) → Home pages bytes → IsSound bytes → AreSound pages
home_of_sound bytes pages home sound = record {
  image = sound.image;
  of = record {
    strings = sound.has.strings;
    state = image_state sound.image bytes pages sound.has home;
    spells = sound.has.spells;
  };
  is = sound.is;
}

pub sound_of_home : (bytes : List ℕ) (pages : List (List ℕ)) → Home pages bytes → AreSound pages → IsSound bytes
sound_of_home bytes pages home own = record {
  image = own.image;
  has = record {
    strings = own.of.strings;
    state = record { pages = pages; home = home; state = own.of.state };
    spells = own.of.spells;
  };
  is = own.is;
}

-- what two tests tell together
left_of : (b c : Bool) → (b && c) ≡ true → b ≡ true
left_of true c is = refl
left_of false c is = absurd (cc (is))

right_of : (b c : Bool) → (b && c) ≡ true → c ≡ true
right_of true c is = is
right_of false c is = absurd (cc (is))

none_two : (n : ℕ) → (n == 0) ≡ true → (n == 1) ≡ true → ⊥
none_two n zero one = grind (arith, nat_tests, zero, one)

one_two : (n : ℕ) → (n == 1) ≡ true → (n == 2) ≡ true → ⊥
one_two n one two = grind (arith, nat_tests, one, two)

state_one : (format : ℕ) (root : Root) → is_of format root ≡ true → (root.state == 1) ≡ true
state_one format root is = left_of (root.state == 1) _ (right_of (root.format == format) _ is)

-- the fields of a store that was only made are not those of an imported one, and those of an old one are neither
pub made_apart : (format : ℕ) (root : Root) → is_blank root ≡ true → is_of format root ≡ true → ⊥
made_apart format root made is =
    none_two root.state (left_of (root.state == 0) (root.buckets == 0) (right_of (root.format == 1) _ made)) (state_one format root is)

pub old_apart : (root : Root) → is_imported root ≡ true → is_old root ≡ true → ⊥
old_apart root is old = one_two root.format (left_of (root.format == 1) _ old) (left_of (root.format == 2) _ is)

zero_two : (n : ℕ) → (n == 0) ≡ true → (n == 2) ≡ true → ⊥
zero_two n zero two = grind (arith, nat_tests, zero, two)

state_two : (root : Root) → is_following root ≡ true → (root.state == 2) ≡ true
state_two root is = left_of (root.state == 2) _ (right_of (root.format == 2) _ is)

-- and those of a follower's are none of today
pub own_apart : (root : Root) → is_following root ≡ true → (is_blank root ≡ true) ⊎ (is_imported root ≡ true) → ⊥
own_apart root own (inl made) =
    zero_two root.state (left_of (root.state == 0) (root.buckets == 0) (right_of (root.format == 1) _ made)) (state_two root own)
own_apart root own (inr begun) = one_two root.state (state_one IMPORTED_FORMAT root begun) (state_two root own)

-- a sound store is one of today
pub sound_today : (image : Image) → IsSoundImage image → IsOfToday image
sound_today image is = ⊎_elim
    (λ made. inl made.root)
    (λ own. inr (format_root HasSoundMaps own.0 image own.1))
    is

-- and where it was imported, it holds something
pub sound_import : (image : Image) → is_imported image.root ≡ true → IsSoundImage image → (held : Holding) × IsSoundImport held image
sound_import image begun is = ⊎_elim
    (λ made. absurd (made_apart IMPORTED_FORMAT image.root made.root begun))
    (λ own. own)
    is

told_today : (pages : List (List ℕ)) (own : AreSound pages)
    → (is_blank (root_told pages) ≡ true) ⊎ (is_imported (root_told pages) ≡ true)
told_today pages own = subst (λ (root : Root). (is_blank root ≡ true) ⊎ (is_imported root ≡ true)) (sym own.of.state.fields)
    (sound_today own.image own.is)

pub fields_unsound : (pages : List (List ℕ)) → AreOfNoStore (root_told pages) → AreSound pages → ⊥
fields_unsound pages none own = ⊎_elim
    (λ made. absurd (cc (made, none.made)))
    (λ begun. absurd (cc (begun, none.begun)))
    (told_today pages own)

-- the style of a sound store
style_held : (image : Image) (held : Holding) → IsSoundImport held image → reading (image.texts STYLE_TEXT) ≡ Ok held.style
style_held image held is = ap (λ (b : List ℕ). reading b) is.style_text ∙ is.style

module _ (pages : List (List ℕ)) (kept : Kept) (keeps : Keeps pages kept) where
  -- no chain of it is refused
  pub chain_unsound : (n at : ℕ) → n < 16 → IsRefused pages n (kept_first kept n) at → AreSound pages → ⊥
  chain_unsound n at low refused own =
      none_refused pages kept own.image.root own.of.strings keeps own.of.state n at (inr (omega (arith, low))) refused

  text_is : (image : Image) → IsImageOf image pages → (n : ℕ) → n < 8 → HasBytes pages n (kept_first kept n) (image.texts n)
  text_is image of n low = subst (λ (text : List ℕ). HasBytes pages n (kept_first kept n) text) (of.spells.texts n low)
      (kept_holds pages kept image.root of.strings keeps of.state n (inl low) (omega (arith, low)))

  unread_unsound : (at : ℕ) → is_imported (root_told pages) ≡ true → IsUnread pages kept at → AreSound pages → ⊥
  unread_unsound at begun (NoText refused) own = chain_unsound STYLE_TEXT at (omega arith) refused own
  unread_unsound at begun (NoStyle text has none one) own =
      let root : is_imported own.image.root ≡ true = ap (λ (r : Root). is_imported r) (sym own.of.state.fields) ∙ begun in
      let held = sound_import own.image root own.is in
      let same : text ≡ own.image.texts STYLE_TEXT = bytes_one (page_in pages) _ STYLE_TEXT (kept_first kept STYLE_TEXT) text
      (own.image.texts STYLE_TEXT) has (text_is own.image own.of STYLE_TEXT (omega arith)) in
      none held.0.style (ap (λ (b : List ℕ). reading b) same ∙ style_held own.image held.0 held.1)

  old_unsound : is_old (root_told pages) ≡ true → AreSound pages → ⊥
  old_unsound old own = ⊎_elim
      (λ made. made_apart OLD_FORMAT (root_told pages) made old)
      (λ begun. old_apart (root_told pages) begun old)
      (told_today pages own)

  pub style_unsound : (at : ℕ) → (is_imported (root_told pages) ≡ true) ⊎ (is_old (root_told pages) ≡ true) → IsBadStyle pages kept at
      → AreSound pages → ⊥
  style_unsound at kind (Unread none) own = ⊎_elim
      (λ begun. unread_unsound at begun none own)
      (λ old. old_unsound old own)
      kind
  style_unsound at kind (Reaches style writes old reaches one) own = old_unsound old own

  -- a survey that refuses it
  pub survey_judges : (fault : StoreFault) → Surveys pages kept (Err fault) → Judges pages kept (Some (of_store fault))
  survey_judges store.NotFormatted is = tt
  survey_judges store.NotEmpty is = tt
  survey_judges (store.BadStore at) is = (
    (λ own. never_refused pages kept keeps own.image own.of.strings own.of.state own.of.spells at is),
    ⊎_elim (λ first. BadChain first) (λ left. LeftOver left.0 left.1) is,
  )
  survey_judges store.DiskFault is = tt
  survey_judges (store.StoreFull many) is = tt
  survey_judges store.Broken is = tt
  survey_judges store.OutOfMemory is = tt

  -- a text that is to be empty is no chain
  abbrev RefusesUnused : ℕ → Type 0
  RefusesUnused at = (at ≡ 1) × ((n refused : ℕ) × IsUnused n × IsRefused pages n (kept_first kept n) refused)

  unused_bad : AreLoaded pages kept → AreOwned pages kept → (at : ℕ) → RefusesUnused at → (AreSound pages → ⊥) × IsBadWithin pages kept at
  unused_bad loaded owned at is = (
    (λ own. chain_unsound is.1.0 is.1.1 (omega (arith, is.1.2.0)) is.1.3 own),
    NoChain loaded owned is.1.0 is.1.1 is.1.2 is.1.3 is.0,
  )

  pub unused_judges : (T : Type 0) → AreLoaded pages kept → AreOwned pages kept → (fault : FlowFault)
      → ((at : ℕ) → IsErrOf {T = T} (Err fault) (flow.Store (store.BadStore at)) → RefusesUnused at) → Judges pages kept (Some fault)
  unused_judges T loaded owned (flow.Store store.NotFormatted) is = tt
  unused_judges T loaded owned (flow.Store store.NotEmpty) is = tt
  unused_judges T loaded owned (flow.Store (store.BadStore at)) is = unused_bad loaded owned at (is at refl)
  unused_judges T loaded owned (flow.Store store.DiskFault) is = tt
  unused_judges T loaded owned (flow.Store (store.StoreFull many)) is = tt
  unused_judges T loaded owned (flow.Store store.Broken) is = tt
  unused_judges T loaded owned (flow.Store store.OutOfMemory) is = tt
  unused_judges T loaded owned flow.NotImported is = tt
  unused_judges T loaded owned flow.AlreadyImported is = tt
  unused_judges T loaded owned flow.OldFormat is = tt
  unused_judges T loaded owned flow.LastChange is = tt
  unused_judges T loaded owned (flow.TooMany value) is = tt
  unused_judges T loaded owned flow.OutOfMemory is = tt

  -- a judgement of all that the pages may mean is one of them
  abbrev EachJudged : Option FlowFault → Type 0
  EachJudged fault = (image : Image) → IsImageOf image pages → JudgesImage kept image fault

  bad_judged : (image : Image) → IsImageOf image pages → (at : ℕ) → EachJudged (Some (flow.Store (store.BadStore at)))
      → Judges pages kept (Some (flow.Store (store.BadStore at)))
  bad_judged image of at exact = (
    (λ own. (exact own.image own.of).0 own.is),
    ⊎_elim
        (λ less. BadStyle (inl (ap (λ (r : Root). is_imported r) of.state.fields ∙ less.0))
        (Unread (NoStyle (image.texts STYLE_TEXT) (text_is image of STYLE_TEXT (omega arith)) less.1.none less.1.one)))
        (λ bad. BadMeaning image of bad)
        (exact image of).1,
  )

  pub image_judges : (image : Image) → IsImageOf image pages → (fault : Option FlowFault) → EachJudged fault → Judges pages kept fault
  image_judges image of None exact = record { image = image; of = of; is = exact image of }
  image_judges image of (Some (flow.Store store.NotFormatted)) exact = tt
  image_judges image of (Some (flow.Store store.NotEmpty)) exact = tt
  image_judges image of (Some (flow.Store (store.BadStore at))) exact = bad_judged image of at exact
  image_judges image of (Some (flow.Store store.DiskFault)) exact = tt
  image_judges image of (Some (flow.Store (store.StoreFull many))) exact = tt
  image_judges image of (Some (flow.Store store.Broken)) exact = tt
  image_judges image of (Some (flow.Store store.OutOfMemory)) exact = tt
  image_judges image of (Some flow.NotImported) exact = tt
  image_judges image of (Some flow.AlreadyImported) exact = tt
  image_judges image of (Some flow.OldFormat) exact = tt
  image_judges image of (Some flow.LastChange) exact = tt
  image_judges image of (Some (flow.TooMany value)) exact = tt
  image_judges image of (Some flow.OutOfMemory) exact = tt

  -- and the pages of a store that was surveyed mean something
  pub meant : IsCount (buckets_told pages) → AreLong kept.directories.items (buckets_told pages) → AreLoaded pages kept → AreOwned pages kept
      → AreChains pages kept → (image : Image) × IsImageOf image pages
  meant count long loaded owned chains =
      let own = surveyed_means pages kept keeps count long loaded chains owned in
      (own.0, record { strings = own.1; state = own.2; spells = own.3 })

-- fields by their parts
root_same : (root : Root) → root.format ≡ 2 → root.state ≡ 1
    → root ≡ record { format = 2; state = 1; changes = root.changes; buckets = root.buckets }
root_same root format state =
    ap (λ (n : ℕ). record { format = n; state = root.state; changes = root.changes; buckets = root.buckets }) format
    ∙ ap (λ (n : ℕ). record { format = 2; state = n; changes = root.changes; buckets = root.buckets }) state

-- a judgement by a refusal, where that of a page is one that is told
pub refusal_judges : (T : Type 0) (kept : Kept) (image : Image) (fault : FlowFault)
    → ((at : ℕ) → IsErrOf {T = T} (Err fault) (flow.Store (store.BadStore at))
    → JudgesImage kept image (Some (flow.Store (store.BadStore at)))) → JudgesImage kept image (Some fault)
refusal_judges T kept image (flow.Store store.NotFormatted) is = tt
refusal_judges T kept image (flow.Store store.NotEmpty) is = tt
refusal_judges T kept image (flow.Store (store.BadStore at)) is = is at refl
refusal_judges T kept image (flow.Store store.DiskFault) is = tt
refusal_judges T kept image (flow.Store (store.StoreFull many)) is = tt
refusal_judges T kept image (flow.Store store.Broken) is = tt
refusal_judges T kept image (flow.Store store.OutOfMemory) is = tt
refusal_judges T kept image flow.NotImported is = tt
refusal_judges T kept image flow.AlreadyImported is = tt
refusal_judges T kept image flow.OldFormat is = tt
refusal_judges T kept image flow.LastChange is = tt
refusal_judges T kept image (flow.TooMany value) is = tt
refusal_judges T kept image flow.OutOfMemory is = tt

-- an imported store is not sound
module _ (kept : Kept) (image : Image) (begun : is_imported image.root ≡ true) where
  abbrev Bad : ℕ → Type 0
  Bad at = JudgesImage kept image (Some (flow.Store (store.BadStore at)))

  -- without a style
  pub styleless_judged : (at : ℕ) → IsStyleless image at → Bad at
  styleless_judged at less = (
    (λ is. let held = sound_import image begun is in less.none held.0.style (style_held image held.0 held.1)),
    inl (begun, less),
  )

  module _ (style : StyleOf) (read : reading (image.texts STYLE_TEXT) ≡ Ok style) where
    style_same : (held : Holding) → IsSoundImport held image → held.style ≡ style
    style_same held is = let own : reading (image.texts STYLE_TEXT) ≡ Ok held.style = style_held image held is in cc (own, read)

    -- with a wrong value
    pub wrong_judged : (at : ℕ) → IsWrongAt style kept image at → Bad at
    wrong_judged at wrong = (
      (λ is.
          let held = sound_import image begun is in
          wrong_unsound style image wrong.map wrong.key wrong.first held.0.objects held.1.ids
          (subst (λ (own : StyleOf). HasSoundMapsOf own held.0.objects image) (style_same held.0 held.1) held.1.maps)),
      inr (BadValue begun (record {
        style = style;
        read = read;
        map = wrong.map;
        key = wrong.key;
        first = wrong.first;
        begins = wrong.begins;
      })),
    )

    -- without due tiles
    pub dueless_judged : (at : ℕ) → AllRight style image → (at ≡ 1) × IsNoValue set_bytes IsTileSet (image.texts DUE_TEXT) → Bad at
    dueless_judged at right none = (
      (λ is. let held = sound_import image begun is in none.1 held.1.due.runs held.1.due.is held.1.due.bytes_are),
      inr (BadRest (NoDue begun (record { style = style; read = read; right = right }) none.1) none.0),
    )

    -- with a text
    pub full_judged : AllRight style image → AreEmptyBelow 8 false image → Bad 1
    full_judged right full = (
      (λ is. let held = sound_import image begun is in full.2 (held.1.others full.0 full.1.0 full.1.1 full.1.2)),
      inr (BadRest (FullText begun (record { style = style; read = read; right = right }) full.0 full.1 full.2) refl),
    )

    -- and it is
    root_is : image.root ≡ record { format = 2; state = 1; changes = image.root.changes; buckets = image.root.buckets }
    root_is =
        let format : image.root.format ≡ 2 = grind (arith, nat_tests, left_of (image.root.format == 2) _ begun) in
        let state : image.root.state ≡ 1 = grind (arith, nat_tests, state_one IMPORTED_FORMAT image.root begun) in
        root_same image.root format state

    pub import_judged : (pages : List (List ℕ)) → IsImageOf image pages → AllRight style image → (due : Tiles)
        → AreDue (image.texts DUE_TEXT) due → AreEmptyBelow 8 true image → IsSoundImage image
    import_judged pages of right due are_due empty =
        let own = all_right_sound style image right in
        let many : (image.root.buckets ≡ 0) → ⊥ = λ zero.
        let some : not (image.root.buckets == 0) ≡ true =
        left_of (not (image.root.buckets == 0)) _ (right_of (image.root.state == 1) _ (right_of (image.root.format == 2) _ begun)) in
        grind (arith, nat_tests, some, zero) in
        let low : nat_le image.root.changes LAST_CHANGE ≡ true =
        right_of (not (image.root.buckets == 0)) _ (right_of (image.root.state == 1) _ (right_of (image.root.format == 2) _ begun)) in
        let count = ⊎_elim (λ zero. absurd (many zero)) (λ power. power) of.state.count in
        inr (
          record {
            style = style;
            style_bytes = image.texts STYLE_TEXT;
            buckets = image.root.buckets;
            objects = own.0;
            changes = image.root.changes;
            due = due;
          },
          record {
            root = root_is;
            counted = grind (arith, nat_tests, low);
            some = omega (arith, many);
            power = count.0;
            few = count.1;
            style_text = refl;
            style = read;
            due = are_due;
            others = λ n low apart other. empty n low (low, apart, other);
            ids = own.1;
            maps = own.2;
          },
        )

-- and it is sound just where its texts that are to be empty are
pub ended_judged : (kept : Kept) (image : Image) (begun : is_imported image.root ≡ true) (style : StyleOf)
    → reading (image.texts STYLE_TEXT) ≡ Ok style → (pages : List (List ℕ)) → IsImageOf image pages → AllRight style image → (due : Tiles)
    → AreDue (image.texts DUE_TEXT) due → (empty : Bool) → AreEmptyBelow 8 empty image → JudgesImage kept image (fault_unless empty)
ended_judged kept image begun style read pages of right due are_due true empty =
    import_judged kept image begun style read pages of right due are_due empty
ended_judged kept image begun style read pages of right due are_due false full = full_judged kept image begun style read right full

-- no byte
no_bytes : (bytes : List ℕ) → length bytes ≡ 0 → bytes ≡ []
no_bytes [] is = refl
no_bytes (x ∷ bytes) is = absurd (omega (arith, is))

none_by : (bytes : List ℕ) (b : Bool) → (length bytes == 0) ≡ b → IsEmptyText b bytes
none_by bytes true is = no_bytes bytes (grind (arith, nat_tests, is))
none_by bytes false is = λ none.
    let zero : length bytes ≡ 0 = ap (λ (l : List ℕ). length l) none in
    grind (arith, nat_tests, is, zero)

pub none_told : (bytes : List ℕ) → IsEmptyText (length bytes == 0) bytes
none_told bytes = none_by bytes (length bytes == 0) refl

-- a store that was only made and has a text, or too many changes
full_made : (image : Image) → is_blank image.root ≡ true → (n : ℕ) → n < 8 → image.texts n ≢ [] → IsSoundImage image → ⊥
full_made image made n low full is = ⊎_elim
    (λ own. full (own.texts n low))
    (λ own. made_apart IMPORTED_FORMAT image.root made (format_root HasSoundMaps own.0 image own.1))
    is

many_made : (image : Image) → is_blank image.root ≡ true → LAST_CHANGE < image.root.changes → IsSoundImage image → ⊥
many_made image made many is = ⊎_elim
    (λ own. absurd (omega (arith, own.counted, many)))
    (λ own. made_apart IMPORTED_FORMAT image.root made (format_root HasSoundMaps own.0 image own.1))
    is

by_count : (low : Bool) (kept : Kept) (image : Image) → nat_le image.root.changes LAST_CHANGE ≡ low → is_blank image.root ≡ true
    → ((n : ℕ) → n < 8 → image.texts n ≡ []) → JudgesImage kept image (fault_unless low)
by_count true kept image low made texts = inl (record { root = made; counted = grind (arith, nat_tests, low); texts = texts })
by_count false kept image low made texts =
    let many : LAST_CHANGE < image.root.changes = grind (arith, nat_tests, low) in (
      (λ is. many_made image made many is),
      inr (BadRest (MadeWithChanges made many) refl),
    )

-- a store that was only made
pub made_judged : (kept : Kept) (empty styleless dueless : Bool) (image : Image) → is_blank image.root ≡ true → AreEmptyBelow 8 empty image
    → IsEmptyText styleless (image.texts STYLE_TEXT) → IsEmptyText dueless (image.texts DUE_TEXT)
    → JudgesImage kept image (fault_unless (empty && (styleless && (dueless && nat_le image.root.changes LAST_CHANGE))))
made_judged kept false styleless dueless image made empty style due = (
  (λ is. full_made image made empty.0 empty.1.0 empty.2 is),
  inr (BadRest (MadeWithText made empty.0 empty.1.0 empty.2) refl),
)
made_judged kept true false dueless image made empty style due = (
  (λ is. full_made image made STYLE_TEXT (omega arith) style is),
  inr (BadRest (MadeWithText made STYLE_TEXT (omega arith) style) refl),
)
made_judged kept true true false image made empty style due = (
  (λ is. full_made image made DUE_TEXT (omega arith) due is),
  inr (BadRest (MadeWithText made DUE_TEXT (omega arith) due) refl),
)
made_judged kept true true true image made empty style due =
    by_count (nat_le image.root.changes LAST_CHANGE) kept image refl made
    (λ n low. ⊎_elim
    (λ is. ap (λ (k : ℕ). image.texts k) is ∙ style)
    (λ apart. ⊎_elim
    (λ is. ap (λ (k : ℕ). image.texts k) is ∙ due)
    (λ other. empty n low (low, apart, other))
    (level_or_apart n 2))
    (level_or_apart n 1))

-- a store of today is an imported one just where it has buckets
pub with_buckets : (image : Image) → 1 ≤ image.root.buckets → IsOfToday image → is_imported image.root ≡ true
with_buckets image some today = ⊎_elim
    (λ made.
    let none : (image.root.buckets == 0) ≡ true =
    right_of (image.root.state == 0) (image.root.buckets == 0) (right_of (image.root.format == 1) _ made) in
    absurd (grind (arith, nat_tests, none, some)))
    (λ begun. begun)
    today

pub without_buckets : (image : Image) → image.root.buckets ≡ 0 → IsOfToday image → is_blank image.root ≡ true
without_buckets image none today = ⊎_elim
    (λ made. made)
    (λ begun.
    let some : not (image.root.buckets == 0) ≡ true =
    left_of (not (image.root.buckets == 0)) _ (right_of (image.root.state == 1) _ (right_of (image.root.format == 2) _ begun)) in
    absurd (grind (arith, nat_tests, none, some)))
    today

-- a transaction that was begun has what the pages mean
module _ {D : Type 0} {g : Ghosts D} (buckets : Buckets D g) (pages : List (List ℕ)) (open_store : IsOpenStore pages buckets) where
  pub begun_has : (image : Image) → IsImageOf image pages → IsBegun buckets → is_whole_store buckets → Has image image buckets
  begun_has image of begun whole =
      has_anew image buckets pages of.strings open_store of.state of.spells whole
      (begun.root ∙ ap (λ (front : List ℕ). root_in front) open_store.open_chains.keeps.front ∙ of.state.fields)
      begun.written begun.none

  pub kept_long : AreLong (kept_of (chains_of buckets)).directories.items (buckets_told pages)
  kept_long = subst (λ (front : List ℕ). AreLong (kept_of (chains_of buckets)).directories.items (root_in front).buckets)
      open_store.open_chains.keeps.front (kept_of (chains_of buckets)).long

-- of a store that means something no text is refused
pub text_sound : {D : Type 0} {g : Ghosts D} (buckets : Buckets D g) (image : Image) (n at : ℕ) (has : Has image image buckets) → n < 8
    → IsRefused has.pages n (first_of (chains_of buckets) n) at → ⊥
text_sound buckets image n at has low refused =
    none_refused has.pages (kept_of (chains_of buckets)) image.root has.strings has.opens.open_chains.keeps has.state n at
    (inr (omega (arith, low))) refused

-- loading the style
pub style_refused : (pages : List (List ℕ)) (kept : Kept) (own : Option (List ℕ)) (fault : StoreFault)
    → Loads pages STYLE_TEXT (kept_first kept STYLE_TEXT) own (Err fault) → LoadsStyle pages kept (Err (of_store fault))
style_refused pages kept own store.NotFormatted is = tt
style_refused pages kept own store.NotEmpty is = tt
style_refused pages kept own (store.BadStore at) is = NoText is.1
style_refused pages kept own store.DiskFault is = tt
style_refused pages kept own (store.StoreFull many) is = tt
style_refused pages kept own store.Broken is = tt
style_refused pages kept own store.OutOfMemory is = tt

pub loaded_unwritten : (pages : List (List ℕ)) (n first : ℕ) (written : Lists) (bytes : List ℕ) → written ≡ finite.empty
    → LoadedIs pages n first (finite.get written n) bytes → HasBytes pages n first bytes
loaded_unwritten pages n first written bytes none loaded =
    subst (λ (own : Option (List ℕ)). LoadedIs pages n first own bytes)
    (ap (λ (l : Lists). finite.get l n) none ∙ finite.get-empty _ n) loaded

-- a call of the store below that is refused at a page
pub refused_at : (fault : StoreFault) (at : ℕ) → of_store fault ≡ flow.Store (store.BadStore at) → fault ≡ store.BadStore at
refused_at store.NotFormatted at is = absurd (cc (is))
refused_at store.NotEmpty at is = absurd (cc (is))
refused_at (store.BadStore page) at is = cc (is)
refused_at store.DiskFault at is = absurd (cc (is))
refused_at (store.StoreFull many) at is = absurd (cc (is))
refused_at store.Broken at is = absurd (cc (is))
refused_at store.OutOfMemory at is = absurd (cc (is))

pub fault_at : (T : Type 0) (fault : FlowFault) (at : ℕ) → IsErrOf {T = T} (Err fault) (flow.Store (store.BadStore at))
    → fault ≡ flow.Store (store.BadStore at)
fault_at T fault at is = cc (is)

pub unread_of : (T : Type 0) (pages : List (List ℕ)) (kept : Kept) (fault : FlowFault) (at : ℕ)
    → IsErrOf {T = T} (Err fault) (flow.Store (store.BadStore at)) → LoadsStyle pages kept (Err fault) → IsUnread pages kept at
unread_of T pages kept fault at is loads = subst (λ (f : FlowFault). LoadsStyle pages kept (Err f)) (fault_at T fault at is) loads

-- what holds of all numbers below one, and of that one
next_below : (P : ℕ → Type 0) (count : ℕ) → ((n : ℕ) → n < count → P n) → P count → (n : ℕ) → n < count + 1 → P n
next_below P count below here n low = ⊎_elim
    (λ level. subst P (sym level) here)
    (λ apart. below n (omega (arith, low, apart)))
    (level_or_apart n count)

pub empty_next : (count : ℕ) (empty one : Bool) (rest : Image) → AreEmptyBelow count empty rest → IsEmptyAt count one rest
    → AreEmptyBelow (count + 1) (empty && one) rest
empty_next count false one rest before here = before
empty_next count true false rest before here = (count, here.0, here.1)
empty_next count true true rest before here = next_below (λ n. IsUnused n → rest.texts n ≡ []) count before here

pub empty_at : (n : ℕ) (empty : Bool) (rest : Image) → IsUnused n → IsEmptyText empty (rest.texts n) → IsEmptyAt n empty rest
empty_at n true rest unused is = λ _. is
empty_at n false rest unused is = (unused, is)

or_one : (b c : Bool) → true ≡ (b || c) → (b ≡ true) ⊎ (c ≡ true)
or_one true c is = inl refl
or_one false c is = inr (sym is)

or_neither : (b c : Bool) → false ≡ (b || c) → (b ≡ false) × (c ≡ false)
or_neither true c is = absurd (cc (is))
or_neither false c is = (refl, sym is)

pub used_not : (n : ℕ) → true ≡ ((n == 1) || (n == 2)) → IsUnused n → ⊥
used_not n is unused = ⊎_elim
    (λ one. unused.1 (grind (arith, nat_tests, one)))
    (λ two. unused.2 (grind (arith, nat_tests, two)))
    (or_one (n == 1) (n == 2) is)

pub unused_is : (n : ℕ) → n < 8 → false ≡ ((n == 1) || (n == 2)) → IsUnused n
unused_is n low is =
    let own = or_neither (n == 1) (n == 2) is in
    (low, λ one. grind (arith, nat_tests, own.0, one), λ two. grind (arith, nat_tests, own.1, two))

pub rooted_at : (fault : FlowFault) (at : ℕ) → rooted fault ≡ flow.Store (store.BadStore at)
    → (at ≡ 1) × ((page : ℕ) × (fault ≡ flow.Store (store.BadStore page)))
rooted_at (flow.Store store.NotFormatted) at is = absurd (cc (is))
rooted_at (flow.Store store.NotEmpty) at is = absurd (cc (is))
rooted_at (flow.Store (store.BadStore page)) at is = (cc (is), (page, refl))
rooted_at (flow.Store store.DiskFault) at is = absurd (cc (is))
rooted_at (flow.Store (store.StoreFull many)) at is = absurd (cc (is))
rooted_at (flow.Store store.Broken) at is = absurd (cc (is))
rooted_at (flow.Store store.OutOfMemory) at is = absurd (cc (is))
rooted_at flow.NotImported at is = absurd (cc (is))
rooted_at flow.AlreadyImported at is = absurd (cc (is))
rooted_at flow.OldFormat at is = absurd (cc (is))
rooted_at flow.LastChange at is = absurd (cc (is))
rooted_at (flow.TooMany value) at is = absurd (cc (is))
rooted_at flow.OutOfMemory at is = absurd (cc (is))

module _ {D : Type 0} {g : Ghosts D} where
  pub only_read : (buckets : Buckets D g) → has_refused buckets ≡ false → HasOnlyRead buckets buckets
  only_read buckets going = record {
    going = going;
    has = λ rest was. was;
    stays = record { looked = looked_same (journal_of (chains_of buckets)); kept = refl; root = refl; written = refl };
  }

  pub reads_then : (old mid new : Buckets D g) → HasOnlyRead old mid → HasOnlyRead mid new → HasOnlyRead old new
  reads_then old mid new first second = record {
    going = second.going;
    has = λ rest was. second.has rest (first.has rest was);
    stays = record {
      looked = looked_then (journal_of (chains_of old)) (journal_of (chains_of mid)) (journal_of (chains_of new)) first.stays.looked
          second.stays.looked;
      kept = second.stays.kept ∙ first.stays.kept;
      root = second.stays.root ∙ first.stays.root;
      written = second.stays.written ∙ first.stays.written;
    };
  }

-- the chains so far
abbrev IsThere : List (List ℕ) → Kept → ℕ → Type 0
IsThere pages kept n = IsUnused n → (bytes : List ℕ) × HasBytes pages n (kept_first kept n) bytes

pub chains_next : (pages : List (List ℕ)) (kept now : Kept) (count : ℕ) → now ≡ kept
    → ((n : ℕ) → n < count → IsThere pages kept n) → IsThere pages now count
    → (n : ℕ) → n < count + 1 → IsThere pages kept n
chains_next pages kept now count same below here =
    next_below (IsThere pages kept) count below (subst (λ (k : Kept). IsThere pages k count) same here)
