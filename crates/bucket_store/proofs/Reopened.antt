-- A store that is opened means what its bytes mean.
use Rattle.std.proofs.Common.{◌≡◌, ◌⊎◌, inl, inr, ℕ, ◌+◌, ◌-◌, ◌*◌, ◌<◌, true, false, List, [], length, slice_index_or, Option, Some, Err}
use Rattle.std.proofs.Common.{refl, sym, ap, subst, ◌∙◌, arith}
use Rattle.std.proofs.lemmas.Option.{same_Some}
use Rattle.std.specs.Result.{IsErrOf}
use Rattle.outside.specs.Disk.{Crashes, DiskView, Goes, Stays, Within}
use Rattle.page_journal.specs.Answers.{HomeRefused, JournalRefused, Opens}
use Rattle.page_journal.specs.Crash.{AllHome, IsAtRest, IsLikeOne}
use Rattle.page_journal.specs.Home.{Home, IsHomePage, IsWellFormed}
use Rattle.page_journal.specs.Pages.{body_at, entry, first_page, gate, number, page_count, page_from}
use Rattle.page_journal.specs.declared.fault.StoreFault.{StoreFault}
use Rattle.page_journal.specs.declared.fault.StoreFault.TheVariants.{NotFormatted, NotEmpty, BadStore, DiskFault, StoreFull, Broken}
use Rattle.page_journal.specs.declared.fault.StoreFault.TheVariants.{OutOfMemory}
use Rattle.page_journal.specs.declared.layout.TheConstants.{OPEN}
use Rattle.page_journal.proofs.Finishing.{numbers}
use Rattle.page_journal.proofs.Moments.{goes_weaker, settled_stays}
use Rattle.page_journal.proofs.Standing.{apart}
use Rattle.page_journal.proofs.Uniqueness.{one_home}
use Rattle.chain_store.specs.Answers.{IsBadDirectory, IsReadAnswer, ReadsKept}
use Rattle.chain_store.specs.Directories.{IsCount, directory_first, root_in}
use Rattle.chain_store.specs.Links.{page_in}
use Rattle.chain_store.specs.State.{IsState}
use Rattle.chain_store.specs.declared.kept.Kept.{Kept}
use Rattle.chain_store.specs.declared.root.Root.{Root}
use Rattle.chain_store.proofs.Unique.{bytes_one, not_refused}
use Rattle.chain_store.specs.Chains.{journal_of, kept_of}
use Rattle.chain_store.specs.Store.{Keeps}
use Rattle.page_journal.specs.Journal.{disk_of, home_count, view_of}
use Rattle.outside.specs.declared.disk.Disk.{Ghosts}
use Rattle.bucket_store.specs.Image.{HasImage, HoldsImage, Image, IsSoundAnswer, OnlyLooks, RestsAt}
use Rattle.bucket_store.specs.Transaction.{chains_of}
use Rattle.bucket_store.specs.declared.buckets.Buckets.{Buckets}
use Rattle.bucket_store.specs.Opening.{Fits, IsMeant, MeansOne, opened_root}
use Rattle.bucket_store.specs.declared.resting.Resting.{Resting}
use Rattle.bucket_store.proofs.Frames.{fault_is}

-- a disk tells one content
told_one : (content : Option (List ℕ)) (one two : List ℕ) → content ≡ Some one → content ≡ Some two → one ≡ two
told_one content one two first second = same_Some one two (sym first ∙ second)

-- the home pages of bytes that mean something
pub image_state : (image : Image) (bytes : List ℕ) (pages : List (List ℕ)) → (has : HasImage image bytes) → Home pages bytes
    → IsState image.root has.strings pages
image_state image bytes pages has home =
    subst (λ (l : List (List ℕ)). IsState image.root has.strings l)
    (one_home has.state.pages pages bytes has.state.home home) has.state.state

-- other bytes with these home pages mean the same
pub same_meaning : (image : Image) (bytes left : List ℕ) (pages : List (List ℕ)) → HasImage image bytes → Home pages bytes → Home pages left
    → HasImage image left
same_meaning image bytes left pages has home other = record {
  strings = has.strings;
  state = record { pages = pages; home = other; state = image_state image bytes pages has home };
  spells = has.spells;
}

pub holds_found : (image : Image) (bytes : List ℕ) (pages : List (List ℕ)) (view : DiskView) → HasImage image bytes → Home pages bytes
    → IsAtRest pages view → HoldsImage image view
holds_found image bytes pages view has home rests = record {
  bytes = rests.0;
  told = rests.1.told;
  only = rests.1.only;
  shut = rests.1.shut;
  has = same_meaning image bytes rests.0 pages has home rests.1.home;
}

pub rests_stays : (pages : List (List ℕ)) (old new : DiskView) → IsAtRest pages old → Stays old new → IsAtRest pages new
rests_stays pages old new rests stays = (rests.0, settled_stays pages rests.0 old new rests.1 stays)

-- each outcome on the way means what one at the entry means
pub goes_meant : (old new : Crashes) → Within IsMeant old → (AllHome old → Goes (IsLikeOne old) old new) → Goes (MeansOne old) old new
goes_meant old new meant goes =
    goes_weaker (IsLikeOne old) (MeansOne old) old new
    (goes (λ left among. let has = (meant left among).1 in (has.state.pages, has.state.home)))
    (λ left like. record {
      one = like.one;
      among = like.among;
      means = λ image has. same_meaning image like.one left like.pages has like.had like.has;
    })

-- one page has a number
one_page : (bytes : List ℕ) (n : ℕ) (page other : List ℕ) → (gate bytes ≡ OPEN → IsWellFormed bytes)
    → IsHomePage bytes n page → IsHomePage bytes n other → page ≡ other
one_page bytes n page other well (inl here) (inl there) =
    let are = numbers bytes (first_page bytes) (page_count bytes) refl refl (well here.is_open) in
    let same : here.place ≡ there.place =
    apart (page_count bytes) (entry bytes) (first_page bytes) here.place there.place are here.within there.within
    (here.here ∙ sym there.here) in
    here.same ∙ ap (λ (place : ℕ). page_from bytes (body_at bytes place)) same ∙ sym there.same
one_page bytes n page other well (inl here) (inr not) = absurd (not.not_there here.is_open here.place here.within here.here)
one_page bytes n page other well (inr not) (inl there) = absurd (not.not_there there.is_open there.place there.within there.here)
one_page bytes n page other well (inr here) (inr there) = here.same ∙ sym there.same

home_sound : (bytes : List ℕ) (pages : List (List ℕ)) (page : ℕ) → Home pages bytes → JournalRefused bytes page ⊎ HomeRefused bytes page → ⊥
home_sound bytes pages page home (inl refused) = refused.malformed (home.journal refused.is_open)
home_sound bytes pages page home (inr refused) =
    let root : slice_index_or pages (1 - 1) [] ≡ refused.says.root =
    one_page bytes 1 (slice_index_or pages (1 - 1) []) refused.says.root home.journal
    (home.each 1 (omega arith) home.some) refused.says.stands in
    let many : length pages + 1 ≡ refused.home = sym home.count ∙ ap (λ (l : List ℕ). number l 0) root ∙ refused.says.says in
    elim refused.bad [
      | inl few ↦ absurd (omega (arith, few, many, home.some))
      | inr short ↦ absurd (omega (arith, short, many, home.holds))
    ]

-- what is read of a store that is formatted does not say that it is not
pub kept_formatted : (fault : StoreFault) → IsReadAnswer {T = Kept} false (Err fault) → IsErrOf {T = Resting} (Err fault) NotFormatted → ⊥
kept_formatted fault alone is = subst (λ (f : StoreFault). IsReadAnswer {T = Kept} false (Err f))
    (fault_is Resting fault NotFormatted is) alone

-- a journal that has home pages is opened
pub sound_open : (T : Type 0) (fault : StoreFault) (bytes : List ℕ) (pages : List (List ℕ)) → Home pages bytes → Opens bytes (Err fault)
    → IsSoundAnswer {T = T} (Err fault)
sound_open T NotFormatted bytes pages home answers = absurd (answers home.formatted)
sound_open T NotEmpty bytes pages home answers = absurd answers
sound_open T (BadStore page) bytes pages home answers = absurd (home_sound bytes pages page home answers)
sound_open T DiskFault bytes pages home answers = tt
sound_open T (StoreFull n) bytes pages home answers = absurd answers
sound_open T Broken bytes pages home answers = absurd answers
sound_open T OutOfMemory bytes pages home answers = tt

not_broken : false ≡ true → ⊥
not_broken same = absurd (cc)

-- what is kept of a store that means something can be read
module _ (root : Root) (strings : ℕ → List ℕ) (pages : List (List ℕ)) (state : IsState root strings pages) where
  directory_sound : (m at : ℕ) → m < 8 → IsBadDirectory pages m at → ⊥
  directory_sound m at below (inl refused) =
      let has = state.directories m below in
      not_refused (page_in pages) (length pages + 1) (8 + m) (directory_first (page_in pages 1) m) has.ns at has.has refused
  directory_sound m at below (inr bad) =
      let same = bytes_one (page_in pages) (length pages + 1) (8 + m) (directory_first (page_in pages 1) m) bad.0 (state.directory m) bad.1
      (state.directories m below) in
      bad.2 (ap (λ (l : List ℕ). length l) same ∙ state.long m below ∙ ap (λ (r : Root). 8 * r.buckets) (sym state.fields))

  kept_sound : (at : ℕ) → ReadsKept pages (Err (BadStore at)) → ⊥
  kept_sound at (inl refused) = refused.0 (subst (λ (r : Root). IsCount r.buckets) (sym state.fields) state.count)
  kept_sound at (inr bad) = directory_sound bad.0 at bad.1 bad.3

  pub sound_kept : (T : Type 0) (fault : StoreFault) → ReadsKept pages (Err fault) → IsReadAnswer {T = Kept} false (Err fault)
      → IsSoundAnswer {T = T} (Err fault)
  sound_kept T NotFormatted answers alone = absurd alone
  sound_kept T NotEmpty answers alone = absurd alone
  sound_kept T (BadStore at) answers alone = absurd (kept_sound at answers)
  sound_kept T DiskFault answers alone = tt
  sound_kept T (StoreFull n) answers alone = absurd alone
  sound_kept T Broken answers alone = absurd (not_broken alone)
  sound_kept T OutOfMemory answers alone = tt

-- the pages that were read mean what the disk means
pub found_state : (image : Image) (view : DiskView) (opened : Resting) → (fits : Fits opened view) → (holds : HoldsImage image view)
    → IsState image.root holds.has.strings fits.pages
found_state image view opened fits holds =
    let same : fits.rests.0 ≡ holds.bytes = told_one view.content fits.rests.0 holds.bytes fits.rests.1.told holds.told in
    image_state image holds.bytes fits.pages holds.has (subst (λ (l : List ℕ). Home fits.pages l) same fits.rests.1.home)

-- the fields of a store that was opened
pub root_found : (image : Image) (view : DiskView) (opened : Resting) → Fits opened view → HoldsImage image view
    → opened_root opened ≡ image.root
root_found image view opened fits holds =
    ap (λ (l : List ℕ). root_in l) fits.keeps.front ∙ (found_state image view opened fits holds).fields

-- the store is at rest under its buckets where it is on the disk
pub rests_on : {D : Type 0} {g : Ghosts D} (image : Image) (disk : D) (opened : Resting) (buckets : Buckets D g)
    → disk_of (journal_of (chains_of buckets)) ≡ disk → home_count (journal_of (chains_of buckets)) ≡ opened.pages
    → kept_of (chains_of buckets) ≡ opened.kept → Fits opened (g.view disk) → HoldsImage image (g.view disk) → RestsAt image buckets
rests_on {D} {g} image disk opened buckets same pages kept fits holds = record {
  pages = fits.pages;
  rests = (subst (λ (d : D). IsAtRest fits.pages (g.view d)) (sym same) fits.rests, fits.many ∙ sym pages);
  keeps = subst (λ (k : Kept). Keeps fits.pages k) (sym kept) fits.keeps;
  strings = holds.has.strings;
  state = found_state image (g.view disk) opened fits holds;
  spells = holds.has.spells;
}

-- and back
pub holds_under : {D : Type 0} {g : Ghosts D} (image : Image) (buckets : Buckets D g) → RestsAt image buckets
    → HoldsImage image (view_of (journal_of (chains_of buckets)))
holds_under image buckets rests = record {
  bytes = rests.rests.0.0;
  told = rests.rests.0.1.told;
  only = rests.rests.0.1.only;
  shut = rests.rests.0.1.shut;
  has = record {
    strings = rests.strings;
    state = record { pages = rests.pages; home = rests.rests.0.1.home; state = rests.state };
    spells = rests.spells;
  };
}

-- looks at a store at rest leave what it means at each moment
pub moments_looked : {D : Type 0} {g : Ghosts D} (image : Image) (old new : Buckets D g) → RestsAt image old → OnlyLooks old new
    → Goes (λ left. HasImage image left) (view_of (journal_of (chains_of old))).crashes (view_of (journal_of (chains_of new))).crashes
moments_looked {D} {g} image old new rests looks =
    let before = view_of (journal_of (chains_of old)) in
    let holds = holds_under image old rests in
    goes_weaker before.crashes.outcomes (λ left. HasImage image left) before.crashes
    (view_of (journal_of (chains_of new))).crashes looks.looked.stays.runs
    (λ left among. subst (λ (l : List ℕ). HasImage image l) (sym (holds.only left among)) holds.has)
