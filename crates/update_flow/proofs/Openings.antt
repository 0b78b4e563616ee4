-- A store of a state is found where it is opened.
use Rattle.std.proofs.Common.{◌≡◌, ◌⊎◌, ◌≢◌, ◌≤◌, ◌==◌, ◌&&◌, not, inl, inr, ℕ, Bool, true, false, List, Option, Some, None, Result, Ok, Err}
use Rattle.std.proofs.Common.{refl, sym, ap, subst, ◌∙◌, arith, nat_le}
use Rattle.std.proofs.lemmas.Bool.Decides.{nat_tests}
use Rattle.std.proofs.lemmas.Option.{same_Some}
use Rattle.std.specs.Prelude.{IfOk, IsErrOf, is_some}
use Rattle.std.specs.Result.{result_err}
use Rattle.page_journal.specs.Answers.{HomeRefused, JournalRefused, answers_disk_fault}
use Rattle.page_journal.specs.Home.{Home, IsFormatted}
use Rattle.outside.specs.Disk.{Crashes, DiskView, Goes, Stays, Within}
use Rattle.chain_store.specs.declared.root.Root.{Root}
use Rattle.page_journal.proofs.Moments.{goes_stays, goes_weaker}
use Rattle.page_journal.proofs.Uniqueness.{one_home}
use Rattle.page_journal.specs.Pages.{gate}
use Rattle.page_journal.specs.declared.layout.TheConstants.{OPEN}
use Rattle.page_journal.specs.declared.fault.StoreFault.{StoreFault}
use Rattle.page_journal.specs.declared.fault.StoreFault.TheVariants as store
use Rattle.chain_store.specs.Answers.{IsReadAnswer}
use Rattle.chain_store.specs.Directories.{root_in}
use Rattle.chain_store.specs.Links.{page_in}
use Rattle.bucket_store.specs.Image.{HasImage, HoldsImage, Image, IsSoundAnswer}
use Rattle.bucket_store.specs.Opening.{Fits, IsMeant, IsOpeningAnswer, MeansOne, OpensStore, opened_root}
use Rattle.bucket_store.specs.declared.resting.Resting.{Resting}
use Rattle.bucket_store.proofs.Reopened.{rests_stays, root_found}
use Rattle.update_flow.specs.declared.fault.FlowFault.{FlowFault}
use Rattle.update_flow.specs.declared.fault.FlowFault.TheVariants as flow
use Rattle.style_read.specs.Reading.{reading}
use Rattle.style_read.specs.Style.{StyleOf}
use Rattle.row_rules.specs.Condition.{reaches_nodes}
use Rattle.update_flow.specs.AtRest.{IsAt, IsOfEither, Opens, OpensAs}
use Rattle.update_flow.specs.Faults.{of_store}
use Rattle.update_flow.specs.Opening.{AreFieldsFor, AreOfFollower, Found, HoldsState, IsStyled, RootTold}
use Rattle.update_flow.specs.Refusals.{IsNoDiskFault, IsOpenFault, MayFind, OrBreaks}
use Rattle.update_flow.specs.Roots.{AreFieldsOf, IsOfKind, is_blank, is_following, is_imported, is_old}
use Rattle.update_flow.specs.Stands.{HasMapsOf, IsBlank, IsFollowing, IsImported, IsOfFormat, IsOld, Means, StandsFor}
use Rattle.update_flow.specs.State.{Following, Holding, State, changes_in, formatted, imported, outdated, following, follows, style_in, was_imported, was_old}
use Rattle.update_flow.specs.Within.{IsSound}
use Rattle.update_flow.specs.declared.fault.TheConstants.{LAST_CHANGE}
use Rattle.update_flow.specs.declared.fields.TheConstants.{IMPORTED_FORMAT, STYLE_TEXT}
use Rattle.update_flow.specs.declared.opened.Opened.{Opened as Judged}

-- the two ways of saying that a disk holds a state
pub state_here : (state : State) (view : DiskView) → IsAt state view → HoldsState state view
unfolding StandsFor
state_here state view at = record {
  image = at.stands.0;
  holds = record { bytes = at.bytes; told = at.told; only = at.only; shut = at.shut; has = at.stands.2 };
  means = at.stands.1;
}

pub at_state : (state : State) (view : DiskView) → HoldsState state view → IsAt state view
unfolding StandsFor
at_state state view holds = record {
  bytes = holds.holds.bytes;
  told = holds.holds.told;
  only = holds.holds.only;
  shut = holds.holds.shut;
  stands = (holds.image, holds.means, holds.holds.has);
}

-- a disk that was only looked at holds what it held
pub holds_stays : (image : Image) (old new : DiskView) → Stays old new → HoldsImage image old → HoldsImage image new
holds_stays image old new stays holds = record {
  bytes = holds.bytes;
  told = stays.content ∙ holds.told;
  only = λ left now. holds.only left (stays.runs.now left now);
  shut = holds.shut;
  has = holds.has;
}

pub state_stays : (state : State) (old new : DiskView) → Stays old new → HoldsState state old → HoldsState state new
state_stays state old new stays holds = record {
  image = holds.image;
  holds = holds_stays holds.image old new stays holds.holds;
  means =
      holds.means;
}

pub fits_stays : (opened : Resting) (old new : DiskView) → Stays old new → Fits opened old → Fits opened new
fits_stays opened old new stays fits = record {
  pages = fits.pages;
  rests = rests_stays fits.pages old new fits.rests stays;
  many = fits.many;
  keeps = fits.keeps;
}

-- the fields tell which it is
some_count : (n : ℕ) → 1 ≤ n → (n == 0) ≡ false
some_count n some = grind (arith, nat_tests, some)

low_count : (n most : ℕ) → n ≤ most → nat_le n most ≡ true
low_count n most low = grind (arith, nat_tests, low)

two_not : (b c : Bool) → b ≡ false → c ≡ true → (not b && c) ≡ true
two_not b c one two = cc

pub blank_root : (image : Image) → IsBlank image → is_blank image.root ≡ true
blank_root image blank = blank.root

pub format_root : (MapsOf : Holding → Image → Type 0) (held : Holding) (image : Image) → IsOfFormat IMPORTED_FORMAT MapsOf held image
    → is_imported image.root ≡ true
format_root MapsOf held image is =
    ap (λ (r : Root). is_imported r) is.root
    ∙ two_not (held.buckets == 0) (nat_le held.changes LAST_CHANGE) (some_count held.buckets is.some)
    (low_count held.changes LAST_CHANGE is.counted)

pub imported_root : (held : Holding) (image : Image) → IsImported held image → is_imported image.root ≡ true
imported_root held image is = format_root HasMapsOf held image is

pub old_root : (held : Holding) (image : Image) → IsOld held image → is_old image.root ≡ true
old_root held image is =
    ap (λ (r : Root). is_old r) is.root
    ∙ two_not (held.buckets == 0) (nat_le held.changes LAST_CHANGE) (some_count held.buckets is.some)
    (low_count held.changes LAST_CHANGE is.counted)

pub following_root : (held : Following) (image : Image) → IsFollowing held image → is_following image.root ≡ true
following_root held image is =
    ap (λ (r : Root). is_following r) is.root
    ∙ two_not (held.buckets == 0) (nat_le held.version LAST_CHANGE) (some_count held.buckets is.some)
    (low_count held.version LAST_CHANGE is.counted)

-- those of a store that was only made are of no other kind
front_of : (b c : Bool) → (b && c) ≡ true → b ≡ true
front_of true c is = refl
front_of false c is = absurd (cc (is))

behind_of : (b c : Bool) → (b && c) ≡ true → c ≡ true
behind_of true c is = is
behind_of false c is = absurd (cc (is))

one_no_two : (n : ℕ) → (n == 1) ≡ true → (n == 2) ≡ false
one_no_two n is = grind (arith, nat_tests, is)

none_no_one : (n : ℕ) → (n == 0) ≡ true → (n == 1) ≡ false
none_no_one n is = grind (arith, nat_tests, is)

not_front : (b c : Bool) → b ≡ false → (b && c) ≡ false
not_front b c is = cc

not_inner : (a b c : Bool) → b ≡ false → (a && (b && c)) ≡ false
not_inner true b c is = not_front b c is
not_inner false b c is = refl

made_own : (root : Root) → is_blank root ≡ true → is_following root ≡ false
made_own root made = not_front (root.format == 2) _ (one_no_two root.format (front_of (root.format == 1) _ made))

made_old : (root : Root) → is_blank root ≡ true → is_old root ≡ false
made_old root made =
    not_inner (root.format == 1) (root.state == 1) _
    (none_no_one root.state (front_of (root.state == 0) (root.buckets == 0) (behind_of (root.format == 1) _ made)))

-- whether they are those of a follower's store, or of an old one
pub tells_own : (state : State) (image : Image) → Means state image → is_following image.root ≡ follows state
tells_own formatted image blank = made_own image.root blank.root
tells_own (imported held) image is = ap (λ (r : Root). is_following r) is.root
tells_own (outdated held) image is = ap (λ (r : Root). is_following r) is.root
tells_own (following held) image is = following_root held image is

pub tells_old : (state : State) (image : Image) → Means state image → is_old image.root ≡ was_old state
tells_old formatted image blank = made_old image.root blank.root
tells_old (imported held) image is = ap (λ (r : Root). is_old r) is.root
tells_old (outdated held) image is = old_root held image is
tells_old (following held) image is = ap (λ (r : Root). is_old r) is.root

-- and how many changes those of one with tables tell
pub tells_count : (state : State) (image : Image) → was_imported state ≡ true → Means state image → image.root.changes ≡ changes_in state
tells_count formatted image begun blank = absurd (cc (begun))
tells_count (imported held) image begun is = ap (λ (r : Root). r.changes) is.root
tells_count (outdated held) image begun is = ap (λ (r : Root). r.changes) is.root
tells_count (following held) image begun is = ap (λ (r : Root). r.changes) is.root

pub root_of : (state : State) (view : DiskView) (opened : Resting) → Fits opened view → (holds : HoldsState state view)
    → opened_root opened ≡ holds.image.root
root_of state view opened fits holds = root_found holds.image view opened fits holds.holds

-- each outcome on the way is a store of one of two states
pub each_meant : (one other : State) (crashes : Crashes) → Within (IsOfEither one other) crashes → Within IsMeant crashes
unfolding StandsFor
each_meant one other crashes within left now = elim (within left now) [
  | inl stands ↦ (stands.0, stands.2)
  | inr stands ↦ (stands.0, stands.2)
]

meant_either : (one other : State) (crashes : Crashes) → Within (IsOfEither one other) crashes → (left : List ℕ) → MeansOne crashes left
    → IsOfEither one other left
unfolding StandsFor
meant_either one other crashes within left meant = elim (within meant.one meant.among) [
  | inl stands ↦ inl (stands.0, stands.1, meant.means stands.0 stands.2)
  | inr stands ↦ inr (stands.0, stands.1, meant.means stands.0 stands.2)
]

pub goes_either : (one other : State) (old new : Crashes) → Within (IsOfEither one other) old → Goes (MeansOne old) old new
    → Goes (IsOfEither one other) old new
goes_either one other old new within goes =
    goes_weaker (MeansOne old) (IsOfEither one other) old new goes (meant_either one other old within)

-- refusals
pub sound_breaks : (fault : FlowFault) (P : Type 0) → IsSound (Some fault) → OrBreaks (Some fault) P
sound_breaks (flow.Store store.DiskFault) P sound = tt
sound_breaks flow.OutOfMemory P sound = tt
sound_breaks (flow.Store store.NotFormatted) P sound = absurd sound
sound_breaks (flow.Store store.NotEmpty) P sound = absurd sound
sound_breaks (flow.Store (store.BadStore page)) P sound = absurd sound
sound_breaks (flow.Store (store.StoreFull pages)) P sound = absurd sound
sound_breaks (flow.Store store.Broken) P sound = absurd sound
sound_breaks (flow.Store store.OutOfMemory) P sound = absurd sound
sound_breaks flow.NotImported P sound = absurd sound
sound_breaks flow.AlreadyImported P sound = absurd sound
sound_breaks flow.OldFormat P sound = absurd sound
sound_breaks flow.LastChange P sound = absurd sound
sound_breaks (flow.TooMany value) P sound = absurd sound

pub sound_store : (T : Type 0) (fault : StoreFault) → IsSoundAnswer {T = T} (Err fault) → IsSound (Some (of_store fault))
sound_store T store.NotFormatted sound = sound
sound_store T store.NotEmpty sound = sound
sound_store T (store.BadStore page) sound = sound
sound_store T store.DiskFault sound = tt
sound_store T (store.StoreFull pages) sound = sound
sound_store T store.Broken sound = sound
sound_store T store.OutOfMemory sound = tt

pub opens_alone : (T : Type 0) (fault : StoreFault) → IsOpeningAnswer {T = T} (Err fault) → IsOpenFault (of_store fault)
opens_alone T store.NotFormatted alone = tt
opens_alone T store.NotEmpty alone = absurd alone
opens_alone T (store.BadStore page) alone = tt
opens_alone T store.DiskFault alone = tt
opens_alone T (store.StoreFull pages) alone = absurd alone
opens_alone T store.Broken alone = absurd alone
opens_alone T store.OutOfMemory alone = tt

pub sound_answer : (fault : Option FlowFault) → IsSound fault → OrBreaks fault (fault ≡ None)
sound_answer None sound = refl
sound_answer (Some fault) sound = sound_breaks fault (Some fault ≡ None) sound

-- what is told to be bad has the form of a store
any_formed : (bytes : List ℕ) (page : ℕ) (R : List (List ℕ) → Type 0)
    → (JournalRefused bytes page ⊎ HomeRefused bytes page) ⊎ ((pages : List (List ℕ)) × Home pages bytes × R pages)
    → IsFormatted bytes
any_formed bytes page R (inl (inl refused)) = refused.formatted
any_formed bytes page R (inl (inr refused)) = refused.finish.formatted
any_formed bytes page R (inr found) = found.1.formatted

pub bad_formed : (T : Type 0) (bytes : List ℕ) (page : ℕ) (fault : StoreFault) → of_store fault ≡ flow.Store (store.BadStore page)
    → OpensStore {T = T} bytes (Err fault)
    → IsFormatted bytes
bad_formed T bytes page store.NotFormatted is answers = absurd (cc (is))
bad_formed T bytes page store.NotEmpty is answers = absurd (cc (is))
bad_formed T bytes page (store.BadStore at) is answers = any_formed bytes at _ answers
bad_formed T bytes page store.DiskFault is answers = absurd (cc (is))
bad_formed T bytes page (store.StoreFull pages) is answers = absurd (cc (is))
bad_formed T bytes page store.Broken is answers = absurd (cc (is))
bad_formed T bytes page store.OutOfMemory is answers = absurd (cc (is))

-- and whatever it holds, a store is opened or found bad, or the disk fails or memory runs out
pub reads_alone : (T : Type 0) (broken : Bool) (fault : StoreFault) → broken ≡ false → IsReadAnswer {T = T} broken (Err fault)
    → MayFind (of_store fault)
reads_alone T broken store.NotFormatted whole alone = absurd alone
reads_alone T broken store.NotEmpty whole alone = absurd alone
reads_alone T broken (store.BadStore page) whole alone = tt
reads_alone T broken store.DiskFault whole alone = tt
reads_alone T broken (store.StoreFull pages) whole alone = absurd alone
reads_alone T broken store.Broken whole alone = absurd (cc (whole, alone))
reads_alone T broken store.OutOfMemory whole alone = tt

-- a store that was found is of a state, and only looked at since
pub opens_as : (state : State) (mid new : DiskView) (fault : Option FlowFault) → HoldsState state mid → Stays mid new → IsSound fault
    → OpensAs state fault new
opens_as state mid new fault holds stays sound = record {
  answer = sound_answer fault sound;
  found = λ none. at_state state new (state_stays state mid new stays holds);
}

-- the same of one of two states
pub opens_either : (one other : State) (old mid new : DiskView) (fault : Option FlowFault) → HoldsState one mid ⊎ HoldsState other mid
    → Stays mid new
    → (((state : State) → HoldsState state mid → IsSound fault)) → Goes (IsOfEither one other) old.crashes mid.crashes
    → Opens one other fault old new
opens_either one other old mid new fault (inl holds) stays sound goes = record {
  answer = sound_answer fault (sound one holds);
  found = λ none. inl (at_state one new (state_stays one mid new stays holds));
  moments = goes_stays (IsOfEither one other) old.crashes mid new goes stays;
}
opens_either one other old mid new fault (inr holds) stays sound goes = record {
  answer = sound_answer fault (sound other holds);
  found = λ none. inr (at_state other new (state_stays other mid new stays holds));
  moments = goes_stays (IsOfEither one other) old.crashes mid new goes stays;
}

-- a refusal of the store below that is no disk fault
pub quiet_fault : (T : Type 0) (fault : StoreFault) → IsNoDiskFault (Some (of_store fault)) → answers_disk_fault {T = T} (Err fault) ≡ false
quiet_fault T store.NotFormatted quiet = refl
quiet_fault T store.NotEmpty quiet = refl
quiet_fault T (store.BadStore page) quiet = refl
quiet_fault T store.DiskFault quiet = absurd quiet
quiet_fault T (store.StoreFull pages) quiet = refl
quiet_fault T store.Broken quiet = refl
quiet_fault T store.OutOfMemory quiet = refl

-- the fields of a store that was only made are blank
pub none_blank : (view : DiskView) (opened : Resting) (root : Root) → root ≡ opened_root opened → is_blank root ≡ false → Fits opened view
    → HoldsState formatted view → ⊥
none_blank view opened root same blank fits holds =
    let here : is_blank root ≡ is_blank holds.image.root =
    ap (λ (r : Root). is_blank r) (same ∙ root_of formatted view opened fits holds) in
    let is : is_blank holds.image.root ≡ true = blank_root holds.image holds.means in
    absurd (cc (here, is, blank))

-- those of a store of a state are so, or those of an imported one of one format or the other, or of a follower's
pub is_one : (state : State) (view : DiskView) (opened : Resting) (root : Root) → root ≡ opened_root opened → is_blank root ≡ false
    → is_old root ≡ false → is_imported root ≡ false → is_following root ≡ false → Fits opened view → HoldsState state view → ⊥
is_one formatted view opened root same blank old other own fits holds = none_blank view opened root same blank fits holds
is_one (imported held) view opened root same blank old other own fits holds =
    let here : is_imported root ≡ is_imported holds.image.root =
    ap (λ (r : Root). is_imported r) (same ∙ root_of (imported held) view opened fits holds) in
    let is : is_imported holds.image.root ≡ true = imported_root held holds.image holds.means in
    absurd (cc (here, is, other))
is_one (following held) view opened root same blank old other own fits holds =
    let here : is_following root ≡ is_following holds.image.root =
    ap (λ (r : Root). is_following r) (same ∙ root_of (following held) view opened fits holds) in
    let is : is_following holds.image.root ≡ true = following_root held holds.image holds.means in
    absurd (cc (here, is, own))
is_one (outdated held) view opened root same blank old other own fits holds =
    let here : is_old root ≡ is_old holds.image.root =
    ap (λ (r : Root). is_old r) (same ∙ root_of (outdated held) view opened fits holds) in
    let is : is_old holds.image.root ≡ true = old_root held holds.image holds.means in
    absurd (cc (here, is, old))

-- a store with other fields than those was imported
pub begun_state : (state : State) (view : DiskView) (opened : Resting) (root : Root) → root ≡ opened_root opened → is_blank root ≡ false
    → Fits opened view → HoldsState state view → was_imported state ≡ true
begun_state formatted view opened root same blank fits holds = absurd (none_blank view opened root same blank fits holds)
begun_state (imported held) view opened root same blank fits holds = refl
begun_state (outdated held) view opened root same blank fits holds = refl
begun_state (following held) view opened root same blank fits holds = refl

-- what was found of an imported store is what was found of a store
pub found_of : (root : Root) (view new : DiskView) (found : Resting) (dated : Bool) (result : Result Judged FlowFault)
    → root ≡ opened_root found
    → is_blank root ≡ false → is_following root ≡ false → dated ≡ is_old root → IfOk result (IsStyled root.changes dated)
    → IfOk result (λ opened. Fits found view → (state : State) → HoldsState state view → was_imported state ≡ true
    → (opened.style ≡ style_in state) × Fits opened.store new)
    → IfOk result (λ opened. Fits found view → (state : State) → HoldsState state view → Found state new opened)
found_of root view new found dated (Err fault) same blank other is styled rest = tt
found_of root view new found dated (Ok opened) same blank other is styled rest = λ fits state holds.
    let are : root ≡ holds.image.root = same ∙ root_of state view found fits holds in
    let begun = begun_state state view found root same blank fits holds in
    let own = rest fits state holds begun in
    record {
      changes_are = styled.changes_are ∙ ap (λ (r : Root). r.changes) are ∙ tells_count state holds.image begun holds.means;
      style_is = own.0;
      old_is = styled.old_is ∙ is ∙ ap (λ (r : Root). is_old r) are ∙ tells_old state holds.image holds.means;
      own = sym (tells_own state holds.image holds.means) ∙ ap (λ (r : Root). is_following r) (sym are) ∙ other;
      fits = own.1;
    }

pub sound_of : (root : Root) (view : DiskView) (found : Resting) (dated : Bool) (fault : Option FlowFault) → root ≡ opened_root found
    → is_blank root ≡ false → dated ≡ is_old root
    → (Fits found view → (state : State) → HoldsState state view → was_imported state ≡ true → was_old state ≡ dated → IsSound fault)
    → Fits found view → (state : State) → HoldsState state view → IsSound fault
sound_of root view found dated fault same blank is sound fits state holds =
    let are : root ≡ holds.image.root = same ∙ root_of state view found fits holds in
    let old : dated ≡ was_old state = is ∙ ap (λ (r : Root). is_old r) are ∙ tells_old state holds.image holds.means in
    sound fits state holds (begun_state state view found root same blank fits holds) (sym old)

-- the fields that were read are those of the root page of the bytes as they were
pub root_told : (found : Resting) (bytes : List ℕ) (pages : List (List ℕ)) (old mid : DiskView) → old.content ≡ Some bytes → Stays old mid
    → Fits found mid → Home pages bytes
    → opened_root found ≡ root_in (page_in pages 1)
root_told found bytes pages old mid told stays fits home =
    let same : fits.rests.0 ≡ bytes = same_Some fits.rests.0 bytes (sym fits.rests.1.told ∙ stays.content ∙ told) in
    let here : Home fits.pages bytes = subst (λ (b : List ℕ). Home fits.pages b) same fits.rests.1.home in
    let one : fits.pages ≡ pages = one_home fits.pages pages bytes here home in
    ap (λ (front : List ℕ). root_in front) fits.keeps.front ∙ ap (λ (p : List (List ℕ)). root_in (page_in p 1)) one

-- what was read of a disk that was only looked at tells its root page
pub told_by : (found : Resting) (old mid : DiskView) → ((bytes : List ℕ) → old.content ≡ Some bytes → gate bytes ≢ OPEN → Stays old mid)
    → ((bytes : List ℕ) → old.content ≡ Some bytes → Fits found mid) → (judged : Option Judged) → AreFieldsFor judged (opened_root found)
    → RootTold old.content judged
told_by found old mid stays fits None own = (
  (opened_root found).changes,
  λ bytes told shut pages home.
      subst (λ (r : Root). AreOfFollower (opened_root found).changes r)
      (root_told found bytes pages old mid told (stays bytes told shut) (fits bytes told) home) (record { kind = own; count = refl }),
)
told_by found old mid stays fits (Some opened) own = λ bytes told shut pages home.
    subst (λ (r : Root). AreFieldsOf opened.style opened.outdated opened.changes r)
    (root_told found bytes pages old mid told (stays bytes told shut) (fits bytes told) home) own

-- and that of a follower's store tells that it is one
pub own_found : (state : State) (view : DiskView) (found : Resting) → is_following (opened_root found) ≡ true → Fits found view
    → HoldsState state view → follows state ≡ true
own_found state view found own fits holds =
    sym (tells_own state holds.image holds.means)
    ∙ ap (λ (r : Root). is_following r) (sym (root_of state view found fits holds)) ∙ own

-- an imported store is found where its fields say so
pub kind_of : (style : Option StyleOf) (dated : Bool) (root : Root) → is_some style ≡ true → (dated ≡ true → is_old root ≡ true)
    → (dated ≡ false → is_imported root ≡ true) → IsOfKind style dated root
kind_of None dated root some old new = absurd (cc (some))
kind_of (Some style) false root some old new = new refl
kind_of (Some style) true root some old new = old refl

pub fields_of : (root stored : Root) (dated : Bool) (result : Result Judged FlowFault) → root ≡ stored → (dated ≡ true → is_old root ≡ true)
    → (dated ≡ false → is_imported root ≡ true)
    → IfOk result (IsStyled root.changes dated)
    → IfOk result (λ opened. AreFieldsOf opened.style opened.outdated opened.changes stored)
fields_of root stored dated (Err fault) same old new styled = tt
fields_of root stored dated (Ok opened) same old new styled = record {
  kind = subst (λ (r : Root). IsOfKind opened.style opened.outdated r) same
      (kind_of opened.style opened.outdated root styled.styled (λ out. old (sym styled.old_is ∙ out)) (λ fresh. new (sym styled.old_is ∙ fresh)));
  count = λ _. styled.changes_are ∙ ap (λ (r : Root). r.changes) same;
}

-- a disk that was only looked at held what it holds
pub state_before : (state : State) (mid new : DiskView) (found : Resting) → Fits found mid → Stays mid new → IsAt state new
    → HoldsState state mid
unfolding StandsFor
state_before state mid new found fits stays at =
    let here : at.bytes ≡ fits.rests.0 = same_Some at.bytes fits.rests.0 (sym at.told ∙ stays.content ∙ fits.rests.1.told) in
    record {
      image = at.stands.0;
      holds = record {
        bytes = fits.rests.0;
        told = fits.rests.1.told;
        only = fits.rests.1.only;
        shut = fits.rests.1.shut;
        has = subst (λ (b : List ℕ). HasImage at.stands.0 b) here at.stands.2;
      };
      means = at.stands.1;
    }

-- the style of an imported store is the one that its text spells
pub style_good : (state : State) (image : Image) → Means state image → was_imported state ≡ true
    → (style : StyleOf) × (Some style ≡ style_in state) × (reading (image.texts STYLE_TEXT) ≡ Ok style)
style_good formatted image blank begun = absurd (cc (begun))
style_good (imported held) image is begun = (held.style, refl, ap (λ (b : List ℕ). reading b) is.style_text ∙ is.style)
style_good (outdated held) image is begun = (held.style, refl, ap (λ (b : List ℕ). reading b) is.style_text ∙ is.style)
style_good (following held) image is begun = (held.style, refl, ap (λ (b : List ℕ). reading b) is.style_text ∙ is.style)

pub style_one : (state : State) (image : Image) (style : StyleOf) → Means state image → was_imported state ≡ true
    → reading (image.texts STYLE_TEXT) ≡ Ok style → Some style ≡ style_in state
style_one state image style means begun read =
    let own = style_good state image means begun in
    let good : reading (image.texts STYLE_TEXT) ≡ Ok own.0 = own.2 in
    let same : style ≡ own.0 = cc (read, good) in
    ap (λ (s : StyleOf). Some s) same ∙ own.1

-- that of an old one does not reach nodes
pub old_unreached : (state : State) (image : Image) (style : StyleOf) → Means state image → was_old state ≡ true
    → reading (image.texts STYLE_TEXT) ≡ Ok style → reaches_nodes style ≡ false
old_unreached formatted image style blank old read = absurd (cc (old))
old_unreached (imported held) image style is old read = absurd (cc (old))
old_unreached (following held) image style is old read = absurd (cc (old))
old_unreached (outdated held) image style is old read =
    let good : reading (image.texts STYLE_TEXT) ≡ Ok held.style = ap (λ (b : List ℕ). reading b) is.style_text ∙ is.style in
    let same : style ≡ held.style = cc (read, good) in
    ap (λ (s : StyleOf). reaches_nodes s) same ∙ is.maps.unreached

-- no answer of a store that means a state is that it is bad
pub bad_none : (T : Type 0) (result : Result T FlowFault) (page : ℕ) → IsErrOf result (flow.Store (store.BadStore page))
    → IsSound (result_err result) → ⊥
bad_none T result page is sound = subst (λ (r : Result T FlowFault). IsSound (result_err r)) is sound

-- a style tells that there was an import
pub style_tells : (state : State) → is_some (style_in state) ≡ was_imported state
style_tells formatted = refl
style_tells (imported held) = refl
style_tells (outdated held) = refl
style_tells (following held) = refl
