-- What was opened and judged is what was opened.
use Rattle.std.proofs.Common.{◌≡◌, ◌⊎◌, inl, inr, ℕ, Bool, true, false, List, Option, Some, None, Result, Ok, Err, refl, sym, ap, subst, ◌∙◌}
use Rattle.std.proofs.Common.{◌≤◌, arith}
use Rattle.std.specs.Prelude.{IfErr, IfOk, IfSome, IsErrOf, OnOk}
use Rattle.std.specs.Result.{result_err}
use Rattle.outside.specs.Bytes.{IfTold, IsTold}
use Rattle.outside.specs.Causes.{Rose}
use Rattle.std.proofs.lemmas.Option.{same_Some}
use Rattle.outside.specs.Disk.{DiskView, Stays}
use Rattle.page_journal.specs.Crash.{IsAtRest}
use Rattle.page_journal.specs.Answers.{HomeRefused, JournalRefused}
use Rattle.page_journal.specs.Home.{Home}
use Rattle.chain_store.specs.Answers.{ReadsKept}
use Rattle.page_journal.specs.declared.fault.StoreFault.TheVariants as store
use Rattle.page_journal.proofs.Moments.{stays_then}
use Rattle.page_journal.proofs.Uniqueness.{one_home}
use Rattle.chain_store.specs.Store.{Keeps}
use Rattle.bucket_store.specs.Image.{HoldsImage, Image}
use Rattle.chain_store.specs.Directories.{IsCount, root_in}
use Rattle.chain_store.specs.declared.kept.Kept.{Kept}
use Rattle.chain_store.specs.declared.root.Root.{Root}
use Rattle.bucket_store.specs.Opening.{Fits, FitsPages, opened_root}
use Rattle.bucket_store.specs.declared.resting.Resting.{Resting}
use Rattle.update_flow.specs.AtRest.{HasFlowCause, IsAt}
use Rattle.update_flow.specs.BadPage.{BadFront, BadHome, BadInside, BadJournal, IsBadPage, root_told}
use Rattle.update_flow.specs.Judged.{AreSound, IsAsOpened, IsReadOf, Judges, TellsToday}
use Rattle.update_flow.specs.Opening.{AreFieldsFor, Found, FoundIn, HoldsState, OpensAny, RootTells, RootTold, as_found}
use Rattle.update_flow.specs.Refusals.{IsOpenFault, MayFind}
use Rattle.update_flow.specs.Roots.{AreFieldsOf, IsOfKind, is_blank, is_imported}
use Rattle.update_flow.specs.Sound.{IsSound}
use Rattle.update_flow.specs.Stands.{Means, StandsFor}
use Rattle.update_flow.specs.State.{State, changes_in, following, follows, formatted, imported, outdated, style_in, was_old}
use Rattle.update_flow.specs.Within.{IsSound as IsSoundFault, MayRun}
use Rattle.update_flow.specs.declared.fault.FlowFault.{FlowFault}
use Rattle.update_flow.specs.declared.fault.FlowFault.TheVariants as flow
use Rattle.update_flow.specs.declared.opened.Opened.{Opened}
use Rattle.style_read.specs.Style.{StyleOf}
use Rattle.update_flow.specs.declared.fields.TheConstants.{IMPORTED_FORMAT, OLD_FORMAT}
use Rattle.update_flow.proofs.Judgements.{home_of_sound, made_apart, own_apart, sound_of_home}
use Rattle.update_flow.proofs.Openings.{at_state, following_root, imported_root, old_root, root_of, state_before}
use Rattle.update_flow.proofs.SoundStanding.{blank_is_sound, import_is_sound}

-- what stands for a state that is no old one and no follower's is sound
pub state_sound : (state : State) (bytes : List ℕ) → was_old state ≡ false → follows state ≡ false → StandsFor bytes state → IsSound bytes
state_sound formatted bytes fresh own stands = blank_is_sound bytes stands
state_sound (imported held) bytes fresh own stands = import_is_sound bytes held stands
state_sound (outdated held) bytes fresh own stands = absurd (cc (fresh))
state_sound (following held) bytes fresh own stands = absurd (cc (own))

pub only_made : (state : State) (image : Image) → Means state image → is_blank image.root ≡ true → formatted ≡ state
only_made formatted image means made = refl
only_made (imported held) image means made = absurd (made_apart IMPORTED_FORMAT image.root made (imported_root held image means))
only_made (outdated held) image means made = absurd (made_apart OLD_FORMAT image.root made (old_root held image means))
only_made (following held) image means made = absurd (own_apart image.root (following_root held image means) (inl made))

-- blank fields are those of a store that was only made
pub blank_found : (state : State) (view : DiskView) (found : Resting) (opened : Opened) → is_blank (opened_root found) ≡ true
    → opened.store ≡ found → opened.changes ≡ 0 → opened.style ≡ None → opened.outdated ≡ false → Fits found view → HoldsState state view
    → Found state view opened
blank_found state view found opened blank same none styleless fresh fits holds =
    let made : is_blank holds.image.root ≡ true = ap (λ (r : Root). is_blank r) (sym (root_of state view found fits holds)) ∙ blank in
    let own = only_made state holds.image holds.means made in
    record {
      changes_are = none ∙ ap (λ (s : State). changes_in s) own;
      style_is = styleless ∙ ap (λ (s : State). style_in s) own;
      old_is = fresh ∙ ap (λ (s : State). was_old s) own;
      own = ap (λ (s : State). follows s) (sym own);
      fits = subst (λ (s : Resting). Fits s view) (sym same) fits;
    }

-- the fields of a store that is no old one are those of today
kind_today : (style : Option StyleOf) (root : Root) → IsOfKind style false root → (is_blank root ≡ true) ⊎ (is_imported root ≡ true)
kind_today None root is = inl is
kind_today (Some style) root is = inr is

pub fields_today : (style : Option StyleOf) (dated : Bool) (changes : ℕ) (root : Root) → AreFieldsOf style dated changes root → dated ≡ false
    → (is_blank root ≡ true) ⊎ (is_imported root ≡ true)
fields_today style dated changes root fields fresh =
    kind_today style root (subst (λ (b : Bool). IsOfKind style b root) fresh fields.kind)

-- a judgement of a sound store refuses nothing but for want of memory or of the disk
pub judged_sound : (pages : List (List ℕ)) (kept : Kept) (fault : Option FlowFault) → Judges pages kept fault → ((own : FlowFault)
    → fault ≡ Some own → MayFind own) → AreSound pages → IsSoundFault fault
judged_sound pages kept None judges alone sound = tt
judged_sound pages kept (Some (flow.Store store.NotFormatted)) judges alone sound = alone (flow.Store store.NotFormatted) refl
judged_sound pages kept (Some (flow.Store store.NotEmpty)) judges alone sound = alone (flow.Store store.NotEmpty) refl
judged_sound pages kept (Some (flow.Store (store.BadStore at))) judges alone sound = judges.0 sound
judged_sound pages kept (Some (flow.Store store.DiskFault)) judges alone sound = tt
judged_sound pages kept (Some (flow.Store (store.StoreFull many))) judges alone sound = alone (flow.Store (store.StoreFull many)) refl
judged_sound pages kept (Some (flow.Store store.Broken)) judges alone sound = alone (flow.Store store.Broken) refl
judged_sound pages kept (Some (flow.Store store.OutOfMemory)) judges alone sound = alone (flow.Store store.OutOfMemory) refl
judged_sound pages kept (Some flow.NotImported) judges alone sound = alone flow.NotImported refl
judged_sound pages kept (Some flow.AlreadyImported) judges alone sound = alone flow.AlreadyImported refl
judged_sound pages kept (Some flow.OldFormat) judges alone sound = alone flow.OldFormat refl
judged_sound pages kept (Some flow.LastChange) judges alone sound = alone flow.LastChange refl
judged_sound pages kept (Some (flow.TooMany value)) judges alone sound = alone (flow.TooMany value) refl
judged_sound pages kept (Some flow.OutOfMemory) judges alone sound = tt

-- home pages of bytes, by what the disk tells
pub same_home : (bytes : List ℕ) (one other : List (List ℕ)) (view : DiskView) → Home one bytes → IsAtRest one view → IsAtRest other view
    → Home other bytes
same_home bytes one other view home rests own =
    let same : rests.0 ≡ own.0 = same_Some rests.0 own.0 (sym rests.1.told ∙ own.1.told) in
    let here : Home one own.0 = subst (λ (b : List ℕ). Home one b) same rests.1.home in
    subst (λ (p : List (List ℕ)). Home p bytes) (one_home one other own.0 here own.1.home) home

-- a fact of what was found, and its fields
pub both_found : (result : Result (Option Opened) FlowFault) (A : Opened → Type 0) (root : Root) (C : Opened → Type 0)
    → ((opened : Opened) → A opened → AreFieldsOf opened.style opened.outdated opened.changes root → C opened)
    → IfOk result (λ found. IfSome found A) → IfOk result (λ found. AreFieldsFor found root) → IfOk result (λ found. IfSome found C)
both_found (Ok None) A root C then one other = tt
both_found (Ok (Some opened)) A root C then one other = then opened one other
both_found (Err fault) A root C then one other = tt

-- what was opened was read of the bytes
pub read_of : (bytes : List ℕ) (found : Resting) (opened : Opened) (mid new : DiskView) (before : Fits found mid)
    → FitsPages before.pages opened.store new → (pages : List (List ℕ)) → Home pages bytes → IsAtRest pages mid
    → IsCount (opened_root found).buckets → AreFieldsOf opened.style opened.outdated opened.changes (opened_root found)
    → IsReadOf bytes opened new
read_of bytes found opened mid new before own pages home rests count fields =
    let root : opened_root found ≡ opened_root opened.store =
    ap (λ (l : List ℕ). root_in l) (before.keeps.front ∙ sym own.keeps.front) in
    record {
      fits = record { pages = before.pages; rests = own.rests; many = own.many; keeps = own.keeps };
      home = same_home bytes pages before.pages mid home rests before.rests;
      count = subst (λ (r : Root). IsCount r.buckets) root count;
      fields = subst (λ (r : Root). AreFieldsOf opened.style opened.outdated opened.changes r) root fields;
    }

-- an opening that is refused at a page
pub opening_bad : (bytes : List ℕ) (page : ℕ) → (JournalRefused bytes page ⊎ HomeRefused bytes page)
    ⊎ ((pages : List (List ℕ)) × Home pages bytes × ReadsKept pages (Err (store.BadStore page))) → IsBadPage bytes page
opening_bad bytes page (inl (inl refused)) = BadJournal refused
opening_bad bytes page (inl (inr refused)) = BadHome refused
opening_bad bytes page (inr found) = BadFront found.0 found.1 found.2

-- the pages of an opened store that is no old one tell so
pub today_of : (opened : Opened) (view : DiskView) (fits : Fits opened.store view) → IsCount (opened_root opened.store).buckets
    → AreFieldsOf opened.style opened.outdated opened.changes (opened_root opened.store) → opened.outdated ≡ false → TellsToday fits.pages
today_of opened view fits count fields fresh =
    let root : opened_root opened.store ≡ root_told fits.pages = ap (λ (l : List ℕ). root_in l) fits.keeps.front in
    record {
      count = subst (λ (r : Root). IsCount r.buckets) root count;
      kind = subst (λ (r : Root). (is_blank r ≡ true) ⊎ (is_imported r ≡ true)) root
          (fields_today opened.style opened.outdated opened.changes (opened_root opened.store) fields fresh);
    }

-- whatever a call within a transaction may answer a look may
pub may_find : (fault : FlowFault) → MayRun (Some fault) → MayFind fault
may_find (flow.Store store.NotFormatted) may = absurd may
may_find (flow.Store store.NotEmpty) may = absurd may
may_find (flow.Store (store.BadStore page)) may = tt
may_find (flow.Store store.DiskFault) may = tt
may_find (flow.Store (store.StoreFull many)) may = absurd may
may_find (flow.Store store.Broken) may = absurd may
may_find (flow.Store store.OutOfMemory) may = absurd may
may_find flow.NotImported may = absurd may
may_find flow.AlreadyImported may = absurd may
may_find flow.OldFormat may = absurd may
may_find flow.LastChange may = absurd may
may_find (flow.TooMany value) may = absurd may
may_find flow.OutOfMemory may = tt

-- the count of faults rose since before
rose_later : (before mid now : ℕ) → before ≤ mid → Rose mid now → Rose before now
rose_later before mid now later rose = omega (arith, later, rose)

-- what is answered of a refusal
pub alone_of : (result : Result Opened FlowFault) → IfErr result MayFind → (own : FlowFault) → result_err result ≡ Some own → MayFind own
alone_of (Ok opened) alone own is = absurd (cc (is))
alone_of (Err fault) alone own is = subst (λ (f : FlowFault). MayFind f) (same_Some fault own is) alone

find_opens : (fault : FlowFault) → MayFind fault → IsOpenFault fault
find_opens (flow.Store store.NotFormatted) may = absurd may
find_opens (flow.Store store.NotEmpty) may = absurd may
find_opens (flow.Store (store.BadStore page)) may = tt
find_opens (flow.Store store.DiskFault) may = tt
find_opens (flow.Store (store.StoreFull many)) may = absurd may
find_opens (flow.Store store.Broken) may = absurd may
find_opens (flow.Store store.OutOfMemory) may = absurd may
find_opens flow.NotImported may = absurd may
find_opens flow.AlreadyImported may = absurd may
find_opens flow.OldFormat may = absurd may
find_opens flow.LastChange may = absurd may
find_opens (flow.TooMany value) may = absurd may
find_opens flow.OutOfMemory may = tt

-- what is so of a store, if one was found, is so of this one
pub some_found : (found : Option Opened) (opened : Opened) (P : Opened → Type 0) → found ≡ Some opened → IfSome found P → P opened
some_found found opened P is own = subst (λ (o : Option Opened). IfSome o P) is own

-- what is answered of a store that was found
pub err_found : (result : Result Opened FlowFault) → result_err (as_found result) ≡ result_err result
err_found (Ok opened) = refl
err_found (Err fault) = refl

pub err_again : (result : Result Opened FlowFault) (fault : FlowFault) → IsErrOf (as_found result) fault → IsErrOf result fault
err_again (Ok opened) fault is = absurd (cc (is))
err_again (Err own) fault is =
    ap (λ (f : FlowFault). Err f) (same_Some own fault (ap (λ (r : Result (Option Opened) FlowFault). result_err r) is))

pub fault_found : (found : Result (Option Opened) FlowFault) (result : Result Opened FlowFault) → found ≡ as_found result
    → result_err result ≡ result_err found
fault_found found result is = sym (err_found result) ∙ ap (λ (r : Result (Option Opened) FlowFault). result_err r) (sym is)

finds_only : (result : Result Opened FlowFault) → IfErr result MayFind → IfErr (as_found result) IsOpenFault
finds_only (Ok opened) alone = tt
finds_only (Err fault) alone = find_opens fault alone

no_formatted : (result : Result Opened FlowFault) → IfErr result MayFind → IsErrOf result (flow.Store store.NotFormatted) → ⊥
no_formatted result alone is = subst (λ (r : Result Opened FlowFault). IfErr r MayFind) is alone

on_any : (result : Result Opened FlowFault) (P : Type 0) → P → OnOk (as_found result) P
on_any (Ok opened) P own = own
on_any (Err fault) P own = tt

-- a store of a state that is no old one is judged sound
pub whole_sound : (state : State) (opened : Opened) (mid : DiskView) (fits : Fits opened.store mid) (fault : Option FlowFault)
    → IsAt state mid → Found state mid opened → opened.outdated ≡ false → Judges fits.pages opened.store.kept fault
    → ((own : FlowFault) → fault ≡ Some own → MayFind own) → IsSoundFault fault
whole_sound state opened mid fits fault at found fresh judges alone =
    let same : at.bytes ≡ fits.rests.0 = same_Some at.bytes fits.rests.0 (sym at.told ∙ fits.rests.1.told) in
    let stands : StandsFor fits.rests.0 state = subst (λ (b : List ℕ). StandsFor b state) same at.stands in
    judged_sound fits.pages opened.store.kept fault judges alone
    (home_of_sound fits.rests.0 fits.pages fits.rests.1.home (state_sound state fits.rests.0 (sym found.old_is ∙ fresh) found.own stands))

-- bytes are sound where they are judged so, and else a page is blamed
pub sound_told : (result : Result Opened FlowFault) (R : List ℕ → Type 0)
    → ((bytes : List ℕ) → R bytes → (pages : List (List ℕ)) × (kept : Kept) × Home pages bytes × Judges pages kept (result_err result))
    → IfOk (as_found result) (λ found. IfSome found (λ opened. opened.outdated ≡ false → (bytes : List ℕ) → R bytes → IsSound bytes))
sound_told (Ok opened) R each = λ fresh bytes told. let own = each bytes told in sound_of_home bytes own.0 own.2 own.3
sound_told (Err fault) R each = tt

pub bad_told : (result : Result Opened FlowFault) (page : ℕ) (bytes : List ℕ) (pages : List (List ℕ)) (kept : Kept)
    → IsErrOf result (flow.Store (store.BadStore page)) → Home pages bytes → Keeps pages kept → Judges pages kept (result_err result)
    → (IsSound bytes → ⊥) × IsBadPage bytes page
bad_told result page bytes pages kept is home keeps judges =
    let judged = subst (λ (r : Result Opened FlowFault). Judges pages kept (result_err r)) is judges in (
      (λ sound. judged.0 (home_of_sound bytes pages home sound)),
      BadInside pages kept home keeps judged.1,
    )

-- what was found before is found still
pub found_told : (result : Result Opened FlowFault) (opened : Opened) (old mid new : DiskView) → (IsTold old.content → Fits opened.store mid)
    → Stays mid new → (IsTold old.content → (state : State) → IsAt state mid → Found state mid opened)
    → IfOk result (λ now. IsAsOpened opened now)
    → IfOk result (λ now. (image : Image) → Fits opened.store mid → HoldsImage image mid → Fits now.store new)
    → IfOk (as_found result) (λ now. IsTold old.content → (state : State) → IsAt state new → FoundIn state new now)
found_told (Err fault) opened old mid new fits stays found same then = tt
found_told (Ok now) opened old mid new fits stays found same then = λ told state at.
    let before = fits told in
    let holds = state_before state mid new opened.store before stays at in
    let own = found told state (at_state state mid holds) in
    record {
      changes_are = same.changes_are ∙ own.changes_are;
      style_is = same.style_is ∙ own.style_is;
      old_is = same.old_is ∙ own.old_is;
      own = own.own;
      fits = then holds.image before holds.holds;
    }

fields_still : (result : Result Opened FlowFault) (opened : Opened) (content : Option (List ℕ))
    → IfTold content (RootTells opened.style opened.outdated opened.changes) → IfOk result (λ now. IsAsOpened opened now)
    → IfOk (as_found result) (RootTold content)
fields_still (Err fault) opened content tells same = tt
fields_still (Ok now) opened content tells same = λ bytes told.
    subst (λ (n : ℕ). RootTells now.style now.outdated n bytes) (sym same.changes_are)
    (subst (λ (b : Bool). RootTells now.style b opened.changes bytes) (sym same.old_is)
    (subst (λ (s : Option StyleOf). RootTells s opened.outdated opened.changes bytes) (sym same.style_is) (tells bytes told)))

-- whatever the disk holds
pub any_still : (result : Result Opened FlowFault) (opened : Opened) (old mid new : DiskView) → OpensAny old mid (Ok (Some opened)) → Stays mid new
    → IfErr result MayFind → HasFlowCause (result_err result) mid new → IfOk result (λ now. IsAsOpened opened now)
    → ((page : ℕ) → IsErrOf result (flow.Store (store.BadStore page)) → IfTold old.content (λ bytes. (state : State) → ¬ StandsFor bytes state))
    → OpensAny old new (as_found result)
any_still result opened old mid new any stays alone cause same none = record {
  alone = finds_only result alone;
  no_store = λ is. absurd (no_formatted result alone (err_again result _ is));
  formed = on_any result _ any.formed;
  fields = fields_still result opened old.content any.fields same;
  untouched = λ is. absurd (no_formatted result alone (err_again result _ is));
  told = λ told no. let own = any.told told tt in (own.0, stays.content ∙ own.1);
  bad = λ page is bytes told. record { formed = any.formed bytes told; none = none page (err_again result _ is) bytes told };
  same = λ bytes told shut. stays.content ∙ any.same bytes told shut;
  looked = λ bytes told shut. stays_then old mid new (any.looked bytes told shut) stays;
  cause = record {
    later = omega (arith, any.cause.later, cause.later);
    failed = λ is. rose_later old.faults mid.faults new.faults any.cause.later (cause.failed (sym (err_found result) ∙ is));
  };
}
