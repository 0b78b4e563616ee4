-- The opening of a sound store.
use Rattle.std.proofs.Common.{◌≡◌, inl, inr, ℕ, Bool, true, false, Option, Some, None, Result, Ok, Err, refl, sym, ap, subst, ◌∙◌}
use Rattle.std.proofs.lemmas.Option.{same_Some}
use Rattle.std.specs.Prelude.{IfErr, IfOk, IfSome, IsErrOf, List, is_some}
use Rattle.outside.specs.Disk.{DiskView, Stays}
use Rattle.page_journal.specs.Home.{Home}
use Rattle.page_journal.specs.declared.fault.StoreFault.TheVariants as store
use Rattle.chain_store.specs.declared.root.Root.{Root}
use Rattle.bucket_store.specs.Image.{HoldsImage, Image}
use Rattle.bucket_store.specs.Opening.{Fits, FitsPages, opened_root}
use Rattle.bucket_store.specs.declared.resting.Resting.{Resting}
use Rattle.bucket_store.proofs.Reopened.{root_found}
use Rattle.style_read.specs.Reading.{reading}
use Rattle.style_read.specs.Style.{StyleOf}
use Rattle.update_flow.specs.Judged.{AreSound, IsSoundImage}
use Rattle.update_flow.specs.Opening.{AreFieldsFor}
use Rattle.update_flow.specs.Refusals.{MayFind, OrBreaks}
use Rattle.update_flow.specs.Roots.{AreFieldsOf, IsOfKind, is_blank, is_following, is_imported}
use Rattle.update_flow.specs.Sound.{HasSoundMaps, IsSoundImport}
use Rattle.update_flow.specs.Stands.{IsBlank}
use Rattle.update_flow.specs.SoundTurns.{FindsSound, OpensSound, TellsStyle}
use Rattle.update_flow.specs.State.{Holding, formatted, imported}
use Rattle.update_flow.specs.declared.fault.FlowFault.{FlowFault}
use Rattle.update_flow.specs.declared.fault.FlowFault.TheVariants as flow
use Rattle.update_flow.specs.declared.fields.TheConstants.{IMPORTED_FORMAT, OLD_FORMAT, STYLE_TEXT}
use Rattle.update_flow.specs.declared.opened.Opened.{Opened}
use Rattle.update_flow.proofs.Judgements.{home_of_sound, made_apart, old_apart, own_apart, sound_today}
use Rattle.update_flow.proofs.Openings.{format_root, holds_stays}

-- what finds no damaged page breaks, if it is refused
pub never_bad : (fault : FlowFault) (P : Type 0) → MayFind fault → ((page : ℕ) → fault ≡ flow.Store (store.BadStore page) → ⊥)
    → OrBreaks (Some fault) P
never_bad (flow.Store (store.BadStore page)) P alone never = absurd (never page refl)
never_bad (flow.Store store.DiskFault) P alone never = tt
never_bad (flow.Store store.NotFormatted) P alone never = absurd alone
never_bad (flow.Store store.NotEmpty) P alone never = absurd alone
never_bad (flow.Store (store.StoreFull pages)) P alone never = absurd alone
never_bad (flow.Store store.Broken) P alone never = absurd alone
never_bad (flow.Store store.OutOfMemory) P alone never = absurd alone
never_bad flow.NotImported P alone never = absurd alone
never_bad flow.AlreadyImported P alone never = absurd alone
never_bad flow.OldFormat P alone never = absurd alone
never_bad flow.LastChange P alone never = absurd alone
never_bad (flow.TooMany value) P alone never = absurd alone
never_bad flow.OutOfMemory P alone never = tt

module _ (image : Image) (new : DiskView) (holds : HoldsImage image new) (opened : Opened) (fits : Fits opened.store new)
    (fields : AreFieldsOf opened.style opened.outdated opened.changes image.root) (told : TellsStyle opened.style image) where
  -- the fields of a store that was only made tell no style
  kind_made : (style : Option StyleOf) (dated : Bool) → is_blank image.root ≡ true → IsOfKind style dated image.root → style ≡ None
  kind_made None dated blank kind = refl
  kind_made (Some style) false blank kind = absurd (made_apart IMPORTED_FORMAT image.root blank kind)
  kind_made (Some style) true blank kind = absurd (made_apart OLD_FORMAT image.root blank kind)

  made_found : IsBlank image → FindsSound new opened
  made_found made =
      let none = kind_made opened.style opened.outdated made.root fields.kind in
      record {
        state = formatted;
        holds = record { image = image; holds = holds; is = made };
        found = record { changes_are = opened.begun none; style_is = none; old_is = opened.unbegun none; own = refl; fits = fits };
      }

  -- those of an imported one tell one, and that it is not old
  kind_filled : (style : Option StyleOf) (dated : Bool) → is_imported image.root ≡ true → IsOfKind style dated image.root
      → (own : StyleOf) × (style ≡ Some own) × (dated ≡ false)
  kind_filled None dated is kind = absurd (made_apart IMPORTED_FORMAT image.root kind is)
  kind_filled (Some style) false is kind = (style, refl, refl)
  kind_filled (Some style) true is kind = absurd (old_apart image.root is kind)

  import_found : (held : Holding) → IsSoundImport held image → FindsSound new opened
  import_found held is =
      let kind = kind_filled opened.style opened.outdated (format_root HasSoundMaps held image is) fields.kind in
      let read : reading (image.texts STYLE_TEXT) ≡ Ok kind.0 = subst (λ (s : Option StyleOf). TellsStyle s image) kind.1 told in
      let good : reading (image.texts STYLE_TEXT) ≡ Ok held.style = ap (λ (b : List ℕ). reading b) is.style_text ∙ is.style in
      let same : kind.0 ≡ held.style = cc (read, good) in
      record {
        state = imported held;
        holds = record { image = image; holds = holds; is = is };
        found = record {
          changes_are = fields.count (ap (λ (s : Option StyleOf). is_some s) kind.1) ∙ ap (λ (r : Root). r.changes) is.root;
          style_is = kind.1 ∙ ap (λ (s : StyleOf). Some s) same;
          old_is = kind.2;
          own = refl;
          fits = fits;
        };
      }

  image_found : IsSoundImage image → FindsSound new opened
  image_found (inl made) = made_found made
  image_found (inr own) = import_found own.0 own.1

-- a store that was judged on the disk that it was found on
module _ (image : Image) (mid new : DiskView) (found : Resting) (fits : Fits found mid) (holds : HoldsImage image mid)
    (stays : Stays mid new) (is : IsSoundImage image) where
  -- its home pages are those of a sound store
  pub pages_sound : AreSound fits.pages
  pages_sound =
      let same : fits.rests.0 ≡ holds.bytes = same_Some fits.rests.0 holds.bytes (sym fits.rests.1.told ∙ holds.told) in
      let home : Home fits.pages holds.bytes = subst (λ (b : List ℕ). Home fits.pages b) same fits.rests.1.home in
      home_of_sound holds.bytes fits.pages home (record { image = image; has = holds.has; is = is })

  -- and its fields are no follower's
  pub never_own : is_following (opened_root found) ≡ true → ⊥
  never_own own =
      own_apart image.root (subst (λ (r : Root). is_following r ≡ true) (root_found image mid found fits holds) own) (sound_today image is)

  pub opened_sound : (opened : Opened) → ((own : Fits found mid) → FitsPages own.pages opened.store new)
      → AreFieldsOf opened.style opened.outdated opened.changes (opened_root found)
      → ((own : Image) → Fits found mid → HoldsImage own mid → TellsStyle opened.style own)
      → FindsSound new opened
  opened_sound opened fit fields told =
      let own = fit fits in
      image_found image new (holds_stays image mid new stays holds) opened
      (record { pages = fits.pages; rests = own.rests; many = own.many; keeps = own.keeps })
      (subst (λ (r : Root). AreFieldsOf opened.style opened.outdated opened.changes r) (root_found image mid found fits holds) fields)
      (told image fits holds) is

  pub judged_sound : (result : Result (Option Opened) FlowFault) → IfErr result MayFind
      → ((page : ℕ) → IsErrOf result (flow.Store (store.BadStore page)) → ⊥)
      → IfOk result (λ judged. IfSome judged (λ opened. (own : Fits found mid) → FitsPages own.pages opened.store new))
      → IfOk result (λ judged. AreFieldsFor judged (opened_root found))
      → IfOk result (λ judged. IfSome judged (λ opened. (own : Image) → Fits found mid → HoldsImage own mid → TellsStyle opened.style own))
      → OpensSound new result
  judged_sound (Err fault) alone never fit fields told = record {
    answer = never_bad fault (Some fault ≡ None) alone (λ page same. never page (ap (λ (f : FlowFault). Err f) same));
    found = tt;
  }
  judged_sound (Ok None) alone never fit fields told = absurd (never_own fields)
  judged_sound (Ok (Some opened)) alone never fit fields told = record { answer = refl; found = opened_sound opened fit fields told }
