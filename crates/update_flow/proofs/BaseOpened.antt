-- A sound store is opened to follow another one.
use Rattle.std.proofs.Common.{◌≡◌, inl, inr, true, Option, Some, None, Result, Ok, Err, refl, sym, subst, ap, ◌∙◌}
use Rattle.std.specs.Prelude.{IfOk}
use Rattle.std.specs.Result.{result_err}
use Rattle.outside.specs.Disk.{DiskView, Stays}
use Rattle.chain_store.specs.declared.root.Root.{Root}
use Rattle.bucket_store.specs.Image.{HoldsImage, Image}
use Rattle.bucket_store.specs.Opening.{Fits, opened_root}
use Rattle.bucket_store.specs.declared.resting.Resting.{Resting}
use Rattle.bucket_store.proofs.Reopened.{root_found}
use Rattle.update_flow.specs.Follower.{FoundBaseIn, OpensSoundBase}
use Rattle.update_flow.specs.Judged.{IsSoundImage}
use Rattle.update_flow.specs.Opening.{HoldsState}
use Rattle.update_flow.specs.Roots.{is_imported}
use Rattle.update_flow.specs.Sound.{HasSoundMaps, IsSoundImport}
use Rattle.update_flow.specs.Stands.{IsBlank}
use Rattle.update_flow.specs.State.{Holding, State, formatted}
use Rattle.update_flow.specs.Within.{IsSound}
use Rattle.update_flow.specs.declared.base.Base.{Base}
use Rattle.update_flow.specs.declared.fault.FlowFault.{FlowFault}
use Rattle.update_flow.proofs.Openings.{at_state, format_root, sound_answer, state_stays}

module _ (image : Image) (mid new : DiskView) (found : Resting) (fits : Fits found mid) (holds : HoldsImage image mid)
    (stays : Stays mid new) where
  made_holds : IsBlank image → HoldsState formatted mid
  made_holds made = record { image = image; holds = holds; means = made }

  -- one that was only made
  made_opens : IsBlank image → (result : Result (Option Base) FlowFault)
      → ((state : State) → HoldsState state mid → IsSound (result_err result))
      → IfOk result (λ based. Fits found mid → (state : State) → HoldsState state mid → FoundBaseIn state new based)
      → OpensSoundBase new result
  made_opens made (Err fault) sound own = record {
    answer = sound_answer (Some fault) (sound formatted (made_holds made));
    found = tt;
  }
  made_opens made (Ok None) sound own = absurd (cc ((own fits formatted (made_holds made)).begun))
  made_opens made (Ok (Some base)) sound own = record {
    answer = refl;
    found = (at_state formatted new (state_stays formatted mid new stays (made_holds made)), own fits formatted (made_holds made));
  }

  none_opens : OpensSoundBase new (Ok None)
  none_opens = record { answer = refl; found = tt }

  -- and an imported one
  filled_opens : (held : Holding) → IsSoundImport held image → (result : Result (Option Base) FlowFault)
      → (is_imported (opened_root found) ≡ true → result ≡ Ok None)
      → OpensSoundBase new result
  filled_opens held is result taken =
      let begun : is_imported (opened_root found) ≡ true =
      ap (λ (r : Root). is_imported r) (root_found image mid found fits holds) ∙ format_root HasSoundMaps held image is in
      subst (λ (r : Result (Option Base) FlowFault). OpensSoundBase new r) (sym (taken begun)) none_opens

  pub based_sound : IsSoundImage image → (result : Result (Option Base) FlowFault)
      → ((state : State) → HoldsState state mid → IsSound (result_err result))
      → IfOk result (λ based. Fits found mid → (state : State) → HoldsState state mid → FoundBaseIn state new based)
      → (is_imported (opened_root found) ≡ true → result ≡ Ok None)
      → OpensSoundBase new result
  based_sound (inl made) result sound own taken = made_opens made result sound own
  based_sound (inr held) result sound own taken = filled_opens held.0 held.1 result taken
