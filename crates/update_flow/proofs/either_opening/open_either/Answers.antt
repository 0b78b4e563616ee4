-- What the buckets found is judged.
use Rattle.std.proofs.Common.{◌≡◌, ◌⊎◌, inl, inr, Some, Result, Ok, Err, OnOk, refl, rules, sym, subst, ◌∙◌}
use Rattle.std.specs.Result.{result_err}
use Rattle.std.proofs.lemmas.Result.{IfOk-weaker}
use Rattle.outside.specs.Bytes.{IsTold}
use Rattle.outside.specs.Disk.{Goes}
use Rattle.page_journal.specs.Home.{HasOpenJournal}
use Rattle.page_journal.specs.declared.fault.StoreFault.TheVariants as store
use Rattle.page_journal.proofs.Moments.{stays_then}
use Rattle.bucket_store.specs.Image.{IsSoundAnswer}
use Rattle.bucket_store.specs.Opening.{Fits, opened_root}
use Rattle.bucket_store.specs.declared.resting.Resting.{Resting}
use Rattle.update_flow.specs.AtRest.{IsAt, IsOfEither}
use Rattle.update_flow.specs.Opening.{HoldsState}
use Rattle.update_flow.specs.Either.{AreFieldsForEither, EitherTold, FoundEither}
use Rattle.update_flow.specs.declared.either.Either.{Either}
use Rattle.update_flow.proofs.EitherOpened.{either_told}
use Rattle.update_flow.specs.Refusals.{IsNoDiskFault}
use Rattle.update_flow.specs.Stands.{StandsFor}
use Rattle.update_flow.specs.State.{State}
use Rattle.update_flow.specs.Within.{IsSound}
use Rattle.update_flow.specs.declared.fault.FlowFault.{FlowFault}
use Rattle.update_flow.specs.declared.fault.FlowFault.TheVariants as flow
use Rattle.update_flow.proofs.Openings.{bad_formed, bad_none, each_meant, goes_either, opens_as, opens_either, quiet_fault}
use Rattle.update_flow.proofs.Openings.{sound_answer, sound_store, state_before}
use Rattle.update_flow.proofs.either_opening.open_either.Goals as goal

-- what holds anyway holds of an answer
on_ok_always : {T E : Type 0} (result : Result T E) (P : Type 0) → P → OnOk result P
on_ok_always (Ok value) P own = own
on_ok_always (Err fault) P own = tt

pub returns-in-Ok-clause-any : goal.returns-in-Ok-clause-any
unfolding StandsFor
returns-in-Ok-clause-any g c = record {
  alone = search rules;
  no_store = search rules;
  formed = on_ok_always c.sorted.result _ (λ bytes told. (c.in-Ok.ensures.answers bytes told).1.formatted);
  fields = let old = g.D.Disk.view c.args.disk.now in
      let mid = g.D.Disk.view c.open.new.disk in
      IfOk-weaker c.sorted.result (λ sorted. AreFieldsForEither sorted (opened_root c.in-Ok.found)) (EitherTold old.content)
      (λ sorted own. either_told c.in-Ok.found old mid (λ bytes told shut.
      c.open.ensures.leaves.looked bytes told (λ (opened : HasOpenJournal bytes). shut opened.is_open)) c.in-Ok.ensures.fits sorted own)
      c.sorted.ensures.fields;
  untouched = search rules;
  told = λ told no.
      let mid = c.in-Ok.ensures.leaves.told told.0 told.1 refl in
      (mid.0, c.sorted.ensures.looks.finds.stays.content ∙ mid.1);
  bad = λ page is bytes told. record {
    formed = (c.in-Ok.ensures.answers bytes told).1.formatted;
    none = λ state stands.
        let mid = g.D.Disk.view c.open.new.disk in
        let holds : HoldsState state mid = record {
          image = stands.0;
          holds = c.in-Ok.ensures.image.found bytes told stands.0 stands.2;
          means = stands.1;
        } in
        bad_none Either c.sorted.result page is (c.sorted.ensures.looks.sound (c.in-Ok.ensures.fits bytes told) state holds);
  };
  same = λ bytes told shut.
      c.sorted.ensures.looks.finds.stays.content ∙ (c.open.ensures.leaves.looked bytes told
      (λ (opened : HasOpenJournal bytes). shut opened.is_open)).content;
  looked = λ bytes told shut.
      stays_then (g.D.Disk.view c.args.disk.now) (g.D.Disk.view c.open.new.disk) (g.D.Disk.view c.sorted.new.disk)
      (c.open.ensures.leaves.looked bytes told shut) c.sorted.ensures.looks.finds.stays;
  cause = search rules;
}

pub returns-in-Err-clause-any : goal.returns-in-Err-clause-any
unfolding StandsFor
returns-in-Err-clause-any g c = record {
  alone = search rules;
  no_store = search rules;
  formed = search rules;
  fields = search rules;
  untouched = search rules;
  told = λ told no.
      c.in-Err.ensures.leaves.told told.0 told.1
      (quiet_fault Resting c.in-Err.fault (subst (λ (f : FlowFault). IsNoDiskFault (Some f)) c.store_fault.ensures no));
  bad = λ page is bytes told. record {
    formed =
        let own : c.store_fault.result ≡ flow.Store (store.BadStore page) = cc (is) in
        bad_formed Resting bytes page c.in-Err.fault (sym c.store_fault.ensures ∙ own) (c.in-Err.ensures.answers bytes told);
    none = λ state stands.
        let sound : IsSound (Some c.store_fault.result) =
        subst (λ (f : FlowFault). IsSound (Some f)) (sym c.store_fault.ensures)
        (sound_store Resting c.in-Err.fault (c.in-Err.ensures.image.sound bytes told stands.0 stands.2)) in
        bad_none Either (Err c.store_fault.result) page is sound;
  };
  same = λ bytes told shut. (c.open.ensures.leaves.looked bytes told (λ (opened : HasOpenJournal bytes). shut opened.is_open)).content;
  looked = λ bytes told shut. c.open.ensures.leaves.looked bytes told shut;
  cause = search rules;
}

pub returns-in-Ok-clause-reads : goal.returns-in-Ok-clause-reads
unfolding StandsFor
returns-in-Ok-clause-reads g c = λ bytes state told stands.
    let mid = g.D.Disk.view c.open.new.disk in
    let holds : HoldsState state mid = record {
      image = stands.0;
      holds = c.in-Ok.ensures.image.found bytes told stands.0 stands.2;
      means =
          stands.1;
    } in
    opens_as state mid (g.D.Disk.view c.sorted.new.disk) (result_err c.sorted.result) holds c.sorted.ensures.looks.finds.stays
    (c.sorted.ensures.looks.sound (c.in-Ok.ensures.fits bytes told) state holds)

pub returns-in-Ok-clause-opens : goal.returns-in-Ok-clause-opens
unfolding StandsFor
returns-in-Ok-clause-opens g c = λ one other either.
    let old = g.D.Disk.view c.args.disk.now in
    let mid = g.D.Disk.view c.open.new.disk in
    let new = g.D.Disk.view c.sorted.new.disk in
    let bytes = either.told.0 in
    let told = either.told.1 in
    let goes : Goes (IsOfEither one other) old.crashes mid.crashes =
    goes_either one other old.crashes mid.crashes either.only
    (c.open.ensures.image.any_moment bytes told (each_meant one other old.crashes either.only)) in
    let here : (state : State) → StandsFor bytes state → HoldsState state mid = λ state stands.
    record { image = stands.0; holds = c.in-Ok.ensures.image.found bytes told stands.0 stands.2; means = stands.1 } in
    let holds : HoldsState one mid ⊎ HoldsState other mid = elim (either.only bytes (g.met.D.Disk.reads_stay c.args.disk.now bytes told)) [
      | inl stands ↦ inl (here one stands)
      | inr stands ↦ inr (here other stands)
    ] in
    opens_either one other old mid new (result_err c.sorted.result) holds c.sorted.ensures.looks.finds.stays
    (c.sorted.ensures.looks.sound (c.in-Ok.ensures.fits bytes told)) goes

pub returns-in-Ok-clause-found : goal.returns-in-Ok-clause-found
returns-in-Ok-clause-found g c =
    let mid = g.D.Disk.view c.open.new.disk in
    let new = g.D.Disk.view c.sorted.new.disk in
    IfOk-weaker c.sorted.result
    (λ sorted. Fits c.in-Ok.found mid → (state : State) → HoldsState state mid → FoundEither state new sorted)
    (λ sorted. IsTold (g.D.Disk.view c.args.disk.now).content → (state : State) → IsAt state new → FoundEither state new sorted)
    (λ opened own told state at.
    let fits = c.in-Ok.ensures.fits told.0 told.1 in
    own fits state (state_before state mid new c.in-Ok.found fits c.sorted.ensures.looks.finds.stays at))
    c.sorted.ensures.found

pub returns-in-Err-clause-reads : goal.returns-in-Err-clause-reads
unfolding StandsFor
returns-in-Err-clause-reads g c = λ bytes state told stands.
    let sound : IsSound (Some c.store_fault.result) =
    subst (λ (f : FlowFault). IsSound (Some f)) (sym c.store_fault.ensures)
    (sound_store Resting c.in-Err.fault (c.in-Err.ensures.image.sound bytes told stands.0 stands.2)) in
    record { answer = sound_answer (Some c.store_fault.result) sound; found = λ none. absurd (cc) }

pub returns-in-Err-clause-opens : goal.returns-in-Err-clause-opens
unfolding StandsFor
returns-in-Err-clause-opens g c = λ one other either.
    let old = g.D.Disk.view c.args.disk.now in
    let new = g.D.Disk.view c.open.new.disk in
    let bytes = either.told.0 in
    let told = either.told.1 in
    let meant : IsSoundAnswer {T = Resting} (Err c.in-Err.fault) =
    elim (either.only bytes (g.met.D.Disk.reads_stay c.args.disk.now bytes told)) [
      | inl stands ↦ c.in-Err.ensures.image.sound bytes told stands.0 stands.2
      | inr stands ↦ c.in-Err.ensures.image.sound bytes told stands.0 stands.2
    ] in
    let sound : IsSound (Some c.store_fault.result) =
    subst (λ (f : FlowFault). IsSound (Some f)) (sym c.store_fault.ensures) (sound_store Resting c.in-Err.fault meant) in
    record {
      answer = sound_answer (Some c.store_fault.result) sound;
      found = λ none. absurd {A = IsAt one new ⊎ IsAt other new} (cc);
      moments = goes_either one other old.crashes new.crashes either.only
          (c.open.ensures.image.any_moment bytes told (each_meant one other old.crashes either.only));
    }

-- a sound store
pub returns-in-Ok-clause-sound : goal.returns-in-Ok-clause-sound
returns-in-Ok-clause-sound g c = λ bytes told sound.
    c.sorted.ensures.judged sound.image (c.in-Ok.ensures.fits bytes told) (c.in-Ok.ensures.image.found bytes told sound.image sound.has) sound.is

pub returns-in-Err-clause-sound : goal.returns-in-Err-clause-sound
returns-in-Err-clause-sound g c = λ bytes told sound. record {
  answer = sound_answer (Some c.store_fault.result) (subst (λ (f : FlowFault). IsSound (Some f)) (sym c.store_fault.ensures)
      (sound_store Resting c.in-Err.fault (c.in-Err.ensures.image.sound bytes told sound.image sound.has)));
  found = tt;
}
