-- What the buckets found is judged.
use Rattle.std.proofs.Common.{◌≡◌, ◌≢◌, ◌⊎◌, inl, inr, ℕ, List, Some, Result, Ok, Err, OnOk, Option, refl, rules, sym, subst, ◌∙◌}
use Rattle.std.specs.Result.{result_err}
use Rattle.std.proofs.lemmas.Result.{IfOk-weaker, on_ok_weaker}
use Rattle.outside.specs.Bytes.{IsTold}
use Rattle.outside.specs.Disk.{Goes, Tells}
use Rattle.page_journal.specs.Home.{HasOpenJournal}
use Rattle.page_journal.specs.declared.fault.StoreFault.TheVariants as store
use Rattle.page_journal.proofs.Moments.{stays_then}
use Rattle.page_journal.specs.Pages.{gate}
use Rattle.page_journal.specs.declared.layout.TheConstants.{OPEN}
use Rattle.bucket_store.specs.Image.{IsSoundAnswer}
use Rattle.bucket_store.specs.Opening.{Fits, FitsPages, OpensStore, opened_root}
use Rattle.page_journal.specs.declared.fault.StoreFault.{StoreFault}
use Rattle.update_flow.specs.BadPage.{BadInside}
use Rattle.update_flow.specs.Judged.{IsReadOf}
use Rattle.update_flow.proofs.Checks.{both_found, opening_bad, read_of, same_home}
use Rattle.update_flow.proofs.Judgements.{fault_at, home_of_sound, refused_at}
use Rattle.bucket_store.specs.declared.resting.Resting.{Resting}
use Rattle.update_flow.specs.AtRest.{IsAt, IsOfEither}
use Rattle.update_flow.specs.Opening.{AreFieldsFor, FoundIn, HoldsState, RootTold}
use Rattle.update_flow.specs.Refusals.{IsNoDiskFault}
use Rattle.update_flow.specs.Stands.{StandsFor}
use Rattle.update_flow.specs.State.{State}
use Rattle.update_flow.specs.Within.{IsSound}
use Rattle.update_flow.specs.declared.fault.FlowFault.{FlowFault}
use Rattle.update_flow.specs.declared.fault.FlowFault.TheVariants as flow
use Rattle.update_flow.specs.declared.opened.Opened.{Opened}
use Rattle.update_flow.specs.OpeningReads.{ReadsStyle, ReadsToOpen}
use Rattle.update_flow.proofs.OpeningReads.{opens_then}
use Rattle.update_flow.proofs.Openings.{bad_formed, bad_none, each_meant, goes_either, opens_as, opens_either, quiet_fault, told_by}
use Rattle.update_flow.proofs.Openings.{sound_answer, sound_store, state_before}
use Rattle.update_flow.proofs.SoundOpened.{judged_sound}
use Rattle.update_flow.proofs.opening.open.Goals as goal

-- what holds anyway holds of an answer
on_ok_always : {T E : Type 0} (result : Result T E) (P : Type 0) → P → OnOk result P
on_ok_always (Ok value) P own = own
on_ok_always (Err fault) P own = tt

pub returns-in-Ok-clause-any : goal.returns-in-Ok-clause-any
unfolding StandsFor
returns-in-Ok-clause-any g c = record {
  alone = search rules;
  no_store = search rules;
  formed = on_ok_always c.judged.result _ (λ bytes told. (c.in-Ok.ensures.answers bytes told).1.formatted);
  fields = let old = g.D.Disk.view c.args.disk.now in
      let mid = g.D.Disk.view c.open.new.disk in
      IfOk-weaker c.judged.result (λ judged. AreFieldsFor judged (opened_root c.in-Ok.found)) (RootTold old.content)
      (λ judged own. told_by c.in-Ok.found old mid (λ bytes told shut.
      c.open.ensures.leaves.looked bytes told (λ (opened : HasOpenJournal bytes). shut opened.is_open)) c.in-Ok.ensures.fits judged own)
      c.judged.ensures.fields;
  untouched = search rules;
  told = λ told no.
      let mid = c.in-Ok.ensures.leaves.told told.0 told.1 refl in
      (mid.0, c.judged.ensures.looks.finds.stays.content ∙ mid.1);
  bad = λ page is bytes told. record {
    formed = (c.in-Ok.ensures.answers bytes told).1.formatted;
    none = λ state stands.
        let mid = g.D.Disk.view c.open.new.disk in
        let holds : HoldsState state mid = record {
          image = stands.0;
          holds = c.in-Ok.ensures.image.found bytes told stands.0 stands.2;
          means = stands.1;
        } in
        bad_none (Option Opened) c.judged.result page is (c.judged.ensures.looks.sound (c.in-Ok.ensures.fits bytes told) state holds);
  };
  same = λ bytes told shut.
      c.judged.ensures.looks.finds.stays.content ∙ (c.open.ensures.leaves.looked bytes told
      (λ (opened : HasOpenJournal bytes). shut opened.is_open)).content;
  looked = λ bytes told shut.
      stays_then (g.D.Disk.view c.args.disk.now) (g.D.Disk.view c.open.new.disk) (g.D.Disk.view c.judged.new.disk)
      (c.open.ensures.leaves.looked bytes told shut) c.judged.ensures.looks.finds.stays;
  cause = search rules;
}

pub returns-in-Err-clause-any : goal.returns-in-Err-clause-any
unfolding StandsFor
returns-in-Err-clause-any g c = record {
  alone = search rules;
  no_store = search rules;
  formed = search rules;
  fields = search rules;
  untouched = search rules;
  told = λ told no.
      c.in-Err.ensures.leaves.told told.0 told.1
      (quiet_fault Resting c.in-Err.fault (subst (λ (f : FlowFault). IsNoDiskFault (Some f)) c.store_fault.ensures no));
  bad = λ page is bytes told. record {
    formed =
        let own : c.store_fault.result ≡ flow.Store (store.BadStore page) = cc (is) in
        bad_formed Resting bytes page c.in-Err.fault (sym c.store_fault.ensures ∙ own) (c.in-Err.ensures.answers bytes told);
    none = λ state stands.
        let sound : IsSound (Some c.store_fault.result) =
        subst (λ (f : FlowFault). IsSound (Some f)) (sym c.store_fault.ensures)
        (sound_store Resting c.in-Err.fault (c.in-Err.ensures.image.sound bytes told stands.0 stands.2)) in
        bad_none (Option Opened) (Err c.store_fault.result) page is sound;
  };
  same = λ bytes told shut. (c.open.ensures.leaves.looked bytes told (λ (opened : HasOpenJournal bytes). shut opened.is_open)).content;
  looked = λ bytes told shut. c.open.ensures.leaves.looked bytes told shut;
  cause = search rules;
}

pub returns-in-Ok-clause-reads : goal.returns-in-Ok-clause-reads
unfolding StandsFor
returns-in-Ok-clause-reads g c = λ bytes state told stands.
    let mid = g.D.Disk.view c.open.new.disk in
    let holds : HoldsState state mid = record {
      image = stands.0;
      holds = c.in-Ok.ensures.image.found bytes told stands.0 stands.2;
      means =
          stands.1;
    } in
    opens_as state mid (g.D.Disk.view c.judged.new.disk) (result_err c.judged.result) holds c.judged.ensures.looks.finds.stays
    (c.judged.ensures.looks.sound (c.in-Ok.ensures.fits bytes told) state holds)

pub returns-in-Ok-clause-opens : goal.returns-in-Ok-clause-opens
unfolding StandsFor
returns-in-Ok-clause-opens g c = λ one other either.
    let old = g.D.Disk.view c.args.disk.now in
    let mid = g.D.Disk.view c.open.new.disk in
    let new = g.D.Disk.view c.judged.new.disk in
    let bytes = either.told.0 in
    let told = either.told.1 in
    let goes : Goes (IsOfEither one other) old.crashes mid.crashes =
    goes_either one other old.crashes mid.crashes either.only
    (c.open.ensures.image.any_moment bytes told (each_meant one other old.crashes either.only)) in
    let here : (state : State) → StandsFor bytes state → HoldsState state mid = λ state stands.
    record { image = stands.0; holds = c.in-Ok.ensures.image.found bytes told stands.0 stands.2; means = stands.1 } in
    let holds : HoldsState one mid ⊎ HoldsState other mid = elim (either.only bytes (g.met.D.Disk.reads_stay c.args.disk.now bytes told)) [
      | inl stands ↦ inl (here one stands)
      | inr stands ↦ inr (here other stands)
    ] in
    opens_either one other old mid new (result_err c.judged.result) holds c.judged.ensures.looks.finds.stays
    (c.judged.ensures.looks.sound (c.in-Ok.ensures.fits bytes told)) goes

pub returns-in-Ok-clause-found : goal.returns-in-Ok-clause-found
returns-in-Ok-clause-found g c =
    let mid = g.D.Disk.view c.open.new.disk in
    let new = g.D.Disk.view c.judged.new.disk in
    IfOk-weaker c.judged.result
    (λ judged. Fits c.in-Ok.found mid → (state : State) → HoldsState state mid → FoundIn state new judged)
    (λ judged. IsTold (g.D.Disk.view c.args.disk.now).content → (state : State) → IsAt state new → FoundIn state new judged)
    (λ opened own told state at.
    let fits = c.in-Ok.ensures.fits told.0 told.1 in
    own fits state (state_before state mid new c.in-Ok.found fits c.judged.ensures.looks.finds.stays at))
    c.judged.ensures.found

pub returns-in-Err-clause-reads : goal.returns-in-Err-clause-reads
unfolding StandsFor
returns-in-Err-clause-reads g c = λ bytes state told stands.
    let sound : IsSound (Some c.store_fault.result) =
    subst (λ (f : FlowFault). IsSound (Some f)) (sym c.store_fault.ensures)
    (sound_store Resting c.in-Err.fault (c.in-Err.ensures.image.sound bytes told stands.0 stands.2)) in
    record { answer = sound_answer (Some c.store_fault.result) sound; found = λ none. absurd (cc) }

pub returns-in-Err-clause-opens : goal.returns-in-Err-clause-opens
unfolding StandsFor
returns-in-Err-clause-opens g c = λ one other either.
    let old = g.D.Disk.view c.args.disk.now in
    let new = g.D.Disk.view c.open.new.disk in
    let bytes = either.told.0 in
    let told = either.told.1 in
    let meant : IsSoundAnswer {T = Resting} (Err c.in-Err.fault) =
    elim (either.only bytes (g.met.D.Disk.reads_stay c.args.disk.now bytes told)) [
      | inl stands ↦ c.in-Err.ensures.image.sound bytes told stands.0 stands.2
      | inr stands ↦ c.in-Err.ensures.image.sound bytes told stands.0 stands.2
    ] in
    let sound : IsSound (Some c.store_fault.result) =
    subst (λ (f : FlowFault). IsSound (Some f)) (sym c.store_fault.ensures) (sound_store Resting c.in-Err.fault meant) in
    record {
      answer = sound_answer (Some c.store_fault.result) sound;
      found = λ none. absurd {A = IsAt one new ⊎ IsAt other new} (cc);
      moments = goes_either one other old.crashes new.crashes either.only
          (c.open.ensures.image.any_moment bytes told (each_meant one other old.crashes either.only));
    }

pub returns-in-Ok-clause-once : goal.returns-in-Ok-clause-once
unfolding StandsFor
returns-in-Ok-clause-once g c =
    let old = g.D.Disk.view c.args.disk.now in
    let mid = g.D.Disk.view c.open.new.disk in
    let new = g.D.Disk.view c.judged.new.disk in
    on_ok_weaker {P = (state : State) → Fits c.in-Ok.found mid → HoldsState state mid → ReadsStyle mid new}
    {Q = (bytes : List ℕ) (state : State) → Tells old bytes → StandsFor bytes state → gate bytes ≢ OPEN → ReadsToOpen bytes old new}
    c.judged.result
    (λ reads bytes state told stands shut.
    let holds : HoldsState state mid = record {
      image = stands.0;
      holds = c.in-Ok.ensures.image.found bytes told stands.0 stands.2;
      means =
          stands.1;
    } in
    let fits = c.in-Ok.ensures.fits bytes told in
    opens_then bytes old mid new c.in-Ok.found told
    (c.open.ensures.leaves.looked bytes told (λ (opened : HasOpenJournal bytes). shut opened.is_open)) fits
    (c.in-Ok.ensures.reads bytes told shut) (reads state fits holds))
    c.judged.ensures.looks.finds.once

-- what was read is so there, or refused at the page that is blamed first
pub returns-in-Ok-clause-fits : goal.returns-in-Ok-clause-fits
returns-in-Ok-clause-fits g c =
    let old = g.D.Disk.view c.args.disk.now in
    let mid = g.D.Disk.view c.open.new.disk in
    let new = g.D.Disk.view c.judged.new.disk in
    both_found c.judged.result (λ opened. (fits : Fits c.in-Ok.found mid) → FitsPages fits.pages opened.store new)
    (opened_root c.in-Ok.found) (λ opened. (bytes : List ℕ) → Tells old bytes → IsReadOf bytes opened new)
    (λ opened fits fields bytes told.
    let before = c.in-Ok.ensures.fits bytes told in
    let home = c.in-Ok.ensures.home bytes told in
    read_of bytes c.in-Ok.found opened mid new before (fits before) home.0 home.1 home.2 (c.in-Ok.ensures.count bytes told) fields)
    c.judged.ensures.fits c.judged.ensures.fields

pub returns-in-Ok-clause-bad : goal.returns-in-Ok-clause-bad
returns-in-Ok-clause-bad g c = λ page is bytes told.
    let mid = g.D.Disk.view c.open.new.disk in
    let before = c.in-Ok.ensures.fits bytes told in
    let home = c.in-Ok.ensures.home bytes told in
    let here = same_home bytes home.0 before.pages mid home.1 home.2 before.rests in
    let bad = c.judged.ensures.bad page is before in (
      (λ sound. bad.0 (home_of_sound bytes before.pages here sound)),
      BadInside before.pages c.in-Ok.found.kept here before.keeps bad.1,
    )

pub returns-in-Err-clause-bad : goal.returns-in-Err-clause-bad
returns-in-Err-clause-bad g c = λ page is bytes told.
    let same = refused_at c.in-Err.fault page (sym c.store_fault.ensures ∙ fault_at (Option Opened) c.store_fault.result page is) in (
      (λ sound. subst (λ (f : StoreFault). IsSoundAnswer {T = Resting} (Err f)) same
          (c.in-Err.ensures.image.sound bytes told sound.image sound.has)),
      opening_bad bytes page (subst (λ (f : StoreFault). OpensStore {T = Resting} bytes (Err f)) same (c.in-Err.ensures.answers bytes told)),
    )

-- a sound store
pub returns-in-Ok-clause-sound : goal.returns-in-Ok-clause-sound
returns-in-Ok-clause-sound g c = λ bytes told sound.
    let mid = g.D.Disk.view c.open.new.disk in
    let new = g.D.Disk.view c.judged.new.disk in
    let before = c.in-Ok.ensures.fits bytes told in
    let home = c.in-Ok.ensures.home bytes told in
    let here = same_home bytes home.0 before.pages mid home.1 home.2 before.rests in
    judged_sound sound.image mid new c.in-Ok.found before (c.in-Ok.ensures.image.found bytes told sound.image sound.has)
    c.judged.ensures.looks.finds.stays sound.is c.judged.result c.judged.ensures.looks.finds.alone
    (λ page is. (c.judged.ensures.bad page is before).0 (home_of_sound bytes before.pages here sound))
    c.judged.ensures.fits c.judged.ensures.fields c.judged.ensures.style

pub returns-in-Err-clause-sound : goal.returns-in-Err-clause-sound
returns-in-Err-clause-sound g c = λ bytes told sound. record {
  answer = sound_answer (Some c.store_fault.result) (subst (λ (f : FlowFault). IsSound (Some f)) (sym c.store_fault.ensures)
      (sound_store Resting c.in-Err.fault (c.in-Err.ensures.image.sound bytes told sound.image sound.has)));
  found = tt;
}
