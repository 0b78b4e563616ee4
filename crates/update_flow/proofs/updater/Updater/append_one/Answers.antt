-- The store that was open is the one on the disk, one change further.
use Rattle.std.proofs.Common.{◌∙◌, ◌+◌, ℕ, refl, sym, ap, subst}
use Rattle.std.proofs.lemmas.Option.{same_Some}
use Rattle.std.specs.Prelude.{Option, is_some}
use Rattle.style_read.specs.Style.{StyleOf}
use Rattle.update_step.specs.Touch.{MayTouch}
use Rattle.update_flow.specs.Updater.{handle_of}
use Rattle.update_flow.proofs.Changed.{append_taken}
use Rattle.update_flow.proofs.Handles.{kept_fits}
use Rattle.update_flow.proofs.Openings.{state_here}
use Rattle.update_flow.proofs.SoundCarried.{append_last, append_sound, append_unasked}
use Rattle.update_flow.proofs.updater.Updater.append_one.Goals as goal

pub returns-in-Ok-clause-takes : goal.returns-in-Ok-clause-takes
returns-in-Ok-clause-takes g c =
    append_taken (handle_of c.args.self.now) _ c.append_on-appended.new.kept refl (λ fits. fits)
    (ap (λ (o : Option StyleOf). is_some o) c.in-Some.is)
    (sym c.if-old.ensures.is) refl refl refl refl _
    (λ none. refl) (λ some. absurd (some refl)) c.args.bounds.now c.args.change
    (λ held opened. c.in-Ok.ensures.turns held
    (kept_fits c.args.self.now.store c.in-Some-take.store _ (sym c.take.ensures.value ∙ c.in-Some-take.is) opened.fits)
    (state_here _ _ opened.at_rest) (same_Some held.style c.in-Some.style (sym opened.shows.style_is ∙ c.in-Some.is))
    (ap (λ (n : ℕ). n + 1) (sym opened.shows.changes_are)))

pub returns-clause-takes : goal.returns-clause-takes
returns-clause-takes g c =
    append_taken (handle_of c.args.self.now) _ c.append_on-appended.new.kept refl (λ fits. fits)
    (ap (λ (o : Option StyleOf). is_some o) c.in-Some.is)
    (sym c.if-old.ensures.is) refl refl refl refl _
    (λ none. absurd (cc (none))) (λ some. refl) c.args.bounds.now c.args.change
    (λ held opened. c.in-Err.ensures.turns held
    (kept_fits c.args.self.now.store c.in-Some-take.store _ (sym c.take.ensures.value ∙ c.in-Some-take.is) opened.fits)
    (state_here _ _ opened.at_rest) (same_Some held.style c.in-Some.style (sym opened.shows.style_is ∙ c.in-Some.is))
    (ap (λ (n : ℕ). n + 1) (sym opened.shows.changes_are)))

-- a sound store
pub returns-in_default-clause-sound : goal.returns-in_default-clause-sound
returns-in_default-clause-sound g c = λ state opened.
    append_unasked (handle_of c.args.self.now) c.args.bounds.now c.args.change state
    (ap (λ (o : Option StyleOf). is_some o) c.in_default.is) opened

pub returns-then-self-eq-LAST_CHANGE-clause-sound : goal.returns-then-self-eq-LAST_CHANGE-clause-sound
returns-then-self-eq-LAST_CHANGE-clause-sound g c state opened =
    append_last (handle_of c.args.self.now) c.args.bounds.now c.args.change state
    (ap (λ (o : Option StyleOf). is_some o) c.in-Some.is) c.if-self-eq-LAST_CHANGE.true opened

pub returns-in-Ok-clause-sound : goal.returns-in-Ok-clause-sound
returns-in-Ok-clause-sound g c =
    append_sound (handle_of c.args.self.now) _ c.append_on-appended.new.kept refl (λ fits. fits) _
    (ap (λ (o : Option StyleOf). is_some o) c.in-Some.is) refl refl refl
    (λ none. refl) (λ some. absurd (some refl)) c.args.bounds.now c.args.change
    (λ held opened. c.in-Ok.ensures.sound held
    (kept_fits c.args.self.now.store c.in-Some-take.store _ (sym c.take.ensures.value ∙ c.in-Some-take.is) opened.fits)
    opened.holds (same_Some held.style c.in-Some.style (sym opened.shows.style_is ∙ c.in-Some.is))
    (ap (λ (n : ℕ). n + 1) (sym opened.shows.changes_are)))

pub returns-clause-sound : goal.returns-clause-sound
returns-clause-sound g c =
    append_sound (handle_of c.args.self.now) _ c.append_on-appended.new.kept refl (λ fits. fits) _
    (ap (λ (o : Option StyleOf). is_some o) c.in-Some.is) refl refl refl
    (λ none. absurd (cc (none))) (λ some. refl) c.args.bounds.now c.args.change
    (λ held opened. c.in-Err.ensures.sound held
    (kept_fits c.args.self.now.store c.in-Some-take.store _ (sym c.take.ensures.value ∙ c.in-Some-take.is) opened.fits)
    opened.holds (same_Some held.style c.in-Some.style (sym opened.shows.style_is ∙ c.in-Some.is))
    (ap (λ (n : ℕ). n + 1) (sym opened.shows.changes_are)))

pub returns-in-Ok-clause-delta : goal.returns-in-Ok-clause-delta
returns-in-Ok-clause-delta g c held opened = record {
  version = ap (λ (n : ℕ). n + 1) opened.shows.changes_are;
  changes = c.in-Ok.ensures.changes held (kept_fits c.args.self.now.store c.in-Some-take.store _
      (sym c.take.ensures.value ∙ c.in-Some-take.is) opened.fits)
      (state_here _ _ opened.at_rest) (same_Some held.style c.in-Some.style (sym opened.shows.style_is ∙ c.in-Some.is));
}

pub returns-in-Ok-clause-reads : goal.returns-in-Ok-clause-reads
returns-in-Ok-clause-reads g c held opened may touches =
    let same = same_Some held.style c.in-Some.style (sym opened.shows.style_is ∙ c.in-Some.is) in
    c.in-Ok.ensures.reads held (kept_fits c.args.self.now.store c.in-Some-take.store _
    (sym c.take.ensures.value ∙ c.in-Some-take.is) opened.fits)
    (state_here _ _ opened.at_rest) same may (subst (λ (style : StyleOf). MayTouch style held.objects c.args.change may) same touches)
