-- The store that was open is the one on the disk.
use Rattle.std.proofs.Common.{◌∙◌, refl, sym, ap}
use Rattle.std.proofs.lemmas.Option.{same_Some}
use Rattle.std.specs.Prelude.{Option, is_some}
use Rattle.std.specs.Result.{result_err}
use Rattle.style_read.specs.Style.{StyleOf}
use Rattle.update_flow.specs.Updater.{handle_of}
use Rattle.update_flow.proofs.Carrying.{ok_then}
use Rattle.update_flow.proofs.Handles.{kept_fits, look_taken}
use Rattle.update_flow.proofs.Openings.{state_here}
use Rattle.update_flow.proofs.SoundCarried.{look_sound}
use Rattle.update_flow.proofs.updater.Updater.load_sorted.Goals as goal

pub returns-clause-looks : goal.returns-clause-looks
returns-clause-looks g c =
    look_taken (handle_of c.args.self.now) _ c.sorted_on.new.kept refl (λ fits. fits)
    (record { changes_same = refl; imported_same = refl; old_same = refl; style_same = refl; follower_same = refl })
    (ap (λ (o : Option StyleOf). is_some o) c.in-Some.is) (sym c.if-old.ensures.is) refl (result_err c.sorted_on.result)
    (λ held opened.
    c.sorted_on.ensures.looks held (kept_fits c.args.self.now.store c.in-Some-take.store _
    (sym c.take.ensures.value ∙ c.in-Some-take.is) opened.fits)
    (state_here _ _ opened.at_rest) (same_Some held.style c.in-Some.style (sym opened.shows.style_is ∙ c.in-Some.is)))

pub returns-clause-tables : goal.returns-clause-tables
returns-clause-tables g c =
    ok_then c.sorted_on.result _ _
    (λ found told held opened.
    told held (kept_fits c.args.self.now.store c.in-Some-take.store _ (sym c.take.ensures.value ∙ c.in-Some-take.is) opened.fits)
    (state_here _ _ opened.at_rest) (same_Some held.style c.in-Some.style (sym opened.shows.style_is ∙ c.in-Some.is)))
    c.sorted_on.ensures.tables

-- a sound store
pub returns-clause-sound : goal.returns-clause-sound
returns-clause-sound g c =
    look_sound (handle_of c.args.self.now) _ c.sorted_on.new.kept refl (λ fits. fits) (result_err c.sorted_on.result)
    (record { changes_same = refl; imported_same = refl; old_same = refl; style_same = refl; follower_same = refl })
    (ap (λ (o : Option StyleOf). is_some o) c.in-Some.is)
    (λ held opened. c.sorted_on.ensures.sound held (kept_fits c.args.self.now.store c.in-Some-take.store _
    (sym c.take.ensures.value ∙ c.in-Some-take.is) opened.fits)
    opened.holds (same_Some held.style c.in-Some.style (sym opened.shows.style_is ∙ c.in-Some.is)))
