-- The store that was open is the one on the disk.
use Rattle.std.proofs.Common.{◌∙◌, refl, sym}
use Rattle.std.specs.Result.{result_err}
use Rattle.update_flow.specs.Updater.{handle_of}
use Rattle.update_flow.proofs.Carrying.{ok_then}
use Rattle.update_flow.proofs.Handles.{kept_fits, look_taken}
use Rattle.update_flow.proofs.Openings.{state_here}
use Rattle.update_flow.proofs.SoundCarried.{look_sound, look_unbegun}
use Rattle.update_flow.proofs.updater.Updater.due.Goals as goal

pub returns-clause-looks : goal.returns-clause-looks
returns-clause-looks g c =
    look_taken (handle_of c.args.self.now) _ c.due_on.new.kept refl (λ fits. fits)
    (record { changes_same = refl; imported_same = refl; old_same = refl; style_same = refl; follower_same = refl }) (sym (c.if-not-imported.ensures.is))
    (sym c.if-old.ensures.is) refl (result_err c.due_on.result)
    (λ held opened. c.due_on.ensures.looks held
    (kept_fits c.args.self.now.store c.in-Some.store _ (sym c.take.ensures.value ∙ c.in-Some.is) opened.fits)
    (state_here _ _ opened.at_rest))

pub returns-clause-due : goal.returns-clause-due
returns-clause-due g c =
    ok_then c.due_on.result _ _
    (λ found due held opened. due held (kept_fits c.args.self.now.store c.in-Some.store _
    (sym c.take.ensures.value ∙ c.in-Some.is) opened.fits)
    (state_here _ _ opened.at_rest))
    c.due_on.ensures.due

-- a sound store
pub returns-clause-sound : goal.returns-clause-sound
returns-clause-sound g c =
    look_sound (handle_of c.args.self.now) _ c.due_on.new.kept refl (λ fits. fits) (result_err c.due_on.result)
    (record { changes_same = refl; imported_same = refl; old_same = refl; style_same = refl; follower_same = refl }) (sym (c.if-not-imported.ensures.is))
    (λ held opened. c.due_on.ensures.sound held
    (kept_fits c.args.self.now.store c.in-Some.store _ (sym c.take.ensures.value ∙ c.in-Some.is) opened.fits) opened.holds)

pub returns-then-not-imported-clause-sound : goal.returns-then-not-imported-clause-sound
returns-then-not-imported-clause-sound g c = λ state opened.
    look_unbegun (handle_of c.args.self.now) state (sym c.imported.ensures.is ∙ c.if-not-imported.true) opened
