-- The store that was open is the one on the disk.
use Rattle.std.proofs.Common.{◌∙◌, refl, sym}
use Rattle.std.specs.Result.{result_err}
use Rattle.update_flow.specs.Updater.{handle_of}
use Rattle.update_flow.proofs.Handles.{clear_taken, kept_fits}
use Rattle.update_flow.proofs.Openings.{state_here}
use Rattle.update_flow.proofs.SoundCarried.{clear_sound, clear_unbegun}
use Rattle.update_flow.proofs.updater.Updater.clear_due.Goals as goal

pub returns-clause-takes : goal.returns-clause-takes
returns-clause-takes g c =
    clear_taken (handle_of c.args.self.now) _ c.clear_on.new.kept refl (λ fits. fits)
    (record { changes_same = refl; imported_same = refl; old_same = refl; style_same = refl; follower_same = refl }) (sym (c.if-not-imported.ensures.is))
    (sym c.if-old.ensures.is) refl (result_err c.clear_on.result)
    (λ held opened. c.clear_on.ensures.turns held
    (kept_fits c.args.self.now.store c.in-Some.store _ (sym c.take.ensures.value ∙ c.in-Some.is) opened.fits)
    (state_here _ _ opened.at_rest))

-- a sound store
pub returns-clause-sound : goal.returns-clause-sound
returns-clause-sound g c =
    clear_sound (handle_of c.args.self.now) _ c.clear_on.new.kept refl (λ fits. fits) (result_err c.clear_on.result)
    (record { changes_same = refl; imported_same = refl; old_same = refl; style_same = refl; follower_same = refl }) (sym (c.if-not-imported.ensures.is))
    (λ held opened. c.clear_on.ensures.sound held
    (kept_fits c.args.self.now.store c.in-Some.store _ (sym c.take.ensures.value ∙ c.in-Some.is) opened.fits) opened.holds)

pub returns-then-not-imported-clause-sound : goal.returns-then-not-imported-clause-sound
returns-then-not-imported-clause-sound g c = λ state opened.
    clear_unbegun (handle_of c.args.self.now) state (sym c.imported.ensures.is ∙ c.if-not-imported.true) opened
