-- The store that was open is the one on the disk.
use Rattle.std.proofs.Common.{◌∙◌, refl, sym}
use Rattle.std.specs.Result.{result_err}
use Rattle.update_flow.specs.Updater.{handle_of}
use Rattle.update_flow.proofs.Carrying.{ok_then}
use Rattle.update_flow.proofs.Handles.{kept_fits, look_taken}
use Rattle.update_flow.proofs.Openings.{state_here}
use Rattle.update_flow.proofs.SoundCarried.{look_sound, look_unbegun}
use Rattle.update_flow.proofs.updater.Updater.style_bytes.Goals as goal

pub returns-clause-looks : goal.returns-clause-looks
returns-clause-looks g c =
    look_taken (handle_of c.args.self.now) _ c.style_bytes_on.new.kept refl (λ fits. fits)
    (record { changes_same = refl; imported_same = refl; old_same = refl; style_same = refl; follower_same = refl }) (sym (c.if-not-imported.ensures.is))
    (sym c.if-old.ensures.is) refl (result_err c.style_bytes_on.result)
    (λ held opened. c.style_bytes_on.ensures.looks held
    (kept_fits c.args.self.now.store c.in-Some.store _ (sym c.take.ensures.value ∙ c.in-Some.is) opened.fits)
    (state_here _ _ opened.at_rest))

pub returns-clause-bytes : goal.returns-clause-bytes
returns-clause-bytes g c =
    ok_then c.style_bytes_on.result _ _
    (λ found bytes held opened. bytes held (kept_fits c.args.self.now.store c.in-Some.store _
    (sym c.take.ensures.value ∙ c.in-Some.is) opened.fits)
    (state_here _ _ opened.at_rest))
    c.style_bytes_on.ensures.bytes

pub returns-clause-trusted : goal.returns-clause-trusted
returns-clause-trusted g c =
    ok_then c.style_bytes_on.result _ _
    (λ found bytes held opened. bytes held (kept_fits c.args.self.now.store c.in-Some.store _
    (sym c.take.ensures.value ∙ c.in-Some.is) opened.fits)
    opened.holds)
    c.style_bytes_on.ensures.trusted

-- a sound store
pub returns-clause-sound : goal.returns-clause-sound
returns-clause-sound g c =
    look_sound (handle_of c.args.self.now) _ c.style_bytes_on.new.kept refl (λ fits. fits) (result_err c.style_bytes_on.result)
    (record { changes_same = refl; imported_same = refl; old_same = refl; style_same = refl; follower_same = refl }) (sym (c.if-not-imported.ensures.is))
    (λ held opened. c.style_bytes_on.ensures.sound held
    (kept_fits c.args.self.now.store c.in-Some.store _ (sym c.take.ensures.value ∙ c.in-Some.is) opened.fits) opened.holds)

pub returns-then-not-imported-clause-sound : goal.returns-then-not-imported-clause-sound
returns-then-not-imported-clause-sound g c = λ state opened.
    look_unbegun (handle_of c.args.self.now) state (sym c.imported.ensures.is ∙ c.if-not-imported.true) opened
