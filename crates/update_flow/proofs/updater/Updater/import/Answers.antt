-- The store that was open is the one on the disk.
use Rattle.std.proofs.Common.{Some, None, ◌∙◌, refl, sym}
use Rattle.update_flow.specs.Updater.{handle_of}
use Rattle.update_flow.proofs.Handles.{kept_fits}
use Rattle.update_flow.proofs.Imports.{import_taken}
use Rattle.update_flow.proofs.Openings.{state_here}
use Rattle.update_flow.proofs.SoundCarried.{begin_sound, import_again}
use Rattle.update_flow.proofs.updater.Updater.import.Goals as goal

pub returns-in-Ok-clause-takes : goal.returns-in-Ok-clause-takes
returns-in-Ok-clause-takes g c =
    import_taken (handle_of c.args.self.now) _ c.import_on.new.kept refl
    (λ fits. fits) c.args.style c.args.style_bytes.now c.args.buckets c.args.change None
    (sym c.if-imported.ensures.is)
    (λ opened. c.in-Ok.ensures.turns (kept_fits c.args.self.now.store c.in-Some.store _
    (sym c.take.ensures.value ∙ c.in-Some.is) opened.fits)
    (state_here _ _ opened.at_rest))
    (λ is. record { changes_are = refl; imported_is = refl; old_is = sym c.if-old.ensures.is; style_is = refl; follower_is = refl }) (λ not. absurd (not refl))

pub returns-in-Err-clause-takes : goal.returns-in-Err-clause-takes
returns-in-Err-clause-takes g c =
    import_taken (handle_of c.args.self.now) _ c.import_on.new.kept refl
    (λ fits. fits) c.args.style c.args.style_bytes.now c.args.buckets c.args.change
    (Some c.in-Err.fault) (sym c.if-imported.ensures.is)
    (λ opened. c.in-Err.ensures.turns (kept_fits c.args.self.now.store c.in-Some.store _
    (sym c.take.ensures.value ∙ c.in-Some.is) opened.fits)
    (state_here _ _ opened.at_rest))
    (λ is. absurd (cc (is))) (λ not. record { changes_same = refl; imported_same = refl; old_same = refl; style_same = refl; follower_same = refl })

-- a sound store
pub returns-in-Ok-clause-sound : goal.returns-in-Ok-clause-sound
returns-in-Ok-clause-sound g c =
    begin_sound (handle_of c.args.self.now) _ c.import_on.new.kept refl (λ fits. fits) None c.args.style c.args.style_bytes.now
    c.args.buckets c.args.change (sym c.if-imported.ensures.is)
    (λ opened. c.in-Ok.ensures.sound (kept_fits c.args.self.now.store c.in-Some.store _
    (sym c.take.ensures.value ∙ c.in-Some.is) opened.fits) opened.holds)
    (λ is. record { changes_are = refl; imported_is = refl; old_is = sym c.if-old.ensures.is; style_is = refl; follower_is = refl }) (λ not. absurd (not refl))

pub returns-in-Err-clause-sound : goal.returns-in-Err-clause-sound
returns-in-Err-clause-sound g c =
    begin_sound (handle_of c.args.self.now) _ c.import_on.new.kept refl (λ fits. fits) (Some c.in-Err.fault) c.args.style
    c.args.style_bytes.now c.args.buckets c.args.change (sym c.if-imported.ensures.is)
    (λ opened. c.in-Err.ensures.sound (kept_fits c.args.self.now.store c.in-Some.store _
    (sym c.take.ensures.value ∙ c.in-Some.is) opened.fits) opened.holds)
    (λ is. absurd (cc (is))) (λ not. record { changes_same = refl; imported_same = refl; old_same = refl; style_same = refl; follower_same = refl })

pub returns-then-imported-clause-sound : goal.returns-then-imported-clause-sound
returns-then-imported-clause-sound g c = λ state opened.
    import_again (handle_of c.args.self.now) c.args.style c.args.style_bytes.now c.args.buckets c.args.change state
    (sym c.imported.ensures.is ∙ c.if-imported.true) opened
