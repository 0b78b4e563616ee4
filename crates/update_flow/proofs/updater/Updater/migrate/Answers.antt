-- The store that was open is the one on the disk.
use Rattle.std.proofs.Common.{◌∙◌, Some, None, refl, sym}
use Rattle.update_flow.specs.Updater.{handle_of}
use Rattle.update_flow.proofs.Handles.{kept_fits, migrate_taken}
use Rattle.update_flow.proofs.Openings.{state_here}
use Rattle.update_flow.proofs.updater.Updater.migrate.Goals as goal

pub returns-in-Ok-clause-takes : goal.returns-in-Ok-clause-takes
returns-in-Ok-clause-takes g c =
    migrate_taken (handle_of c.args.self.now) _ c.migrate_on.new.kept refl (λ fits. fits) None (sym c.if-not-old.ensures.is)
    (λ held opened. c.in-Ok.ensures.turns held
    (kept_fits c.args.self.now.store c.in-Some.store _ (sym c.take.ensures.value ∙ c.in-Some.is) opened.fits)
    (state_here _ _ opened.at_rest))
    refl refl refl refl (λ none. refl) (λ some. absurd (some refl))

pub returns-in-Err-clause-takes : goal.returns-in-Err-clause-takes
returns-in-Err-clause-takes g c =
    migrate_taken (handle_of c.args.self.now) _ c.migrate_on.new.kept refl (λ fits. fits) (Some c.in-Err.fault)
    (sym c.if-not-old.ensures.is)
    (λ held opened. c.in-Err.ensures.turns held
    (kept_fits c.args.self.now.store c.in-Some.store _ (sym c.take.ensures.value ∙ c.in-Some.is) opened.fits)
    (state_here _ _ opened.at_rest))
    refl refl refl refl (λ none. absurd (cc (none))) (λ some. refl)
