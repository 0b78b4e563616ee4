-- The store that was open is the one on the disk.
use Rattle.std.proofs.Common.{◌≡◌, ◌∙◌, true, Some, None, Ok, Err, refl, sym, ap}
use Rattle.std.specs.Prelude.{is_some}
use Rattle.delta_feed.specs.declared.block.Block.TheVariants as blocks
use Rattle.update_flow.specs.Follower.{handle_of, is_later}
use Rattle.update_flow.specs.State.{Follow}
use Rattle.update_flow.specs.declared.fault.FlowFault.TheVariants as flow
use Rattle.update_flow.proofs.Followers.{full_shows, full_taken, later_version, never_ends, stale_shows, stale_taken, stays_ended, stays_none}
use Rattle.update_flow.proofs.Handles.{kept_fits}
use Rattle.update_flow.proofs.Openings.{state_here}
use Rattle.update_flow.proofs.follower.Follower.take_full.Goals as goal

pub returns-then-not-is_later : goal.returns-then-not-is_later
returns-then-not-is_later g c =
    let handle = handle_of c.args.self.now in
    let old = sym c.is_later.ensures.is ∙ c.if-not-is_later.true in
    record {
      takes = record {
        takes = stale_taken handle (blocks.Full c.args.version c.args.style_bytes c.args.style c.args.rows) refl refl old;
        taken = sym old;
        tells = λ is. absurd (cc (is));
        shows = stale_shows handle (blocks.Full c.args.version c.args.style_bytes c.args.style c.args.rows) refl refl old;
        untaken = λ is. refl;
        begun = λ is. absurd (cc (is));
        stays = stays_none c.args.self.now (Some (Follow (blocks.Full c.args.version c.args.style_bytes c.args.style c.args.rows)));
      };
    }

pub returns-in-Ok : goal.returns-in-Ok
returns-in-Ok g c =
    let handle = handle_of c.args.self.now in
    let new : is_later handle c.args.version ≡ true = sym c.if-not-is_later.ensures.is in
    let later = later_version handle c.args.version new in
    let was = kept_fits c.args.self.now.store c.in-Some.store _ (sym c.take.ensures.value ∙ c.in-Some.is) in
    record {
      takes = record {
        takes = full_taken handle _ c.whole_on.new.kept refl (λ fits. fits) refl refl c.args.version c.args.style_bytes c.args.style
            c.args.rows later None
            (λ opened. c.in-Ok.ensures.begun (was opened.fits) (state_here _ _ opened.at_rest))
            (λ held opened newer. c.in-Ok.ensures.turns held (was opened.fits) (state_here _ _ opened.at_rest) newer)
            (λ none. (refl, refl, refl, refl)) (λ not. absurd (not refl));
        taken = sym new;
        tells = λ is. record { own = refl; version = refl; style = refl };
        shows = full_shows handle _ c.whole_on.new.kept refl (λ fits. fits) refl refl c.args.version c.args.style_bytes c.args.style
            c.args.rows later (refl, refl, refl, refl);
        untaken = λ is. absurd (cc (is));
        begun = λ is. absurd (cc (is));
        stays = stays_ended (Some (Follow (blocks.Full c.args.version c.args.style_bytes c.args.style c.args.rows))) c.args.self.now _ (record { same_disk = refl; same_limits = refl }) (λ is. absurd is) (λ is. absurd is)
            (ap (λ o. is_some o) (sym c.take.ensures.value ∙ c.in-Some.is)) (Ok true) (λ is. absurd (cc (is))) c.in-Ok.ensures.ends;
      };
    }

pub returns-in-Err : goal.returns-in-Err
returns-in-Err g c =
    let handle = handle_of c.args.self.now in
    let new : is_later handle c.args.version ≡ true = sym c.if-not-is_later.ensures.is in
    let later = later_version handle c.args.version new in
    let was = kept_fits c.args.self.now.store c.in-Some.store _ (sym c.take.ensures.value ∙ c.in-Some.is) in
    record {
      takes = record {
        takes = full_taken handle _ c.whole_on.new.kept refl (λ fits. fits) refl refl c.args.version c.args.style_bytes c.args.style
            c.args.rows later (Some c.in-Err.fault)
            (λ opened. c.in-Err.ensures.begun (was opened.fits) (state_here _ _ opened.at_rest))
            (λ held opened newer. c.in-Err.ensures.turns held (was opened.fits) (state_here _ _ opened.at_rest) newer)
            (λ none. absurd (cc (none))) (λ some. record { changes_same = refl; imported_same = refl; old_same = refl; style_same = refl; follower_same = refl });
        taken = tt;
        tells = tt;
        shows = tt;
        untaken = tt;
        begun = never_ends (Some (Follow (blocks.Full c.args.version c.args.style_bytes c.args.style c.args.rows))) (Err c.in-Err.fault) flow.NotImported c.in-Err.ensures.ends.alone (λ may. may);
        stays = stays_ended (Some (Follow (blocks.Full c.args.version c.args.style_bytes c.args.style c.args.rows))) c.args.self.now _ (record { same_disk = refl; same_limits = refl }) (λ is. absurd is) (λ is. absurd is)
            (ap (λ o. is_some o) (sym c.take.ensures.value ∙ c.in-Some.is)) (Err c.in-Err.fault) (λ is. record { changes_same = refl; imported_same = refl; old_same = refl; style_same = refl; follower_same = refl }) c.in-Err.ensures.ends;
      };
    }
