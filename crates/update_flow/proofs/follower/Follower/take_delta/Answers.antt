-- The store that was open is the one on the disk.
use Rattle.std.proofs.Common.{◌≡◌, ◌∙◌, true, Option, Some, None, Ok, Err, refl, sym, ap}
use Rattle.std.specs.Prelude.{is_some}
use Rattle.style_read.specs.Style.{StyleOf}
use Rattle.delta_feed.specs.declared.block.Block.TheVariants as blocks
use Rattle.update_flow.specs.Follower.{handle_of, is_later}
use Rattle.update_flow.specs.State.{Follow}
use Rattle.update_flow.specs.declared.fault.FlowFault.TheVariants as flow
use Rattle.update_flow.proofs.Followers.{delta_shows, delta_taken, later_version, never_ends, next_version, stale_shows, stale_taken, stays_ended, stays_none}
use Rattle.update_flow.proofs.Handles.{kept_fits}
use Rattle.update_flow.proofs.Openings.{state_here}
use Rattle.update_flow.proofs.follower.Follower.take_delta.Goals as goal

pub returns-then-not-is_later : goal.returns-then-not-is_later
returns-then-not-is_later g c =
    let handle = handle_of c.args.self.now in
    let old = sym c.is_later.ensures.is ∙ c.if-not-is_later.true in
    record {
      takes = record {
        takes = stale_taken handle (blocks.Delta c.args.delta) refl refl old;
        taken = sym old;
        tells = λ is. absurd (cc (is));
        shows = stale_shows handle (blocks.Delta c.args.delta) refl refl old;
        untaken = λ is. refl;
        begun = λ is. absurd (cc (is));
        stays = stays_none c.args.self.now (Some (Follow (blocks.Delta c.args.delta)));
      };
    }

pub returns-in-Ok : goal.returns-in-Ok
returns-in-Ok g c =
    let handle = handle_of c.args.self.now in
    let new : is_later handle c.args.delta.version ≡ true = sym c.if-not-is_later.ensures.is in
    let own = ap (λ (o : Option StyleOf). is_some o) c.in-Some.is in
    let next = next_version handle c.args.delta own c.requires.next (later_version handle c.args.delta.version new own) in
    let was = kept_fits c.args.self.now.store c.in-Some-take.store _ (sym c.take.ensures.value ∙ c.in-Some-take.is) in
    record {
      takes = record {
        takes = delta_taken handle _ c.delta_on.new.kept refl (λ fits. fits) refl refl c.args.delta c.in-Some.style own next c.in-Some.is None
            (λ held opened same next. c.in-Ok.ensures.turns held (was opened.fits) (state_here _ _ opened.at_rest) same next)
            (λ none. (refl, c.in-Some.is, own, refl)) (λ not. absurd (not refl));
        taken = sym new;
        tells = λ is. record { own = own; version = refl; style = refl };
        shows = delta_shows handle _ c.delta_on.new.kept refl (λ fits. fits) refl refl c.args.delta c.in-Some.style own next c.in-Some.is
            (refl, c.in-Some.is, own, refl);
        untaken = λ is. absurd (cc (is));
        begun = λ is. absurd (cc (is));
        stays = stays_ended (Some (Follow (blocks.Delta c.args.delta))) c.args.self.now _ (record { same_disk = refl; same_limits = refl }) (λ is. absurd is) (λ is. absurd is)
            (ap (λ o. is_some o) (sym c.take.ensures.value ∙ c.in-Some-take.is)) (Ok true) (λ is. absurd (cc (is))) c.in-Ok.ensures.ends;
      };
    }

pub returns-in-Err : goal.returns-in-Err
returns-in-Err g c =
    let handle = handle_of c.args.self.now in
    let new : is_later handle c.args.delta.version ≡ true = sym c.if-not-is_later.ensures.is in
    let own = ap (λ (o : Option StyleOf). is_some o) c.in-Some.is in
    let next = next_version handle c.args.delta own c.requires.next (later_version handle c.args.delta.version new own) in
    let was = kept_fits c.args.self.now.store c.in-Some-take.store _ (sym c.take.ensures.value ∙ c.in-Some-take.is) in
    record {
      takes = record {
        takes = delta_taken handle _ c.delta_on.new.kept refl (λ fits. fits) refl refl c.args.delta c.in-Some.style own next c.in-Some.is (Some c.in-Err.fault)
            (λ held opened same next. c.in-Err.ensures.turns held (was opened.fits) (state_here _ _ opened.at_rest) same next)
            (λ none. absurd (cc (none))) (λ some. record { changes_same = refl; imported_same = refl; old_same = refl; style_same = refl; follower_same = refl });
        taken = tt;
        tells = tt;
        shows = tt;
        untaken = tt;
        begun = never_ends (Some (Follow (blocks.Delta c.args.delta))) (Err c.in-Err.fault) flow.NotImported c.in-Err.ensures.ends.alone (λ may. may);
        stays = stays_ended (Some (Follow (blocks.Delta c.args.delta))) c.args.self.now _ (record { same_disk = refl; same_limits = refl }) (λ is. absurd is) (λ is. absurd is)
            (ap (λ o. is_some o) (sym c.take.ensures.value ∙ c.in-Some-take.is)) (Err c.in-Err.fault) (λ is. record { changes_same = refl; imported_same = refl; old_same = refl; style_same = refl; follower_same = refl }) c.in-Err.ensures.ends;
      };
    }
