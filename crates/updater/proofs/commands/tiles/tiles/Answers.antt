use Rattle.std.proofs.Common.{◌∙◌, Err, ap, sym, refl}
use Rattle.std.specs.Result.{result_err}
use Rattle.run_promise.specs.Courses.{tiles_of_store}
use Rattle.updater.specs.Works.{NoFile}
use Rattle.updater.proofs.Asked.{asked_none}
use Rattle.updater.proofs.NoStoreFaults.{opening_says}
use Rattle.updater.proofs.OpenRuns.{follower_opened, found_here, found_none, found_some, goes_over, told_none, told_some, unopened}
use Rattle.updater.proofs.OpenRuns.{sound_some}
use Rattle.updater.proofs.SoundRuns.{opened_trusted, unopened_trusted}
use Rattle.update_flow.specs.Updater.{handle_of}
use Rattle.updater.proofs.commands.tiles.tiles.Goals as goal

pub returns-in-Err : goal.returns-in-Err
returns-in-Err g c =
    let laws = g.met.D.Disk in
    let asks = g.met.I.Inputs g.world.𝓛 g.world.𝓜 g.world.𝓡 ((λ s x. x), (λ x. x), (λ x. x), λ x. x) in
    rw c.in_flow.ensures.fault (record {
      does = record {
        goes = λ start begins.
            unopened (g.I.Inputs.view c.args.inputs.now) (g.D.Disk.view c.args.disk.now) (g.S.Sink.view c.args.out.now)
            (laws.only_now c.args.disk.now) start begins
            c.in-Err.fault (g.D.Disk.view c.open.new.disk)
            (tiles_of_store c.args.least c.args.clear) c.in-Err.ensures.opens c.in-Err.ensures.any.told c.in-Err.ensures.any.alone
            (λ is. c.in-Err.ensures.any.no_store (ap Err is))
            (λ page is. c.in-Err.ensures.any.bad page (ap Err is)) c.in-Err.ensures.any.cause;
        asked = asked_none g.I.Inputs.reads NoFile c.args.inputs.now (asks.reads_none c.args.inputs.now);
        unformatted = λ is. c.in-Err.ensures.any.untouched (ap Err (opening_says c.in-Err.fault is));
        trusted = unopened_trusted (g.D.Disk.view c.args.disk.now).content c.in-Err.fault
            (λ page is bytes told. (c.in-Err.ensures.bad page (ap Err is) bytes told).0);
      };
    })

-- the store of a follower

pub returns-in_default : goal.returns-in_default
returns-in_default g c =
    let laws = g.met.D.Disk in
    let asks = g.met.I.Inputs g.world.𝓛 g.world.𝓜 g.world.𝓡 ((λ s x. x), (λ x. x), (λ x. x), λ x. x) in
    record {
      does = record {
        goes = λ start begins.
            follower_opened (g.I.Inputs.view c.args.inputs.now) (g.D.Disk.view c.args.disk.now) (g.S.Sink.view c.args.out.now)
            (laws.only_now c.args.disk.now) start begins (g.D.Disk.view c.open.new.disk) (tiles_of_store c.args.least c.args.clear) (λ held done. refl) c.in-Ok.ensures.opens
            (λ told state at. found_none c.in-Ok.found c.in_default.is state (g.D.Disk.view c.open.new.disk) (c.in-Ok.ensures.found told state at))
            (told_none c.in-Ok.found c.in_default.is (g.D.Disk.view c.args.disk.now).content c.in-Ok.ensures.any.fields)
            c.in-Ok.ensures.any.formed c.in-Ok.ensures.any.cause;
        asked = asked_none g.I.Inputs.reads NoFile c.args.inputs.now (asks.reads_none c.args.inputs.now);
        unformatted = λ is. absurd (cc (is));
        trusted = λ page is. absurd (cc (is));
      };
    }

pub returns : goal.returns
returns g c =
    let laws = g.met.D.Disk in
    let asks = g.met.I.Inputs g.world.𝓛 g.world.𝓜 g.world.𝓡 ((λ s x. x), (λ x. x), (λ x. x), λ x. x) in
    record {
      does = record {
        goes = λ start begins.
            goes_over (g.I.Inputs.view c.args.inputs.now) (g.D.Disk.view c.args.disk.now) (g.S.Sink.view c.args.out.now)
            (laws.only_now c.args.disk.now) start begins
            c.open.new.disk c.over-store.result 0 c.over-store.ensures.disk c.in-Ok.ensures.opens
            (λ told state at. c.over-store.ensures.open state at
            (found_some c.in-Ok.found c.in-Some.opened c.in-Some.is state (g.D.Disk.view c.open.new.disk) (c.in-Ok.ensures.found told state at)))
            (c.over-store.ensures.tells.limits_are ∙ c.standard-limits.ensures.numbers) c.over-store.ensures.tells.whole
            (λ is. (c.over-store.ensures.tells.begun is, c.over-store.ensures.tells.unbegun is)) c.in-Ok.ensures.any.cause
            (found_here c.in-Some.opened c.over-store.result
            (g.D.Disk.view c.args.disk.now).content c.over-store.ensures.tells.style c.over-store.ensures.tells.outdated
            c.over-store.ensures.tells.changes c.in-Ok.ensures.any.formed
            (told_some c.in-Ok.found c.in-Some.opened c.in-Some.is (g.D.Disk.view c.args.disk.now).content c.in-Ok.ensures.any.fields)) c.in-Ok.ensures.any.same
            (tiles_of_store c.args.least c.args.clear) (result_err c.tiles_in-done.result) c.tiles_in-done.new.store c.disk-1.given.0
            (c.disk-1.given.1 (sym c.over-store.ensures.same_disk ∙ sym c.tiles_in-done.ensures.keeps.stays.same_disk
            ∙ sym c.close-disk.ensures.same_disk) ∙ c.close-disk.ensures.disk) (g.I.Inputs.view c.args.inputs.now)
            (g.S.Sink.view c.tiles_in-done.new.out) c.tiles_in-done.ensures.goes_on;
        asked = asked_none g.I.Inputs.reads NoFile c.args.inputs.now (asks.reads_none c.args.inputs.now);
        unformatted = λ is. absurd (c.tiles_in-done.ensures.keeps.formatted is);
        trusted = opened_trusted (g.D.Disk.view c.args.disk.now).content (result_err c.tiles_in-done.result)
            (handle_of c.over-store.result) (handle_of c.tiles_in-done.new.store)
            (λ bytes told sound. c.over-store.ensures.sound
            (sound_some c.in-Ok.found c.in-Some.opened c.in-Some.is (g.D.Disk.view c.open.new.disk) (c.in-Ok.ensures.sound bytes told sound).found))
            c.tiles_in-done.ensures.keeps.sound;
      };
    }
