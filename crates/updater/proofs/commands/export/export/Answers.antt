use Rattle.std.proofs.Common.{◌≡◌, ◌∙◌, Err, true, ap, sym}
use Rattle.std.specs.Result.{result_err}
use Rattle.run_promise.specs.Courses.{export_from}
use Rattle.run_promise.specs.World.{world}
use Rattle.update_flow.specs.Follower.{handle_of as seen}
use Rattle.update_flow.specs.Handle.{view_of}
use Rattle.update_flow.specs.State.{State, follows}
use Rattle.update_flow.specs.Updater.{handle_of}
use Rattle.updater.specs.Heads.{GoesOn, IsHead}
use Rattle.updater.specs.Works.{NoFile}
use Rattle.updater.proofs.Asked.{asked_none}
use Rattle.updater.proofs.FollowOpens.{base_over, follows_found, follows_never, follows_shown, follows_told, of_followers, tells_standard}
use Rattle.updater.proofs.NoStoreFaults.{opening_says}
use Rattle.updater.proofs.OpenRuns.{found_here, goes_over, unopened, updates_found, updates_sound, updates_told}
use Rattle.updater.proofs.SoundRuns.{opened_trusted, opening_bad, unopened_trusted}
use Rattle.updater.proofs.commands.export.export.Goals as goal

pub returns-in-Err : goal.returns-in-Err
returns-in-Err g c =
    let laws = g.met.D.Disk in
    let asks = g.met.I.Inputs g.world.𝓛 g.world.𝓜 g.world.𝓡 ((λ s x. x), (λ x. x), (λ x. x), λ x. x) in
    rw c.in_flow.ensures.fault (record {
      does = record {
        goes = λ start begins.
            unopened (g.I.Inputs.view c.args.inputs.now) (g.D.Disk.view c.args.disk.now) (g.S.Sink.view c.args.out.now)
            (laws.only_now c.args.disk.now) start begins
            c.in-Err.fault (g.D.Disk.view c.open_either.new.disk)
            (export_from c.args.table.now) c.in-Err.ensures.opens c.in-Err.ensures.any.told c.in-Err.ensures.any.alone
            (λ is. c.in-Err.ensures.any.no_store (ap Err is))
            (λ page is. c.in-Err.ensures.any.bad page (ap Err is)) c.in-Err.ensures.any.cause;
        asked = asked_none g.I.Inputs.reads NoFile c.args.inputs.now (asks.reads_none c.args.inputs.now);
        unformatted = λ is. c.in-Err.ensures.any.untouched (ap Err (opening_says c.in-Err.fault is));
        trusted = unopened_trusted (g.D.Disk.view c.args.disk.now).content c.in-Err.fault
            (λ page is bytes told sound. opening_bad c.in-Err.fault page is (c.in-Err.ensures.sound bytes told sound).answer);
      };
    })

pub returns-in-Updates : goal.returns-in-Updates
returns-in-Updates g c =
    let laws = g.met.D.Disk in
    let asks = g.met.I.Inputs g.world.𝓛 g.world.𝓜 g.world.𝓡 ((λ s x. x), (λ x. x), (λ x. x), λ x. x) in
    record {
      does = record {
        goes = λ start begins.
            goes_over (g.I.Inputs.view c.args.inputs.now) (g.D.Disk.view c.args.disk.now) (g.S.Sink.view c.args.out.now)
            (laws.only_now c.args.disk.now) start begins
            c.open_either.new.disk c.over-store.result 0 c.over-store.ensures.disk c.in-Ok.ensures.opens
            (λ told state at. c.over-store.ensures.open state at
            (updates_found c.in-Ok.found c.in-Updates.opened c.in-Updates.is state (g.D.Disk.view c.open_either.new.disk)
            (c.in-Ok.ensures.found told state at)))
            (c.over-store.ensures.tells.limits_are ∙ c.standard-limits.ensures.numbers) c.over-store.ensures.tells.whole
            (λ is. (c.over-store.ensures.tells.begun is, c.over-store.ensures.tells.unbegun is)) c.in-Ok.ensures.any.cause
            (found_here c.in-Updates.opened c.over-store.result
            (g.D.Disk.view c.args.disk.now).content c.over-store.ensures.tells.style c.over-store.ensures.tells.outdated
            c.over-store.ensures.tells.changes c.in-Ok.ensures.any.formed
            (updates_told c.in-Ok.found c.in-Updates.opened c.in-Updates.is (g.D.Disk.view c.args.disk.now).content
            c.in-Ok.ensures.any.fields)) c.in-Ok.ensures.any.same
            (export_from c.args.table.now) (result_err c.export_store-done.result) c.export_store-done.new.store c.disk-1.given.0
            (c.disk-1.given.1 (sym c.over-store.ensures.same_disk ∙ sym c.export_store-done.ensures.keeps.stays.same_disk
            ∙ sym c.close-disk.ensures.same_disk) ∙ c.close-disk.ensures.disk) (g.I.Inputs.view c.args.inputs.now)
            (g.S.Sink.view c.export_store-done.new.out) c.export_store-done.ensures.goes_on;
        asked = asked_none g.I.Inputs.reads NoFile c.args.inputs.now (asks.reads_none c.args.inputs.now);
        unformatted = λ is. absurd (c.export_store-done.ensures.keeps.formatted is);
        trusted = opened_trusted (g.D.Disk.view c.args.disk.now).content (result_err c.export_store-done.result)
            (handle_of c.over-store.result) (handle_of c.export_store-done.new.store)
            (λ bytes told sound. c.over-store.ensures.sound
            (updates_sound c.in-Ok.found c.in-Updates.opened c.in-Updates.is (g.D.Disk.view c.open_either.new.disk)
            (c.in-Ok.ensures.sound bytes told sound).found))
            c.export_store-done.ensures.keeps.sound;
      };
    }

-- the store of a follower

pub returns-in-Follows : goal.returns-in-Follows
returns-in-Follows g c =
    let laws = g.met.D.Disk in
    let asks = g.met.I.Inputs g.world.𝓛 g.world.𝓜 g.world.𝓡 ((λ s x. x), (λ x. x), (λ x. x), λ x. x) in
    let files = g.I.Inputs.view c.args.inputs.now in
    let output = g.S.Sink.view c.args.out.now in
    let fault = result_err c.export_followed-done.result in
    record {
      does = record {
        goes = λ start begins.
            base_over files (g.D.Disk.view c.args.disk.now) output
            (laws.only_now c.args.disk.now) start begins (λ (state : State). follows state ≡ true) (export_from c.args.table.now)
            (export_from c.args.table.now) (λ state own old done ending comes. comes) c.open_either.new.disk c.in-Follows.base
            c.over-store-in-Follows.result 0 c.over-store-in-Follows.ensures.disk c.in-Ok.ensures.opens
            (λ told state at. follows_found c.in-Ok.found c.in-Follows.base c.in-Follows.is state (g.D.Disk.view c.open_either.new.disk)
            (c.in-Ok.ensures.found told state at))
            c.over-store-in-Follows.ensures.open (tells_standard c.in-Follows.base c.over-store-in-Follows.result c.standard-limits.ensures.numbers
            c.over-store-in-Follows.ensures.tells)
            c.in-Follows.base.begun (follows_shown c.in-Ok.found c.in-Follows.base c.in-Follows.is (g.D.Disk.view c.args.disk.now).content
            c.in-Ok.ensures.any.fields) c.in-Ok.ensures.any.cause c.in-Ok.ensures.any.formed
            (follows_told c.in-Ok.found c.in-Follows.base c.in-Follows.is (g.D.Disk.view c.args.disk.now).content c.in-Ok.ensures.any.fields)
            c.in-Ok.ensures.any.same fault c.export_followed-done.new.store c.disk-in-Follows-1.given.0
            (c.disk-in-Follows-1.given.1 (sym c.over-store-in-Follows.ensures.same_disk ∙ sym c.export_followed-done.ensures.keeps.stays.same_disk
            ∙ sym c.close-disk-in-Follows.ensures.same_disk) ∙ c.close-disk-in-Follows.ensures.disk) files
            (g.S.Sink.view c.export_followed-done.new.out)
            (λ old start done. of_followers (λ (state : State). IsHead start done state 0 old files (seen c.over-store-in-Follows.result) output
            → GoesOn (export_from c.args.table.now state) start done fault old
            (world files (view_of (seen c.export_followed-done.new.store)) (g.S.Sink.view c.export_followed-done.new.out)))
            (c.export_followed-done.ensures.goes_on old start done));
        asked = asked_none g.I.Inputs.reads NoFile c.args.inputs.now (asks.reads_none c.args.inputs.now);
        unformatted = λ is. absurd (c.export_followed-done.ensures.keeps.formatted is);
        trusted = λ page is bytes told sound.
            follows_never c.in-Ok.found c.in-Follows.base c.in-Follows.is (g.D.Disk.view c.open_either.new.disk)
            (c.in-Ok.ensures.sound bytes told sound).found;
      };
    }
