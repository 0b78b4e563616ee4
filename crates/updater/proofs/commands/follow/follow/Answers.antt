use Rattle.std.proofs.Common.{◌∙◌, Err, ap, sym}
use Rattle.std.specs.Result.{result_err}
use Rattle.run_promise.specs.Courses.{follow_to, follows_files}
use Rattle.update_flow.specs.State.{State, formatted}
use Rattle.updater.specs.FileReads.{Among}
use Rattle.updater.specs.Following.{MayFollow}
use Rattle.updater.proofs.Asked.{asked_none}
use Rattle.updater.proofs.FollowOpens.{base_blank, base_may, base_none, base_over, base_some, base_told, follow_from, may_base, none_told}
use Rattle.updater.proofs.FollowOpens.{taken_opened, tells_standard}
use Rattle.updater.proofs.NoStoreFaults.{opening_says}
use Rattle.updater.proofs.OpenRuns.{unopened}
use Rattle.updater.proofs.SoundRuns.{opening_bad, unopened_trusted}
use Rattle.updater.proofs.commands.follow.follow.Goals as goal

pub returns-in-Err : goal.returns-in-Err
returns-in-Err g c =
    let laws = g.met.D.Disk in
    let asks = g.met.I.Inputs g.world.𝓛 g.world.𝓜 g.world.𝓡 ((λ s x. x), (λ x. x), (λ x. x), λ x. x) in
    rw c.in_flow.ensures.fault (record {
      does = record {
        goes = λ start begins.
            unopened (g.I.Inputs.view c.args.inputs.now) (g.D.Disk.view c.args.disk.now) (g.S.Sink.view c.args.out.now)
            (laws.only_now c.args.disk.now) start begins
            c.in-Err.fault (g.D.Disk.view c.open_follower.new.disk)
            (follow_to c.args.files) c.in-Err.ensures.opens c.in-Err.ensures.any.told c.in-Err.ensures.any.alone
            (λ is. c.in-Err.ensures.any.no_store (ap Err is))
            (λ page is. c.in-Err.ensures.any.bad page (ap Err is)) c.in-Err.ensures.any.cause;
        asked = asked_none g.I.Inputs.reads (Among c.args.files.first c.args.files.count) c.args.inputs.now
            (asks.reads_none c.args.inputs.now);
        unformatted = λ is. c.in-Err.ensures.any.untouched (ap Err (opening_says c.in-Err.fault is));
        trusted = unopened_trusted (g.D.Disk.view c.args.disk.now).content c.in-Err.fault
            (λ page is bytes told sound. opening_bad c.in-Err.fault page is (c.in-Err.ensures.sound bytes told sound).answer);
      };
    })

-- something was imported into the store
pub returns-in_default : goal.returns-in_default
returns-in_default g c =
    let laws = g.met.D.Disk in
    let asks = g.met.I.Inputs g.world.𝓛 g.world.𝓜 g.world.𝓡 ((λ s x. x), (λ x. x), (λ x. x), λ x. x) in
    record {
      does = record {
        goes = λ start begins.
            taken_opened (g.I.Inputs.view c.args.inputs.now) (g.D.Disk.view c.args.disk.now) (g.S.Sink.view c.args.out.now)
            (laws.only_now c.args.disk.now) c.args.files start begins (g.D.Disk.view c.open_follower.new.disk) c.in-Ok.ensures.opens
            (λ told state at. base_none c.in-Ok.found c.in_default.is state (g.D.Disk.view c.open_follower.new.disk)
            (c.in-Ok.ensures.found told state at))
            (none_told c.in-Ok.found c.in_default.is (g.D.Disk.view c.args.disk.now).content c.in-Ok.ensures.any.fields)
            c.in-Ok.ensures.any.formed c.in-Ok.ensures.any.cause;
        asked = asked_none g.I.Inputs.reads (Among c.args.files.first c.args.files.count) c.args.inputs.now
            (asks.reads_none c.args.inputs.now);
        unformatted = λ is. absurd (cc (is));
        trusted = λ page is. absurd (cc (is));
      };
    }

pub returns : goal.returns
returns g c =
    let laws = g.met.D.Disk in
    record {
      does = record {
        goes = λ start begins.
            base_over (g.I.Inputs.view c.args.inputs.now) (g.D.Disk.view c.args.disk.now) (g.S.Sink.view c.args.out.now)
            (laws.only_now c.args.disk.now) start begins MayFollow (follow_to c.args.files)
            (λ (state : State). follows_files c.args.files.first c.args.files.count state) (follow_from c.args.files) c.open_follower.new.disk
            c.in-Some.base c.over-store.result c.args.files.first c.over-store.ensures.disk c.in-Ok.ensures.opens
            (λ told state at.
            let own = base_some c.in-Ok.found c.in-Some.base c.in-Some.is state (g.D.Disk.view c.open_follower.new.disk)
            (c.in-Ok.ensures.found told state at) in
            (may_base state (g.D.Disk.view c.open_follower.new.disk) c.in-Some.base own, own))
            c.over-store.ensures.open (tells_standard c.in-Some.base c.over-store.result c.standard-limits.ensures.numbers
            c.over-store.ensures.tells)
            c.in-Some.base.begun (base_may c.in-Some.base.style c.in-Some.base.version) c.in-Ok.ensures.any.cause c.in-Ok.ensures.any.formed
            (base_told c.in-Ok.found c.in-Some.base c.in-Some.is (g.D.Disk.view c.args.disk.now).content c.in-Ok.ensures.any.fields)
            c.in-Ok.ensures.any.same (result_err c.follow_files-done.result) c.follow_files-done.new.store c.disk-1.given.0
            (c.disk-1.given.1 (sym c.over-store.ensures.same_disk ∙ sym c.follow_files-done.ensures.works.keeps.stays.same_disk
            ∙ sym c.close-disk.ensures.same_disk) ∙ c.close-disk.ensures.disk) (g.I.Inputs.view c.follow_files-done.new.inputs)
            (g.S.Sink.view c.follow_files-done.new.out) c.follow_files-done.ensures.follows;
        asked = c.follow_files-done.ensures.works.asked;
        unformatted = λ is. absurd (c.follow_files-done.ensures.works.keeps.formatted is);
        trusted = λ page is bytes told sound.
            let own = base_blank c.in-Ok.found c.in-Some.base c.in-Some.is (g.D.Disk.view c.open_follower.new.disk)
            (c.in-Ok.ensures.sound bytes told sound).found in
            (c.follow_files-done.ensures.works.keeps.stands (formatted, c.over-store.ensures.open formatted own.0 own.1)).never page is;
      };
    }
