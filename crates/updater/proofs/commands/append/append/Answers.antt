use Rattle.std.proofs.Common.{◌∙◌, Err, Some, ap, sym, refl}
use Rattle.updater.proofs.LocalLaws.{local_over, on_ok_so}
use Rattle.std.specs.Result.{result_err}
use Rattle.run_promise.specs.Ahead.{MayBeRead}
use Rattle.run_promise.specs.Courses.{append_to}
use Rattle.run_promise.specs.Faults.{flow_fault}
use Rattle.run_promise.specs.declared.fault.Fault.TheVariants as faults
use Rattle.run_promise.proofs.AheadLaws.{none_ahead}
use Rattle.updater.specs.FileReads.{Among}
use Rattle.updater.proofs.Asked.{asked_none}
use Rattle.updater.proofs.NoStoreFaults.{opening_says}
use Rattle.updater.proofs.OpenRuns.{follower_opened, found_here, found_none, found_some, goes_over, told_none, told_some, unopened}
use Rattle.updater.proofs.OpenRuns.{sound_some}
use Rattle.updater.proofs.SoundRuns.{opened_trusted, unopened_trusted}
use Rattle.update_flow.specs.Updater.{handle_of}
use Rattle.updater.proofs.commands.append.append.Goals as goal

pub returns-in-Err-clause-does : goal.returns-in-Err-clause-does
returns-in-Err-clause-does g c =
    let laws = g.met.D.Disk in
    let asks = g.met.I.Inputs g.world.𝓛 g.world.𝓜 g.world.𝓡 ((λ s x. x), (λ x. x), (λ x. x), λ x. x) in
    rw c.in_flow.ensures.fault (
      g.I.Inputs.view c.args.inputs.now,
      none_ahead (MayBeRead c.args.files c.args.ahead (Some (flow_fault c.in-Err.fault))) (g.I.Inputs.view c.args.inputs.now),
      record {
        goes = λ start begins.
            unopened (g.I.Inputs.view c.args.inputs.now) (g.D.Disk.view c.args.disk.now) (g.S.Sink.view c.args.out.now)
            (laws.only_now c.args.disk.now) start begins
            c.in-Err.fault (g.D.Disk.view c.open.new.disk)
            (append_to c.args.files) c.in-Err.ensures.opens c.in-Err.ensures.any.told c.in-Err.ensures.any.alone
            (λ is. c.in-Err.ensures.any.no_store (ap Err is))
            (λ page is. c.in-Err.ensures.any.bad page (ap Err is)) c.in-Err.ensures.any.cause;
        asked = asked_none g.I.Inputs.reads (Among c.args.files.first c.args.files.count) c.args.inputs.now
            (asks.reads_none c.args.inputs.now);
        unformatted = λ is. c.in-Err.ensures.any.untouched (ap Err (opening_says c.in-Err.fault is));
        trusted = unopened_trusted (g.D.Disk.view c.args.disk.now).content c.in-Err.fault
            (λ page is bytes told. (c.in-Err.ensures.bad page (ap Err is) bytes told).0);
      },
    )

-- the store of a follower

pub returns-in_default-clause-does : goal.returns-in_default-clause-does
returns-in_default-clause-does g c =
    let laws = g.met.D.Disk in
    let asks = g.met.I.Inputs g.world.𝓛 g.world.𝓜 g.world.𝓡 ((λ s x. x), (λ x. x), (λ x. x), λ x. x) in (
      g.I.Inputs.view c.args.inputs.now,
      none_ahead (MayBeRead c.args.files c.args.ahead (Some faults.Follower)) (g.I.Inputs.view c.args.inputs.now),
      record {
        goes = λ start begins.
            follower_opened (g.I.Inputs.view c.args.inputs.now) (g.D.Disk.view c.args.disk.now) (g.S.Sink.view c.args.out.now)
            (laws.only_now c.args.disk.now) start begins (g.D.Disk.view c.open.new.disk) (append_to c.args.files) (λ held done. refl) c.in-Ok.ensures.opens
            (λ told state at. found_none c.in-Ok.found c.in_default.is state (g.D.Disk.view c.open.new.disk) (c.in-Ok.ensures.found told state at))
            (told_none c.in-Ok.found c.in_default.is (g.D.Disk.view c.args.disk.now).content c.in-Ok.ensures.any.fields)
            c.in-Ok.ensures.any.formed c.in-Ok.ensures.any.cause;
        asked = asked_none g.I.Inputs.reads (Among c.args.files.first c.args.files.count) c.args.inputs.now
            (asks.reads_none c.args.inputs.now);
        unformatted = λ is. absurd (cc (is));
        trusted = λ page is. absurd (cc (is));
      },
    )

pub returns-clause-does : goal.returns-clause-does
returns-clause-does g c =
    let laws = g.met.D.Disk in
    let goes_on = c.append_store-done.ensures.goes_on in (
      goes_on.0,
      goes_on.1,
      record {
        goes = λ start begins.
            goes_over (g.I.Inputs.view c.args.inputs.now) (g.D.Disk.view c.args.disk.now) (g.S.Sink.view c.args.out.now)
            (laws.only_now c.args.disk.now) start begins
            c.open.new.disk c.over-store.result c.args.files.first c.over-store.ensures.disk c.in-Ok.ensures.opens
            (λ told state at. c.over-store.ensures.open state at
            (found_some c.in-Ok.found c.in-Some.opened c.in-Some.is state (g.D.Disk.view c.open.new.disk) (c.in-Ok.ensures.found told state at)))
            (c.over-store.ensures.tells.limits_are ∙ c.standard-limits.ensures.numbers) c.over-store.ensures.tells.whole
            (λ is. (c.over-store.ensures.tells.begun is, c.over-store.ensures.tells.unbegun is)) c.in-Ok.ensures.any.cause
            (found_here c.in-Some.opened c.over-store.result
            (g.D.Disk.view c.args.disk.now).content c.over-store.ensures.tells.style c.over-store.ensures.tells.outdated
            c.over-store.ensures.tells.changes c.in-Ok.ensures.any.formed
            (told_some c.in-Ok.found c.in-Some.opened c.in-Some.is (g.D.Disk.view c.args.disk.now).content c.in-Ok.ensures.any.fields)) c.in-Ok.ensures.any.same
            (append_to c.args.files) (result_err c.append_store-done.result) c.append_store-done.new.store c.disk-1.given.0
            (c.disk-1.given.1 (sym c.over-store.ensures.same_disk ∙ sym c.append_store-done.ensures.works.keeps.stays.same_disk
            ∙ sym c.close-disk.ensures.same_disk) ∙ c.close-disk.ensures.disk) goes_on.0
            (g.S.Sink.view c.append_store-done.new.out) goes_on.2;
        asked = c.append_store-done.ensures.works.asked;
        unformatted = λ is. absurd (c.append_store-done.ensures.works.keeps.formatted is);
        trusted = opened_trusted (g.D.Disk.view c.args.disk.now).content (result_err c.append_store-done.result)
            (handle_of c.over-store.result) (handle_of c.append_store-done.new.store)
            (λ bytes told sound. c.over-store.ensures.sound
            (sound_some c.in-Ok.found c.in-Some.opened c.in-Some.is (g.D.Disk.view c.open.new.disk) (c.in-Ok.ensures.sound bytes told sound).found))
            c.append_store-done.ensures.works.keeps.sound;
      },
    )

pub returns-clause-local : goal.returns-clause-local
returns-clause-local g c = on_ok_so c.append_store-done.result _ _ (λ all.
    local_over c.args.files (g.I.Inputs.view c.args.inputs.now) (g.D.Disk.view c.args.disk.now)
    (g.S.Sink.view c.args.out.now) c.open.new.disk c.over-store.result c.over-store.ensures.disk
    c.in-Ok.ensures.reads c.in-Ok.ensures.once c.in-Ok.ensures.any.same
    (λ told state at. c.over-store.ensures.open state at
    (found_some c.in-Ok.found c.in-Some.opened c.in-Some.is state (g.D.Disk.view c.open.new.disk) (c.in-Ok.ensures.found told state at)))
    c.append_store-done.new.store c.disk-1.given.0
    (c.disk-1.given.1 (sym c.over-store.ensures.same_disk ∙ sym c.append_store-done.ensures.works.keeps.stays.same_disk
    ∙ sym c.close-disk.ensures.same_disk) ∙ c.close-disk.ensures.disk)
    (g.I.Inputs.view c.append_store-done.new.inputs) (g.S.Sink.view c.append_store-done.new.out) all) c.append_store-done.ensures.local
