use Rattle.std.proofs.Common.{◌+◌, ◌∙◌, ap, refl}
use Rattle.update_flow.specs.Updater.{handle_of}
use Rattle.updater.proofs.FeedRuns.{change_fed, change_refused, change_unfed}
use Rattle.updater.proofs.StoreDeeds.{refused_so}
use Rattle.updater.proofs.Keeping.{keeps_step, keeps_unstepped, keeps_untold}
use Rattle.updater.proofs.feeding.feed_change.Goals as goal

pub returns-in-Err-clause-feeds : goal.returns-in-Err-clause-feeds
returns-in-Err-clause-feeds g c = rw c.in_flow.ensures.fault (λ file files read old start done held found head.
    change_refused c.args.bounds.now held file start done old files read (handle_of c.args.store.now) (g.S.Sink.view c.args.out.now) head
    c.args.change found (handle_of c.append_one.new.self) c.in-Err.fault c.in-Err.ensures.takes (refused_so c.in-Err.ensures.stays))

pub returns-in-Ok-write_delta-clause-feeds : goal.returns-in-Ok-write_delta-clause-feeds
returns-in-Ok-write_delta-clause-feeds g c = λ file files read old start done held found head.
    change_fed c.args.bounds.now held file start done old files read (handle_of c.args.store.now) (g.S.Sink.view c.args.out.now) head
    c.args.change found (handle_of c.append_one.new.self) c.in-Ok.ensures.takes
    (λ shows. record {
      changes_are = c.in-Ok.ensures.changes ∙ ap (λ n. n + 1) shows.changes_are;
      imported_is =
          c.in-Ok.ensures.style.0;
      old_is = c.in-Ok.ensures.style.1;
      style_is =
          c.in-Ok.ensures.style.2 ∙ shows.style_is;
      follower_is = refl;
    })
    c.in-Ok.ensures.stays.whole c.append_one.ensures.stays.over.same_limits c.in-Ok.ensures.stays.cause c.in-Ok.delta
    (c.in-Ok.ensures.delta held) (g.S.Sink.view c.write_delta.new.out) c.write_delta.ensures.later c.in-Ok-write_delta.ensures.ok

pub returns-clause-feeds : goal.returns-clause-feeds
returns-clause-feeds g c = rw c.in_feed.ensures.fault (λ file files read old start done held found head.
    change_unfed c.args.bounds.now held file start done old files read (handle_of c.args.store.now) (g.S.Sink.view c.args.out.now) head
    c.args.change found (handle_of c.append_one.new.self) c.in-Ok.ensures.takes
    (λ shows. record {
      changes_are = c.in-Ok.ensures.changes ∙ ap (λ n. n + 1) shows.changes_are;
      imported_is =
          c.in-Ok.ensures.style.0;
      old_is = c.in-Ok.ensures.style.1;
      style_is =
          c.in-Ok.ensures.style.2 ∙ shows.style_is;
      follower_is = refl;
    })
    c.in-Ok.ensures.stays.whole c.append_one.ensures.stays.over.same_limits c.in-Ok.ensures.stays.cause c.in-Ok.delta
    (c.in-Ok.ensures.delta held) (g.S.Sink.view c.write_delta.new.out) c.write_delta.ensures.later c.in-Err-write_delta.fault
    c.in-Err-write_delta.ensures.err)

pub returns-in-Err-clause-keeps : goal.returns-in-Err-clause-keeps
returns-in-Err-clause-keeps g c = rw c.in_flow.ensures.fault
    (keeps_unstepped c.args.store.now c.append_one.new.self c.in-Err.fault _ c.append_one.ensures.stays.over
    c.in-Err.ensures.stays.alone c.in-Err.ensures.sound)

pub returns-in-Ok-write_delta-clause-keeps : goal.returns-in-Ok-write_delta-clause-keeps
returns-in-Ok-write_delta-clause-keeps g c =
    keeps_step c.args.store.now c.append_one.new.self _ c.append_one.ensures.stays.over c.in-Ok.ensures.sound

pub returns-clause-keeps : goal.returns-clause-keeps
returns-clause-keeps g c = rw c.in_feed.ensures.fault
    (keeps_untold c.args.store.now c.append_one.new.self
    (keeps_step c.args.store.now c.append_one.new.self _ c.append_one.ensures.stays.over c.in-Ok.ensures.sound)
    c.in-Err-write_delta.fault)
