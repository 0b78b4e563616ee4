use Rattle.std.proofs.Common.{Some}
use Rattle.update_flow.specs.Follower.{handle_of}
use Rattle.updater.proofs.FollowBlocks.{follow_never, not_taken, stands_refused, stands_taken, taken_told, told_never, told_standing}
use Rattle.updater.proofs.FollowBlocks.{told_version, version_there}
use Rattle.updater.proofs.following.follow_block.Goals as goal

pub returns-in-Err-clause-block : goal.returns-in-Err-clause-block
returns-in-Err-clause-block g c = rw c.in_follow.ensures.fault (λ files read old start done state may alone head.
    not_taken start done state c.args.file old files read c.args.store.now c.apply.new.self (g.S.Sink.view c.args.out.now) may alone head
    c.args.block c.in-Err.fault c.in-Err.ensures.unbegun c.in-Err.ensures.gap c.in-Err.ensures.unmoved c.in-Err.ensures.takes)

pub returns-in-Err-clause-keeps : goal.returns-in-Err-clause-keeps
returns-in-Err-clause-keeps g c = rw c.in_follow.ensures.fault (record {
  stays = c.apply.ensures.stays.over;
  formatted = follow_never c.args.file c.args.block c.args.store.now c.apply.new.self c.in-Err.fault c.in-Err.ensures.stays;
  stands = stands_refused c.args.file c.args.store.now c.apply.new.self c.args.block c.in-Err.fault c.in-Err.ensures.unbegun
      c.in-Err.ensures.gap c.in-Err.ensures.takes;
})

pub returns-in-Some-clause-block : goal.returns-in-Some-clause-block
returns-in-Some-clause-block g c = λ files read old start done state may alone head.
    taken_told start done state c.args.file old files read c.args.store.now c.apply.new.self (g.S.Sink.view c.args.out.now) may alone head
    c.args.block c.in-Ok.taken c.in-Ok.ensures.unbegun c.in-Ok.ensures.gap c.in-Ok.ensures.takes (Some c.in-Some.version)
    c.in-Some.ensures.version (g.S.Sink.view c.tell_version.new.out) c.tell_version.result
    (told_version c.in-Some.version (g.S.Sink.view c.args.out.now) (g.S.Sink.view c.tell_version.new.out) c.tell_version.result
    c.tell_version.ensures.ok c.tell_version.ensures.err c.tell_version.ensures.alone c.tell_version.ensures.cause)

pub returns-in-Some-clause-keeps : goal.returns-in-Some-clause-keeps
returns-in-Some-clause-keeps g c = record {
  stays = c.apply.ensures.stays.over;
  formatted = told_never c.tell_version.result c.tell_version.ensures.alone;
  stands = λ opened. told_standing c.tell_version.result (handle_of c.apply.new.self) c.tell_version.ensures.alone
      (stands_taken c.args.file c.args.store.now c.apply.new.self c.args.block c.in-Ok.taken c.in-Ok.ensures.unbegun c.in-Ok.ensures.gap
      c.in-Ok.ensures.takes opened);
}

pub returns-in-None-clause-block : goal.returns-in-None-clause-block
returns-in-None-clause-block g c = λ files read old start done state may alone head. absurd
    (version_there start done state c.args.file old files read c.args.store.now c.apply.new.self (g.S.Sink.view c.args.out.now) may
    alone head
    c.args.block c.in-Ok.taken c.in-Ok.ensures.unbegun c.in-Ok.ensures.gap c.in-Ok.ensures.takes c.in-None.ensures.version)

pub returns-in-None-clause-keeps : goal.returns-in-None-clause-keeps
returns-in-None-clause-keeps g c = record {
  stays = c.apply.ensures.stays.over;
  formatted = λ is. absurd (cc (is));
  stands = λ opened. record { never = λ page is. absurd (cc (is)); stays = λ none. absurd (cc (none)) };
}
