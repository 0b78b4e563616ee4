use Rattle.std.proofs.Common.{None, Some, refl}
use Rattle.std.specs.Option.{option_copied}
use Rattle.update_flow.specs.Follower.{handle_of}
use Rattle.updater.proofs.FollowFiles.{block_lines, block_told, next_over, not_read_of, read_alone}
use Rattle.updater.proofs.FollowBlocks.{feed_never, feed_standing}
use Rattle.updater.proofs.FollowKeeps.{keeps_none}
use Rattle.updater.proofs.following.follow_next.Goals as goal

-- the next block is not read
pub returns-in-Err-clause-next : goal.returns-in-Err-clause-next
returns-in-Err-clause-next g c = rw c.in_feed.ensures.fault (λ files old start done state may alone head.
    not_read_of c.args.reader.now.file c.args.file c.requires.reading.own start done state old files (g.I.Inputs.view c.args.inputs.now)
    (g.I.Inputs.view c.next.new.inputs) (handle_of c.args.store.now) (g.S.Sink.view c.args.out.now) alone c.next.ensures.read.alone head
    c.args.reader.now c.next.new.self c.requires.reading.limits (option_copied c.style.result) c.style.ensures.style c.in-Err.fault
    c.in-Err.ensures.stopped)

pub returns-in-Err-clause-works : goal.returns-in-Err-clause-works
returns-in-Err-clause-works g c = rw c.in_feed.ensures.fault (record {
  keeps = record {
    stays = record { same_disk = refl; same_limits = refl };
    formatted = feed_never c.args.file c.in-Err.fault;
    stands = λ opened. feed_standing c.args.file c.in-Err.fault (handle_of c.args.store.now);
  };
  read = read_alone c.args.reader.now.file c.args.file c.requires.reading.own _ _ _ c.next.ensures.read;
})

-- the file is at its end
pub returns-in_default-clause-next : goal.returns-in_default-clause-next
returns-in_default-clause-next g c = λ files old start done state may alone head.
    next_over c.args.reader.now.file c.args.file c.requires.reading.own start done state old files (g.I.Inputs.view c.args.inputs.now)
    (g.I.Inputs.view c.next.new.inputs) (handle_of c.args.store.now) (g.S.Sink.view c.args.out.now) head c.args.reader.now c.next.new.self
    (option_copied c.style.result) c.in-Ok.found c.in_default.is c.in-Ok.ensures.block

pub returns-in_default-clause-works : goal.returns-in_default-clause-works
returns-in_default-clause-works g c = record {
  keeps = keeps_none c.args.store.now;
  read = read_alone c.args.reader.now.file c.args.file c.requires.reading.own _ _ _ c.next.ensures.read;
}

-- a block is read
pub returns-in-Ok-follow_block-clause-next : goal.returns-in-Ok-follow_block-clause-next
returns-in-Ok-follow_block-clause-next g c = λ files old start done state may alone head.
    block_told c.args.reader.now.file c.args.file c.requires.reading.own start done state old files (g.I.Inputs.view c.args.inputs.now)
    (g.I.Inputs.view c.next.new.inputs) (handle_of c.args.store.now) (g.S.Sink.view c.args.out.now) alone c.next.ensures.read.alone head
    c.args.reader.now c.next.new.self c.requires.reading.limits (option_copied c.style.result) c.style.ensures.style c.in-Ok.found c.in-Some.block
    c.in-Some.is c.in-Ok.ensures.block (handle_of c.follow_block.new.store) (g.S.Sink.view c.follow_block.new.out) None
    (λ more. c.in-Ok-follow_block.ensures.block files (g.I.Inputs.view c.next.new.inputs) old start done state may more head)

pub returns-in-Err-follow_block-clause-next : goal.returns-in-Err-follow_block-clause-next
returns-in-Err-follow_block-clause-next g c = λ files old start done state may alone head.
    block_told c.args.reader.now.file c.args.file c.requires.reading.own start done state old files (g.I.Inputs.view c.args.inputs.now)
    (g.I.Inputs.view c.next.new.inputs) (handle_of c.args.store.now) (g.S.Sink.view c.args.out.now) alone c.next.ensures.read.alone head
    c.args.reader.now c.next.new.self c.requires.reading.limits (option_copied c.style.result) c.style.ensures.style c.in-Ok.found c.in-Some.block
    c.in-Some.is c.in-Ok.ensures.block (handle_of c.follow_block.new.store) (g.S.Sink.view c.follow_block.new.out)
    (Some c.in-Err-follow_block.fault)
    (λ more. c.in-Err-follow_block.ensures.block files (g.I.Inputs.view c.next.new.inputs) old start done state may more head)

pub returns-in-Ok-follow_block-clause-works : goal.returns-in-Ok-follow_block-clause-works
returns-in-Ok-follow_block-clause-works g c = record {
  keeps = c.in-Ok-follow_block.ensures.keeps;
  read = read_alone c.args.reader.now.file c.args.file c.requires.reading.own _ _ _ c.next.ensures.read;
}

pub returns-in-Err-follow_block-clause-works : goal.returns-in-Err-follow_block-clause-works
returns-in-Err-follow_block-clause-works g c = record {
  keeps = c.in-Err-follow_block.ensures.keeps;
  read = read_alone c.args.reader.now.file c.args.file c.requires.reading.own _ _ _ c.next.ensures.read;
}

-- each block takes a line at least
pub returns-in-Ok-follow_block-clause-lines : goal.returns-in-Ok-follow_block-clause-lines
returns-in-Ok-follow_block-clause-lines g c = λ is.
    block_lines c.args.reader.now c.next.new.self c.in-Ok.found c.in-Some.block c.in-Some.is c.in-Ok.ensures.number
