use Rattle.std.proofs.Common.{◌≤◌, length, ◌∙◌, arith, rules}
use Rattle.std.proofs.Math.Nat.{le_trans}
use Rattle.page_journal.proofs.Causes.{disk_caused}
use Rattle.page_journal.proofs.Moments.{stays_call, stays_then}
use Rattle.page_journal.proofs.ReadCounts.{quiet_reads, reads_more, reads_none}
use Rattle.page_journal.proofs.opening.prepare.Goals as goal

pub returns-clause-head : goal.returns-clause-head
returns-clause-head g c = λ bytes told.
    let synced = c.sync.ensures.content ∙ told in
    c.in_ok-read_head.ensures.head bytes (c.len.ensures.content ∙ synced)
    (omega (arith, c.if-len.false, c.in_ok-len.ensures.length bytes synced))

pub returns-clause-durable : goal.returns-clause-durable
returns-clause-durable g c = λ bytes told left now.
    c.in_ok-sync.ensures.durable bytes told left (c.len.ensures.crash left (c.read_head.ensures.reads.stays.runs.now left now))

pub returns-in_err-sync-clause-looks : goal.returns-in_err-sync-clause-looks
returns-in_err-sync-clause-looks g c = record {
  alone = search rules;
  stays = let v0 = g.D.Disk.view c.args.disk.now in
      let v1 = g.D.Disk.view c.sync.new.self in
      stays_call v0 v1 c.sync.ensures.content c.sync.ensures.crash c.sync.ensures.time;
  cause = search rules;
}

pub returns-in_err-sync-clause-reads : goal.returns-in_err-sync-clause-reads
returns-in_err-sync-clause-reads g c = λ bytes told. reads_none 1 (length bytes) _ _ c.sync.ensures.reads

pub returns-in_err-len-clause-looks : goal.returns-in_err-len-clause-looks
returns-in_err-len-clause-looks g c = record {
  alone = search rules;
  stays = let v0 = g.D.Disk.view c.args.disk.now in
      let v1 = g.D.Disk.view c.sync.new.self in
      let v2 = g.D.Disk.view c.len.new.self in
      stays_then v0 v1 v2 (stays_call v0 v1 c.sync.ensures.content c.sync.ensures.crash c.sync.ensures.time)
      (stays_call v1 v2 c.len.ensures.content c.len.ensures.crash c.len.ensures.time);
  cause = disk_caused _ _ _ _ c.sync.ensures.cause.later c.len.ensures.cause.later c.in_err-len.ensures.cause.failed;
}

pub returns-in_err-len-clause-reads : goal.returns-in_err-len-clause-reads
returns-in_err-len-clause-reads g c = λ bytes told. reads_none 1 (length bytes) _ _ (c.len.ensures.reads ∙ c.sync.ensures.reads)

pub returns-then-len-clause-looks : goal.returns-then-len-clause-looks
returns-then-len-clause-looks g c = record {
  alone = search rules;
  stays = let v0 = g.D.Disk.view c.args.disk.now in
      let v1 = g.D.Disk.view c.sync.new.self in
      let v2 = g.D.Disk.view c.len.new.self in
      stays_then v0 v1 v2 (stays_call v0 v1 c.sync.ensures.content c.sync.ensures.crash c.sync.ensures.time)
      (stays_call v1 v2 c.len.ensures.content c.len.ensures.crash c.len.ensures.time);
  cause = search rules;
}

pub returns-then-len-clause-reads : goal.returns-then-len-clause-reads
returns-then-len-clause-reads g c = λ bytes told. reads_none 1 (length bytes) _ _ (c.len.ensures.reads ∙ c.sync.ensures.reads)

pub returns-in_err-read_head-clause-looks : goal.returns-in_err-read_head-clause-looks
returns-in_err-read_head-clause-looks g c = record {
  alone = search rules;
  stays = let v0 = g.D.Disk.view c.args.disk.now in
      let v1 = g.D.Disk.view c.sync.new.self in
      let v2 = g.D.Disk.view c.len.new.self in
      let v3 = g.D.Disk.view c.read_head.new.disk in
      stays_then v0 v2 v3 (stays_then v0 v1 v2 (stays_call v0 v1 c.sync.ensures.content c.sync.ensures.crash c.sync.ensures.time)
      (stays_call v1 v2 c.len.ensures.content c.len.ensures.crash c.len.ensures.time)) c.read_head.ensures.reads.stays;
  cause = disk_caused _ _ _ _ (le_trans c.sync.ensures.cause.later c.len.ensures.cause.later) c.read_head.ensures.reads.cause.later
      c.in_err-read_head.ensures.reads.cause.failed;
}

pub returns-in_err-read_head-clause-reads : goal.returns-in_err-read_head-clause-reads
returns-in_err-read_head-clause-reads g c = λ bytes told.
    let synced = c.sync.ensures.content ∙ told in
    let long : 8192 ≤ length bytes = omega (arith, c.if-len.false, c.in_ok-len.ensures.length bytes synced) in
    reads_more 1 1 8192 (length bytes) (g.D.Disk.view c.args.disk.now).reads _ (omega arith) long
    (quiet_reads 1 8192 _ _ _ (c.len.ensures.reads ∙ c.sync.ensures.reads) c.read_head.ensures.reads.reads)

pub returns-clause-looks : goal.returns-clause-looks
returns-clause-looks g c = record {
  alone = search rules;
  stays = let v0 = g.D.Disk.view c.args.disk.now in
      let v1 = g.D.Disk.view c.sync.new.self in
      let v2 = g.D.Disk.view c.len.new.self in
      let v3 = g.D.Disk.view c.read_head.new.disk in
      stays_then v0 v2 v3 (stays_then v0 v1 v2 (stays_call v0 v1 c.sync.ensures.content c.sync.ensures.crash c.sync.ensures.time)
      (stays_call v1 v2 c.len.ensures.content c.len.ensures.crash c.len.ensures.time)) c.read_head.ensures.reads.stays;
  cause = search rules;
}

pub returns-clause-reads : goal.returns-clause-reads
returns-clause-reads g c = λ bytes told.
    let synced = c.sync.ensures.content ∙ told in
    let long : 8192 ≤ length bytes = omega (arith, c.if-len.false, c.in_ok-len.ensures.length bytes synced) in
    reads_more 1 1 8192 (length bytes) (g.D.Disk.view c.args.disk.now).reads _ (omega arith) long
    (quiet_reads 1 8192 _ _ _ (c.len.ensures.reads ∙ c.sync.ensures.reads) c.read_head.ensures.reads.reads)
