use Rattle.std.proofs.Common.{◌≡◌, length, rules}
use Rattle.page_journal.proofs.Bytes.{head_read}
use Rattle.page_journal.proofs.Moments.{stays_call}
use Rattle.page_journal.proofs.reading.read_head.Goals as goal

pub returns-clause-head : goal.returns-clause-head
returns-clause-head g c = λ bytes told fits.
    let long : length c.as_mut_slice.result.now ≡ 8192 = search rules in
    head_read bytes c.as_mut_slice.result.now c.read_at.new.buf _ long fits (c.in_ok-read_at.ensures.bytes bytes told)

pub returns-in_err-read_at-clause-reads : goal.returns-in_err-read_at-clause-reads
returns-in_err-read_at-clause-reads g c = record {
  stays = stays_call _ _ c.read_at.ensures.content c.read_at.ensures.crash c.read_at.ensures.time;
  reads = search rules;
  cause = search rules;
}

pub returns-clause-reads : goal.returns-clause-reads
returns-clause-reads g c = record {
  stays = stays_call _ _ c.read_at.ensures.content c.read_at.ensures.crash c.read_at.ensures.time;
  reads = search rules;
  cause = search rules;
}
