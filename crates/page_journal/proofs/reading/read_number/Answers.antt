use Rattle.std.proofs.Common.{◌∙◌, refl, rules}
use Rattle.page_journal.proofs.Bytes.{number_read}
use Rattle.page_journal.proofs.Moments.{stays_call}
use Rattle.page_journal.proofs.reading.read_number.Goals as goal

pub returns-clause-value : goal.returns-clause-value
returns-clause-value g c = λ bytes told fits.
    c.from_le_bytes.ensures ∙ number_read bytes _ _ c.args.at _ refl fits (c.in_ok-read_at.ensures.bytes bytes told)

pub returns-in_err-read_at-clause-reads : goal.returns-in_err-read_at-clause-reads
returns-in_err-read_at-clause-reads g c = record {
  stays = stays_call _ _ c.read_at.ensures.content c.read_at.ensures.crash c.read_at.ensures.time;
  reads = search rules;
  cause = search rules;
}

pub returns-clause-reads : goal.returns-clause-reads
returns-clause-reads g c = record {
  stays = stays_call _ _ c.read_at.ensures.content c.read_at.ensures.crash c.read_at.ensures.time;
  reads = search rules;
  cause = search rules;
}
