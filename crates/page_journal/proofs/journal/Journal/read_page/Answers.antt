use Rattle.std.proofs.Common.{◌≡◌, ℕ, ◌*◌, length, ap, ◌∙◌, arith, rules}
use Rattle.page_journal.specs.Pages.{page_from}
use Rattle.page_journal.proofs.Bytes.{page_read}
use Rattle.page_journal.proofs.Moments.{stays_call}
use Rattle.page_journal.proofs.journal.Journal.read_page.Goals as goal

pub returns-else-count-lt-PAGE-clause-page : goal.returns-else-count-lt-PAGE-clause-page
returns-else-count-lt-PAGE-clause-page g c = λ bytes told.
    let at-is : c.args.page * 4096 ≡ 4096 * c.args.page = omega arith in
    let reads = c.in-Ok.ensures.bytes bytes told in
    let long : length c.as_mut_slice.result.now ≡ 4096 = search rules in
    let many : c.in-Ok.count ≡ 4096 = omega (arith, c.in-Ok.ensures.bound, c.if-count-lt-PAGE.false, long) in
    page_read bytes c.as_mut_slice.result.now c.read_at.new.buf (c.args.page * 4096) c.in-Ok.count long many reads
    ∙ ap (λ (at : ℕ). page_from bytes at) at-is

pub returns-then-count-lt-PAGE-clause-looks : goal.returns-then-count-lt-PAGE-clause-looks
returns-then-count-lt-PAGE-clause-looks g c = record {
  looked = record {
    stays = stays_call _ _ c.read_at.ensures.content c.read_at.ensures.crash c.read_at.ensures.time;
    pages = search rules;
    limit = search rules;
    same_disk = search rules;
  };
  alone = search rules;
  broken = search rules;
  cause = search rules;
}

pub returns-else-count-lt-PAGE-clause-looks : goal.returns-else-count-lt-PAGE-clause-looks
returns-else-count-lt-PAGE-clause-looks g c = record {
  looked = record {
    stays = stays_call _ _ c.read_at.ensures.content c.read_at.ensures.crash c.read_at.ensures.time;
    pages = search rules;
    limit = search rules;
    same_disk = search rules;
  };
  alone = search rules;
  broken = search rules;
  cause = search rules;
}

pub returns-in-Err-clause-looks : goal.returns-in-Err-clause-looks
returns-in-Err-clause-looks g c = record {
  looked = record {
    stays = stays_call _ _ c.read_at.ensures.content c.read_at.ensures.crash c.read_at.ensures.time;
    pages = search rules;
    limit = search rules;
    same_disk = search rules;
  };
  alone = search rules;
  broken = search rules;
  cause = search rules;
}
