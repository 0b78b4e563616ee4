use Rattle.std.proofs.Common.{◌≤◌, length, arith}
use Rattle.page_journal.specs.PageSet.{padded}
use Rattle.page_journal.proofs.Padding.{padded_long}
use Rattle.page_journal.proofs.Runs.{shows_more}
use Rattle.page_journal.proofs.page_run.put_page.Goals as goal

pub returns-clause-fits : goal.returns-clause-fits
returns-clause-fits g c =
    let made = c.in_ok-make_room.ensures in
    record {
      size = c.put_behind.ensures.long;
      inside = omega (arith, made.room);
      room = omega (arith, made.end, c.requires.room);
    }

pub returns-clause-shows : goal.returns-clause-shows
returns-clause-shows g c = λ content shows.
    let made = c.in_ok-make_room.ensures in
    let run = c.make_room.new.run in
    let inside : run.filled ≤ length run.bytes = omega (arith, made.size, made.room) in
    shows_more run.at run.filled c.args.at run.bytes c.put_behind.new.bytes (padded c.args.page.now) content _
    (made.shows content shows) made.end inside
    (padded_long c.args.page.now c.requires.size) c.put_behind.ensures.held

pub returns-clause-grows : goal.returns-clause-grows
returns-clause-grows g c =
    let made = c.in_ok-make_room.ensures in record { end = omega (arith, made.end); start = made.start }
