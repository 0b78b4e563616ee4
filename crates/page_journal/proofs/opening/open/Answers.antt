use Rattle.std.proofs.Common.{ℕ, ◌+◌, ◌*◌, ◌≤◌, List, length, false, ap, sym, ◌∙◌, arith, ◌≡◌, rules}
use Rattle.outside.specs.Disk.{told_is}
use Rattle.page_journal.specs.Answers.{CanFinish}
use Rattle.page_journal.specs.Crash.{IsLikeOne}
use Rattle.page_journal.specs.Home.{Home}
use Rattle.page_journal.specs.Pages.{head_of, page_count}
use Rattle.page_journal.proofs.Finishing.{says_home, pages_of, many, home_before, home_after, opens_count, opens_finish, like_itself}
use Rattle.page_journal.proofs.Moments.{goes_then, goes_weaker, goes_stays, stays_then}
use Rattle.page_journal.proofs.ReadCounts.{reads_more, reads_quiet, reads_then}
use Rattle.page_journal.proofs.opening.open.Goals as goal

pub returns-in-Err-finish-clause-any_moment : goal.returns-in-Err-finish-clause-any_moment
returns-in-Err-finish-clause-any_moment g c = λ bytes told all.
    let v0 = g.D.Disk.view c.args.disk.now in
    let v1 = g.D.Disk.view c.prepare.new.disk in
    let v2 = g.D.Disk.view c.finish.new.disk in
    let laws = g.met.D.Disk in
    let among = laws.reads_stay c.args.disk.now bytes told in
    let pages = all bytes among in
    let P : List ℕ → Type 0 = IsLikeOne v0.crashes in
    let ready = c.in-Ok.ensures.answers bytes told in
    let told1 = c.prepare.ensures.looks.stays.content ∙ told in
    let run1 = goes_weaker v0.crashes.outcomes P v0.crashes v1.crashes c.prepare.ensures.looks.stays.runs (like_itself v0.crashes all) in
    let run2 = goes_then P v0.crashes v1.crashes v2.crashes run1 (goes_weaker (Home pages.0) P v1.crashes v2.crashes
    (c.finish.ensures.any_moment bytes pages.0 told1 (c.in-Ok.ensures.durable bytes told) ready.1 pages.1 (c.in-Ok.ensures.head bytes told))
    (λ left has. record { one = bytes; among = among; pages = pages.0; had = pages.1; has = has })) in
    run2

pub returns-in-Ok-count_home-clause-any_moment : goal.returns-in-Ok-count_home-clause-any_moment
returns-in-Ok-count_home-clause-any_moment g c = λ bytes told all.
    let v0 = g.D.Disk.view c.args.disk.now in
    let v1 = g.D.Disk.view c.prepare.new.disk in
    let v2 = g.D.Disk.view c.finish.new.disk in
    let laws = g.met.D.Disk in
    let among = laws.reads_stay c.args.disk.now bytes told in
    let pages = all bytes among in
    let P : List ℕ → Type 0 = IsLikeOne v0.crashes in
    let ready = c.in-Ok.ensures.answers bytes told in
    let told1 = c.prepare.ensures.looks.stays.content ∙ told in
    let run1 = goes_weaker v0.crashes.outcomes P v0.crashes v1.crashes c.prepare.ensures.looks.stays.runs (like_itself v0.crashes all) in
    let run2 = goes_then P v0.crashes v1.crashes v2.crashes run1 (goes_weaker (Home pages.0) P v1.crashes v2.crashes
    (c.finish.ensures.any_moment bytes pages.0 told1 (c.in-Ok.ensures.durable bytes told) ready.1 pages.1 (c.in-Ok.ensures.head bytes told))
    (λ left has. record { one = bytes; among = among; pages = pages.0; had = pages.1; has = has })) in
    goes_stays P v0.crashes v2 _ run2 c.count_home.ensures.looks.stays

pub returns-in-Err-count_home-clause-any_moment : goal.returns-in-Err-count_home-clause-any_moment
returns-in-Err-count_home-clause-any_moment g c = λ bytes told all.
    let v0 = g.D.Disk.view c.args.disk.now in
    let v1 = g.D.Disk.view c.prepare.new.disk in
    let v2 = g.D.Disk.view c.finish.new.disk in
    let laws = g.met.D.Disk in
    let among = laws.reads_stay c.args.disk.now bytes told in
    let pages = all bytes among in
    let P : List ℕ → Type 0 = IsLikeOne v0.crashes in
    let ready = c.in-Ok.ensures.answers bytes told in
    let told1 = c.prepare.ensures.looks.stays.content ∙ told in
    let run1 = goes_weaker v0.crashes.outcomes P v0.crashes v1.crashes c.prepare.ensures.looks.stays.runs (like_itself v0.crashes all) in
    let run2 = goes_then P v0.crashes v1.crashes v2.crashes run1 (goes_weaker (Home pages.0) P v1.crashes v2.crashes
    (c.finish.ensures.any_moment bytes pages.0 told1 (c.in-Ok.ensures.durable bytes told) ready.1 pages.1 (c.in-Ok.ensures.head bytes told))
    (λ left has. record { one = bytes; among = among; pages = pages.0; had = pages.1; has = has })) in
    goes_stays P v0.crashes v2 _ run2 c.count_home.ensures.looks.stays

pub returns-in-Ok-count_home-clause-answers : goal.returns-in-Ok-count_home-clause-answers
returns-in-Ok-count_home-clause-answers g c = λ bytes told.
    let ready = c.in-Ok.ensures.answers bytes told in
    let told1 = c.prepare.ensures.looks.stays.content ∙ told in
    let formatted = ready.0 in
    let can : CanFinish bytes = record {
      formatted = formatted;
      journal =
          c.in-Ok-finish.ensures.answers bytes told1 formatted ready.1 (c.in-Ok.ensures.head bytes told);
    } in
    let done = c.in-Ok-finish.ensures.done bytes told1 (c.in-Ok.ensures.durable bytes told) formatted ready.1
    (c.in-Ok.ensures.head bytes told) in
    let long : 8192 ≤ length done.0 = omega (arith, formatted.long, done.3.long) in
    let same : c.in-Ok-finish.moved ≡ false → c.prepare.new.head ≡ head_of done.0 = λ idle.
    c.in-Ok.ensures.head bytes told ∙ ap (λ (l : List ℕ). head_of l)
    (told_is done.0 bytes (sym done.1 ∙ ((c.in-Ok-finish.ensures.moves.idle idle).content ∙ told1))) in
    let home = c.in-Ok-count_home.home in
    let counts = c.in-Ok-count_home.ensures.answers done.0 done.1 long same in
    let fits : 4096 * home ≤ length bytes = omega (arith, counts.2, ready.1) in
    (can, says_home bytes done.0 home formatted done.3 counts.0, counts.1, fits)

pub returns-in-Ok-count_home-clause-done : goal.returns-in-Ok-count_home-clause-done
returns-in-Ok-count_home-clause-done g c = λ bytes told.
    let ready = c.in-Ok.ensures.answers bytes told in
    let told1 = c.prepare.ensures.looks.stays.content ∙ told in
    let formatted = ready.0 in
    let can : CanFinish bytes = record {
      formatted = formatted;
      journal =
          c.in-Ok-finish.ensures.answers bytes told1 formatted ready.1 (c.in-Ok.ensures.head bytes told);
    } in
    let done = c.in-Ok-finish.ensures.done bytes told1 (c.in-Ok.ensures.durable bytes told) formatted ready.1
    (c.in-Ok.ensures.head bytes told) in
    let long : 8192 ≤ length done.0 = omega (arith, formatted.long, done.3.long) in
    let same : c.in-Ok-finish.moved ≡ false → c.prepare.new.head ≡ head_of done.0 = λ idle.
    c.in-Ok.ensures.head bytes told ∙ ap (λ (l : List ℕ). head_of l)
    (told_is done.0 bytes (sym done.1 ∙ ((c.in-Ok-finish.ensures.moves.idle idle).content ∙ told1))) in
    let home = c.in-Ok-count_home.home in
    let counts = c.in-Ok-count_home.ensures.answers done.0 done.1 long same in
    let fits : 4096 * home ≤ length bytes = omega (arith, counts.2, ready.1) in (
      pages_of bytes home,
      home_before bytes done.0 home can done.3 counts.0 counts.1 fits,
      many bytes done.0 home can done.3 counts.0 counts.1 fits,
      (
        done.0,
        record {
          told = c.count_home.ensures.looks.stays.content ∙ done.1;
          only = λ left now. done.2 left (c.count_home.ensures.looks.stays.runs.now left now);
          shut = done.3.shut;
          home = home_after bytes done.0 home can done.3 counts.0 counts.1 fits;
        },
      ),
    )

pub returns-in-Err-count_home-clause-answers : goal.returns-in-Err-count_home-clause-answers
returns-in-Err-count_home-clause-answers g c = λ bytes told.
    let ready = c.in-Ok.ensures.answers bytes told in
    let told1 = c.prepare.ensures.looks.stays.content ∙ told in
    let formatted = ready.0 in
    let can : CanFinish bytes = record {
      formatted = formatted;
      journal =
          c.in-Ok-finish.ensures.answers bytes told1 formatted ready.1 (c.in-Ok.ensures.head bytes told);
    } in
    let done = c.in-Ok-finish.ensures.done bytes told1 (c.in-Ok.ensures.durable bytes told) formatted ready.1
    (c.in-Ok.ensures.head bytes told) in
    let long : 8192 ≤ length done.0 = omega (arith, formatted.long, done.3.long) in
    let same : c.in-Ok-finish.moved ≡ false → c.prepare.new.head ≡ head_of done.0 = λ idle.
    c.in-Ok.ensures.head bytes told ∙ ap (λ (l : List ℕ). head_of l)
    (told_is done.0 bytes (sym done.1 ∙ ((c.in-Ok-finish.ensures.moves.idle idle).content ∙ told1))) in
    opens_count bytes done.0 c.in-Ok.len c.in-Err-count_home.fault can done.3 ready.1
    (c.in-Err-count_home.ensures.answers done.0 done.1 long same)

pub returns-in-Err-clause-reads : goal.returns-in-Err-clause-reads
returns-in-Err-clause-reads g c = λ bytes told.
    reads_more 1 (2 + 3 * page_count bytes) _ _ _ _ (omega arith) (omega arith) (c.prepare.ensures.reads bytes told)

pub returns-in-Err-finish-clause-answers : goal.returns-in-Err-finish-clause-answers
returns-in-Err-finish-clause-answers g c = λ bytes told.
    let ready = c.in-Ok.ensures.answers bytes told in
    let told1 = c.prepare.ensures.looks.stays.content ∙ told in
    let head = c.in-Ok.ensures.head bytes told in
    opens_finish bytes c.in-Err-finish.fault (c.in-Err-finish.ensures.answers bytes told1 ready.0 ready.1 head)

pub returns-in-Err-finish-clause-opens : goal.returns-in-Err-finish-clause-opens
returns-in-Err-finish-clause-opens g c = record {
  alone = search rules;
  looked = λ bytes told none.
      let ready = c.in-Ok.ensures.answers bytes told in
      let told1 = c.prepare.ensures.looks.stays.content ∙ told in
      let head = c.in-Ok.ensures.head bytes told in
      stays_then _ _ _ c.prepare.ensures.looks.stays (c.finish.ensures.looked bytes told1 ready.0 ready.1 head none);
  refused = search rules;
  told = λ bytes told quiet.
      (bytes, (c.in-Err-finish.ensures.moves.refused quiet).content ∙ (c.prepare.ensures.looks.stays.content ∙ told));
  cause = search rules;
}

pub returns-in-Err-finish-clause-one_read : goal.returns-in-Err-finish-clause-one_read
returns-in-Err-finish-clause-one_read g c = λ bytes told shut.
    let ready = c.in-Ok.ensures.answers bytes told in
    let head = c.in-Ok.ensures.head bytes told in
    reads_quiet 1 (length bytes) _ _ _ (c.prepare.ensures.reads bytes told) (c.finish.ensures.shut bytes ready.0 head shut).1

pub returns-in-Err-finish-clause-reads : goal.returns-in-Err-finish-clause-reads
returns-in-Err-finish-clause-reads g c = λ bytes told.
    let ready = c.in-Ok.ensures.answers bytes told in
    let head = c.in-Ok.ensures.head bytes told in
    reads_more (1 + 3 * page_count bytes) (2 + 3 * page_count bytes) _ _ _ _ (omega arith) (omega arith)
    (reads_then 1 (3 * page_count bytes) (length bytes) _ _ _ (c.prepare.ensures.reads bytes told)
    (c.finish.ensures.reads bytes ready.0 ready.1 head))

pub returns-in-Ok-count_home-clause-opens : goal.returns-in-Ok-count_home-clause-opens
returns-in-Ok-count_home-clause-opens g c = record {
  alone = search rules;
  looked = λ bytes told none.
      let ready = c.in-Ok.ensures.answers bytes told in
      let told1 = c.prepare.ensures.looks.stays.content ∙ told in
      let head = c.in-Ok.ensures.head bytes told in
      stays_then _ _ _ (stays_then _ _ _ c.prepare.ensures.looks.stays (c.finish.ensures.looked bytes told1 ready.0 ready.1 head none))
      c.count_home.ensures.looks.stays;
  refused = search rules;
  told = λ bytes told quiet.
      let ready = c.in-Ok.ensures.answers bytes told in
      let told1 = c.prepare.ensures.looks.stays.content ∙ told in
      let done = c.in-Ok-finish.ensures.done bytes told1 (c.in-Ok.ensures.durable bytes told) ready.0 ready.1
      (c.in-Ok.ensures.head bytes told) in
      (done.0, c.count_home.ensures.looks.stays.content ∙ done.1);
  cause = search rules;
}

pub returns-in-Ok-count_home-clause-one_read : goal.returns-in-Ok-count_home-clause-one_read
returns-in-Ok-count_home-clause-one_read g c = λ bytes told shut.
    let ready = c.in-Ok.ensures.answers bytes told in
    let head = c.in-Ok.ensures.head bytes told in
    let idle = c.in-Ok-finish.ensures.shut bytes ready.0 head shut in
    reads_quiet 1 (length bytes) _ _ _ (reads_quiet 1 (length bytes) _ _ _ (c.prepare.ensures.reads bytes told) idle.1)
    (c.count_home.ensures.unread idle.0)

pub returns-in-Ok-count_home-clause-reads : goal.returns-in-Ok-count_home-clause-reads
returns-in-Ok-count_home-clause-reads g c = λ bytes told.
    let ready = c.in-Ok.ensures.answers bytes told in
    let head = c.in-Ok.ensures.head bytes told in
    let first = reads_then 1 (3 * page_count bytes) (length bytes) _ _ _ (c.prepare.ensures.reads bytes told)
    (c.finish.ensures.reads bytes ready.0 ready.1 head) in
    let last = reads_more 1 1 8192 (length bytes) _ _ (omega arith) (omega (arith, ready.0.long)) c.count_home.ensures.reads in
    reads_more (1 + 3 * page_count bytes + 1) (2 + 3 * page_count bytes) _ _ _ _ (omega arith) (omega arith)
    (reads_then (1 + 3 * page_count bytes) 1 (length bytes) _ _ _ first last)

pub returns-in-Err-count_home-clause-opens : goal.returns-in-Err-count_home-clause-opens
returns-in-Err-count_home-clause-opens g c = record {
  alone = search rules;
  looked = λ bytes told none.
      let ready = c.in-Ok.ensures.answers bytes told in
      let told1 = c.prepare.ensures.looks.stays.content ∙ told in
      let head = c.in-Ok.ensures.head bytes told in
      stays_then _ _ _ (stays_then _ _ _ c.prepare.ensures.looks.stays (c.finish.ensures.looked bytes told1 ready.0 ready.1 head none))
      c.count_home.ensures.looks.stays;
  refused = search rules;
  told = λ bytes told quiet.
      let ready = c.in-Ok.ensures.answers bytes told in
      let told1 = c.prepare.ensures.looks.stays.content ∙ told in
      let done = c.in-Ok-finish.ensures.done bytes told1 (c.in-Ok.ensures.durable bytes told) ready.0 ready.1
      (c.in-Ok.ensures.head bytes told) in
      (done.0, c.count_home.ensures.looks.stays.content ∙ done.1);
  cause = search rules;
}

pub returns-in-Err-count_home-clause-one_read : goal.returns-in-Err-count_home-clause-one_read
returns-in-Err-count_home-clause-one_read g c = λ bytes told shut.
    let ready = c.in-Ok.ensures.answers bytes told in
    let head = c.in-Ok.ensures.head bytes told in
    let idle = c.in-Ok-finish.ensures.shut bytes ready.0 head shut in
    reads_quiet 1 (length bytes) _ _ _ (reads_quiet 1 (length bytes) _ _ _ (c.prepare.ensures.reads bytes told) idle.1)
    (c.count_home.ensures.unread idle.0)

pub returns-in-Err-count_home-clause-reads : goal.returns-in-Err-count_home-clause-reads
returns-in-Err-count_home-clause-reads g c = λ bytes told.
    let ready = c.in-Ok.ensures.answers bytes told in
    let head = c.in-Ok.ensures.head bytes told in
    let first = reads_then 1 (3 * page_count bytes) (length bytes) _ _ _ (c.prepare.ensures.reads bytes told)
    (c.finish.ensures.reads bytes ready.0 ready.1 head) in
    let last = reads_more 1 1 8192 (length bytes) _ _ (omega arith) (omega (arith, ready.0.long)) c.count_home.ensures.reads in
    reads_more (1 + 3 * page_count bytes + 1) (2 + 3 * page_count bytes) _ _ _ _ (omega arith) (omega arith)
    (reads_then (1 + 3 * page_count bytes) 1 (length bytes) _ _ _ first last)

pub returns-in-Err-clause-opens : goal.returns-in-Err-clause-opens
returns-in-Err-clause-opens g c = record {
  alone = search rules;
  looked = search rules;
  refused = search rules;
  told = λ bytes told quiet. (bytes, c.prepare.ensures.looks.stays.content ∙ told);
  cause = search rules;
}
