use Rattle.std.proofs.Common.{Bool, ◌||◌, ◌≡◌, inl, ℕ, List, refl, sym, ap, subst, ◌∙◌, arith, rules}
use Rattle.std.proofs.Math.Bool.{or-false}
use Rattle.page_journal.specs.Answers.{is_disk_fault}
use Rattle.page_journal.specs.Journal.{is_broken, view_of}
use Rattle.page_journal.specs.Pages.{number}
use Rattle.chain_store.specs.Directories.{IsCount}
use Rattle.chain_store.specs.Links.{page_in}
use Rattle.chain_store.proofs.Attached.{bad_kept, home_page}
use Rattle.chain_store.proofs.Looks.{looked_then}
use Rattle.page_journal.proofs.Moments.{settled_stays}
use Rattle.chain_store.proofs.attaching.read_kept.Goals as goal

pub returns-then-not-is_count-clause-answers : goal.returns-then-not-is_count-clause-answers
returns-then-not-is_count-clause-answers g c = λ pages rests.
    let front_is : c.read_page.new.buf ≡ page_in pages 1 =
    c.in_default.ensures.page rests.0.0 rests.0.1.told
    ∙ home_page pages rests.0.0 (view_of c.args.journal.now) 1 rests.0.1 (omega arith) rests.0.1.home.some in
    inl (
      λ count.
          let same : number (page_in pages 1) 32 ≡ c.number_at-buckets.result =
          sym (c.number_at-buckets.ensures ∙ ap (λ (l : List ℕ). number l 32) front_is) in
          let yes = c.if-not-is_count.ensures.count.1 (subst IsCount same count) in
          absurd (cc yes),
      refl,
    )

pub returns-in-Err-read_directories-clause-answers : goal.returns-in-Err-read_directories-clause-answers
returns-in-Err-read_directories-clause-answers g c = λ pages rests.
    let front_is : c.read_page.new.buf ≡ page_in pages 1 =
    c.in_default.ensures.page rests.0.0 rests.0.1.told
    ∙ home_page pages rests.0.0 (view_of c.args.journal.now) 1 rests.0.1 (omega arith) rests.0.1.home.some in
    bad_kept pages c.in-Err-read_directories.fault (c.in-Err-read_directories.ensures.answers pages (
      (
        rests.0.0,
        settled_stays pages rests.0.0 (view_of c.args.journal.now)
            (view_of c.read_page.new.self) rests.0.1 c.in_default.ensures.looks.looked.stays,
      ),
      rests.1 ∙ sym c.in_default.ensures.looks.looked.pages,
    ) front_is)

pub returns-in-Err-clause-looks : goal.returns-in-Err-clause-looks
returns-in-Err-clause-looks g c = record {
  looked = c.read_page.ensures.looks.looked;
  alone = search rules;
  broken = search rules;
  cause = search rules;
}

pub returns-then-not-is_count-clause-looks : goal.returns-then-not-is_count-clause-looks
returns-then-not-is_count-clause-looks g c = record {
  looked = c.read_page.ensures.looks.looked;
  alone = search rules;
  broken = search rules;
  cause = search rules;
}

pub returns-in-Err-read_directories-clause-looks : goal.returns-in-Err-read_directories-clause-looks
returns-in-Err-read_directories-clause-looks g c = record {
  looked = looked_then c.args.journal.now c.read_page.new.self c.read_directories.new.journal c.read_page.ensures.looks.looked
      c.read_directories.ensures.looks.looked;
  alone = search rules;
  broken = c.in-Err-read_directories.ensures.looks.broken
      ∙ ap (λ (b : Bool). b || is_disk_fault c.in-Err-read_directories.fault)
      (c.in_default.ensures.looks.broken ∙ or-false (is_broken c.args.journal.now));
  cause = search rules;
}

pub returns-in_err-front-clause-looks : goal.returns-in_err-front-clause-looks
returns-in_err-front-clause-looks g c = record {
  looked = looked_then c.args.journal.now c.read_page.new.self c.read_directories.new.journal c.read_page.ensures.looks.looked
      c.read_directories.ensures.looks.looked;
  alone = search rules;
  broken = search rules;
  cause = search rules;
}

pub returns-clause-looks : goal.returns-clause-looks
returns-clause-looks g c = record {
  looked = looked_then c.args.journal.now c.read_page.new.self c.read_directories.new.journal c.read_page.ensures.looks.looked
      c.read_directories.ensures.looks.looked;
  alone = search rules;
  broken = c.in-Ok.ensures.looks.broken ∙ (or-false (is_broken c.read_page.new.self) ∙ c.in_default.ensures.looks.broken);
  cause = search rules;
}
