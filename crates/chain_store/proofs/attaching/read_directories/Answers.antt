use Rattle.std.proofs.Common.{Bool, ◌||◌, ◌≡◌, ◌∷◌, [], ◌++◌, ◌+◌, ◌*◌, ◌<◌, ℕ, List, length, sym, ap, subst, ◌∙◌, arith, length-append}
use Rattle.std.proofs.Common.{rules}
use Rattle.std.proofs.Math.Bool.{or-false}
use Rattle.outside.specs.Disk.{ReadsAtMost}
use Rattle.page_journal.specs.Answers.{is_disk_fault}
use Rattle.page_journal.specs.Journal.{home_count, is_broken, view_of}
use Rattle.page_journal.specs.Pages.{number}
use Rattle.page_journal.proofs.ReadCounts.{reads_then}
use Rattle.chain_store.specs.Answers.{HaveRead}
use Rattle.chain_store.specs.Chain.{AreBehindRoot}
use Rattle.chain_store.specs.Kept.{bytes_at, pages_at, page_total}
use Rattle.chain_store.specs.declared.walking.Walked.{Walked}
use Rattle.chain_store.proofs.Attached.{bad_directory, bytes_at-last, bytes_at-push, directory_read, more_of, page_total-push}
use Rattle.chain_store.proofs.Attached.{pages_at-last, pages_at-push, read_more}
use Rattle.chain_store.proofs.Looks.{looked_then, rests_looked}
use Rattle.chain_store.proofs.attaching.read_directories.Goals as goal

pub returns-in-Err-clause-answers : goal.returns-in-Err-clause-answers
returns-in-Err-clause-answers g c = λ pages rests is.
    let inv = c.loop-m.invariant in
    let now = rests_looked pages c.args.journal.now c.loop-m.journal rests inv.looked in
    bad_directory pages c.loop-m.m c.in-Err.fault (omega (arith, c.loop-m-test.true))
    (λ k below. directory_read pages c.loop-m.directories.items c.loop-m.m c.args.buckets k (inv.answers pages rests is) inv.long
    (c.requires.buckets ∙ ap (λ (l : List ℕ). number l 32) is) below)
    (c.in-Err.ensures.answers pages now is)

pub loop-m-preserved : goal.loop-m-preserved
loop-m-preserved g c =
    let inv = c.loop-m.invariant in
    let ok = c.in-Ok.ensures in
    let old = c.loop-m.directories.items in
    let here = c.in-Ok.directory in
    let pushed : c.push.new.self.items ≡ old ++ here ∷ [] = c.in_ok-push.ensures.items in
    let count : ℕ = home_count c.args.journal.now in
    record {
      answers = λ pages rests is.
          subst (λ (ds : List Walked). HaveRead pages ds (c.loop-m.m + 1)) (sym pushed)
          (read_more pages old here c.loop-m.m inv.many (inv.answers pages rests is)
          (ok.answers pages (rests_looked pages c.args.journal.now c.loop-m.journal rests inv.looked) is));
      many = ap (λ (ds : List Walked). length ds) pushed ∙ length-append old (here ∷ []) ∙ omega (arith, inv.many);
      long = subst (λ (ds : List Walked). (m : ℕ) → m < c.loop-m.m + 1 → length (bytes_at ds m) ≡ 8 * c.args.buckets) (sym pushed)
          (more_of (λ k l. length l ≡ 8 * c.args.buckets) bytes_at old (old ++ here ∷ []) c.loop-m.m here.bytes.items
          (λ k below. bytes_at-push old here k (omega (arith, below, inv.many)))
          (bytes_at-last old here c.loop-m.m (sym inv.many)) inv.long ok.long);
      inside = subst (λ (ds : List Walked). (m : ℕ) → m < c.loop-m.m + 1 → AreBehindRoot count (pages_at ds m)) (sym pushed)
          (more_of (λ k l. AreBehindRoot count l) pages_at old (old ++ here ∷ []) c.loop-m.m here.pages.items
          (λ k below. pages_at-push old here k (omega (arith, below, inv.many)))
          (pages_at-last old here c.loop-m.m (sym inv.many)) inv.inside
          (subst (λ (n : ℕ). AreBehindRoot n here.pages.items) inv.looked.pages ok.inside));
      looked = looked_then c.args.journal.now c.loop-m.journal c.read_directory.new.journal inv.looked ok.looks.looked;
      broken = ok.looks.broken ∙ or-false (is_broken c.loop-m.journal) ∙ inv.broken;
      reads =
          subst (λ (n : ℕ). ReadsAtMost n (4096 * count) (view_of c.args.journal.now) (view_of c.read_directory.new.journal))
          (sym (ap (λ (ds : List Walked). page_total ds) pushed ∙ page_total-push old here))
          (reads_then (page_total old) (length here.pages.items) (4096 * count) (view_of c.args.journal.now).reads
          (view_of c.loop-m.journal).reads (view_of c.read_directory.new.journal).reads inv.reads
          (subst (λ (n : ℕ). ReadsAtMost (length here.pages.items) (4096 * n) (view_of c.loop-m.journal)
          (view_of c.read_directory.new.journal)) inv.looked.pages ok.reads));
      later = omega (arith, inv.later, ok.looks.cause.later);
    }

pub returns-in-Err-clause-looks : goal.returns-in-Err-clause-looks
returns-in-Err-clause-looks g c = record {
  looked = looked_then c.args.journal.now c.loop-m.journal c.read_directory.new.journal c.loop-m.invariant.looked
      c.read_directory.ensures.looks.looked;
  alone = search rules;
  broken = c.in-Err.ensures.looks.broken ∙ ap (λ (b : Bool). b || is_disk_fault c.in-Err.fault) c.loop-m.invariant.broken;
  cause = search rules;
}

pub returns-in_err-push-clause-looks : goal.returns-in_err-push-clause-looks
returns-in_err-push-clause-looks g c = record {
  looked = looked_then c.args.journal.now c.loop-m.journal c.read_directory.new.journal c.loop-m.invariant.looked
      c.read_directory.ensures.looks.looked;
  alone = search rules;
  broken = search rules;
  cause = search rules;
}
