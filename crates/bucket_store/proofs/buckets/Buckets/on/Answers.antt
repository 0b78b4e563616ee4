-- What was read of the store on the disk is under the buckets.
use Rattle.std.proofs.Common.{sym, ap, subst, ◌∙◌}
use Rattle.page_journal.specs.Crash.{IsAtRest}
use Rattle.page_journal.specs.Journal.{disk_of, home_count, is_broken}
use Rattle.chain_store.specs.Chains.{journal_of, kept_of, read_of, root_of, written_of}
use Rattle.chain_store.specs.Directories.{root_in}
use Rattle.chain_store.specs.declared.kept.Kept.{Kept}
use Rattle.bucket_store.proofs.Holding.{has_anew}
use Rattle.bucket_store.proofs.Reopened.{found_state, rests_on, root_found}
use Rattle.bucket_store.proofs.buckets.Buckets.on.Goals as goal

pub returns-clause-rests : goal.returns-clause-rests
returns-clause-rests g c image fits holds =
    let chains = c.over-2.ensures.chains in
    rests_on image c.args.disk.now c.args.opened c.over-2.result
    (ap (λ k. disk_of (journal_of k)) chains ∙ ap (λ j. disk_of j) c.over.ensures.journal ∙ c.over-journal.ensures.disk)
    (ap (λ k. home_count (journal_of k)) chains ∙ ap (λ j. home_count j) c.over.ensures.journal ∙ c.over-journal.ensures.pages)
    (ap (λ k. kept_of k) chains ∙ c.over.ensures.kept) fits holds

pub returns-clause-has : goal.returns-clause-has
returns-clause-has g c image fits holds =
    let chains = c.over-2.ensures.chains in
    let view = g.D.Disk.view c.args.disk.now in
    has_anew image c.over-2.result fits.pages holds.has.strings
    (c.over-2.ensures.open fits.pages (c.over.ensures.open fits.pages (
      subst (λ d. IsAtRest fits.pages (g.D.Disk.view d)) (sym c.over-journal.ensures.disk) fits.rests,
      fits.many
          ∙ sym c.over-journal.ensures.pages,
    ) fits.keeps))
    (found_state image view c.args.opened fits holds) holds.has.spells
    (ap (λ k. is_broken (journal_of k)) chains ∙ ap (λ j. is_broken j) c.over.ensures.journal ∙ c.over-journal.ensures.whole)
    (ap (λ k. root_of k) chains ∙ c.over.ensures.root ∙ root_found image view c.args.opened fits holds)
    (ap (λ k. written_of k) chains ∙ c.over.ensures.written) c.over-2.ensures.none

pub returns-clause-over : goal.returns-clause-over
returns-clause-over g c =
    let chains = c.over-2.ensures.chains in
    let kept = ap (λ k. kept_of k) chains ∙ c.over.ensures.kept in
    record {
      open_store = λ fits. c.over-2.ensures.open fits.pages (c.over.ensures.open fits.pages (
        subst (λ d. IsAtRest fits.pages (g.D.Disk.view d)) (sym c.over-journal.ensures.disk) fits.rests,
        fits.many
            ∙ sym c.over-journal.ensures.pages,
      ) fits.keeps);
      kept = kept;
      begun = record {
        none = c.over-2.ensures.none;
        read = ap (λ k. read_of k) chains ∙ c.over.ensures.read;
        written = ap (λ k. written_of k) chains ∙ c.over.ensures.written;
        root = ap (λ k. root_of k) chains ∙ c.over.ensures.root ∙ ap (λ (own : Kept). root_in own.front.items) (sym kept);
      };
    }
