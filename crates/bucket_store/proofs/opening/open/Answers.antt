-- The journal is finished, and then what is kept is read.
use Rattle.std.proofs.Common.{◌+◌, ◌*◌, ℕ, List, length, refl, sym, subst, ◌∙◌, arith}
use Rattle.page_journal.proofs.ReadCounts.{reads_more, reads_then}
use Rattle.chain_store.specs.Directories.{IsCount, root_in}
use Rattle.chain_store.specs.Kept.{page_total}
use Rattle.bucket_store.proofs.Reopened.{goes_meant, holds_found, image_state, kept_formatted, rests_stays, sound_kept, sound_open}
use Rattle.bucket_store.specs.Opening.{MeansOne}
use Rattle.bucket_store.specs.declared.resting.Resting.{Resting}
use Rattle.page_journal.proofs.Moments.{goes_stays, stays_then}
use Rattle.page_journal.specs.declared.fault.StoreFault.TheVariants.{NotFormatted}
use Rattle.chain_store.specs.declared.kept.Kept.{Kept}
use Rattle.bucket_store.proofs.Frames.{cause_of, err_of, quiet_cause}
use Rattle.bucket_store.proofs.opening.open.Goals as goal

pub returns-in-Err-clause-image : goal.returns-in-Err-clause-image
returns-in-Err-clause-image g c = record {
  found = tt;
  sound = λ bytes told image has. sound_open Resting c.in-Err.fault bytes has.state.pages has.state.home
      (c.in-Err.ensures.answers bytes told);
  any_moment = λ bytes told meant.
      goes_meant (g.D.Disk.view c.args.disk.now).crashes (g.D.Disk.view c.open.new.disk).crashes meant
      (c.open.ensures.any_moment bytes told);
}

pub returns-in-Err-clause-leaves : goal.returns-in-Err-clause-leaves
returns-in-Err-clause-leaves g c =
    let done = c.in-Err.ensures.opens in
    record {
      looked = c.open.ensures.opens.looked;
      refused = λ is. done.refused (err_of Resting ℕ c.in-Err.fault NotFormatted is);
      told = done.told;
      cause = cause_of ℕ Resting _ _ c.in-Err.fault done.cause;
    }

pub returns-in-Ok-kept_on-clause-fits : goal.returns-in-Ok-kept_on-clause-fits
returns-in-Ok-kept_on-clause-fits g c bytes told =
    let done = c.in-Ok.ensures.done bytes told in
    record {
      pages = done.0;
      rests = rests_stays done.0 (g.D.Disk.view c.open.new.disk) (g.D.Disk.view c.kept_on.new.disk) done.3 c.kept_on.ensures.stays;
      many = done.2;
      keeps = (c.in-Ok-kept_on.ensures.answers done.0 done.3 done.2).1;
    }

pub returns-in-Ok-kept_on-clause-count : goal.returns-in-Ok-kept_on-clause-count
returns-in-Ok-kept_on-clause-count g c bytes told =
    let done = c.in-Ok.ensures.done bytes told in
    let read = c.in-Ok-kept_on.ensures.answers done.0 done.3 done.2 in
    subst (λ (front : List ℕ). IsCount (root_in front).buckets) (sym read.1.front) read.0

pub returns-in-Ok-kept_on-clause-image : goal.returns-in-Ok-kept_on-clause-image
returns-in-Ok-kept_on-clause-image g c =
    let old = (g.D.Disk.view c.args.disk.now).crashes in
    let mid = g.D.Disk.view c.open.new.disk in
    let new = g.D.Disk.view c.kept_on.new.disk in
    record {
      found = λ bytes told image has.
          let done = c.in-Ok.ensures.done bytes told in
          holds_found image bytes done.0 new has done.1 (rests_stays done.0 mid new done.3 c.kept_on.ensures.stays);
      sound = λ bytes told image has. tt;
      any_moment = λ bytes told meant.
          goes_stays (MeansOne old) old mid new (goes_meant old mid.crashes meant (c.open.ensures.any_moment bytes told))
          c.kept_on.ensures.stays;
    }

pub returns-in-Ok-kept_on-clause-leaves : goal.returns-in-Ok-kept_on-clause-leaves
returns-in-Ok-kept_on-clause-leaves g c =
    let old = g.D.Disk.view c.args.disk.now in
    let mid = g.D.Disk.view c.open.new.disk in
    let new = g.D.Disk.view c.kept_on.new.disk in
    record {
      looked = λ bytes told shut. stays_then old mid new (c.open.ensures.opens.looked bytes told shut) c.kept_on.ensures.stays;
      refused = λ is. absurd (cc (is));
      told = λ bytes told quiet. let now = c.in-Ok.ensures.opens.told bytes told refl in (now.0, c.kept_on.ensures.stays.content ∙ now.1);
      cause = quiet_cause _ _ _ refl (omega (arith, c.in-Ok.ensures.opens.cause.later, c.kept_on.ensures.cause.later));
    }

pub returns-in-Err-kept_on-clause-image : goal.returns-in-Err-kept_on-clause-image
returns-in-Err-kept_on-clause-image g c =
    let old = (g.D.Disk.view c.args.disk.now).crashes in
    let mid = g.D.Disk.view c.open.new.disk in
    let new = g.D.Disk.view c.kept_on.new.disk in
    record {
      found = tt;
      sound = λ bytes told image has.
          let done = c.in-Ok.ensures.done bytes told in
          sound_kept image.root has.strings done.0 (image_state image bytes done.0 has done.1) Resting c.in-Err-kept_on.fault
          (c.in-Err-kept_on.ensures.answers done.0 done.3 done.2) c.in-Err-kept_on.ensures.alone;
      any_moment = λ bytes told meant.
          goes_stays (MeansOne old) old mid new (goes_meant old mid.crashes meant (c.open.ensures.any_moment bytes told))
          c.kept_on.ensures.stays;
    }

pub returns-in-Err-kept_on-clause-leaves : goal.returns-in-Err-kept_on-clause-leaves
returns-in-Err-kept_on-clause-leaves g c =
    let old = g.D.Disk.view c.args.disk.now in
    let mid = g.D.Disk.view c.open.new.disk in
    let new = g.D.Disk.view c.kept_on.new.disk in
    let fault = c.in-Err-kept_on.fault in
    let cause = cause_of Kept Resting _ _ fault c.in-Err-kept_on.ensures.cause in
    record {
      looked = λ bytes told shut. stays_then old mid new (c.open.ensures.opens.looked bytes told shut) c.kept_on.ensures.stays;
      refused = λ is. absurd (kept_formatted fault c.in-Err-kept_on.ensures.alone is);
      told = λ bytes told quiet. let now = c.in-Ok.ensures.opens.told bytes told refl in (now.0, c.kept_on.ensures.stays.content ∙ now.1);
      cause = record {
        later = omega (arith, c.in-Ok.ensures.opens.cause.later, cause.later);
        failed = λ is. omega (arith, c.in-Ok.ensures.opens.cause.later, cause.failed is);
      };
    }

pub returns-in-Ok-kept_on-clause-reads : goal.returns-in-Ok-kept_on-clause-reads
returns-in-Ok-kept_on-clause-reads g c = λ bytes told shut.
    let old = g.D.Disk.view c.args.disk.now in
    let mid = g.D.Disk.view c.open.new.disk in
    let new = g.D.Disk.view c.kept_on.new.disk in
    let total = page_total c.in-Ok-kept_on.kept.directories.items in
    let head = c.open.ensures.one_read bytes told shut in
    let rest = reads_more (1 + total) (1 + total) (4096 * c.in-Ok.pages) (length bytes) mid.reads new.reads (omega arith)
    (c.in-Ok.ensures.answers bytes told).3 c.in-Ok-kept_on.ensures.reads in
    reads_more (1 + (1 + total)) (2 + total) (length bytes) (length bytes) old.reads new.reads (omega arith) (omega arith)
    (reads_then 1 (1 + total) (length bytes) old.reads mid.reads new.reads head rest)

pub returns-in-Ok-kept_on-clause-home : goal.returns-in-Ok-kept_on-clause-home
returns-in-Ok-kept_on-clause-home g c = λ bytes told.
    let done = c.in-Ok.ensures.done bytes told in (
      done.0,
      done.1,
      rests_stays done.0 (g.D.Disk.view c.open.new.disk) (g.D.Disk.view c.kept_on.new.disk) done.3 c.kept_on.ensures.stays,
    )
