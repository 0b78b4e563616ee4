-- A journal that is only looked at, again and again.
use Rattle.std.proofs.Common.{◌≡◌, ◌∙◌, ℕ, List, refl, sym, subst}
use Rattle.outside.specs.declared.disk.Disk.{Ghosts}
use Rattle.outside.specs.Disk.{Stays}
use Rattle.page_journal.specs.Journal.{disk_of, home_count, loan_of, page_limit, view_of}
use Rattle.page_journal.specs.declared.journal.Journal.{Journal}
use Rattle.page_journal.proofs.Moments.{stays_same, stays_then, settled_stays}
use Rattle.chain_store.specs.Answers.{Looked, RestsWith}

module _ {D : Type 0} {g : Ghosts D} where
  pub looked_same : (journal : Journal D g) → Looked journal journal
  looked_same journal = record { stays = stays_same (view_of journal); pages = refl; limit = refl; same_disk = refl }

  pub looked_then : (old mid new : Journal D g) → Looked old mid → Looked mid new → Looked old new
  looked_then old mid new first second = record {
    stays = stays_then (view_of old) (view_of mid) (view_of new) first.stays second.stays;
    pages = second.pages ∙ first.pages;
    limit = second.limit ∙ first.limit;
    same_disk = second.same_disk ∙ first.same_disk;
  }

  -- what was at rest stays so
  pub rests_looked : (pages : List (List ℕ)) (old new : Journal D g) → RestsWith pages old → Looked old new → RestsWith pages new
  rests_looked pages old new rests looked = (
    (rests.0.0, settled_stays pages rests.0.0 (view_of old) (view_of new) rests.0.1 looked.stays),
    rests.1 ∙ sym looked.pages,
  )

  -- a journal whose disk is as it was
  pub looked_untouched : (old mid new : Journal D g) → Looked old mid → disk_of new ≡ disk_of mid → home_count new ≡ home_count mid
      → page_limit new ≡ page_limit mid → loan_of new ≡ loan_of mid → Looked old new
  looked_untouched old mid new looked disk pages limit loan = looked_then old mid new looked (record {
    stays = subst (λ (d : D). Stays (view_of mid) (g.view d)) (sym disk) (stays_same (view_of mid));
    pages = pages;
    limit = limit;
    same_disk = loan;
  })
