-- A disk under buckets that only looked at it.
use Rattle.std.proofs.Common.{◌≡◌, Option, Some, Ok, true, sym, subst}
use Rattle.outside.specs.Disk.{Stays}
use Rattle.outside.specs.declared.disk.Disk.{Ghosts}
use Rattle.page_journal.specs.Journal.{disk_of}
use Rattle.chain_store.specs.Chains.{journal_of}
use Rattle.style_read.specs.Reading.{reading}
use Rattle.style_read.specs.Style.{StyleOf}
use Rattle.bucket_store.specs.Image.{Has, HoldsImage, Image, OnlyLooks, RestsAt}
use Rattle.bucket_store.specs.Opening.{Fits}
use Rattle.bucket_store.specs.Transaction.{chains_of}
use Rattle.bucket_store.specs.declared.buckets.Buckets.{Buckets}
use Rattle.bucket_store.specs.declared.resting.Resting.{Resting}
use Rattle.bucket_store.proofs.Holding.{rests_later}
use Rattle.update_flow.specs.AtRest.{HasFlowCause}
use Rattle.update_flow.specs.Opening.{HoldsState}
use Rattle.update_flow.specs.State.{State, style_in, was_imported}
use Rattle.update_flow.specs.Within.{RunsWithin}
use Rattle.update_flow.specs.declared.fields.TheConstants.{STYLE_TEXT}
use Rattle.update_flow.proofs.Openings.{style_one}
use Rattle.update_flow.specs.declared.fault.FlowFault.{FlowFault}

-- from a disk that they took to the one that they gave back
module _ {D : Type 0} {g : Ghosts D} (old new : Buckets D g) (first last : D) (taken : disk_of (journal_of (chains_of old)) ≡ first)
    (given : last ≡ disk_of (journal_of (chains_of new))) where
  pub looked_stays : OnlyLooks old new → Stays (g.view first) (g.view last)
  looked_stays looks =
      subst (λ (d : D). Stays (g.view first) (g.view d)) (sym given)
      (subst (λ (d : D). Stays (g.view d) (g.view (disk_of (journal_of (chains_of new))))) taken looks.looked.stays)

  pub runs_cause : (fault : Option FlowFault) → RunsWithin old new fault → HasFlowCause fault (g.view first) (g.view last)
  runs_cause fault runs =
      subst (λ (d : D). HasFlowCause fault (g.view first) (g.view d)) (sym given)
      (subst (λ (d : D). HasFlowCause fault (g.view d) (g.view (disk_of (journal_of (chains_of new))))) taken
      (record { later = runs.looks.later; failed = runs.failed }))

  -- an imported store has the style that was read, and what they gave back fits its disk
  pub found_styled : (state : State) (found store : Resting) (style : StyleOf) → was_imported state ≡ true
      → ((image : Image) → Fits found (g.view first) → HoldsImage image (g.view first) → RestsAt image old)
      → ((image : Image) → Fits found (g.view first) → HoldsImage image (g.view first) → Has image image old) → OnlyLooks old new
      → ((rest now : Image) → Has rest now old → reading (now.texts STYLE_TEXT) ≡ Ok style)
      → ((image : Image) → RestsAt image new → Fits store (g.view (disk_of (journal_of (chains_of new)))))
      → Fits found (g.view first) → HoldsState state (g.view first) → (Some style ≡ style_in state) × Fits store (g.view last)
  found_styled state found store style begun rests has looks read fits before holds = (
    style_one state holds.image style holds.means begun (read holds.image holds.image (has holds.image before holds.holds)),
    subst (λ (d : D). Fits store (g.view d)) (sym given)
        (fits holds.image (rests_later holds.image old new looks (rests holds.image before holds.holds))),
  )
