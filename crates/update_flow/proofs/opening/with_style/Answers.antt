-- The style is read over the disk, which comes back as it was.
use Rattle.std.proofs.Common.{◌≡◌, ℕ, List, true, false, rules, Option, subst, sym}
use Rattle.std.specs.Prelude.{IfSome}
use Rattle.chain_store.specs.Chains.{disk_of, kept_of}
use Rattle.chain_store.specs.declared.kept.Kept.{Kept}
use Rattle.bucket_store.specs.Image.{Image, RestsAt}
use Rattle.bucket_store.specs.Opening.{Fits, FitsPages}
use Rattle.bucket_store.specs.Transaction.{IsOpenStore, chains_of}
use Rattle.bucket_store.specs.declared.resting.Resting.{Resting}
use Rattle.row_rules.specs.Condition.{reaches_nodes}
use Rattle.update_flow.specs.OpeningReads.{ReadsStyle}
use Rattle.update_flow.specs.State.{was_old}
use Rattle.update_flow.specs.BadPage.{IsUnread, Reaches, Unread, WritesStyle}
use Rattle.update_flow.specs.declared.opened.Opened.{Opened}
use Rattle.update_flow.proofs.Judgements.{unread_of}
use Rattle.update_flow.proofs.OpeningReads.{style_over}
use Rattle.update_flow.proofs.Looking.{found_styled}
use Rattle.update_flow.proofs.Openings.{old_unreached, style_good}
use Rattle.update_flow.proofs.opening.with_style.Goals as goal

pub returns-clause-found : goal.returns-clause-found
returns-clause-found g c = λ before state holds begun.
    let after = c.load_style-read.new.buckets in
    let fits : (image : Image) → RestsAt image after → Fits c.in-Some.store (disk_of (chains_of after)) =
    subst (λ (o : Option Resting). IfSome o (λ opened. (image : Image) → RestsAt image after → Fits opened (disk_of (chains_of after))))
    c.in-Some.is
    c.hand_back-disk.ensures.fits in
    let own = found_styled c.on-buckets.result after c.args.disk.now c.hand_back-disk.result.now c.on-buckets.ensures.disk
    c.hand_back-disk.ensures.disk
    state c.args.found c.in-Some.store c.in-Ok.style begun c.on-buckets.ensures.rests c.on-buckets.ensures.has
    c.load_style-read.ensures.runs.looks
    c.in-Ok.ensures.style fits before holds in
    let here : Fits c.in-Some.store (g.D.Disk.view c.hand_back-disk.result.now) = own.1 in
    (own.0, search (rules, here))

pub returns-in-Err-clause-sound : goal.returns-in-Err-clause-sound
returns-in-Err-clause-sound g c = λ fits state holds begun old.
    let own = style_good state holds.image holds.means begun in
    c.in-Err.ensures.sound holds.image holds.image own.0 (c.on-buckets.ensures.has holds.image fits holds.holds) own.2

pub returns-then-reaches_nodes-clause-sound : goal.returns-then-reaches_nodes-clause-sound
returns-then-reaches_nodes-clause-sound g c = λ fits state holds begun old.
    let read = c.in-Ok.ensures.style holds.image holds.image (c.on-buckets.ensures.has holds.image fits holds.holds) in
    let dated : was_old state ≡ true = cc (old, c.if-outdated.true) in
    let none : reaches_nodes c.in-Ok.style ≡ false = old_unreached state holds.image c.in-Ok.style holds.means dated read in
    absurd (cc (none, c.if-reaches_nodes.true, c.reaches_nodes.ensures.reaches))

pub returns-clause-finds : goal.returns-clause-finds
returns-clause-finds g c = record {
  alone = search rules;
  stays = search rules;
  once = λ state fits holds.
      let after = c.load_style-read.new.buckets in
      let here : ReadsStyle (g.D.Disk.view c.args.disk.now) (g.D.Disk.view c.hand_back-disk.result.now) =
      style_over c.on-buckets.result after c.args.disk.now c.hand_back-disk.result.now c.on-buckets.ensures.disk
      c.hand_back-disk.ensures.disk
      (c.in-Ok.ensures.reads holds.image holds.image (c.on-buckets.ensures.has holds.image fits holds.holds)) in
      search (rules, here);
  cause = search rules;
}

-- whatever the store holds
pub returns-clause-fits : goal.returns-clause-fits
returns-clause-fits g c = λ fits.
    let after = c.load_style-read.new.buckets in
    let given : (pages : List (List ℕ)) → IsOpenStore pages after → FitsPages pages c.in-Some.store (disk_of (chains_of after)) =
    subst (λ (o : Option Resting). IfSome o (λ opened. (pages : List (List ℕ)) → IsOpenStore pages after
    → FitsPages pages opened (disk_of (chains_of after)))) c.in-Some.is c.hand_back-disk.ensures.pages in
    let own = given fits.pages (c.in-Ok.ensures.looks.opens fits.pages (c.on-buckets.ensures.over.open_store fits)) in
    let here : FitsPages fits.pages c.in-Some.store (g.D.Disk.view c.hand_back-disk.result.now) =
    subst (λ d. FitsPages fits.pages c.in-Some.store (g.D.Disk.view d)) (sym c.hand_back-disk.ensures.disk) own in
    search (rules, here)

pub returns-in-Err-clause-bad : goal.returns-in-Err-clause-bad
returns-in-Err-clause-bad g c = λ at is fits old.
    let over = c.on-buckets.ensures.over in
    Unread (subst (λ (k : Kept). IsUnread fits.pages k at) over.kept
    (unread_of Opened fits.pages (kept_of (chains_of c.on-buckets.result)) c.in-Err.fault at is
    (c.in-Err.ensures.answers fits.pages (over.open_store fits) over.begun.written)))

pub returns-then-reaches_nodes-clause-bad : goal.returns-then-reaches_nodes-clause-bad
returns-then-reaches_nodes-clause-bad g c = λ at is fits old.
    let over = c.on-buckets.ensures.over in
    let writes = c.in-Ok.ensures.answers fits.pages (over.open_store fits) over.begun.written in
    Reaches c.in-Ok.style (subst (λ (k : Kept). WritesStyle fits.pages k c.in-Ok.style) over.kept writes) (old (cc (c.if-outdated.true)))
    (cc (c.if-reaches_nodes.true, c.reaches_nodes.ensures.reaches)) (cc (is))

pub returns-clause-style : goal.returns-clause-style
returns-clause-style g c = λ image fits holds. c.in-Ok.ensures.style image image (c.on-buckets.ensures.has image fits holds)
