-- What the buckets say is said of the disk under them.
use Rattle.std.proofs.Common.{Option, Some, None, rules, sym, subst}
use Rattle.std.specs.Prelude.{IfSome}
use Rattle.chain_store.specs.Chains.{disk_of}
use Rattle.chain_store.specs.declared.kept.Kept.{Kept}
use Rattle.bucket_store.specs.Image.{Image, RestsAt}
use Rattle.bucket_store.specs.Opening.{Fits}
use Rattle.bucket_store.specs.Transaction.{chains_of}
use Rattle.bucket_store.specs.declared.resting.Resting.{Resting}
use Rattle.bucket_store.proofs.Holding.{rests_later}
use Rattle.update_flow.specs.Judged.{Judges}
use Rattle.update_flow.proofs.Checks.{may_find, today_of}
use Rattle.update_flow.proofs.checking.survey_whole.Goals as goal

pub returns-in-Err-clause-exact : goal.returns-in-Err-clause-exact
returns-in-Err-clause-exact g c = λ fits count fields fresh.
    let over = c.on-buckets.ensures.over in
    subst (λ (k : Kept). Judges fits.pages k (Some c.in-Err.fault)) over.kept
    (c.in-Err.ensures.exact fits.pages (over.open_store fits)
    (today_of c.args.opened (g.D.Disk.view c.args.disk.now) fits count fields fresh))

pub returns-in-Err-clause-alone : goal.returns-in-Err-clause-alone
returns-in-Err-clause-alone g c = may_find c.in-Err.fault c.in-Err.ensures.runs.alone

pub returns-clause-exact : goal.returns-clause-exact
returns-clause-exact g c = λ fits count fields fresh.
    let over = c.on-buckets.ensures.over in
    subst (λ (k : Kept). Judges fits.pages k None) over.kept
    (c.in-Ok.ensures.exact fits.pages (over.open_store fits)
    (today_of c.args.opened (g.D.Disk.view c.args.disk.now) fits count fields fresh))

pub returns-clause-fits : goal.returns-clause-fits
returns-clause-fits g c = λ image before holds.
    let after = c.judge-judged.new.buckets in
    let given : (image : Image) → RestsAt image after → Fits c.in-Some.store (disk_of (chains_of after)) =
    subst (λ (o : Option Resting). IfSome o (λ opened. (image : Image) → RestsAt image after → Fits opened (disk_of (chains_of after))))
    c.in-Some.is c.hand_back-disk.ensures.fits in
    let own = given image (rests_later image c.on-buckets.result after c.judge-judged.ensures.runs.looks
    (c.on-buckets.ensures.rests image before holds)) in
    let here : Fits c.in-Some.store (g.D.Disk.view c.hand_back-disk.result.now) =
    subst (λ d. Fits c.in-Some.store (g.D.Disk.view d)) (sym c.hand_back-disk.ensures.disk) own in
    search (rules, here)
