-- What the buckets say is said of the disk under them.
use Rattle.std.proofs.Common.{◌≡◌, ◌∙◌, ap, rules, subst, sym}
use Rattle.std.specs.Result.{result_err}
use Rattle.std.proofs.lemmas.Result.{on_ok_weaker}
use Rattle.page_journal.specs.Journal.{disk_of as disk_under}
use Rattle.chain_store.specs.Chains.{journal_of, read_of}
use Rattle.bucket_store.specs.Image.{Has}
use Rattle.bucket_store.specs.Transaction.{chains_of}
use Rattle.update_flow.specs.maps.Calls.{buckets_of}
use Rattle.update_flow.specs.State.{Append, imported}
use Rattle.update_flow.specs.Turning.{limit_in}
use Rattle.update_flow.proofs.ChangeReads.{touched_on}
use Rattle.update_flow.proofs.Carrying.{IsBackOf, ends_on, ok_then, turns_on}
use Rattle.update_flow.proofs.SoundCarried.{sound_on}
use Rattle.update_flow.proofs.over_disk.append_on.Goals as goal

pub returns-clause-turns : goal.returns-clause-turns
returns-clause-turns g c =
    let old = buckets_of c.over-maps.result in
    let new = buckets_of c.append-told.new.maps in
    let last : disk_under (journal_of (chains_of new)) ≡ c.disk-1.given.0 =
    search (rules, c.close.ensures, c.over-maps.ensures.buckets, c.append-told.ensures.ends.same_disk) in
    λ held fits holds same next.
    turns_on (result_err c.append-told.result) old new c.hand_back-disk.new.kept
    (subst (λ b. IsBackOf b c.hand_back-disk.new.kept) c.close.ensures (c.hand_back-disk.ensures.whole, c.hand_back-disk.ensures.fits))
    c.append-told.ensures.ends c.args.limits.now (imported held) (Append c.args.bounds.now c.args.change.now)
    (c.append-told.ensures.turns held holds.image (ap (λ b. limit_in b) c.over-maps.ensures.buckets ∙ c.on-buckets.ensures.limit)
    (subst (λ b. Has holds.image holds.image b) (sym c.over-maps.ensures.buckets) (c.on-buckets.ensures.has holds.image fits holds.holds))
    holds.means same next)
    c.args.disk.now c.disk-1.given.0 (ap (λ b. disk_under (journal_of (chains_of b))) c.over-maps.ensures.buckets
    ∙ c.on-buckets.ensures.disk) last

-- a sound store
pub returns-clause-sound : goal.returns-clause-sound
returns-clause-sound g c =
    let old = buckets_of c.over-maps.result in
    let new = buckets_of c.append-told.new.maps in
    let last : disk_under (journal_of (chains_of new)) ≡ c.disk-1.given.0 =
    search (rules, c.close.ensures, c.over-maps.ensures.buckets, c.append-told.ensures.ends.same_disk) in
    λ held fits holds same next.
    sound_on (result_err c.append-told.result) old new c.hand_back-disk.new.kept
    (subst (λ b. IsBackOf b c.hand_back-disk.new.kept) c.close.ensures (c.hand_back-disk.ensures.whole, c.hand_back-disk.ensures.fits))
    c.append-told.ensures.ends c.args.limits.now (imported held) (Append c.args.bounds.now c.args.change.now)
    (c.append-told.ensures.sound held holds.image (ap (λ b. limit_in b) c.over-maps.ensures.buckets ∙ c.on-buckets.ensures.limit)
    (subst (λ b. Has holds.image holds.image b) (sym c.over-maps.ensures.buckets) (c.on-buckets.ensures.has holds.image fits holds.holds))
    holds.is same next)
    c.args.disk.now c.disk-1.given.0 (ap (λ b. disk_under (journal_of (chains_of b))) c.over-maps.ensures.buckets
    ∙ c.on-buckets.ensures.disk) last

pub returns-clause-changes : goal.returns-clause-changes
returns-clause-changes g c =
    ok_then c.append-told.result _ _
    (λ told changes held fits holds same. changes held holds.image
    (subst (λ b. Has holds.image holds.image b) (sym c.over-maps.ensures.buckets) (c.on-buckets.ensures.has holds.image fits holds.holds))
    holds.means same)
    c.append-told.ensures.changes

pub returns-clause-ends : goal.returns-clause-ends
returns-clause-ends g c =
    let old = buckets_of c.over-maps.result in
    let new = buckets_of c.append-told.new.maps in
    let last : disk_under (journal_of (chains_of new)) ≡ c.disk-1.given.0 =
    search (rules, c.close.ensures, c.over-maps.ensures.buckets, c.append-told.ensures.ends.same_disk) in
    ends_on (result_err c.append-told.result) old new c.hand_back-disk.new.kept
    (subst (λ b. IsBackOf b c.hand_back-disk.new.kept) c.close.ensures (c.hand_back-disk.ensures.whole, c.hand_back-disk.ensures.fits))
    c.append-told.ensures.ends c.args.disk.now c.disk-1.given.0
    (ap (λ b. disk_under (journal_of (chains_of b))) c.over-maps.ensures.buckets ∙ c.on-buckets.ensures.disk) last

pub returns-clause-reads : goal.returns-clause-reads
returns-clause-reads g c =
    let old = buckets_of c.over-maps.result in
    let new = buckets_of c.append-told.new.maps in
    let same_buckets = c.over-maps.ensures.buckets in
    let last : disk_under (journal_of (chains_of new)) ≡ c.disk-1.given.0 =
    search (rules, c.close.ensures, same_buckets, c.append-told.ensures.ends.same_disk) in
    on_ok_weaker c.append-told.result
    (λ reads held fits holds same may touches pages rests.
    let has = subst (λ b. Has holds.image holds.image b) (sym same_buckets) (c.on-buckets.ensures.has holds.image fits holds.holds) in
    touched_on old new held holds.image may pages c.args.disk.now c.disk-1.given.0
    (ap (λ b. disk_under (journal_of (chains_of b))) same_buckets ∙ c.on-buckets.ensures.disk) (sym last) has holds.means rests
    (reads held holds.image has holds.means same (ap (λ b. read_of (chains_of b)) same_buckets ∙ c.on-buckets.ensures.read) may touches))
    c.append-told.ensures.reads
