-- What the maps say is said of the disk under them.
use Rattle.std.proofs.Common.{◌≡◌, ◌∙◌, Some, ap, rules, subst, sym}
use Rattle.std.specs.Result.{result_err}
use Rattle.page_journal.specs.Journal.{disk_of as disk_under, is_broken}
use Rattle.chain_store.specs.Chains.{journal_of}
use Rattle.bucket_store.specs.Image.{Has}
use Rattle.bucket_store.specs.Transaction.{chains_of, has_refused}
use Rattle.update_flow.specs.maps.Calls.{buckets_of}
use Rattle.update_flow.specs.SoundTurns.{TurnsSound}
use Rattle.update_flow.specs.State.{Import, formatted}
use Rattle.update_flow.specs.Turning.{EndsIn, TurnsIn, limit_in}
use Rattle.update_flow.proofs.Carrying.{ends_on, turns_on}
use Rattle.update_flow.proofs.SoundCarried.{sound_on}
use Rattle.update_flow.proofs.over_disk.import_on.Goals as goal

pub import-done-requires-clause-ready : goal.import-done-requires-clause-ready
import-done-requires-clause-ready g c lifetimes lives = record {
  going = ap (λ b. has_refused b) c.over-maps.ensures.buckets ∙ c.on-opened.ensures.going;
  whole = ap (λ b. is_broken (journal_of (chains_of b))) c.over-maps.ensures.buckets ∙ c.on-opened.ensures.whole;
}

pub returns-clause-turns : goal.returns-clause-turns
returns-clause-turns g c fits holds =
    let fault = result_err c.import-done.result in
    let maps = c.over-maps.result in
    let old = c.on-opened.result in
    let done = buckets_of c.import-done.new.maps in
    let new = c.close.result in
    let first = c.over-maps.ensures.buckets in
    let limits = c.args.limits.now in
    let step = Import c.args.style.now c.args.style_bytes.now c.args.buckets c.args.change in
    let ends : EndsIn (Some step) fault old new =
    subst (λ b. EndsIn (Some step) fault b new) first
    (subst (λ b. EndsIn (Some step) fault (buckets_of maps) b) (sym c.close.ensures) c.import-done.ensures.ends) in
    let had : Has holds.image holds.image (buckets_of maps) =
    subst (λ b. Has holds.image holds.image b) (sym first) (c.on-opened.ensures.has holds.image fits holds.holds) in
    let turned : TurnsIn limits formatted step fault (buckets_of maps) done =
    c.import-done.ensures.turns limits holds.image (ap (λ b. limit_in b) first ∙ c.on-opened.ensures.limit) had holds.means in
    let turns : TurnsIn limits formatted step fault old new =
    subst (λ b. TurnsIn limits formatted step fault b new) first
    (subst (λ b. TurnsIn limits formatted step fault (buckets_of maps) b) (sym c.close.ensures) turned) in
    let last : disk_under (journal_of (chains_of new)) ≡ c.disk-1.given.0 = search rules in
    turns_on fault old new c.hand_back-disk.new.kept
    (c.hand_back-disk.ensures.whole, c.hand_back-disk.ensures.fits) ends limits formatted step turns
    c.args.disk.now c.disk-1.given.0 c.on-opened.ensures.disk last

pub returns-clause-ends : goal.returns-clause-ends
returns-clause-ends g c =
    let fault = result_err c.import-done.result in
    let maps = c.over-maps.result in
    let old = c.on-opened.result in
    let new = c.close.result in
    let step = Import c.args.style.now c.args.style_bytes.now c.args.buckets c.args.change in
    let ends : EndsIn (Some step) fault old new =
    subst (λ b. EndsIn (Some step) fault b new) c.over-maps.ensures.buckets
    (subst (λ b. EndsIn (Some step) fault (buckets_of maps) b) (sym c.close.ensures) c.import-done.ensures.ends) in
    let last : disk_under (journal_of (chains_of new)) ≡ c.disk-1.given.0 = search rules in
    ends_on fault old new c.hand_back-disk.new.kept
    (c.hand_back-disk.ensures.whole, c.hand_back-disk.ensures.fits) ends c.args.disk.now c.disk-1.given.0
    c.on-opened.ensures.disk last

-- a sound store into which nothing was imported
pub returns-clause-sound : goal.returns-clause-sound
returns-clause-sound g c fits holds =
    let fault = result_err c.import-done.result in
    let maps = c.over-maps.result in
    let old = c.on-opened.result in
    let done = buckets_of c.import-done.new.maps in
    let new = c.close.result in
    let first = c.over-maps.ensures.buckets in
    let limits = c.args.limits.now in
    let step = Import c.args.style.now c.args.style_bytes.now c.args.buckets c.args.change in
    let ends : EndsIn (Some step) fault old new =
    subst (λ b. EndsIn (Some step) fault b new) first
    (subst (λ b. EndsIn (Some step) fault (buckets_of maps) b) (sym c.close.ensures) c.import-done.ensures.ends) in
    let had : Has holds.image holds.image (buckets_of maps) =
    subst (λ b. Has holds.image holds.image b) (sym first) (c.on-opened.ensures.has holds.image fits holds.holds) in
    let turned : TurnsSound limits formatted step fault (buckets_of maps) done =
    c.import-done.ensures.sound limits holds.image (ap (λ b. limit_in b) first ∙ c.on-opened.ensures.limit) had holds.is in
    let turns : TurnsSound limits formatted step fault old new =
    subst (λ b. TurnsSound limits formatted step fault b new) first
    (subst (λ b. TurnsSound limits formatted step fault (buckets_of maps) b) (sym c.close.ensures) turned) in
    let last : disk_under (journal_of (chains_of new)) ≡ c.disk-1.given.0 = search rules in
    sound_on fault old new c.hand_back-disk.new.kept
    (c.hand_back-disk.ensures.whole, c.hand_back-disk.ensures.fits) ends limits formatted step turns
    c.args.disk.now c.disk-1.given.0 c.on-opened.ensures.disk last
