-- What the buckets say is said of the disk under them.
use Rattle.std.proofs.Common.{◌≡◌, None, rules, sym}
use Rattle.std.specs.Result.{result_err}
use Rattle.page_journal.specs.Journal.{disk_of as disk_under}
use Rattle.chain_store.specs.Chains.{journal_of}
use Rattle.bucket_store.specs.Transaction.{chains_of}
use Rattle.bucket_store.proofs.Holding.{rests_under}
use Rattle.update_flow.specs.State.{imported}
use Rattle.update_flow.proofs.Carrying.{ends_on, looks_on, ok_then}
use Rattle.update_flow.proofs.Looking.{looked_stays}
use Rattle.update_flow.proofs.Openings.{sound_answer}
use Rattle.update_flow.proofs.SoundCarried.{looked_on}
use Rattle.update_flow.proofs.Turning.{looks_at, runs_ended}
use Rattle.update_flow.proofs.over_disk.due_on.Goals as goal

pub returns-clause-looks : goal.returns-clause-looks
returns-clause-looks g c =
    let last : disk_under (journal_of (chains_of c.load_due-due.new.buckets)) ≡ c.disk-1.given.0 = search rules in
    λ held fits holds.
    let fault = result_err c.load_due-due.result in
    let old = c.on-buckets.result in
    let new = c.load_due-due.new.buckets in
    let has = c.on-buckets.ensures.has holds.image fits holds.holds in
    looks_on fault old new c.hand_back-disk.new.kept (c.hand_back-disk.ensures.whole, c.hand_back-disk.ensures.fits)
    (runs_ended {call = None} fault old new c.load_due-due.ensures.goes.runs)
    (imported held) (looks_at held fault holds.image old new
    (rests_under holds.image holds.image old has) holds.means c.load_due-due.ensures.goes.runs.looks
    (sound_answer fault (c.load_due-due.ensures.sound holds.image holds.image held has holds.means))) c.args.disk.now c.disk-1.given.0
    c.on-buckets.ensures.disk last

pub returns-clause-due : goal.returns-clause-due
returns-clause-due g c =
    ok_then c.load_due-due.result _ _
    (λ found due held fits holds. due holds.image holds.image held (c.on-buckets.ensures.has holds.image fits holds.holds) holds.means)
    c.load_due-due.ensures.due

pub returns-clause-ends : goal.returns-clause-ends
returns-clause-ends g c =
    search (
      rules,
      ends_on (result_err c.load_due-due.result) c.on-buckets.result c.load_due-due.new.buckets c.hand_back-disk.new.kept
          (c.hand_back-disk.ensures.whole, c.hand_back-disk.ensures.fits)
          (runs_ended {call = None} (result_err c.load_due-due.result) c.on-buckets.result c.load_due-due.new.buckets
          c.load_due-due.ensures.goes.runs),
    )

pub returns-clause-stays : goal.returns-clause-stays
returns-clause-stays g c =
    let last : disk_under (journal_of (chains_of c.load_due-due.new.buckets)) ≡ c.disk-1.given.0 = search rules in
    looked_stays c.on-buckets.result c.load_due-due.new.buckets c.args.disk.now c.disk-1.given.0 c.on-buckets.ensures.disk
    (sym last) c.load_due-due.ensures.goes.runs.looks

-- a sound store
pub returns-clause-sound : goal.returns-clause-sound
returns-clause-sound g c =
    let last : disk_under (journal_of (chains_of c.load_due-due.new.buckets)) ≡ c.disk-1.given.0 = search rules in
    λ held fits holds.
    let fault = result_err c.load_due-due.result in
    let old = c.on-buckets.result in
    let new = c.load_due-due.new.buckets in
    let has = c.on-buckets.ensures.has holds.image fits holds.holds in
    looked_on fault old new c.hand_back-disk.new.kept (c.hand_back-disk.ensures.whole, c.hand_back-disk.ensures.fits)
    (runs_ended {call = None} fault old new c.load_due-due.ensures.goes.runs)
    (imported held) holds.image (rests_under holds.image holds.image old has) holds.is c.load_due-due.ensures.goes.runs.looks
    (sound_answer fault (c.load_due-due.ensures.spelled holds.image holds.image held.due has holds.is.due)) c.disk-1.given.0 last
