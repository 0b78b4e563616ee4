-- What the buckets say is said of the disk under them.
use Rattle.std.proofs.Common.{◌≡◌, rules}
use Rattle.std.specs.Result.{result_err}
use Rattle.page_journal.specs.Journal.{disk_of as disk_under}
use Rattle.chain_store.specs.Chains.{journal_of}
use Rattle.bucket_store.specs.Transaction.{chains_of}
use Rattle.delta_feed.specs.declared.block.Block.TheVariants as blocks
use Rattle.update_flow.specs.State.{Follow, following}
use Rattle.update_flow.proofs.Carrying.{ends_on, turns_on}
use Rattle.update_flow.proofs.over_disk.delta_on.Goals as goal

pub returns-clause-turns : goal.returns-clause-turns
returns-clause-turns g c =
    let last : disk_under (journal_of (chains_of c.take_delta-taken.new.buckets)) ≡ c.disk-1.given.0 = search rules in
    λ held fits holds same next.
    turns_on (result_err c.take_delta-taken.result) c.on-buckets.result c.take_delta-taken.new.buckets c.hand_back-disk.new.kept
    (c.hand_back-disk.ensures.whole, c.hand_back-disk.ensures.fits) c.take_delta-taken.ensures.ends c.args.limits.now
    (following held) (Follow (blocks.Delta c.args.delta))
    (c.take_delta-taken.ensures.turns c.args.limits.now held holds.image c.on-buckets.ensures.limit
    (c.on-buckets.ensures.has holds.image fits holds.holds) holds.means same next) c.args.disk.now c.disk-1.given.0 c.on-buckets.ensures.disk last

pub returns-clause-ends : goal.returns-clause-ends
returns-clause-ends g c =
    search (
      rules,
      ends_on (result_err c.take_delta-taken.result) c.on-buckets.result c.take_delta-taken.new.buckets c.hand_back-disk.new.kept
          (c.hand_back-disk.ensures.whole, c.hand_back-disk.ensures.fits) c.take_delta-taken.ensures.ends,
    )
