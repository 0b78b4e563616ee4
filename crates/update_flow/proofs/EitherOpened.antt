-- A store of either kind is opened.
use Rattle.std.proofs.Common.{◌≡◌, ◌≢◌, ℕ, List, Some, subst}
use Rattle.outside.specs.Disk.{DiskView, Stays}
use Rattle.page_journal.specs.Pages.{gate}
use Rattle.page_journal.specs.declared.layout.TheConstants.{OPEN}
use Rattle.chain_store.specs.declared.root.Root.{Root}
use Rattle.bucket_store.specs.Opening.{Fits, opened_root}
use Rattle.bucket_store.specs.declared.resting.Resting.{Resting}
use Rattle.update_flow.specs.Either.{AreFieldsForEither, EitherTold}
use Rattle.update_flow.specs.Opening.{AreOfFollower}
use Rattle.update_flow.specs.declared.either.Either.{Either}
use Rattle.update_flow.specs.declared.either.Either.TheVariants as either
use Rattle.update_flow.proofs.Openings.{root_told, told_by}

-- what was read of a disk that was only looked at tells its root page
pub either_told : (found : Resting) (old mid : DiskView) → ((bytes : List ℕ) → old.content ≡ Some bytes → gate bytes ≢ OPEN → Stays old mid)
    → ((bytes : List ℕ) → old.content ≡ Some bytes → Fits found mid) → (sorted : Either) → AreFieldsForEither sorted (opened_root found)
    → EitherTold old.content sorted
either_told found old mid stays fits (either.Updates opened) own = told_by found old mid stays fits (Some opened) own
either_told found old mid stays fits (either.Follows base) own = (
  own.0,
  λ bytes told shut pages home.
      subst (λ (r : Root). AreOfFollower base.version r)
      (root_told found bytes pages old mid told (stays bytes told shut) (fits bytes told) home) own.1,
)
