-- A store of either kind, as its opening finds it: one that was only made or imported, or one that follows another.
use Rattle.std.specs.Prelude.{◌≡◌, List, ℕ, Option, Result, is_some, true}
use Rattle.outside.specs.Bytes.{IfTold}
use Rattle.outside.specs.Disk.{DiskView}
use Rattle.chain_store.specs.declared.root.Root.{Root}
use Rattle.update_flow.specs.Follower.{FoundBase}
use Rattle.update_flow.specs.Opening.{AreOfFollower, Found, IfRoot, OpensWith}
use Rattle.update_flow.specs.Roots.{AreFieldsOf}
use Rattle.update_flow.specs.SoundTurns.{FindsSound, OpensSoundWith}
use Rattle.update_flow.specs.State.{State, follows}
use Rattle.update_flow.specs.declared.either.Either.{Either}
use Rattle.update_flow.specs.declared.either.Either.TheVariants as either
use Rattle.update_flow.specs.declared.fault.FlowFault.{FlowFault}

-- what an opening has found is a store of this state, on a disk like this
abbrev pub FoundEither : State → DiskView → Either → Type 0
FoundEither state disk (either.Updates opened) = Found state disk opened
FoundEither state disk (either.Follows base) = (follows state ≡ true) × FoundBase state disk base

-- the fields of what was found
abbrev pub AreFieldsForEither : Either → Root → Type 0
AreFieldsForEither (either.Updates opened) root = AreFieldsOf opened.style opened.outdated opened.changes root
AreFieldsForEither (either.Follows base) root = (is_some base.style ≡ true) × AreOfFollower base.version root

-- bytes with such a root page are those of what was found
abbrev pub EitherTold : Option (List ℕ) → Either → Type 0
EitherTold content (either.Updates opened) = IfTold content (IfRoot (AreFieldsOf opened.style opened.outdated opened.changes))
EitherTold content (either.Follows base) = (is_some base.style ≡ true) × IfTold content (IfRoot (AreOfFollower base.version))

-- whatever a disk holds, its opening is answered so and leaves it so
abbrev pub OpensEither : (old new : DiskView) → Result Either FlowFault → Type 0
OpensEither old new result = OpensWith EitherTold old new result

-- a sound store is found to be so, and no follower's
abbrev pub FindsSoundEither : DiskView → Either → Type 0
FindsSoundEither disk (either.Updates opened) = FindsSound disk opened
FindsSoundEither disk (either.Follows base) = ⊥

abbrev pub OpensSoundEither : DiskView → Result Either FlowFault → Type 0
OpensSoundEither disk result = OpensSoundWith FindsSoundEither disk result
