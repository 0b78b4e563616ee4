-- A look at a follower's store, within its buckets.
use Rattle.std.proofs.Common.{◌≡◌, Option, None}
use Rattle.outside.specs.declared.disk.Disk.{Ghosts}
use Rattle.bucket_store.specs.Image.{Image, OnlyLooks, RestsAt}
use Rattle.bucket_store.specs.declared.buckets.Buckets.{Buckets}
use Rattle.update_flow.specs.Refusals.{OrBreaks}
use Rattle.update_flow.specs.Stands.{Means}
use Rattle.update_flow.specs.State.{Following, following}
use Rattle.update_flow.specs.Turning.{LooksIn}
use Rattle.update_flow.specs.declared.fault.FlowFault.{FlowFault}
use Rattle.update_flow.proofs.Turning.{looked_rests, looked_state}

module _ {D : Type 0} {g : Ghosts D} where
  pub follower_look : (held : Following) (fault : Option FlowFault) (rest : Image) (old new : Buckets D g) → RestsAt rest old
      → Means (following held) rest → OnlyLooks old new → OrBreaks fault (fault ≡ None) → LooksIn (following held) fault old new
  follower_look held fault rest old new rests means looks may = record {
    answer = may;
    only = looks.looked.stays;
    stays = λ no. looked_rests (following held) rest old new rests means looks;
    moments = looked_state (following held) rest old new rests means looks;
  }
