-- Trees of numbers as finite maps.
use Rattle.std.proofs.Common.{◌≡◌, ℕ, Some}
use Rattle.std.specs.BTreeMap.{BTreeMap, Updates, get_by}
use Rattle.std.specs.Cmp.{nat_cmp_total}
use Rattle.std.specs.FinMap as finite
use Rattle.std.specs.FinMap.{nat_cmp-IsAntisymmetric}
use Rattle.std.specs.Ordering.{nat_cmp}
use Rattle.osm_base.proofs.Found.{found, inserted}

pub got_id : {X : Type 0} (tree : BTreeMap ℕ X) (id : ℕ)
    → get_by (nat_cmp id) tree ≡ finite.get (finite.from_entries {R = nat_cmp} tree.entries) id
got_id tree id = found nat_cmp nat_cmp_total nat_cmp-IsAntisymmetric id tree.entries

pub put_id : {X : Type 0} (old new : BTreeMap ℕ X) (id : ℕ) (value : X) → Updates nat_cmp old new id (Some value)
    → finite.from_entries {R = nat_cmp} new.entries ≡ finite.insert (finite.from_entries old.entries) id value
put_id old new id value updates = inserted nat_cmp nat_cmp_total nat_cmp-IsAntisymmetric old new id value updates
