-- A tree of spots has them by table and then by key.
use Rattle.std.proofs.Common.{◌≡◌, ℕ, refl, ◌∙◌, ap}
use Rattle.std.specs.BTreeMap.{BTreeMap, get_by}
use Rattle.std.specs.FinMap as finite
use Rattle.std.specs.FinMap.{IsAntisymmetric, nat_cmp-IsAntisymmetric}
use Rattle.std.specs.Cmp.{IsTotalOrder, nat_cmp_total, on_total, then_total}
use Rattle.std.specs.declared.cmp.Ordering.{Ordering}
use Rattle.std.specs.Ordering.{nat_cmp}
use Rattle.osm_base.specs.declared.values.key.Kind.{Kind}
use Rattle.osm_base.specs.declared.values.key.Kind.TheVariants.{Node, Way, Relation}
use Rattle.osm_base.specs.declared.values.row.Row.{Row}
use Rattle.osm_base.specs.contracts.map.tables.SpotOrd.TheImpl.{cmp-value}
use Rattle.osm_base.specs.values.KeyOrder.{key_cmp}
use Rattle.osm_base.specs.map.Spots.{SpotOf, spot_cmp}
use Rattle.osm_base.specs.map.SpotTree.{rows_in}
use Rattle.osm_base.proofs.Found.{found}
use Rattle.osm_base.proofs.KeyLaws.{both_equal, key_cmp_total, key_cmp-IsAntisymmetric}

abbrev pub tree_cmp : SpotOf → SpotOf → Ordering
tree_cmp = cmp-value.it

abbrev spot : ℕ → Kind → ℕ → SpotOf
spot table kind id = record { table = table; key = record { kind = kind; id = id } }

same_order : (table own : ℕ) (kind other : Kind) (id else : ℕ)
    → tree_cmp (spot table kind id) (spot own other else) ≡ spot_cmp (spot table kind id) (spot own other else)
same_order table own Node Node id else = refl
same_order table own Node Way id else = refl
same_order table own Node Relation id else = refl
same_order table own Way Node id else = refl
same_order table own Way Way id else = refl
same_order table own Way Relation id else = refl
same_order table own Relation Node id else = refl
same_order table own Relation Way id else = refl
same_order table own Relation Relation id else = refl

pub tree_cmp-spot_cmp : tree_cmp ≡ spot_cmp
tree_cmp-spot_cmp = λ i one other. same_order one.table other.table one.key.kind other.key.kind one.key.id other.key.id i

pub spot_cmp_total : IsTotalOrder spot_cmp
spot_cmp_total = then_total (on_total (λ spot. spot.table) nat_cmp_total) (on_total (λ spot. spot.key) key_cmp_total)

pub spot_cmp-IsAntisymmetric : IsAntisymmetric spot_cmp
spot_cmp-IsAntisymmetric one other e =
    let p = both_equal (nat_cmp one.table other.table) (key_cmp one.key other.key) e in
    let tables = nat_cmp-IsAntisymmetric one.table other.table p.0 in
    let keys = key_cmp-IsAntisymmetric one.key other.key p.1 in
    λ i. record { table = tables i; key = keys i }

-- a look-up in a tree of rows
pub got : (tree : BTreeMap SpotOf Row) (spot : SpotOf) → get_by (tree_cmp spot) tree ≡ finite.get (rows_in tree) spot
got tree spot = ap (λ cmp. get_by (cmp spot) tree) tree_cmp-spot_cmp
    ∙ found spot_cmp spot_cmp_total spot_cmp-IsAntisymmetric spot tree.entries
