-- The order of marks.
use Rattle.std.proofs.Common.{◌≡◌, ℕ, refl}
use Rattle.std.specs.FinMap.{IsAntisymmetric, nat_cmp-IsAntisymmetric}
use Rattle.std.specs.Cmp.{IsTotalOrder, nat_cmp_total, on_total, then_total}
use Rattle.std.specs.declared.cmp.Ordering.{Ordering}
use Rattle.std.specs.Ordering.{nat_cmp, ordering_then}
use Rattle.osm_base.specs.declared.values.key.Kind.{Kind}
use Rattle.osm_base.specs.declared.values.key.Kind.TheVariants.{Node, Way, Relation}
use Rattle.osm_base.specs.values.KeyOrder.{key_cmp}
use Rattle.osm_base.proofs.KeyLaws.{both_equal, key_cmp_total, key_cmp-IsAntisymmetric}
use Rattle.grid_index.specs.contracts.marks.MarkOrd.TheImpl.{cmp-value}
use Rattle.grid_index.specs.declared.marks.Mark.{Mark}
use Rattle.grid_index.specs.Marks.{mark_cmp}

abbrev pub tree_cmp : Mark → Mark → Ordering
tree_cmp = cmp-value.it

abbrev mark : ℕ → ℕ → Kind → ℕ → Mark
mark table part kind id = record { table = table; part = part; key = record { kind = kind; id = id } }

same_order : (table part own place : ℕ) (kind other : Kind) (id else : ℕ)
    → tree_cmp (mark table part kind id) (mark own place other else) ≡ mark_cmp (mark table part kind id) (mark own place other else)
same_order table part own place Node Node id else = refl
same_order table part own place Node Way id else = refl
same_order table part own place Node Relation id else = refl
same_order table part own place Way Node id else = refl
same_order table part own place Way Way id else = refl
same_order table part own place Way Relation id else = refl
same_order table part own place Relation Node id else = refl
same_order table part own place Relation Way id else = refl
same_order table part own place Relation Relation id else = refl

pub tree_cmp-mark_cmp : tree_cmp ≡ mark_cmp
tree_cmp-mark_cmp = λ i one other. same_order one.table one.part other.table other.part one.key.kind other.key.kind one.key.id other.key.id
    i

pub mark_cmp_total : IsTotalOrder mark_cmp
mark_cmp_total = then_total (on_total (λ mark. mark.table) nat_cmp_total)
    (then_total (on_total (λ mark. mark.part) nat_cmp_total) (on_total (λ mark. mark.key) key_cmp_total))

pub mark_cmp-IsAntisymmetric : IsAntisymmetric mark_cmp
mark_cmp-IsAntisymmetric one other e =
    let first = both_equal (nat_cmp one.table other.table) (ordering_then (nat_cmp one.part other.part) (key_cmp one.key other.key)) e in
    let second = both_equal (nat_cmp one.part other.part) (key_cmp one.key other.key) first.1 in
    let tables = nat_cmp-IsAntisymmetric one.table other.table first.0 in
    let parts = nat_cmp-IsAntisymmetric one.part other.part second.0 in
    let keys = key_cmp-IsAntisymmetric one.key other.key second.1 in
    λ i. record { table = tables i; part = parts i; key = keys i }
