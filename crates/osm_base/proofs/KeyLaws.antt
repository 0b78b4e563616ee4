-- The order that the code has of keys is that of a file. It is total, and no two keys tie.
use Rattle.std.proofs.Common.{◌≡◌, ℕ, zero, suc, refl, sym, ◌∙◌, ap}
use Rattle.std.specs.FinMap.{IsAntisymmetric, nat_cmp-IsAntisymmetric}
use Rattle.std.specs.Cmp.{IsTotalOrder, nat_cmp_total, on_total, then_total}
use Rattle.std.specs.declared.cmp.Ordering.{Ordering}
use Rattle.std.specs.declared.cmp.Ordering.TheVariants.{Less, Equal, Greater}
use Rattle.std.specs.Ordering.{nat_cmp, ordering_then}
use Rattle.osm_base.specs.declared.values.key.Kind.{Kind}
use Rattle.osm_base.specs.declared.values.key.Kind.TheVariants.{Node, Way, Relation}
use Rattle.osm_base.specs.contracts.values.key.KeyOrd.TheImpl.{cmp-value}
use Rattle.osm_base.specs.values.Key.{KeyOf}
use Rattle.osm_base.specs.values.KeyOrder.{rank, key_cmp}

abbrev pub tree_cmp : KeyOf → KeyOf → Ordering
tree_cmp = cmp-value.it

abbrev key : Kind → ℕ → KeyOf
key kind id = record { kind = kind; id = id }

same_order : (kind other : Kind) (id own : ℕ) → tree_cmp (key kind id) (key other own) ≡ key_cmp (key kind id) (key other own)
same_order Node Node id own = refl
same_order Node Way id own = refl
same_order Node Relation id own = refl
same_order Way Node id own = refl
same_order Way Way id own = refl
same_order Way Relation id own = refl
same_order Relation Node id own = refl
same_order Relation Way id own = refl
same_order Relation Relation id own = refl

pub tree_cmp-key_cmp : tree_cmp ≡ key_cmp
tree_cmp-key_cmp = λ i key other. same_order key.kind other.kind key.id other.id i

pub key_cmp_total : IsTotalOrder key_cmp
key_cmp_total = then_total (on_total (λ key. rank key.kind) nat_cmp_total) (on_total (λ key. key.id) nat_cmp_total)

-- two orders, one after the other, tie where both tie
pub both_equal : (first second : Ordering) → ordering_then first second ≡ Equal → (first ≡ Equal) × (second ≡ Equal)
both_equal Less second e = absurd (cc)
both_equal Equal second e = (refl, e)
both_equal Greater second e = absurd (cc)

-- the kind of a rank
abbrev kind_at : ℕ → Kind
kind_at zero = Node
kind_at (suc zero) = Way
kind_at (suc (suc n)) = Relation

kind_at-rank : (kind : Kind) → kind_at (rank kind) ≡ kind
kind_at-rank Node = refl
kind_at-rank Way = refl
kind_at-rank Relation = refl

same_kind : (kind other : Kind) → rank kind ≡ rank other → kind ≡ other
same_kind kind other e = sym (kind_at-rank kind) ∙ ap kind_at e ∙ kind_at-rank other

pub key_cmp-IsAntisymmetric : IsAntisymmetric key_cmp
key_cmp-IsAntisymmetric key other e =
    let p = both_equal (nat_cmp (rank key.kind) (rank other.kind)) (nat_cmp key.id other.id) e in
    let kinds = same_kind key.kind other.kind (nat_cmp-IsAntisymmetric (rank key.kind) (rank other.kind) p.0) in
    let ids = nat_cmp-IsAntisymmetric key.id other.id p.1 in
    λ i. record { kind = kinds i; id = ids i }
