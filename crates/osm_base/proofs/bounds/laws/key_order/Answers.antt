use Rattle.osm_base.proofs.KeyLaws.{key_cmp_total, key_cmp-IsAntisymmetric, tree_cmp-key_cmp}
use Rattle.osm_base.proofs.bounds.laws.key_order.Goals as goal

pub returns : goal.returns
returns c = record { same = tree_cmp-key_cmp; total = key_cmp_total; alone = key_cmp-IsAntisymmetric }
