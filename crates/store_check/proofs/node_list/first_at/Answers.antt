-- Those before come first.
use Rattle.std.proofs.Common.{ℕ, rules, arith, get_or}
use Rattle.std.specs.Prelude.{nat_lt}
use Rattle.std.proofs.lemmas.List.Sorted.{IsPartitionPoint-from_clause, IsPartitionedBy-ltb}
use Rattle.osm_base.specs.values.Place.{PlaceOf}
use Rattle.store_check.specs.Places.{id_of}
use Rattle.store_check.proofs.ListRuns.{is_less, not_less}
use Rattle.store_check.proofs.node_list.first_at.Goals as goal

pub returns-clause-before : goal.returns-clause-before
returns-clause-before c at own first within =
    let point = IsPartitionPoint-from_clause (λ (one : ℕ × PlaceOf). nat_lt one.0 c.args.id) _ _ c.partition_point.ensures.partitioned
    (IsPartitionedBy-ltb id_of c.args.listed.now c.args.id c.requires.order) (λ a r q k. search rules) in
    is_less (get_or c.args.listed.now at own).0 c.args.id (point.0 at own (omega arith) first)

pub returns-clause-behind : goal.returns-clause-behind
returns-clause-behind c at own past within =
    let point = IsPartitionPoint-from_clause (λ (one : ℕ × PlaceOf). nat_lt one.0 c.args.id) _ _ c.partition_point.ensures.partitioned
    (IsPartitionedBy-ltb id_of c.args.listed.now c.args.id c.requires.order) (λ a r q k. search rules) in
    not_less (get_or c.args.listed.now at own).0 c.args.id (point.1 at own past within)
