use Rattle.std.proofs.Common.{rules, arith, int_lt, pos}
use Rattle.std.proofs.lemmas.List.Sorted.{IsPartitionPoint-from_clause}
use Rattle.tile_cover.proofs.Rows.{is_partitioned, lt_north, not_lt_north}
use Rattle.tile_cover.proofs.bounds.count_north_of.Goals as goal

pub returns-clause-north : goal.returns-clause-north
returns-clause-north c =
    let parted = is_partitioned c.args.lats.now c.args.lat c.requires in
    let point = IsPartitionPoint-from_clause (int_lt c.args.lat) _ _ c.partition_point.ensures.partitioned parted
    (λ a r q k. search rules) in
    λ k h. lt_north _ _ (point.0 k (pos 0) (omega arith) h)

pub returns-clause-others : goal.returns-clause-others
returns-clause-others c =
    let parted = is_partitioned c.args.lats.now c.args.lat c.requires in
    let point = IsPartitionPoint-from_clause (int_lt c.args.lat) _ _ c.partition_point.ensures.partitioned parted
    (λ a r q k. search rules) in
    λ k h l. not_lt_north _ _ (point.1 k (pos 0) h l)
