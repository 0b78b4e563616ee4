use Rattle.std.proofs.Common.{rules, sym, nat_lt}
use Rattle.std.proofs.lemmas.List.Sorted.{IsPartitionPoint-from_clause, IsPartitionedBy-ltb}
use Rattle.ring_nest.proofs.Lats.{point_count}
use Rattle.ring_nest.proofs.latitudes.count_south.Goals as goal

pub returns : goal.returns
returns c =
    let parted = IsPartitionedBy-ltb (λ own. own) c.args.lats.now c.args.north c.requires.sorted in
    let point = IsPartitionPoint-from_clause (λ own. nat_lt own c.args.north) _ _ c.partition_point.ensures.partitioned parted (λ a r q k. search rules) in
    sym (point_count (λ own. nat_lt own c.args.north) c.args.lats.now _ c.partition_point.ensures.bound point)
