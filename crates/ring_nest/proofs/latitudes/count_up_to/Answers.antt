use Rattle.std.proofs.Common.{rules, sym, nat_le}
use Rattle.std.proofs.lemmas.List.Sorted.{IsPartitionPoint-from_clause, IsPartitionedBy-leb}
use Rattle.ring_nest.proofs.Lats.{point_count}
use Rattle.ring_nest.proofs.latitudes.count_up_to.Goals as goal

pub returns : goal.returns
returns c =
    let parted = IsPartitionedBy-leb (λ own. own) c.args.lats.now c.args.north c.requires.sorted in
    let point = IsPartitionPoint-from_clause (λ own. nat_le own c.args.north) _ _ c.partition_point.ensures.partitioned parted (λ a r q k. search rules) in
    sym (point_count (λ own. nat_le own c.args.north) c.args.lats.now _ c.partition_point.ensures.bound point)
