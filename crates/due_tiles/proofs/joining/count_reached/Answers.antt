use Rattle.std.proofs.Common.{rules, get_or}
use Rattle.std.proofs.lemmas.List.Sorted.{IsPartitionPoint-from_clause}
use Rattle.tile_cover.specs.declared.runs.Run.{Run}
use Rattle.tile_cover.specs.Runs.{Follows, end_of}
use Rattle.due_tiles.proofs.Splicing.{all_left, begun_first, behind_is, is_begun}
use Rattle.due_tiles.proofs.joining.count_reached.Goals as goal

pub returns-clause-behind : goal.returns-clause-behind
returns-clause-behind c =
    let none : Run = record { zoom = 0; y = 0; first = 0; last = 0 } in
    let end = end_of c.args.run in
    let point = IsPartitionPoint-from_clause (is_begun end) _ _ c.partition_point.ensures.partitioned
    (begun_first c.args.part.runs.now end c.args.part.set) (λ a r q k. search rules) in
    all_left (Follows c.args.run) c.args.part.runs.now c.partition_point.result none
    (λ k h i. behind_is end (get_or c.args.part.runs.now k none) (point.1 k none h i))
