use Rattle.std.proofs.Common.{rules, arith, get_or}
use Rattle.std.proofs.lemmas.List.Sorted.{IsPartitionPoint-from_clause}
use Rattle.tile_cover.specs.declared.runs.Run.{Run}
use Rattle.tile_cover.specs.Runs.{Follows, start_of}
use Rattle.due_tiles.proofs.Splicing.{all_taken, before_first, before_is, is_before}
use Rattle.due_tiles.proofs.joining.count_before.Goals as goal

pub returns-clause-before : goal.returns-clause-before
returns-clause-before c =
    let none : Run = record { zoom = 0; y = 0; first = 0; last = 0 } in
    let start = start_of c.args.run in
    let point = IsPartitionPoint-from_clause (is_before start) _ _ c.partition_point.ensures.partitioned
    (before_first c.args.part.runs.now start c.args.part.set) (λ a r q k. search rules) in
    all_taken (λ own. Follows own c.args.run) c.args.part.runs.now c.partition_point.result none
    (λ k h i. before_is start (get_or c.args.part.runs.now k none) (point.0 k none (omega arith) i))
