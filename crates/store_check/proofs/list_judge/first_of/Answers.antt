-- Those before come first.
use Rattle.std.proofs.Common.{rules, arith, get_or}
use Rattle.std.specs.Prelude.{nat_lt}
use Rattle.std.proofs.lemmas.List.Sorted.{IsPartitionPoint-from_clause, IsPartitionedBy-ltb}
use Rattle.back_index.specs.Filling.{id_of}
use Rattle.back_index.specs.declared.mentions.Mention.{Mention}
use Rattle.store_check.proofs.ListRuns.{is_less, not_less}
use Rattle.store_check.proofs.list_judge.first_of.Goals as goal

pub returns-clause-before : goal.returns-clause-before
returns-clause-before c place own within =
    let point = IsPartitionPoint-from_clause (λ (m : Mention). nat_lt m.id c.args.id) _ _ c.partition_point.ensures.partitioned
    (IsPartitionedBy-ltb id_of c.args.mentions.now.all.now c.args.id c.args.mentions.now.order) (λ a r q k. search rules) in
    is_less (get_or c.args.mentions.now.all.now place own).id c.args.id (point.0 place own (omega arith) within)

pub returns-clause-behind : goal.returns-clause-behind
returns-clause-behind c place own past within =
    let point = IsPartitionPoint-from_clause (λ (m : Mention). nat_lt m.id c.args.id) _ _ c.partition_point.ensures.partitioned
    (IsPartitionedBy-ltb id_of c.args.mentions.now.all.now c.args.id c.args.mentions.now.order) (λ a r q k. search rules) in
    not_less (get_or c.args.mentions.now.all.now place own).id c.args.id (point.1 place own past within)
