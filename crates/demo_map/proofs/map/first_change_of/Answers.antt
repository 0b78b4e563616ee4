use Rattle.std.proofs.Common.{◌∙◌, arith}
use Rattle.demo_map.specs.Demo.{squares}
use Rattle.demo_map.specs.declared.parts.Part.TheVariants as parts
use Rattle.demo_map.proofs.PartLists.{few_in_all, moved_by}
use Rattle.demo_map.proofs.map.first_change_of.Goals as goal

pub returns-clause-entries : goal.returns-clause-entries
returns-clause-entries c =
    c.in_ok-keep_part.ensures.ok ∙ rw c.new-change.ensures.empty (moved_by c.args.squares.count (squares c.args.squares.count))

pub returns-clause-few : goal.returns-clause-few
returns-clause-few c =
    let few = few_in_all parts.Moved c.args.squares.count c.args.squares.count in
    rw (c.in_ok-keep_part.ensures.ok, c.new-change.ensures.empty) (omega (arith, few, c.args.squares.few))
