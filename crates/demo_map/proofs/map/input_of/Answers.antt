use Rattle.std.proofs.Common.{◌++◌, arith, None}
use Rattle.std.specs.Prelude.{flat_map}
use Rattle.std.proofs.lemmas.List.{length-append}
use Rattle.object_fold.specs.Change.{last_key}
use Rattle.demo_map.specs.Demo.{nodes_of, squares}
use Rattle.demo_map.specs.Parts.{made_by}
use Rattle.demo_map.specs.declared.parts.Part.TheVariants as parts
use Rattle.demo_map.proofs.KeyOrders.{routes_behind, ways_behind}
use Rattle.demo_map.proofs.PartLists.{few_in_all, few_nodes, routes_by, ways_by}
use Rattle.demo_map.proofs.map.input_of.Goals as goal

pub keep_part-requires : goal.keep_part-requires
keep_part-requires c = record {
  follows = ways_behind c.args.squares.count (last_key None c.keep_all_nodes.new.change) c.in_ok-keep_all_nodes.ensures.next;
}

pub keep_part-requires-2 : goal.keep_part-requires-2
keep_part-requires-2 c = record {
  follows = routes_behind c.args.squares.count (last_key None c.keep_part.new.change) c.in_ok-keep_part.ensures.next;
}

pub returns-clause-entries : goal.returns-clause-entries
returns-clause-entries c =
    let all = squares c.args.squares.count in
    rw (
      c.in_ok-keep_part-2.ensures.ok,
      c.in_ok-keep_part.ensures.ok,
      c.in_ok-keep_all_nodes.ensures.ok,
      c.new-change.ensures.empty,
      ways_by c.args.squares.count all,
      routes_by c.args.squares.count all,
    )

pub returns-clause-few : goal.returns-clause-few
returns-clause-few c =
    let count = c.args.squares.count in
    let nodes = few_nodes count in
    let ways = few_in_all parts.Ways count count in
    let routes = few_in_all parts.Routes count count in
    let made_nodes = flat_map nodes_of (squares count) in
    let made_ways = made_by parts.Ways count (squares count) in
    rw (
      c.in_ok-keep_part-2.ensures.ok,
      c.in_ok-keep_part.ensures.ok,
      c.in_ok-keep_all_nodes.ensures.ok,
      c.new-change.ensures.empty,
      length-append (made_nodes ++ made_ways) (made_by parts.Routes count (squares count)),
      length-append made_nodes made_ways,
    )
    (omega (arith, nodes, ways, routes, c.args.squares.few))
