use Rattle.std.proofs.Common.{◌∷◌, ◌++◌, [], suc, drop, take, get_or}
use Rattle.osm_base.specs.map.Known.{RelationsOfWay}
use Rattle.dep_closure.specs.Questions.{of_ways}
use Rattle.dep_closure.proofs.Cuts.{map-cut, on_err}
use Rattle.dep_closure.proofs.relations.add_along.Goals as goal

pub returns-in_err-add_way-clause-asked_some : goal.returns-in_err-add_way-clause-asked_some
returns-in_err-add_way-clause-asked_some g c =
    let ways = c.args.ways.now in
    let at = c.loop-way.way-index in
    let asked = RelationsOfWay (get_or ways at 0) ∷ [] in
    on_err c.from_residual.result _ (
      of_ways (take at ways) ++ asked,
      of_ways (drop (suc at) ways),
      map-cut RelationsOfWay ways at 0 c.loop-way-test.true,
      g.met.B.Back.asks_then c.args.back.now c.loop-way.back c.add_way.new.back
          (of_ways (take at ways)) asked c.loop-way.invariant.asks.asked c.add_way.ensures.asked,
    )
