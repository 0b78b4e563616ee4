use Rattle.std.proofs.Common.{◌∙◌, ap}
use Rattle.std.specs.FinMap as map
use Rattle.osm_base.proofs.SpotOrder.{got}
use Rattle.osm_base.proofs.map.tables.Tables.get.Goals as goal

pub returns : goal.returns
returns c = record {
  row = c.get.ensures.value ∙ got c.self.inside.rows c.args.spot
      ∙ ap (λ tables. map.get tables c.args.spot) c.self.view_is;
}
