use Rattle.std.proofs.Common.{◌∙◌, ap}
use Rattle.std.specs.FinMap as map
use Rattle.piece_ends.specs.Heads.{HeadMap}
use Rattle.piece_ends.proofs.PlaceTree.{found}
use Rattle.piece_ends.proofs.heads.Heads.at.Goals as goal

pub returns : goal.returns
returns c = record {
  number =
      c.copied.ensures ∙ c.get.ensures.value
      ∙ found c.args.place c.self.inside.heads.entries
      ∙ ap (λ (own : HeadMap). map.get own c.args.place) c.self.view_is;
}
