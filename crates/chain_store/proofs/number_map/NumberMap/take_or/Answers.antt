use Rattle.std.proofs.Common.{◌≡◌, Option, Some, None, ◌∙◌, ap}
use Rattle.std.specs.Cmp.{nat_cmp_total}
use Rattle.std.specs.Option.{unwrap_or}
use Rattle.std.specs.Ordering.{nat_cmp}
use Rattle.std.specs.FinMap as map
use Rattle.std.specs.FinMap.{nat_cmp-IsAntisymmetric}
use Rattle.osm_base.proofs.Found.{found, removed}
use Rattle.chain_store.proofs.number_map.NumberMap.take_or.Goals as goal

taken : {A : Type 0} (o : Option A) (value other : A) → Some value ≡ o → value ≡ unwrap_or o other
taken o value other is = ap (λ o. unwrap_or o other) is

left : {A : Type 0} (o : Option A) (other : A) → None ≡ o → other ≡ unwrap_or o other
left o other is = ap (λ o. unwrap_or o other) is

pub returns-in-Some : goal.returns-in-Some
returns-in-Some g c = record {
  value = taken (map.get c.args.self.now c.args.n) c.in-Some.value c.args.other
      (c.in-Some.ensures.value ∙ found nat_cmp nat_cmp_total nat_cmp-IsAntisymmetric c.args.n c.self.inside.tree.entries
      ∙ ap (λ numbers. map.get numbers c.args.n) c.self.view_is);
  rest = removed nat_cmp nat_cmp_total nat_cmp-IsAntisymmetric c.self.inside.tree c.remove.new.self c.args.n c.remove.ensures.updates
      ∙ ap (λ numbers. map.remove numbers c.args.n) c.self.view_is;
}

pub returns : goal.returns
returns g c = record {
  value = left (map.get c.args.self.now c.args.n) c.args.other
      (c.in_default.ensures.value ∙ found nat_cmp nat_cmp_total nat_cmp-IsAntisymmetric c.args.n c.self.inside.tree.entries
      ∙ ap (λ numbers. map.get numbers c.args.n) c.self.view_is);
  rest = removed nat_cmp nat_cmp_total nat_cmp-IsAntisymmetric c.self.inside.tree c.remove.new.self c.args.n c.remove.ensures.updates
      ∙ ap (λ numbers. map.remove numbers c.args.n) c.self.view_is;
}
