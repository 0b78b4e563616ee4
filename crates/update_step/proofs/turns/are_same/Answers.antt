use Rattle.std.proofs.Common.{Option, Some, Bor, sym, ap, ◌∙◌}
use Rattle.std.specs.Option.{option_copied}
use Rattle.osm_base.specs.declared.values.row.Row.{Row}
use Rattle.store_maps.specs.SameRows.{same_found}
use Rattle.update_step.proofs.KeyedLists.{told_same}
use Rattle.update_step.proofs.turns.are_same.Goals as goal

pub returns-in-Some-Some : goal.returns-in-Some-Some
returns-in-Some-Some c = record {
  same = told_same c.is_same.result c.in-Some-Some.one.now c.in-Some-Some.other.now c.is_same.ensures.same
      ∙ ap (λ (one : Option (Bor Row)). same_found (option_copied one) (Some c.in-Some-Some.other.now)) (sym c.in-Some-Some.is-0)
      ∙ ap (λ (other : Option (Bor Row)). same_found (option_copied c.args.one) (option_copied other)) (sym c.in-Some-Some.is-1);
}
