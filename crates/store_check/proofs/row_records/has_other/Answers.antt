use Rattle.std.proofs.Common.{◌%◌, ◌/◌, ap, sym, ◌∙◌}
use Rattle.std.specs.Prelude.{is_some, if◌then◌else◌}
use Rattle.std.specs.FinMap as finite
use Rattle.store_check.specs.Held.{HeldOf}
use Rattle.store_check.proofs.RowFound.{even_is, odd_is}
use Rattle.store_check.proofs.Trees.{got_id}
use Rattle.store_check.proofs.row_records.has_other.Goals as goal

pub returns-then-number-eq0 : goal.returns-then-number-eq0
returns-then-number-eq0 c = record {
  there =
      let id = c.args.number / 2 in
      let own = c.args.held.now in
      c.contains_key.ensures
      ∙ ap is_some (got_id c.held.inside.ways id ∙ ap (λ (held : HeldOf). finite.get held.ways id) c.held.view_is)
      ∙ sym (ap (λ b. is_some (if b then finite.get own.ways id else finite.get own.relations id))
      (even_is (c.args.number % 2) c.if-number-eq0.true));
}

pub returns-else-number-eq0 : goal.returns-else-number-eq0
returns-else-number-eq0 c = record {
  there =
      let id = c.args.number / 2 in
      let own = c.args.held.now in
      c.contains_key-else-number-eq0.ensures
      ∙ ap is_some (got_id c.held.inside.relations id ∙ ap (λ (held : HeldOf). finite.get held.relations id) c.held.view_is)
      ∙ sym (ap (λ b. is_some (if b then finite.get own.ways id else finite.get own.relations id))
      (odd_is (c.args.number % 2) c.if-number-eq0.false));
}
