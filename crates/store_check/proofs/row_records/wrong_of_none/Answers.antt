use Rattle.std.proofs.Common.{refl, sym, ◌∙◌}
use Rattle.store_check.proofs.RowFound.{other_missing, other_there}
use Rattle.store_check.proofs.row_records.wrong_of_none.Goals as goal

pub returns-then-has_other : goal.returns-then-has_other
returns-then-has_other c = record {
  found = λ style rest nodes ways relations tells bytes kept none.
      absurd (other_there style rest nodes ways relations c.args.held.now tells c.args.number
      (sym c.has_other.ensures.there ∙ c.if-has_other.true) none);
}

pub returns-else-has_other : goal.returns-else-has_other
returns-else-has_other c = record {
  found = λ style rest nodes ways relations tells bytes kept. (
    refl,
    other_missing style rest nodes ways relations c.args.held.now tells c.args.number bytes kept
        (sym c.has_other.ensures.there ∙ c.if-has_other.false),
  );
}
