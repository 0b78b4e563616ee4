-- The tree has what the map has.
use Rattle.std.proofs.Common.{List, ℕ, Some, sym, ap, ◌∙◌}
use Rattle.bucket_store.proofs.Wholes.{tree_get}
use Rattle.bucket_store.proofs.whole.WholeMap.get.Goals as goal

pub returns-in-Some : goal.returns-in-Some
returns-in-Some c = record {
  value = sym (tree_get c.args.key c.self.inside.tree.entries c.args.self.now c.self.view_is) ∙ sym c.in-Some.ensures.value
      ∙ ap (λ (bytes : List ℕ). Some bytes) (sym c.as_slice.ensures.items);
}

pub returns-in-None : goal.returns-in-None
returns-in-None c = record {
  value = sym (tree_get c.args.key c.self.inside.tree.entries c.args.self.now c.self.view_is) ∙ sym c.in-None.ensures.value;
}
