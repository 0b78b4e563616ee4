use Rattle.std.proofs.Common.{◌∙◌}
use Rattle.piece_ends.proofs.Taken.{unused_of-replicate}
use Rattle.piece_ends.proofs.unused.UnusedPieces.new.Goals as goal

pub returns : goal.returns
returns c = record {
  all = rw (c.in_ok-used.ensures.items_if_clones_equal (λ y e. e))
      (unused_of-replicate c.as_slice-pieces.result.now ∙ c.as_slice-pieces.ensures.items);
}
