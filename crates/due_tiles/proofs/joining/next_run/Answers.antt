use Rattle.std.proofs.Common.{inl, inr, refl, sym, subst}
use Rattle.tile_cover.specs.Runs.{IsTileSet}
use Rattle.due_tiles.specs.Joining.{BeginsBefore}
use Rattle.due_tiles.proofs.Merging.{before_all, before_true, before_false}
use Rattle.due_tiles.proofs.joining.next_run.Goals as goal

pub returns-then-begins_first : goal.returns-then-begins_first
returns-then-begins_first c =
    let first = c.first_run-2 in
    let other = c.first_run-3 in
    record {
      taken = inl (record {
        parts = first.ensures.parts;
        same = refl;
        before = subst (BeginsBefore first.result.0) (sym other.ensures.parts)
            (before_all first.result.0 other.result.0 other.result.1.runs.now
            (before_true first.result.0 other.result.0 c.if-begins_first.ensures.first)
            (subst IsTileSet other.ensures.parts c.args.right.set));
      });
    }

pub returns : goal.returns
returns c =
    let first = c.first_run-2 in
    let other = c.first_run-3 in
    record {
      taken = inr (record {
        parts = other.ensures.parts;
        same = refl;
        before = subst (BeginsBefore other.result.0) (sym first.ensures.parts)
            (before_all other.result.0 first.result.0 first.result.1.runs.now
            (before_false first.result.0 other.result.0 c.if-begins_first.ensures.first)
            (subst IsTileSet first.ensures.parts c.args.left.set));
      });
    }
