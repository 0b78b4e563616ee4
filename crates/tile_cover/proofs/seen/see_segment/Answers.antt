use Rattle.std.proofs.Common.{◌∙◌, ◌||◌, ap, cond, not, None, Some}
use Rattle.tile_cover.specs.Seen.{box_of}
use Rattle.tile_cover.proofs.SeenLines.{sees_none, sees_one, tells_same, differs}
use Rattle.tile_cover.proofs.seen.see_segment.Goals as goal

pub returns-in_default : goal.returns-in_default
returns-in_default c = record {
  sees = sees_none (box_of c.args.tile) c.args.tile.x _ c.args.seen
      (tells_same c.args.tile.south c.args.tile.north c.args.tile.x _ c.climb_of-climb.result None c.args.tile.high
      c.climb_of-climb.ensures.same
      (c.in_default.ensures.told c.args.tile.x c.args.tile.column));
}

pub returns : goal.returns
returns c = record {
  sees = sees_one (box_of c.args.tile) c.args.tile.x _ c.in-Some.span c.args.seen _
      (tells_same c.args.tile.south c.args.tile.north c.args.tile.x _ c.climb_of-climb.result
      (Some c.in-Some.span) c.args.tile.high c.climb_of-climb.ensures.same
      (c.in-Some.ensures.told c.args.tile.x c.args.tile.column))
      (ap (λ b. c.args.seen.touched || b) c.covers.ensures)
      (differs c.args.seen.odd c.is_further.result ∙ ap (λ b. cond b (not c.args.seen.odd) c.args.seen.odd) c.is_further.ensures);
}
