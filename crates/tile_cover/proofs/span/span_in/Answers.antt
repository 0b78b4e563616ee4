use Rattle.std.proofs.Common.{◌*◌, ◌-◌, arith}
use Rattle.tile_cover.proofs.Parts.{IsPart}
use Rattle.tile_cover.proofs.Spans.{tells_part, within_world}
use Rattle.tile_cover.proofs.Within.{tells_within}
use Rattle.tile_cover.proofs.span.span_in.Goals as goal

pub returns-then-climb-north-clause-told : goal.returns-then-climb-north-clause-told
returns-then-climb-north-clause-told c = λ x h.
    tells_within c.args.climb c.span_within.result c.args.south c.args.north x (omega arith) (omega arith) c.requires.climb.climbs
    (c.span_within.ensures.first x) (c.span_within.ensures.last x h) c.span_within.ensures.straddles

pub span_between-requires-clause-low : goal.span_between-requires-clause-low
span_between-requires-clause-low c =
    let a = c.args.climb.south in
    let b = c.args.climb.north in
    let lo = c.max.result in
    rw c.lon_at-low.ensures.lon (within_world c.args.climb.start c.args.climb.end (c.args.columns * 3600000000) (lo - a) (b - lo) (b - a)
    c.requires.climb.start_within c.requires.climb.end_within (omega arith))

pub span_between-requires-clause-high : goal.span_between-requires-clause-high
span_between-requires-clause-high c =
    let a = c.args.climb.south in
    let b = c.args.climb.north in
    let hi = c.min.result in
    rw c.lon_at-high.ensures.lon (within_world c.args.climb.start c.args.climb.end (c.args.columns * 3600000000) (hi - a) (b - hi) (b - a)
    c.requires.climb.start_within c.requires.climb.end_within (omega arith))

pub returns-clause-told : goal.returns-clause-told
returns-clause-told c = λ x h.
    let a = c.args.climb.south in
    let b = c.args.climb.north in
    let lo = c.max.result in
    let hi = c.min.result in
    let part : IsPart a b c.args.south c.args.north lo hi (lo - a) (b - lo) (hi - a) (b - hi) = record {
      climbs = omega arith;
      row = c.requires.row;
      from_south = omega arith;
      from_north = omega arith;
      lo_is = omega arith;
      hi_is = omega arith;
      lo_up = omega arith;
      lo_down = omega arith;
      hi_up = omega arith;
      hi_down = omega arith;
    } in
    let first = rw (c.lon_at-low.ensures.lon, c.lon_at-high.ensures.lon) at c.span_between.ensures.first x in
    let last = rw (c.lon_at-low.ensures.lon, c.lon_at-high.ensures.lon) at c.span_between.ensures.last x h in
    tells_part c.args.climb c.span_between.result c.args.south c.args.north x lo hi (lo - a) (b - lo) (hi - a) (b - hi)
    (b - a) c.requires.row part (omega arith) (omega arith) first last c.span_between.ensures.straddles
