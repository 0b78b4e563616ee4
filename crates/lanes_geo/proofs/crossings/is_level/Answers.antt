use Rattle.std.proofs.Common.{true, false, ◌+◌, ◌∙◌, sym, arith}
use lib.Lanes.{chunk}
use Rattle.std.proofs.lemmas.Bool.Decides.{nat_tests}
use Rattle.std.proofs.lemmas.Simd.{length-chunk}
use Rattle.lanes_geo.proofs.Eight.{north_level, south_level, all_level}
use Rattle.lanes_geo.proofs.crossings.is_level.Goals as goal

pub returns-then-is_south : goal.returns-then-is_south
returns-then-is_south c bits =
    let ring = c.args.ring.now in
    let at = c.args.at in
    let place = c.args.place in
    let all = north_level place _ _ _ _ _ (chunk at 8 ring) (chunk (at + 8) 8 ring) (chunk (at + 16) 8 ring)
    (chunk (at + 24) 8 ring) c.bounds-bounds.ensures.on_earth c.bounds-bounds.ensures.bounds
    (record {
      long = length-chunk at 8 ring (omega arith);
      on_earth = c.coordinates.ensures.on_earth;
      is =
          c.coordinates.ensures.coordinates;
    })
    (record {
      long = length-chunk (at + 8) 8 ring (omega arith);
      on_earth = c.coordinates-2.ensures.on_earth;
      is =
          c.coordinates-2.ensures.coordinates;
    })
    (record {
      long = length-chunk (at + 16) 8 ring (omega arith);
      on_earth = c.coordinates-3.ensures.on_earth;
      is =
          c.coordinates-3.ensures.coordinates;
    })
    (record {
      long = length-chunk (at + 24) 8 ring (omega arith);
      on_earth = c.coordinates-4.ensures.on_earth;
      is =
          c.coordinates-4.ensures.coordinates;
    })
    (grind (arith, nat_tests, bits)) in
    all_level true place c.index-ring-at.result ring at c.requires all c.index-ring-at.is (sym c.is_south.ensures ∙ c.if-is_south.true)

pub returns-else-is_south : goal.returns-else-is_south
returns-else-is_south c bits =
    let ring = c.args.ring.now in
    let at = c.args.at in
    let place = c.args.place in
    let all = south_level place _ _ _ _ _ (chunk at 8 ring) (chunk (at + 8) 8 ring) (chunk (at + 16) 8 ring)
    (chunk (at + 24) 8 ring) c.bounds-bounds.ensures.on_earth c.bounds-bounds.ensures.bounds
    (record {
      long = length-chunk at 8 ring (omega arith);
      on_earth = c.coordinates.ensures.on_earth;
      is =
          c.coordinates.ensures.coordinates;
    })
    (record {
      long = length-chunk (at + 8) 8 ring (omega arith);
      on_earth = c.coordinates-2.ensures.on_earth;
      is =
          c.coordinates-2.ensures.coordinates;
    })
    (record {
      long = length-chunk (at + 16) 8 ring (omega arith);
      on_earth = c.coordinates-3.ensures.on_earth;
      is =
          c.coordinates-3.ensures.coordinates;
    })
    (record {
      long = length-chunk (at + 24) 8 ring (omega arith);
      on_earth = c.coordinates-4.ensures.on_earth;
      is =
          c.coordinates-4.ensures.coordinates;
    })
    (grind (arith, nat_tests, bits)) in
    all_level false place c.index-ring-at.result ring at c.requires all c.index-ring-at.is (sym c.is_south.ensures ∙ c.if-is_south.false)
