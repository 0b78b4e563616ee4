use Rattle.std.proofs.Common.{◌∙◌, arith}
use Rattle.std.proofs.Math.Seq.{take-add}
use Rattle.lanes_geo.specs.Grid.{IsPlace, east_of, north_of}
use Rattle.lanes_geo.proofs.Extremes.{least_more, greatest_more, least_end, greatest_end}
use Rattle.lanes_geo.proofs.Level.{all_append}
use Rattle.lanes_geo.proofs.spans.sides_of.Goals as goal

pub loop-at-preserved : goal.loop-at-preserved
loop-at-preserved c =
    let ps = c.args.places.now in
    let at = c.loop-at.at in
    let lanes = c.loop-at.invariant.lanes in
    let west = least_more east_of ps at c.loop-at.west c.lower-west.result c.easts-easts.result lanes.0
    (omega arith) c.loop-at.invariant.west c.easts-easts.ensures.easts c.lower-west.ensures in
    let south = least_more north_of ps at c.loop-at.south c.lower-south.result c.norths-norths.result lanes.1
    (omega arith) c.loop-at.invariant.south c.norths-norths.ensures.norths c.lower-south.ensures in
    let east = greatest_more east_of ps at c.loop-at.east c.higher-east.result c.easts-easts.result lanes.2
    (omega arith) c.loop-at.invariant.east c.easts-easts.ensures.easts c.higher-east.ensures in
    let north = greatest_more north_of ps at c.loop-at.north c.higher-north.result c.norths-norths.result lanes.3
    (omega arith) c.loop-at.invariant.north c.norths-norths.ensures.norths c.higher-north.ensures in
    record {
      within = omega arith;
      lanes = (west.0, south.0, east.0, north.0);
      west = west.1;
      south = south.1;
      east = east.1;
      north = north.1;
      on_earth = rw (take-add at 16 ps) (all_append IsPlace _ _ c.loop-at.invariant.on_earth c.easts-easts.ensures.on_earth);
    }

pub returns-clause-west : goal.returns-clause-west
returns-clause-west c = least_end east_of c.args.places.now c.loop-at.at c.lowest.result c.stretched.result.west _ c.split_at.ensures.back
    (c.lowest.ensures ∙ c.loop-at.invariant.west) c.stretched.ensures.west

pub returns-clause-south : goal.returns-clause-south
returns-clause-south c = least_end north_of c.args.places.now c.loop-at.at c.lowest-2.result c.stretched.result.south _
    c.split_at.ensures.back (c.lowest-2.ensures ∙ c.loop-at.invariant.south) c.stretched.ensures.south

pub returns-clause-east : goal.returns-clause-east
returns-clause-east c = greatest_end east_of c.args.places.now c.loop-at.at c.highest.result c.stretched.result.east _
    c.split_at.ensures.back (c.highest.ensures ∙ c.loop-at.invariant.east) c.stretched.ensures.east

pub returns-clause-north : goal.returns-clause-north
returns-clause-north c = greatest_end north_of c.args.places.now c.loop-at.at c.highest-2.result c.stretched.result.north _
    c.split_at.ensures.back (c.highest-2.ensures ∙ c.loop-at.invariant.north) c.stretched.ensures.north
