use Rattle.std.proofs.Common.{◌∙◌, sym}
use Rattle.std.proofs.lemmas.Simd.{length-zip2}
use Rattle.lanes_geo.proofs.Lanes.{kept_lanes}
use Rattle.lanes_geo.proofs.crossings.distances.Goals as goal

pub returns-clause-from : goal.returns-clause-from
returns-clause-from c =
    (kept_lanes c.args.here c.args.starts c.args.ends _ _ c.requires.0 c.requires.1 c.all_lanes-heres.ensures c.all_lanes-zeros.ensures
    c.ranges.here.fits c.fits-starts.1 c.fits-ends.1).0

pub returns-clause-to : goal.returns-clause-to
returns-clause-to c =
    (kept_lanes c.args.here c.args.starts c.args.ends _ _ c.requires.0 c.requires.1 c.all_lanes-heres.ensures c.all_lanes-zeros.ensures
    c.ranges.here.fits c.fits-starts.1 c.fits-ends.1).1

pub returns-clause-lanes : goal.returns-clause-lanes
returns-clause-lanes c =
    let kept = kept_lanes c.args.here c.args.starts c.args.ends _ _ c.requires.0 c.requires.1 c.all_lanes-heres.ensures
    c.all_lanes-zeros.ensures c.ranges.here.fits c.fits-starts.1 c.fits-ends.1 in
    let same = c.requires.0 ∙ sym c.requires.1 in (
      rw kept.0 (length-zip2 _ c.args.starts c.args.ends same ∙ c.requires.0),
      rw kept.1 (length-zip2 _ c.args.starts c.args.ends same ∙ c.requires.0),
    )
