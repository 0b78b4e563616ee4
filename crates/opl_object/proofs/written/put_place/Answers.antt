use Rattle.std.proofs.Common.{◌++◌, w32}
use Rattle.std.proofs.lemmas.Int.{to_z-of_z}
use mir.Val.{SFits}
use Rattle.std.specs.Prelude.{codes}
use Rattle.osm_base.specs.values.Degrees.{degrees}
use Rattle.opl_object.proofs.Puts.{err-first}
use Rattle.opl_object.proofs.written.put_place.Goals as goal

pub returns-in_err-put_degrees-clause-err : goal.returns-in_err-put_degrees-clause-err
returns-in_err-put_degrees-clause-err g c =
    let fits : SFits w32 c.place.inside.lon = record { sfits = c.place.ranges.0.1 } in
    rw (c.in-Some.is, ← c.place.view_is)
    (err-first c.from_residual-in_err-put_degrees.result _ _ (codes " x" ++ degrees c.place.inside.lon)
    (codes " y" ++ degrees c.place.inside.lat) (rw (to_z-of_z w32 c.place.inside.lon fits) at c.in_err-put_degrees.ensures.err))
