use Rattle.std.proofs.Common.{w32}
use Rattle.std.proofs.lemmas.Int.{to_z-of_z}
use Rattle.osm_base.specs.values.Degrees.{degrees}
use Rattle.opl_object.proofs.Puts.{err-then}
use Rattle.opl_object.proofs.written.put_degrees.Goals as goal

pub returns-in_err-put_all-2-clause-err : goal.returns-in_err-put_all-2-clause-err
returns-in_err-put_all-2-clause-err g c =
    err-then c.from_residual-in_err-put_all-2.result _ _ _ c.args.letter.now (degrees c.args.units) c.in_ok-put_all.ensures.ok
    (rw (c.format.ensures.text, to_z-of_z w32 c.args.units c.ranges.units) at c.in_err-put_all-2.ensures.err)
