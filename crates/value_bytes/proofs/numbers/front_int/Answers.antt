use Rattle.std.proofs.Common.{refl, rules}
use Rattle.std.proofs.lemmas.Int.{to_z-of_z}
use Rattle.std.specs.Int.{w64}
use mir.Val.{SFits}
use Rattle.value_bytes.proofs.NumberLaws.{int_front, int_frontless}
use Rattle.value_bytes.proofs.numbers.front_int.Goals as goal

pub returns-in-Some-clause-number : goal.returns-in-Some-clause-number
returns-in-Some-clause-number c =
    let fits : SFits w64 c.cast_signed.result = search rules in
    rw (to_z-of_z w64 c.cast_signed.result fits, c.cast_signed.ensures)
    (int_front c.args.bytes.now c.in-Some.number c.in-Some.rest.now c.in-Some.ensures.number)

pub returns-in-None-clause-none : goal.returns-in-None-clause-none
returns-in-None-clause-none c none = int_frontless c.args.bytes.now (c.in-None.ensures.none refl)
