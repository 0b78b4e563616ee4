use Rattle.std.proofs.Common.{refl}
use Rattle.value_bytes.proofs.PlaceLaws.{place_front, place_frontless, place_off}
use Rattle.value_bytes.proofs.places.front_place.Goals as goal

pub returns-in_default-clause-none : goal.returns-in_default-clause-none
returns-in_default-clause-none c none = place_frontless c.args.bytes.now (c.in_default.ensures.none refl)

pub returns-in-Some-place_of-clause-place : goal.returns-in-Some-place_of-clause-place
returns-in-Some-place_of-clause-place c =
    place_front c.args.bytes.now c.in-Some.both c.in-Some.rest.now c.in-Some-place_of.place
    c.in-Some.ensures.number c.in-Some-place_of.ensures.place c.in-Some-place_of.ensures.earth

pub returns-in-None-clause-none : goal.returns-in-None-clause-none
returns-in-None-clause-none c none =
    place_off c.args.bytes.now c.in-Some.both c.in-Some.rest.now c.in-Some.ensures.number (c.in-None.ensures.none refl)
