use Rattle.std.proofs.Common.{◌∙◌, arith, w32, FitsSigned, rules}
use Rattle.std.proofs.lemmas.Bool.Decides.{nat_tests}
use Rattle.std.proofs.lemmas.Int.{to_z-of_z}
use Rattle.lanes_geo.proofs.Around.{west_fits, south_fits, east_fits, north_fits, around_is, around_holds}
use Rattle.lanes_geo.proofs.spans.box_of.Goals as goal

pub units-requires-clause-number : goal.units-requires-clause-number
units-requires-clause-number c = west_fits c.args.places.now _
    (grind (arith, nat_tests, c.if-is_empty.ensures)) c.sides_of-sides.ensures.on_earth c.sides_of-sides.ensures.west

pub units-requires-2-clause-number : goal.units-requires-2-clause-number
units-requires-2-clause-number c = south_fits c.args.places.now _
    (grind (arith, nat_tests, c.if-is_empty.ensures)) c.sides_of-sides.ensures.on_earth c.sides_of-sides.ensures.south

pub units-requires-3-clause-number : goal.units-requires-3-clause-number
units-requires-3-clause-number c = east_fits c.args.places.now _ c.sides_of-sides.ensures.on_earth c.sides_of-sides.ensures.east

pub units-requires-4-clause-number : goal.units-requires-4-clause-number
units-requires-4-clause-number c = north_fits c.args.places.now _ c.sides_of-sides.ensures.on_earth c.sides_of-sides.ensures.north

pub returns-clause-sides : goal.returns-clause-sides
returns-clause-sides c =
    let f : FitsSigned w32 c.units.result = search rules in
    let g : FitsSigned w32 c.units-2.result = search rules in
    let h : FitsSigned w32 c.units-3.result = search rules in
    let i : FitsSigned w32 c.units-4.result = search rules in
    around_is c.args.places.now _ _ _ _ _ _ _ _ (grind (arith, nat_tests, c.if-is_empty.ensures)) c.sides_of-sides.ensures.on_earth
    c.sides_of-sides.ensures.west c.sides_of-sides.ensures.south c.sides_of-sides.ensures.east c.sides_of-sides.ensures.north
    (to_z-of_z w32 c.units.result f ∙ c.units.ensures) (to_z-of_z w32 c.units-2.result g ∙ c.units-2.ensures)
    (to_z-of_z w32 c.units-3.result h ∙ c.units-3.ensures) (to_z-of_z w32 c.units-4.result i ∙ c.units-4.ensures)

pub returns-clause-holds : goal.returns-clause-holds
returns-clause-holds c =
    let f : FitsSigned w32 c.units.result = search rules in
    let g : FitsSigned w32 c.units-2.result = search rules in
    let h : FitsSigned w32 c.units-3.result = search rules in
    let i : FitsSigned w32 c.units-4.result = search rules in
    around_holds c.args.places.now _ _ _ _ _ _ _ _ c.sides_of-sides.ensures.on_earth
    c.sides_of-sides.ensures.west c.sides_of-sides.ensures.south c.sides_of-sides.ensures.east c.sides_of-sides.ensures.north
    (to_z-of_z w32 c.units.result f ∙ c.units.ensures) (to_z-of_z w32 c.units-2.result g ∙ c.units-2.ensures)
    (to_z-of_z w32 c.units-3.result h ∙ c.units-3.ensures) (to_z-of_z w32 c.units-4.result i ∙ c.units-4.ensures)
