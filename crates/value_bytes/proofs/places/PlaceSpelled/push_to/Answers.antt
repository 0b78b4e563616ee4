use Rattle.std.proofs.Common.{ap, ◌∙◌, List, ℕ, ◌++◌}
use Rattle.std.proofs.lemmas.Int.{to_z-of_z}
use Rattle.std.specs.Int.{w32}
use Rattle.value_bytes.specs.Numbers.{number_bytes}
use Rattle.value_bytes.proofs.PlaceLaws.{place_put, fits_lon, fits_lat}
use Rattle.value_bytes.proofs.places.PlaceSpelled.push_to.Goals as goal

pub returns-clause-ok : goal.returns-clause-ok
returns-clause-ok c =
    let lon = to_z-of_z w32 c.self.inside.lon (fits_lon c.self.inside.lon c.self.inside.lat c.self.invariant) in
    let lat = to_z-of_z w32 c.self.inside.lat (fits_lat c.self.inside.lon c.self.inside.lat c.self.invariant) in
    rw (← c.self.view_is)
    (c.in_ok-push_number.ensures.ok
    ∙ ap (λ (n : ℕ). c.args.out.now.items ++ number_bytes n) (rw (lon, lat) at c.place_number.ensures.number)
    ∙ ap (λ (l : List ℕ). c.args.out.now.items ++ l) (place_put (record { lon = c.self.inside.lon; lat = c.self.inside.lat }) c.self.invariant))
