-- The polygons made ring by ring are those of the outer rings in order.
use Rattle.std.proofs.Common.{◌≡◌, ℕ, ◌+◌, ◌<◌, suc, refl, sym, ◌∙◌, ap, arith, List, [], ◌∷◌, length, map, get_or, Bool, true, false, cond}
use Rattle.std.proofs.Common.{if◌then◌else◌}
use Rattle.std.specs.List.{filter, range_with_len}
use Rattle.lanes_geo.specs.Nesting.{Ring, is_outer, belongs, nested, outers, polygon, ring_at}
use Rattle.ring_nest.specs.Polygons.{filled, polygons_from}

-- the polygon of an outer ring with some of the inner rings
abbrev polygon_with : List Ring → List Ring → ℕ → List Ring
polygon_with rings inner number = ring_at rings number ∷ filter (belongs rings number) inner

outer_next : (rings inner : List Ring) (number : ℕ) (ring : Ring) (b : Bool) (some : List ℕ) (more : List (List Ring))
    → ring_at rings number ≡ ring
    → more ≡ map (polygon_with rings inner) some
    → (if b then (ring ∷ filter (belongs rings number) inner) ∷ more else more)
    ≡ map (polygon_with rings inner) (cond b (number ∷ some) some)
outer_next rings inner number ring true some more here e = rw (here, e)
outer_next rings inner number ring false some more here e = e

polygons_by : (rings inner : List Ring) (number : ℕ) (rest : List Ring)
    → ((k : ℕ) → k < length rest → ring_at rings (number + k) ≡ get_or rest k [])
    → polygons_from rings inner number rest
    ≡ map (polygon_with rings inner) (filter (λ other. is_outer rings (ring_at rings other)) (range_with_len number (length rest)))
polygons_by rings inner number [] same = refl
polygons_by rings inner number (ring ∷ rest) same =
    let zero_more : number ≡ number + 0 = omega arith in
    let here : ring_at rings number ≡ ring = ap (ring_at rings) zero_more ∙ same 0 (omega arith) in
    let more = polygons_by rings inner (number + 1) rest (λ k h.
    let moved : (number + 1) + k ≡ number + suc k = omega arith in
    ap (ring_at rings) moved ∙ same (suc k) (omega arith)) in
    let outer : is_outer rings ring ≡ is_outer rings (ring_at rings number) = ap (is_outer rings) (sym here) in
    ap (λ b. if b then (ring ∷ filter (belongs rings number) inner) ∷ polygons_from rings inner (number + 1) rest
    else polygons_from rings inner (number + 1) rest) outer
    ∙ outer_next rings inner number ring (is_outer rings (ring_at rings number)) _ _ here more

polygons_are : (rings : List Ring) → polygons_from rings rings 0 rings ≡ map (polygon rings) (outers rings)
polygons_are rings =
    polygons_by rings rings 0 rings (λ k h.
    let same : 0 + k ≡ k = omega arith in
    ap (ring_at rings) same)

pub filled_is : (rings : List Ring) → filled rings ≡ nested rings
filled_is rings = rw (polygons_are rings)
