-- The segments of a ring that are crossed are the edges that pass.
use Rattle.std.proofs.Common.{◌≡◌, ℕ, ◌+◌, ◌-◌, ◌*◌, ◌<◌, refl, ◌∙◌, inl, inr, Bool, true, false, cond, ◌&&◌, List, [], ◌∷◌, nat_le, nat_lt, if◌then◌else◌, count_by, arith}
use Rattle.std.specs.List.{AllByRecursion}
use Rattle.std.proofs.lemmas.Bool.{cases_lt}
use Rattle.std.proofs.lemmas.Bool.Decides.{nat_tests}
use Rattle.std.proofs.lemmas.List.Sums.{sum_by-cons}
use Rattle.lanes_geo.proofs.Crossed.{crosses_is, differ}
use Rattle.lanes_geo.specs.Crossing.{Segment, crosses, crossings, segments_from}
use Rattle.lanes_geo.specs.Grid.{IsPlace, apart, east_of, north_of}
use Rattle.osm_base.specs.values.Place.{PlaceOf}
use Rattle.lanes_geo.specs.Nesting.{Ring}
use Rattle.ring_nest.specs.Edge.{EdgeOf}
use Rattle.ring_nest.specs.Edges.{edge_between, falling, falling_from, passes, rising, rising_from}

-- a segment that goes north, from a to b
north_is : (h a b e A B : ℕ) → a < b
    → (differ (nat_lt h a) (nat_lt h b) && nat_lt (e * (apart h a + apart h b)) (apart h a * B + apart h b * A))
    ≡ ((nat_le a h && nat_lt h b) && nat_lt (e * (b - a)) ((h - a) * B + (b - h) * A))
north_is h a b e A B order = elim (cases_lt h a) [
  | inl south ↦
      let one : nat_lt h a ≡ true = grind (arith, nat_tests) in
      let two : nat_lt h b ≡ true = grind (arith, nat_tests) in
      let three : nat_le a h ≡ false = grind (arith, nat_tests) in
      rw (one, two, three) refl
  | inr from ↦ elim (cases_lt h b) [
    | inl to ↦
        let one : nat_lt h a ≡ false = grind (arith, nat_tests) in
        let two : nat_lt h b ≡ true = grind (arith, nat_tests) in
        let three : nat_le a h ≡ true = grind (arith, nat_tests) in
        let low : apart h a ≡ h - a = omega arith in
        let high : apart h b ≡ b - h = omega arith in
        let whole : (h - a) + (b - h) ≡ b - a = omega arith in
        rw (one, two, three, low, high, whole) refl
    | inr north ↦
        let one : nat_lt h a ≡ false = grind (arith, nat_tests) in
        let two : nat_lt h b ≡ false = grind (arith, nat_tests) in
        let three : nat_le a h ≡ true = grind (arith, nat_tests) in
        rw (one, two, three) refl
  ]
]

-- and one that goes south
south_is : (h a b e A B : ℕ) → b < a
    → (differ (nat_lt h a) (nat_lt h b) && nat_lt (e * (apart h a + apart h b)) (apart h a * B + apart h b * A))
    ≡ ((nat_le b h && nat_lt h a) && nat_lt (e * (a - b)) ((h - b) * A + (a - h) * B))
south_is h a b e A B order = elim (cases_lt h b) [
  | inl south ↦
      let one : nat_lt h a ≡ true = grind (arith, nat_tests) in
      let two : nat_lt h b ≡ true = grind (arith, nat_tests) in
      let three : nat_le b h ≡ false = grind (arith, nat_tests) in
      rw (one, two, three) refl
  | inr from ↦ elim (cases_lt h a) [
    | inl to ↦
        let one : nat_lt h a ≡ true = grind (arith, nat_tests) in
        let two : nat_lt h b ≡ false = grind (arith, nat_tests) in
        let three : nat_le b h ≡ true = grind (arith, nat_tests) in
        let high : apart h a ≡ a - h = omega arith in
        let low : apart h b ≡ h - b = omega arith in
        let whole : (a - h) + (h - b) ≡ a - b = omega arith in
        let turned : (a - h) * B + (h - b) * A ≡ (h - b) * A + (a - h) * B = omega arith in
        rw (one, two, three, high, low, whole, turned) refl
    | inr north ↦
        let one : nat_lt h a ≡ false = grind (arith, nat_tests) in
        let two : nat_lt h b ≡ false = grind (arith, nat_tests) in
        let three : nat_le b h ≡ true = grind (arith, nat_tests) in
        rw (one, two, three) refl
  ]
]

-- one that goes east or west is never crossed
flat : (b z : Bool) → (differ b b && z) ≡ false
flat true z = refl
flat false z = refl

segment_is : (place p q : PlaceOf) → IsPlace place → IsPlace p → IsPlace q
    → cond {A = ℕ} (crosses place (record { start = p; end = q })) 1 0
    ≡ cond (nat_lt (north_of p) (north_of q)) (cond (passes (north_of place) (east_of place) (edge_between p q)) 1 0) 0
    + cond (nat_lt (north_of q) (north_of p)) (cond (passes (north_of place) (east_of place) (edge_between q p)) 1 0) 0
segment_is place p q here one other =
    let is = crosses_is place (record { start = p; end = q }) here (one, other) in
    elim (cases_lt (north_of p) (north_of q)) [
      | inl up ↦
          let first : nat_lt (north_of p) (north_of q) ≡ true = grind (arith, nat_tests) in
          let second : nat_lt (north_of q) (north_of p) ≡ false = grind (arith, nat_tests) in
          rw (first, second, is ∙ north_is (north_of place) (north_of p) (north_of q) (east_of place) (east_of p) (east_of q) up) (omega arith)
      | inr not_up ↦ elim (cases_lt (north_of q) (north_of p)) [
        | inl down ↦
            let first : nat_lt (north_of p) (north_of q) ≡ false = grind (arith, nat_tests) in
            let second : nat_lt (north_of q) (north_of p) ≡ true = grind (arith, nat_tests) in
            rw (first, second, is ∙ south_is (north_of place) (north_of p) (north_of q) (east_of place) (east_of p) (east_of q) down) (omega arith)
        | inr not_down ↦
            let same : north_of p ≡ north_of q = omega arith in
            let first : nat_lt (north_of p) (north_of q) ≡ false = grind (arith, nat_tests) in
            let second : nat_lt (north_of q) (north_of p) ≡ false = grind (arith, nat_tests) in
            let none : crosses place (record { start = p; end = q }) ≡ false = is ∙ rw same (flat (nat_lt (north_of place) (north_of q)) _) in
            rw (first, second, none) refl
      ]
    ]

pick : (P : EdgeOf → Bool) (edge : EdgeOf) (edges : List EdgeOf) (b : Bool)
    → count_by P (if b then edge ∷ edges else edges) ≡ cond b (cond {A = ℕ} (P edge) 1 0) 0 + count_by P edges
pick P edge edges true = sum_by-cons (λ (own : EdgeOf). cond {A = ℕ} (P own) 1 0) edge edges
pick P edge edges false = omega arith

crossed_from : (place p : PlaceOf) (ps : List PlaceOf) → IsPlace place → IsPlace p → AllByRecursion IsPlace ps
    → count_by (crosses place) (segments_from p ps)
    ≡ count_by (passes (north_of place) (east_of place)) (rising_from p ps) + count_by (passes (north_of place) (east_of place)) (falling_from p ps)
crossed_from place p [] here one all = refl
crossed_from place p (q ∷ ps) here one all =
    let P = passes (north_of place) (east_of place) in
    let segment = segment_is place p q here one all.0 in
    let more = crossed_from place q ps here all.0 all.1 in
    let up = pick P (edge_between p q) (rising_from q ps) (nat_lt (north_of p) (north_of q)) in
    let down = pick P (edge_between q p) (falling_from q ps) (nat_lt (north_of q) (north_of p)) in
    sum_by-cons (λ (own : Segment). cond {A = ℕ} (crosses place own) 1 0) (record { start = p; end = q }) (segments_from q ps)
    ∙ omega (arith, segment, more, up, down)

pub crossed : (place : PlaceOf) (own : Ring) → IsPlace place → AllByRecursion IsPlace own
    → crossings own place ≡ count_by (passes (north_of place) (east_of place)) (rising own) + count_by (passes (north_of place) (east_of place)) (falling own)
crossed place [] here all = refl
crossed place (p ∷ ps) here all = crossed_from place p ps here all.0 all.1
