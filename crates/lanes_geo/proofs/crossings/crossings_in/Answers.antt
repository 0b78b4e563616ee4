use Rattle.std.proofs.Common.{◌≡◌, ap, sym, ◌∙◌, map, length}
use Rattle.std.specs.List.{AllByRecursion}
use Rattle.std.proofs.lemmas.Simd.{length-zip2, zip2_of_maps}
use Rattle.lanes_geo.specs.Crossing.{segments_from, crosses}
use Rattle.lanes_geo.specs.Grid.{IsPlace, kept, east_of, north_of, evens_of, odds_of}
use Rattle.lanes_geo.proofs.Crossed.{EndsOnEarth}
use Rattle.lanes_geo.proofs.Halves.{evens-map, odds-map, length-evens, length-odds, all-evens, all-odds, count-halves}
use Rattle.lanes_geo.proofs.Lanes.{counted, plus32, kept_from, kept_to, kept_both}
use Rattle.lanes_geo.proofs.Segments.{window, starts_from, ends_from, length-segments_from, ends_on_earth}
use Rattle.lanes_geo.proofs.crossings.crossings_in.Goals as goal

pub even_lanes-requires-5 : goal.even_lanes-requires-5
even_lanes-requires-5 c =
    let long = c.distances.ensures.lanes in
    length-zip2 plus32 _ _ (long.0 ∙ sym long.1) ∙ long.0

pub odd_lanes-requires-5 : goal.odd_lanes-requires-5
odd_lanes-requires-5 c =
    let long = c.distances.ensures.lanes in
    length-zip2 plus32 _ _ (long.0 ∙ sym long.1) ∙ long.0

pub returns : goal.returns
returns c =
    let place = c.args.place in
    let w = window c.args.ring.now c.args.at c.requires in
    let vs = segments_from w.first w.others in
    let long : length vs ≡ 16 = length-segments_from w.first w.others ∙ w.long in
    let starts : c.norths.result ≡ map (λ s. north_of s.start) vs =
    c.norths.ensures.norths ∙ ap (map north_of) w.starts ∙ starts_from north_of w.first w.others in
    let ends : c.norths-2.result ≡ map (λ s. north_of s.end) vs =
    c.norths-2.ensures.norths ∙ ap (map north_of) w.ends ∙ ends_from north_of w.first w.others in
    let start_easts : c.easts-start_easts.result ≡ map (λ s. east_of s.start) vs =
    c.easts-start_easts.ensures.easts ∙ ap (map east_of) w.starts ∙ starts_from east_of w.first w.others in
    let end_easts : c.easts-end_easts.result ≡ map (λ s. east_of s.end) vs =
    c.easts-end_easts.ensures.easts ∙ ap (map east_of) w.ends ∙ ends_from east_of w.first w.others in
    let from : c.distances.result.0 ≡ map (kept_from place) vs =
    c.distances.ensures.from ∙ (rw c.north.ensures.north
    (zip2_of_maps (λ a b. kept (north_of place) a b a) (λ s. north_of s.start) (λ s. north_of s.end) vs starts ends)) in
    let to : c.distances.result.1 ≡ map (kept_to place) vs =
    c.distances.ensures.to ∙ (rw c.north.ensures.north
    (zip2_of_maps (λ a b. kept (north_of place) a b b) (λ s. north_of s.start) (λ s. north_of s.end) vs starts ends)) in
    let both = zip2_of_maps plus32 (kept_from place) (kept_to place) vs from to in
    let east = rw c.east.ensures.east at c.wide_lanes-east.ensures in
    let others : AllByRecursion IsPlace w.others = rw w.ends at c.norths-2.ensures.on_earth in
    let first = rw (w.starts, w.long) at c.norths.ensures.on_earth in
    let on_earth = ends_on_earth w.first w.others first.0 others in
    let even = counted place (evens_of vs) _ _ _ _ _ _ c.north.ensures.on_earth (all-evens EndsOnEarth vs on_earth)
    (length-evens 8 vs long) east
    (c.even_lanes-5.ensures ∙ ap evens_of both ∙ evens-map (kept_both place) vs)
    (c.even_lanes.ensures ∙ ap evens_of from ∙ evens-map (kept_from place) vs)
    (c.even_lanes-3.ensures ∙ ap evens_of to ∙ evens-map (kept_to place) vs)
    (c.even_lanes-4.ensures ∙ ap evens_of start_easts ∙ evens-map (λ s. east_of s.start) vs)
    (c.even_lanes-2.ensures ∙ ap evens_of end_easts ∙ evens-map (λ s. east_of s.end) vs) in
    let odd = counted place (odds_of vs) _ _ _ _ _ _ c.north.ensures.on_earth (all-odds EndsOnEarth vs on_earth)
    (length-odds 8 vs long) east
    (c.odd_lanes-5.ensures ∙ ap odds_of both ∙ odds-map (kept_both place) vs)
    (c.odd_lanes.ensures ∙ ap odds_of from ∙ odds-map (kept_from place) vs)
    (c.odd_lanes-3.ensures ∙ ap odds_of to ∙ odds-map (kept_to place) vs)
    (c.odd_lanes-4.ensures ∙ ap odds_of start_easts ∙ odds-map (λ s. east_of s.start) vs)
    (c.odd_lanes-2.ensures ∙ ap odds_of end_easts ∙ odds-map (λ s. east_of s.end) vs) in
    rw (w.all, even, odd) (count-halves (crosses place) vs)
