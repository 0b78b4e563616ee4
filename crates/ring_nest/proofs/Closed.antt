-- The last place of a closed ring, walked to from its first one.
use Rattle.std.proofs.Common.{◌≡◌, ◌∙◌, ◌-◌, Bool, true, false, ◌&&◌, List, [], ◌∷◌, suc, length, refl, sym, ap, arith, ℤ}
use Rattle.std.proofs.lemmas.Bool.Decides.{Decides-int_eq}
use Rattle.osm_base.specs.values.Line.{same_place, last_place, is_closed}
use Rattle.osm_base.specs.values.Place.{PlaceOf}

-- the last of the places from one on
abbrev pub last_from : PlaceOf → List PlaceOf → PlaceOf
last_from place [] = place
last_from place (next ∷ places) = last_from next places

last_is : (p : PlaceOf) (xs : List PlaceOf) → last_place (p ∷ xs) ≡ last_from p xs
last_is p [] = refl
last_is p (x ∷ xs) =
    let e : length (p ∷ (x ∷ xs)) - 1 ≡ suc (length (x ∷ xs) - 1) = omega arith in
    rw e (last_is x xs)

both : (a b : Bool) → (a && b) ≡ true → (a ≡ true) × (b ≡ true)
both true b e = (refl, e)
both false b e = absurd (cc)

abbrev pub place_at : ℤ → ℤ → PlaceOf
place_at lon lat = record { lon = lon; lat = lat }

one_place : (p q : PlaceOf) → same_place p q ≡ true → q ≡ p
one_place p q e =
    let h = both _ _ e in
    let lon : p.lon ≡ q.lon = (Decides-int_eq p.lon q.lon).0 h.0 in
    let lat : p.lat ≡ q.lat = (Decides-int_eq p.lat q.lat).0 h.1 in
    ap (λ (own : ℤ). place_at own q.lat) (sym lon) ∙ ap (place_at p.lon) (sym lat)

pub comes_back : (p : PlaceOf) (xs : List PlaceOf) → is_closed (p ∷ xs) ≡ true → last_from p xs ≡ p
comes_back p xs e = sym (last_is p xs) ∙ one_place p (last_place (p ∷ xs)) e
