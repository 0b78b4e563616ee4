-- The test of two places finds out whether they are one, as the order of places does.
use Rattle.std.proofs.Common.{◌≡◌, ◌≢◌, ℕ, Bool, true, false, cond, Some, refl, sym, ◌∙◌, ap}
use Rattle.std.specs.Prelude.{◌&&◌, unwrap_or, List, length}
use Rattle.std.specs.Ordering.{is_eq, eq_by_cmp, int_cmp, ordering_then}
use Rattle.std.proofs.lemmas.Cmp.{tied_itself}
use Rattle.std.specs.declared.cmp.Ordering.{Ordering}
use Rattle.std.specs.declared.cmp.Ordering.TheVariants.{Less, Equal, Greater}
use Rattle.std.specs.FinMap as map
use Rattle.osm_base.specs.values.Place.{PlaceOf}
use Rattle.piece_ends.specs.Heads.{place_cmp, HeadMap}
use Rattle.piece_ends.specs.Pieces.{Line, same_place}
use Rattle.piece_ends.specs.Index.{head_of}
use Rattle.piece_ends.proofs.PlaceTree.{place_cmp_total, place_cmp-IsAntisymmetric}

is_eq-then : (first second : Ordering) → is_eq (ordering_then first second) ≡ (is_eq first && is_eq second)
is_eq-then Less second = refl
is_eq-then Equal second = refl
is_eq-then Greater second = refl

pub eq_by_cmp-place_cmp : (place other : PlaceOf) → eq_by_cmp place_cmp place other ≡ same_place place other
eq_by_cmp-place_cmp place other = is_eq-then (int_cmp place.lon other.lon) (int_cmp place.lat other.lat)

equal_from_test : (order : Ordering) → is_eq order ≡ true → order ≡ Equal
equal_from_test Less e = absurd (cc)
equal_from_test Equal e = refl
equal_from_test Greater e = absurd (cc)

pub one_place : (place other : PlaceOf) → same_place place other ≡ true → place ≡ other
one_place place other e =
    place_cmp-IsAntisymmetric place other (equal_from_test (place_cmp place other) (eq_by_cmp-place_cmp place other ∙ e))

pub same_place-itself : (place : PlaceOf) → same_place place place ≡ true
same_place-itself place = sym (eq_by_cmp-place_cmp place place) ∙ ap is_eq (tied_itself place_cmp_total place)

pub same_place-false : (place other : PlaceOf) → place ≢ other → same_place place other ≡ false
same_place-false place other apart = elim (same_place place other) as
    (λ b. (b ≡ true → place ≡ other) → b ≡ false) [ true ↦ λ one. absurd (apart (one refl)) | false ↦ λ _. refl ] (one_place place other)

-- the head at a place after one was put
pub head_of-insert : (pieces : List Line) (heads : HeadMap) (place : PlaceOf) (number : ℕ) (q : PlaceOf)
    → head_of pieces (map.insert heads place number) q ≡ cond (same_place q place) number (head_of pieces heads q)
head_of-insert pieces heads place number q =
    ap (λ found. unwrap_or found (length pieces))
    (map.get-insert place_cmp_total heads place number q
    ∙ ap (λ b. cond b (Some number) (map.get heads q)) (eq_by_cmp-place_cmp q place))
    ∙ unwrap_or-cond (same_place q place)
  where
    unwrap_or-cond : (b : Bool) → unwrap_or (cond b (Some number) (map.get heads q)) (length pieces)
        ≡ cond b number (head_of pieces heads q)
    unwrap_or-cond true = refl
    unwrap_or-cond false = refl
