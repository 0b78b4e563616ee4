-- Whether a place holds an odd number of ends.
use Rattle.std.proofs.Common.{◌≡◌, ℕ, ◌%◌, ◌<◌, Bool, true, false, cond, List, [], ◌∷◌, refl, ◌∙◌, ap, arith, eq-eqb}
use Rattle.std.specs.Prelude.{count_by, ◌||◌, ◌==◌}
use Rattle.std.specs.List.{list_any}
use Rattle.std.proofs.lemmas.List.Sums.{sum_by-cons}
use Rattle.osm_base.specs.values.Place.{PlaceOf}
use Rattle.piece_ends.specs.Pieces.{same_place}
use Rattle.piece_ends.proofs.SamePlace.{one_place}
use Rattle.piece_ends.specs.Rings.{is_odd_among, has_odd_place}

abbrev ends_there : PlaceOf → List PlaceOf → ℕ
ends_there place ends = count_by (λ end. same_place end place) ends

any_there : (test : PlaceOf → Bool) (place : PlaceOf) (ends : List PlaceOf) → test place ≡ true → 0 < ends_there place ends
    → list_any test ends ≡ true
any_there test place [] e some = absurd (omega arith)
any_there test place (end ∷ ends) e some =
    let count = sum_by-cons (λ end. cond (same_place end place) 1 0) end ends in
    let later : 0 < ends_there place ends → list_any test ends ≡ true = λ h. any_there test place ends e h in
    elim (same_place end place) as (λ b. same_place end place ≡ b → (test end || list_any test ends) ≡ true) [
      | true ↦ λ same. ap (λ b. b || list_any test ends) (ap test (one_place end place same) ∙ e)
      | false ↦ λ apart.
          let none : cond {A = ℕ} (same_place end place) 1 0 ≡ 0 = ap (λ b. cond {A = ℕ} b 1 0) apart in
          let some_later : 0 < ends_there place ends = omega arith in
          ap (λ b. test end || b) (later some_later) ∙ or_true (test end)
    ] refl
  where
    or_true : (b : Bool) → (b || true) ≡ true
    or_true true = refl
    or_true false = refl

pub has_odd_place-true : (ends : List PlaceOf) (place : PlaceOf) → ends_there place ends % 2 ≡ 1 → has_odd_place ends ≡ true
has_odd_place-true ends place odd =
    let some : 0 < ends_there place ends = omega arith in
    any_there (is_odd_among ends) place ends (eq-eqb (ends_there place ends % 2) 1 odd) some

none_passes : (test : PlaceOf → Bool) (ends : List PlaceOf) → ((place : PlaceOf) → test place ≡ false) → list_any test ends ≡ false
none_passes test [] fails = refl
none_passes test (end ∷ ends) fails = ap (λ b. b || list_any test ends) (fails end) ∙ none_passes test ends fails

pub has_odd_place-false : (ends : List PlaceOf) → ((place : PlaceOf) → ends_there place ends % 2 ≡ 0) → has_odd_place ends ≡ false
has_odd_place-false ends even = none_passes (is_odd_among ends) ends (λ place. ap (λ n. n == 1) (even place))
