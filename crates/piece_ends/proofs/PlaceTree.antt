-- A tree of places has them in their order, and is a finite map.
use Rattle.std.proofs.Common.{◌≡◌, ℕ, cond, Some, List, [], ◌∷◌, refl, sym, ◌∙◌, ap}
use Rattle.std.specs.Ordering.{is_eq, eq_by_cmp, int_cmp, ordering_then}
use Rattle.std.specs.Cmp.{IsTotalOrder, eq_by_cmp_equiv, int_cmp_total, on_total, then_total}
use Rattle.std.specs.declared.cmp.Ordering.{Ordering}
use Rattle.std.specs.declared.cmp.Ordering.TheVariants.{Less, Equal, Greater}
use Rattle.std.specs.Map.{lookup}
use Rattle.std.specs.BTreeMap.{is_at, BTreeMap, Updates}
use Rattle.std.specs.FinMap.{IsAntisymmetric, find, get, insert, from_entries, get-from_entries, get-insert, same_map}
use Rattle.std.proofs.lemmas.Map.Lookups.{exact_signed}
use Rattle.osm_base.specs.values.Place.{PlaceOf}
use Rattle.osm_base.specs.contracts.values.place.PlaceOrd.TheImpl.{cmp-value}
use Rattle.piece_ends.specs.Heads.{place_cmp, heads_in}

abbrev pub tree_cmp : PlaceOf → PlaceOf → Ordering
tree_cmp = cmp-value.it

pub tree_cmp-place_cmp : tree_cmp ≡ place_cmp
tree_cmp-place_cmp = refl

pub place_cmp_total : IsTotalOrder place_cmp
place_cmp_total = then_total (on_total (λ place. place.lon) int_cmp_total) (on_total (λ place. place.lat) int_cmp_total)

both_equal : (first second : Ordering) → ordering_then first second ≡ Equal → (first ≡ Equal) × (second ≡ Equal)
both_equal Less second e = absurd (cc)
both_equal Equal second e = (refl, e)
both_equal Greater second e = absurd (cc)

pub place_cmp-IsAntisymmetric : IsAntisymmetric place_cmp
place_cmp-IsAntisymmetric place other e =
    let p = both_equal (int_cmp place.lon other.lon) (int_cmp place.lat other.lat) e in
    let lons = exact_signed place.lon other.lon p.0 in
    let lats = exact_signed place.lat other.lat p.1 in
    λ i. record { lon = lons i; lat = lats i }

lookup-find : (q : PlaceOf) (entries : List (PlaceOf × ℕ)) → lookup (is_at (place_cmp q)) entries ≡ find place_cmp q entries
lookup-find q [] = refl
lookup-find q (entry ∷ entries) = ap (cond (is_eq (place_cmp q entry.0)) (Some entry.1)) (lookup-find q entries)

pub found : (q : PlaceOf) (entries : List (PlaceOf × ℕ))
    → lookup (is_at (place_cmp q)) entries ≡ get (from_entries {R = place_cmp} entries) q
found q entries = lookup-find q entries ∙ sym (get-from_entries place_cmp_total entries q)

pub inserted : (old new : BTreeMap PlaceOf ℕ) (place : PlaceOf) (number : ℕ) → Updates place_cmp old new place (Some number)
    → heads_in new ≡ insert (heads_in old) place number
inserted old new place number updates = same_map place_cmp_total place_cmp-IsAntisymmetric _ _ (λ q.
    sym (found q new.entries) ∙ updates.0 q
    ∙ ap (λ b. cond b (Some number) (lookup (is_at (place_cmp q)) old.entries)) ((eq_by_cmp_equiv place_cmp_total).symm place q)
    ∙ ap (cond (eq_by_cmp place_cmp q place) (Some number)) (found q old.entries)
    ∙ sym (get-insert place_cmp_total (from_entries old.entries) place number q))
