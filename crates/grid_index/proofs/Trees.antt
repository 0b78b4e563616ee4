-- A tree of boxes by their spots, as a finite map.
use Rattle.std.proofs.Common.{◌≡◌, Bool, true, false, ◌&&◌, T, List, [], ◌∷◌, map, refl, sym, ◌∙◌, ap, subst, Some, None}
use denote.Ref.{Bor}
use Rattle.std.specs.Ordering.{is_lt}
use Rattle.std.specs.declared.cmp.Ordering.TheVariants.{Less}
use Rattle.std.specs.FinMap.{is_sorted}
use Rattle.std.specs.FinMap.Entries.{below_all}
use Rattle.std.specs.List.{AllByRecursion}
use Rattle.std.specs.List.Sorted.{IsStrictlySortedBy}
use Rattle.std.specs.Map.Iter.{deref_pair}
use Rattle.osm_base.specs.values.Key.{KeyOf}
use Rattle.std.specs.BTreeMap.{BTreeMap, IsOrdered, Updates, get_by}
use Rattle.std.specs.FinMap as finite
use Rattle.osm_base.specs.declared.values.place.GeoBox.{GeoBox}
use Rattle.osm_base.specs.map.Spots.{SpotOf, spot_cmp}
use Rattle.osm_base.proofs.Found.{found, inserted, removed}
use Rattle.osm_base.proofs.SpotOrder.{tree_cmp, tree_cmp-spot_cmp, spot_cmp_total, spot_cmp-IsAntisymmetric}
use Rattle.grid_index.specs.Grid.{boxes_in, keys_of}

pub got : (tree : BTreeMap SpotOf GeoBox) (spot : SpotOf) → get_by (tree_cmp spot) tree ≡ finite.get (boxes_in tree) spot
got tree spot = ap (λ cmp. get_by (cmp spot) tree) tree_cmp-spot_cmp
    ∙ found spot_cmp spot_cmp_total spot_cmp-IsAntisymmetric spot tree.entries

pub put_in : (old new : BTreeMap SpotOf GeoBox) (spot : SpotOf) (box : GeoBox) → Updates tree_cmp old new spot (Some box)
    → boxes_in new ≡ finite.insert (boxes_in old) spot box
put_in old new spot box updates = inserted spot_cmp spot_cmp_total spot_cmp-IsAntisymmetric old new spot box
    (subst (λ cmp. Updates cmp old new spot (Some box)) tree_cmp-spot_cmp updates)

pub taken_out : (old new : BTreeMap SpotOf GeoBox) (spot : SpotOf) → Updates tree_cmp old new spot None
    → boxes_in new ≡ finite.remove (boxes_in old) spot
taken_out old new spot updates = removed spot_cmp spot_cmp_total spot_cmp-IsAntisymmetric old new spot
    (subst (λ cmp. Updates cmp old new spot None) tree_cmp-spot_cmp updates)

-- ---- a tree in order

both : (a b : Bool) → a ≡ true → T b → T (a && b)
both a b e t = subst (λ a. T (a && b)) (sym e) t

keys_below : (spot : SpotOf) (entries : List (SpotOf × GeoBox))
    → AllByRecursion (λ other. spot_cmp spot other ≡ Less) (map (λ entry. entry.0) entries) → T (below_all spot_cmp spot entries)
keys_below spot [] h = tt
keys_below spot (entry ∷ entries) h = both (is_lt (spot_cmp spot entry.0)) _ (ap is_lt h.0) (keys_below spot entries h.1)

keys_rise : (entries : List (SpotOf × GeoBox)) → IsStrictlySortedBy spot_cmp (map (λ entry. entry.0) entries)
    → T (is_sorted spot_cmp entries)
unfolding IsStrictlySortedBy
keys_rise [] h = tt
keys_rise (entry ∷ entries) h = both_of (below_all spot_cmp entry.0 entries) (is_sorted spot_cmp entries) (keys_below entry.0 entries h.0)
    (keys_rise entries h.1)
  where
    both_of : (a b : Bool) → T a → T b → T (a && b)
    both_of true b s t = t
    both_of false b s t = absurd s

entries_again : (entries : List (SpotOf × GeoBox)) → T (is_sorted spot_cmp entries)
    → finite.entries (finite.from_entries {R = spot_cmp} entries) ≡ entries
entries_again entries h =
    ap finite.entries (finite.same_map spot_cmp_total spot_cmp-IsAntisymmetric (finite.from_entries entries) (finite.from_sorted entries)
    (λ q. finite.get-from_entries spot_cmp_total entries q ∙ sym (finite.get-from_sorted spot_cmp entries q h)))
    ∙ finite.entries-from_sorted spot_cmp entries h

keys_shown : (yielded : List (Bor SpotOf × Bor GeoBox))
    → map {B = KeyOf} (λ entry. entry.0.now.key) yielded
    ≡ map (λ spot. spot.key) (map (λ entry. entry.0) (map {B = SpotOf × GeoBox} (λ entry. (entry.0.now, entry.1.now)) yielded))
keys_shown [] = refl
keys_shown (entry ∷ yielded) = ap (λ keys. entry.0.now.key ∷ keys) (keys_shown yielded)

-- the keys that a walk over a tree has shown, once it is at its end
pub keys_all : (tree : BTreeMap SpotOf GeoBox) (yielded : List (Bor SpotOf × Bor GeoBox)) → map deref_pair yielded ≡ tree.entries
    → IsOrdered tree_cmp tree
    → map {B = KeyOf} (λ entry. entry.0.now.key) yielded ≡ keys_of (boxes_in tree)
keys_all tree yielded shown ordered =
    let rise : T (is_sorted spot_cmp tree.entries) = keys_rise tree.entries (subst (λ cmp. IsOrdered cmp tree) tree_cmp-spot_cmp ordered) in
    keys_shown yielded ∙ ap (λ (entries : List (SpotOf × GeoBox)). map {B = KeyOf} (λ spot. spot.key) (map (λ entry. entry.0) entries))
    (shown ∙ sym (entries_again tree.entries rise))
