-- What a tree of boxes passes over holds no asked ring.
use Rattle.std.proofs.Common.{◌≡◌, ℕ, ◌+◌, ◌<◌, suc, zero, refl, sym, ap, ◌∙◌, arith, List, [], ◌∷◌, ◌++◌, length, map, take, get_or, Bool}
use Rattle.std.proofs.Common.{false, None}
use Rattle.std.specs.List.{AllByRecursion, filter}
use Rattle.std.proofs.lemmas.List.{get_or_default, get_or-map, length-map}
use Rattle.std.proofs.lemmas.List.Elements.{filter-append}
use Rattle.osm_base.specs.declared.values.place.GeoBox.{GeoBox}
use Rattle.lanes_geo.specs.Box.{meets}
use Rattle.lanes_geo.specs.Nesting.{Ring, ring_at}
use Rattle.ring_nest.specs.declared.tree.Tree.{Tree}
use Rattle.ring_nest.specs.declared.tree.Tree.TheVariants.{Few, Halves'}
use Rattle.ring_nest.specs.Around.{Covers, IsBoxed, around, may_hold, some_box}
use Rattle.ring_nest.specs.Holders.{IsCovered, IsTree, box_at, box_of_tree, is_holder, numbers_of}
use Rattle.ring_nest.proofs.Held.{all_at, covers_more, may_hold_less, next_of, not_held_beside}

-- a member is the ring with its number
pub ring_is : (rings : List Ring) (number : ℕ) (ring : Ring) → number < length rings → ring ≡ get_or rings number ring
    → ring_at rings number ≡ ring
ring_is rings number ring h e = get_or_default rings number [] ring h ∙ sym e

pub boxed_at : (rings : List Ring) (number : ℕ) → AllByRecursion IsBoxed rings → number < length rings → IsBoxed (ring_at rings number)
boxed_at rings number all h = all_at IsBoxed rings number (ring_at rings number) all h
    (get_or_default rings number [] (ring_at rings number) h)

pub box_is : (rings : List Ring) (number : ℕ) → number < length rings → box_at (map around rings) number ≡ around (ring_at rings number)
box_is rings number h = get_or-map around rings number [] (some_box None) h

not_in : (rings : List Ring) (box : GeoBox) (ring : Ring) (number : ℕ) → AllByRecursion IsBoxed rings → IsBoxed ring
    → IsCovered (map around rings) box number
    → may_hold box ring ≡ false → is_holder rings ring number ≡ false
not_in rings box ring number all boxed c none =
    let w = c.within in
    let h : number < length rings = omega (arith, w, length-map rings around) in
    let covered = rw (box_is rings number h) at c.covered in
    not_held_beside ring (ring_at rings number) (boxed_at rings number all h) boxed
    (may_hold_less box (around (ring_at rings number)) ring covered none)

pub none_in : (rings : List Ring) (box : GeoBox) (ring : Ring) (numbers : List ℕ) → AllByRecursion IsBoxed rings → IsBoxed ring
    → AllByRecursion (IsCovered (map around rings) box) numbers → may_hold box ring ≡ false
    → filter (is_holder rings ring) numbers ≡ []
none_in rings box ring [] all boxed c none = refl
none_in rings box ring (number ∷ numbers) all boxed c none =
    rw (not_in rings box ring number all boxed c.0 none) (none_in rings box ring numbers all boxed c.1 none)

-- the box of a tree is around all that is in it
pub tree_covers : (boxes : List GeoBox) (tree : Tree) → IsTree boxes tree
    → AllByRecursion (IsCovered boxes (box_of_tree tree)) (numbers_of tree)
tree_covers boxes (Few leaf) t = t.covers
tree_covers boxes (Halves' box p left q right) t = t.2

widen : (boxes : List GeoBox) (old new : GeoBox) (numbers : List ℕ) → Covers new old → AllByRecursion (IsCovered boxes old) numbers
    → AllByRecursion (IsCovered boxes new) numbers
widen boxes old new [] c all = tt
widen boxes old new (number ∷ numbers) c all = (
  record { within = all.0.within; covered = covers_more (box_at boxes number) old new c all.0.covered },
  widen boxes old new numbers c all.1,
)

pub all_join : {A : Type 0} (P : A → Type 0) (xs ys : List A) → AllByRecursion P xs → AllByRecursion P ys → AllByRecursion P (xs ++ ys)
all_join P [] ys a b = b
all_join P (x ∷ xs) ys a b = (a.0, all_join P xs ys a.1 b)

-- a box around two trees is around all that is in them
pub halves_cover : (boxes : List GeoBox) (box : GeoBox) (left right : Tree) → IsTree boxes left → IsTree boxes right
    → Covers box (box_of_tree left) → Covers box (box_of_tree right)
    → AllByRecursion (IsCovered boxes box) (numbers_of left ++ numbers_of right)
halves_cover boxes box left right a b c d =
    all_join (IsCovered boxes box) (numbers_of left) (numbers_of right)
    (widen boxes (box_of_tree left) box (numbers_of left) c (tree_covers boxes left a))
    (widen boxes (box_of_tree right) box (numbers_of right) d (tree_covers boxes right b))

pub leaf_covers : (boxes : List GeoBox) (box : GeoBox) (numbers : List ℕ) → AllByRecursion (λ number. number < length boxes) numbers
    → AllByRecursion (Covers box) (map (box_at boxes) numbers) → AllByRecursion (IsCovered boxes box) numbers
leaf_covers boxes box [] within c = tt
leaf_covers boxes box (number ∷ numbers) within c =
    (record { within = within.0; covered = c.0 }, leaf_covers boxes box numbers within.1 c.1)

-- the mark of a number of a leaf
pub mark_is : (asked : GeoBox) (rings : List Ring) (numbers : List ℕ) (own : List GeoBox) (marks : List Bool) (at : ℕ) (box : GeoBox)
    → marks ≡ map (meets asked) own → own ≡ map (box_at (map around rings)) numbers
    → AllByRecursion (IsCovered (map around rings) box) numbers → at < length numbers
    → get_or marks at false ≡ meets asked (around (ring_at rings (get_or numbers at 0)))
mark_is asked rings [] own marks at box e f c h = absurd (omega arith)
mark_is asked rings (number ∷ numbers) own marks zero box e f c h =
    let w = c.0.within in
    let k : number < length rings = omega (arith, w, length-map rings around) in
    rw (e, f, box_is rings number k)
mark_is asked rings (number ∷ numbers) own marks (suc at) box e f c h =
    rw (e, f) (mark_is asked rings numbers (map (box_at (map around rings)) numbers)
    (map (meets asked) (map (box_at (map around rings)) numbers)) at box refl refl c.1 (omega arith))

-- the box of a number of a leaf
pub own_is : (rings : List Ring) (numbers : List ℕ) (own : List GeoBox) (at : ℕ) (box : GeoBox)
    → own ≡ map (box_at (map around rings)) numbers → AllByRecursion (IsCovered (map around rings) box) numbers → at < length numbers
    → get_or own at (some_box None) ≡ around (ring_at rings (get_or numbers at 0))
own_is rings [] own at box f c h = absurd (omega arith)
own_is rings (number ∷ numbers) own zero box f c h =
    let w = c.0.within in
    let k : number < length rings = omega (arith, w, length-map rings around) in
    rw (f, box_is rings number k)
own_is rings (number ∷ numbers) own (suc at) box f c h =
    rw f (own_is rings numbers (map (box_at (map around rings)) numbers) at box refl c.1 (omega arith))

pub covered_at : (boxes : List GeoBox) (box : GeoBox) (numbers : List ℕ) (at : ℕ) → AllByRecursion (IsCovered boxes box) numbers
    → at < length numbers
    → get_or numbers at 0 < length boxes
covered_at boxes box [] at c h = absurd (omega arith)
covered_at boxes box (number ∷ numbers) zero c h = c.0.within
covered_at boxes box (number ∷ numbers) (suc at) c h = covered_at boxes box numbers at c.1 (omega arith)

-- one number more
pub filter_next : (p : ℕ → Bool) (numbers : List ℕ) (at : ℕ) → at < length numbers
    → filter p (take (at + 1) numbers) ≡ filter p (take at numbers) ++ filter p (get_or numbers at 0 ∷ [])
filter_next p numbers at h = ap (filter p) (next_of numbers at 0 h) ∙ filter-append p (take at numbers) (get_or numbers at 0 ∷ [])
