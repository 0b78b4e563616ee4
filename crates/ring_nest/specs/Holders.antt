-- Rings by their numbers: a tree of boxes, the rings that hold a ring, and the one that it belongs to.
use Rattle.std.specs.Prelude.{◌≡◌, ◌<◌, ◌≤◌, ◌++◌, ◌==◌, ◌&&◌, ◌+◌, ℕ, Bool, true, false, List, length, map, Option, Some, None, nat_le, nat_lt}
use Rattle.std.specs.Prelude.{if◌then◌else◌, slice_index_or}
use Rattle.std.proofs.Props.{props}
use Rattle.std.specs.List.{AllByRecursion, filter, list_any, range_with_len}
use Rattle.std.specs.List.Sorted.{IsPermutation}
use Rattle.osm_base.specs.declared.values.place.GeoBox.{GeoBox}
use Rattle.lanes_geo.specs.Nesting.{Ring, depth, holds, is_outer, owner, ring_at}
use Rattle.ring_nest.specs.declared.tree.Leaf.{Leaf}
use Rattle.ring_nest.specs.declared.tree.Tree.{Tree}
use Rattle.ring_nest.specs.declared.tree.Tree.TheVariants.{Few, Halves'}
use Rattle.ring_nest.specs.declared.tree.TheConstants.{LEAF}
use Rattle.ring_nest.specs.declared.holders.Holders.{Holders}
use Rattle.ring_nest.specs.declared.holders.TheConstants.{FEW}
use Rattle.ring_nest.specs.Around.{Covers, IsBoxed, around, some_box, start}

-- whether the ring with a number holds a ring
abbrev pub is_holder : List Ring → Ring → ℕ → Bool
is_holder rings ring number = holds (ring_at rings number) ring

-- a ring that is asked for, with the box of its first place
pub record IsAsked (rings : List Ring) (number : ℕ) (asked : GeoBox) : Type 0 where
  pub boxed : AllByRecursion IsBoxed rings
  pub within : number < length rings
  pub at_start : asked ≡ start (ring_at rings number)

-- the box with a number
abbrev pub box_at : List GeoBox → ℕ → GeoBox
box_at boxes number = slice_index_or boxes number (some_box None)

-- the number of a box that lies within another one
pub record IsCovered (boxes : List GeoBox) (box : GeoBox) (number : ℕ) : Type 0 where
  pub within : number < length boxes
  pub covered : Covers box (box_at boxes number)

-- a leaf has the box of each of its numbers, and one around these
pub record IsLeaf (boxes : List GeoBox) (leaf : Leaf) : Type 0 where
  pub few : length leaf.numbers.items ≤ LEAF
  pub own : leaf.boxes.items ≡ map (box_at boxes) leaf.numbers.items
  pub covers : AllByRecursion (IsCovered boxes leaf.around) leaf.numbers.items

-- the numbers in a tree
abbrev pub numbers_of : Tree → List ℕ
numbers_of (Few leaf) = leaf.numbers.items
numbers_of (Halves' box p left q right) = numbers_of left ++ numbers_of right

-- the box of a tree
abbrev pub box_of_tree : Tree → GeoBox
box_of_tree (Few leaf) = leaf.around
box_of_tree (Halves' box p left q right) = box

-- a tree of numbers of boxes, each part of which has a box around these
abbrev pub IsTree : List GeoBox → Tree → Type 0
IsTree boxes (Few leaf) = IsLeaf boxes leaf
IsTree boxes (Halves' box p left q right) =
    IsTree boxes left × IsTree boxes right × AllByRecursion (IsCovered boxes box) (numbers_of left ++ numbers_of right)

-- the numbers of the rings of a tree that hold a ring
abbrev pub holders_in : List Ring → Tree → Ring → List ℕ
holders_in rings tree ring = filter (is_holder rings ring) (numbers_of tree)

-- holders where they are few enough to be kept
abbrev pub few_of : List ℕ → Option (List ℕ)
few_of holders = if nat_le (length holders) FEW then Some holders else None

-- the ring that a ring belongs to, where it is an inner one
abbrev pub inner_owner : List Ring → Ring → Option ℕ
inner_owner rings ring = if is_outer rings ring then None else owner rings ring

-- a tree of all rings
pub record HoldsAll (rings : List Ring) (tree : Tree) : Type 0 where
  pub boxed : AllByRecursion IsBoxed rings
  pub is_tree : IsTree (map around rings) tree
  pub all : ∥ IsPermutation (range_with_len 0 (length rings)) (numbers_of tree) ∥₁

pub IsTree-prop : (boxes : List GeoBox) (tree : Tree) → IsProp (IsTree boxes tree)
IsTree-prop boxes (Few leaf) = hlevel props
IsTree-prop boxes (Halves' box p left q right) =
    hlevel (IsTree-prop boxes left, IsTree-prop boxes right, props)

-- a tree is one of all rings in one way at most
pub HoldsAll-prop : (rings : List Ring) (tree : Tree) → IsProp (HoldsAll rings tree)
HoldsAll-prop rings tree = hlevel (IsTree-prop (map around rings) tree, props)

-- what is kept of the holders of each ring
pub record KeepsHolders (rings : List Ring) (tree : Tree) (holders : Holders) : Type 0 where
  pub depths : holders.depths.items ≡ map (depth rings) rings
  pub few : holders.few.items ≡ map (λ ring. few_of (holders_in rings tree ring)) rings

-- whether the ring with a number has a depth one less than another one
abbrev pub is_above : List ℕ → ℕ → ℕ → Bool
is_above depths depth number = slice_index_or depths number 0 + 1 == depth

-- the lesser of a number so far, if there is one, and another one
abbrev pub lesser_of : Option ℕ → ℕ → ℕ
lesser_of None number = number
lesser_of (Some least) number = if nat_lt number least then number else least

-- the least of the numbers that pass a test, where one does
abbrev pub IsLeast : (ℕ → Bool) → List ℕ → Option ℕ → Type 0
IsLeast test numbers None = list_any test numbers ≡ false
IsLeast test numbers (Some least) = (test least ≡ true) × (list_any (λ number. number == least) numbers ≡ true)
    × (list_any (λ number. test number && nat_lt number least) numbers ≡ false)
