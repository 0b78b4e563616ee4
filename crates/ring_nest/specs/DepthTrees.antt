-- Rings by their depths: the numbers of the rings of each depth, and a tree of these.
use Rattle.std.specs.Prelude.{◌≡◌, ◌<◌, ◌+◌, ℕ, [], List, length, map, slice_index_or}
use Rattle.std.specs.List.{AllByRecursion, filter, range_with_len}
use Rattle.std.specs.List.Sorted.{IsPermutation}
use Rattle.osm_base.specs.declared.values.place.GeoBox.{GeoBox}
use Rattle.lanes_geo.specs.Nesting.{Ring}
use Rattle.ring_nest.specs.declared.tree.Tree.{Tree}
use Rattle.ring_nest.specs.Around.{IsBoxed, around}
use Rattle.ring_nest.specs.Holders.{IsTree, is_above, numbers_of}

-- the numbers of the rings of a depth, among the first ones: a ring that is one deeper has its owner among them
abbrev pub of_depth : List ℕ → ℕ → ℕ → List ℕ
of_depth depths count deep = filter (is_above depths (deep + 1)) (range_with_len 0 count)

-- the numbers of the rings of each depth, among the first ones
pub record HasLists (depths : List ℕ) (count : ℕ) (lists : List (List ℕ)) : Type 0 where
  pub long : length lists ≡ length depths + 1
  pub each : (deep : ℕ) → deep < length lists → slice_index_or lists deep [] ≡ of_depth depths count deep

-- a tree of the boxes with these numbers
pub record IsTreeOf (boxes : List GeoBox) (numbers : List ℕ) (tree : Tree) : Type 0 where
  pub is_tree : IsTree boxes tree
  pub all : IsPermutation numbers (numbers_of tree)

-- trees of the first lists
pub record HasTrees (boxes : List GeoBox) (lists : List (List ℕ)) (count : ℕ) (trees : List Tree) : Type 0 where
  pub long : length trees ≡ count
  pub each : (deep : ℕ) (tree : Tree) → deep < length trees → tree ≡ slice_index_or trees deep tree
      → IsTreeOf boxes (slice_index_or lists deep []) tree

-- a tree of the rings of each depth
pub record HoldsDepths (rings : List Ring) (depths : List ℕ) (trees : List Tree) : Type 0 where
  pub boxed : AllByRecursion IsBoxed rings
  pub long : length trees ≡ length rings + 1
  pub each : (deep : ℕ) (tree : Tree) → deep < length trees → tree ≡ slice_index_or trees deep tree
      → IsTreeOf (map around rings) (of_depth depths (length rings) deep) tree
