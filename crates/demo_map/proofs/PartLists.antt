-- The entries of squares, as lists.
use Rattle.std.proofs.Common.{◌≡◌, ◌≤◌, ◌<◌, ℕ, suc, ◌+◌, ◌*◌, ◌-◌, Bool, true, false, if◌then◌else◌, cond, List, [], ◌∷◌, ◌++◌, length, map, refl, sym, ap, subst, ◌∙◌, append_assoc, arith}
use Rattle.std.specs.Prelude.{flat_map}
use Rattle.std.specs.List.{filter, range_with_len}
use Rattle.std.proofs.lemmas.List.{length-append}
use Rattle.std.proofs.lemmas.List.FromFn.{length-range_with_len}
use Rattle.osm_base.specs.declared.values.object.Entry.{Entry}
use Rattle.demo_map.specs.declared.parts.Part.{Part}
use Rattle.demo_map.specs.declared.parts.Part.TheVariants.{Ways, Routes, Moved, Gone}
use Rattle.demo_map.specs.Demo.{is_tenth, member_of, members_of, nodes_of, way_of, route_of, moved_of, gone_of, squares}
use Rattle.demo_map.specs.Parts.{entry_of, made_by, made_of, takes_square}

-- what each part is

all_taken : (squares : List ℕ) → filter (takes_square Ways) squares ≡ squares
all_taken [] = refl
all_taken (square ∷ squares) = ap (λ rest. square ∷ rest) (all_taken squares)

pub ways_by : (count : ℕ) (squares : List ℕ) → made_by Ways count squares ≡ map way_of squares
unfolding entry_of
ways_by count squares = ap (λ own. map way_of own) (all_taken squares)

pub routes_by : (count : ℕ) (squares : List ℕ) → made_by Routes count squares ≡ map (route_of count) (filter is_tenth squares)
unfolding entry_of
routes_by count squares = refl

pub moved_by : (count : ℕ) (squares : List ℕ) → made_by Moved count squares ≡ map moved_of (filter is_tenth squares)
unfolding entry_of
moved_by count squares = refl

pub gone_by : (count : ℕ) (squares : List ℕ) → made_by Gone count squares ≡ map gone_of (filter is_tenth squares)
unfolding entry_of
gone_by count squares = refl

-- a square more

one_or_none : (f : ℕ → Entry) (square : ℕ) (chosen : List ℕ) (t : Bool)
    → map f (cond t (square ∷ chosen) chosen) ≡ (if t then f square ∷ [] else []) ++ map f chosen
one_or_none f square chosen true = refl
one_or_none f square chosen false = refl

pub none_of : (part : Part) (count square : ℕ) → takes_square part square ≡ false → made_of part count square ≡ []
none_of part count square none = ap (λ (t : Bool). if t then entry_of part count square ∷ [] else []) none

pub one_of : (part : Part) (count square : ℕ) → takes_square part square ≡ true
    → made_of part count square ≡ entry_of part count square ∷ []
one_of part count square taken = ap (λ (t : Bool). if t then entry_of part count square ∷ [] else []) taken

one_more : (square count : ℕ) → square < count → count - square ≡ suc (count - (square + 1))
one_more square count inside = omega (arith, inside)

-- a list that is added in turn, and then the rest
pub added : {A : Type 0} (before own rest now all whole : List A) → before ++ all ≡ whole → all ≡ own ++ rest → now ≡ before ++ own
    → now ++ rest ≡ whole
added before own rest now all whole kept parts grown =
    ap (λ list. list ++ rest) grown ∙ append_assoc before own rest ∙ ap (λ list. before ++ list) (sym parts) ∙ kept

pub made_by-next : (part : Part) (count square : ℕ) → square < count
    → made_by part count (range_with_len square (count - square))
    ≡ made_of part count square ++ made_by part count (range_with_len (square + 1) (count - (square + 1)))
made_by-next part count square inside =
    ap (λ many. made_by part count (range_with_len square many)) (one_more square count inside)
    ∙ one_or_none (entry_of part count) square (filter (takes_square part) (range_with_len (square + 1) (count - (square + 1))))
    (takes_square part square)

pub nodes-next : (count square : ℕ) → square < count
    → flat_map nodes_of (range_with_len square (count - square))
    ≡ nodes_of square ++ flat_map nodes_of (range_with_len (square + 1) (count - (square + 1)))
nodes-next count square inside = ap (λ many. flat_map nodes_of (range_with_len square many)) (one_more square count inside)

pub members_of-next : (id past : ℕ) → id < past
    → members_of id (past - id) ≡ (member_of id ∷ []) ++ members_of (id + 1) (past - (id + 1))
members_of-next id past inside = ap (λ many. members_of id many) (one_more id past inside)

-- how many there are at most

few_or_none : (f : ℕ → Entry) (square : ℕ) (chosen : List ℕ) (t : Bool)
    → length (map f (cond t (square ∷ chosen) chosen)) ≤ length (map f chosen) + 1
few_or_none f square chosen true = omega arith
few_or_none f square chosen false = omega arith

made_by-few : (part : Part) (count : ℕ) (squares : List ℕ) → length (made_by part count squares) ≤ length squares
made_by-few part count [] = omega arith
made_by-few part count (square ∷ squares) =
    let here = few_or_none (entry_of part count) square (filter (takes_square part) squares) (takes_square part square) in
    let rest = made_by-few part count squares in
    omega (arith, here, rest)

nodes-few : (squares : List ℕ) → length (flat_map nodes_of squares) ≤ 4 * length squares
nodes-few [] = omega arith
nodes-few (square ∷ squares) =
    let rest = nodes-few squares in
    rw (length-append (nodes_of square) (flat_map nodes_of squares)) (omega (arith, rest))

pub few_in_all : (part : Part) (all count : ℕ) → length (made_by part all (squares count)) ≤ count
few_in_all part all count = subst (λ many. length (made_by part all (squares count)) ≤ many) (length-range_with_len 0 count)
    (made_by-few part all (squares count))

pub few_nodes : (count : ℕ) → length (flat_map nodes_of (squares count)) ≤ 4 * count
few_nodes count = subst (λ many. length (flat_map nodes_of (squares count)) ≤ 4 * many) (length-range_with_len 0 count)
    (nodes-few (squares count))
