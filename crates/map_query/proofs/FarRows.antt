-- Rows in blocks, of which those are passed over whose box is far.
use Rattle.std.proofs.Common.{◌≡◌, ℕ, ◌+◌, ◌∙◌, ap, sym, arith, refl, List, [], ◌∷◌, ◌++◌, map, take, drop, Option, None, Some, Bool, true, false}
use Rattle.std.proofs.Common.{ℤ, int_le, ◌&&◌, append_assoc, ◌<◌, length, get_or, subst, suc, drop-cons, add-one}
use Rattle.std.specs.Prelude.{filter}
use Rattle.std.specs.Int.{int_min, int_max}
use Rattle.std.specs.List.{fold}
use Rattle.std.proofs.lemmas.Int.{ints}
use Rattle.std.proofs.lemmas.List.{drop-drop, take-append-drop}
use Rattle.osm_base.specs.declared.values.place.GeoBox.{GeoBox}
use Rattle.osm_base.specs.declared.values.row.NumberedRow.{NumberedRow}
use Rattle.lanes_geo.specs.Box.{meets}
use Rattle.style_read.specs.Style.{StyleOf}
use Rattle.map_query.specs.Answer.{around, is_in, joined_boxes, near, numbered}
use Rattle.map_query.specs.Ordered.{AreBlocks, around_rows, met, seen}
use Rattle.map_query.specs.declared.boxed.BoxedRow.{BoxedRow}

fewer : (a b c d p q r s : Bool) → (p ≡ true → a ≡ true) → (q ≡ true → b ≡ true) → (r ≡ true → c ≡ true) → (s ≡ true → d ≡ true)
    → ((a && b) && (c && d)) ≡ false → ((p && q) && (r && s)) ≡ false
fewer a b c d false q r s f g h i e = refl
fewer a b c d true false r s f g h i e = refl
fewer a b c d true true false s f g h i e = refl
fewer a b c d true true true false f g h i e = refl
fewer a b c d true true true true f g h i e =
    let one = f refl in
    let two = g refl in
    let three = h refl in
    let four = i refl in
    let none = rw (one, two, three, four) at e in
    absurd (cc none)

low_one : (one other most : ℤ) → int_le one most ≡ true → int_le (int_min one other) most ≡ true
low_one one other most h = grind (arith, ints)

low_other : (one other most : ℤ) → int_le other most ≡ true → int_le (int_min one other) most ≡ true
low_other one other most h = grind (arith, ints)

high_one : (one other least : ℤ) → int_le least one ≡ true → int_le least (int_max one other) ≡ true
high_one one other least h = grind (arith, ints)

high_other : (one other least : ℤ) → int_le least other ≡ true → int_le least (int_max one other) ≡ true
high_other one other least h = grind (arith, ints)

-- what is far from the box around two boxes is far from each

far_one : (asked one other : GeoBox) → meets asked (around one other) ≡ false → meets asked one ≡ false
far_one asked one other far =
    fewer (int_le (int_min one.west other.west) asked.east) (int_le asked.west (int_max one.east other.east))
    (int_le (int_min one.south other.south) asked.north) (int_le asked.south (int_max one.north other.north))
    (int_le one.west asked.east) (int_le asked.west one.east) (int_le one.south asked.north) (int_le asked.south one.north)
    (low_one one.west other.west asked.east) (high_one one.east other.east asked.west)
    (low_one one.south other.south asked.north) (high_one one.north other.north asked.south) far

far_other : (asked one other : GeoBox) → meets asked (around one other) ≡ false → meets asked other ≡ false
far_other asked one other far =
    fewer (int_le (int_min one.west other.west) asked.east) (int_le asked.west (int_max one.east other.east))
    (int_le (int_min one.south other.south) asked.north) (int_le asked.south (int_max one.north other.north))
    (int_le other.west asked.east) (int_le asked.west other.east) (int_le other.south asked.north) (int_le asked.south other.north)
    (low_other one.west other.west asked.east) (high_other one.east other.east asked.west)
    (low_other one.south other.south asked.north) (high_other one.north other.north asked.south) far

joined_far : (asked : GeoBox) (one other : Option GeoBox) → near asked (joined_boxes one other) ≡ false
    → (near asked one ≡ false) × (near asked other ≡ false)
joined_far asked None other far = (refl, far)
joined_far asked (Some one) None far = (far, refl)
joined_far asked (Some one) (Some other) far = (far_one asked one other far, far_other asked one other far)

-- what is far from the box around many is far from that which it began with
fold_far : (asked : GeoBox) (start : Option GeoBox) (boxes : List (Option GeoBox)) → near asked (fold joined_boxes start boxes) ≡ false
    → near asked start ≡ false
fold_far asked start [] far = far
fold_far asked start (box ∷ boxes) far = (joined_far asked start box (fold_far asked (joined_boxes start box) boxes far)).0

none_in : (asked : GeoBox) (start : Option GeoBox) (rows : List BoxedRow)
    → near asked (fold joined_boxes start (map (λ own. own.around) rows)) ≡ false
    → filter (λ own. is_in asked own.1) (map seen rows) ≡ []
none_in asked start [] far = refl
none_in asked start (own ∷ rows) far =
    let apart = fold_far asked (joined_boxes start own.around) (map (λ own. own.around) rows) far in
    let out : is_in asked own.row.now ≡ false = ap (near asked) (sym own.boxed) ∙ (joined_far asked start own.around apart).1 in
    rw out (none_in asked (joined_boxes start own.around) rows far)

-- none of the rows of a block that is far is found
pub none_met : (style : StyleOf) (table : ℕ) (asked : GeoBox) (rows : List BoxedRow) → near asked (around_rows rows) ≡ false
    → met style table asked rows ≡ []
none_met style table asked rows far = ap (numbered style table) (none_in asked None rows far)

met-append : (style : StyleOf) (table : ℕ) (asked : GeoBox) (front back : List BoxedRow)
    → met style table asked (front ++ back) ≡ met style table asked front ++ met style table asked back
met-append style table asked [] back = refl
met-append style table asked (own ∷ front) back = by (is_in asked own.row.now) refl (met-append style table asked front back)
  where
    by : (test : Bool) → is_in asked own.row.now ≡ test → met style table asked (front ++ back) ≡ met style table asked front ++ met style table asked back
        → met style table asked (own ∷ front ++ back) ≡ met style table asked (own ∷ front) ++ met style table asked back
    by true e later = rw e (ap (λ rest. numbered style table (seen own ∷ []) ++ rest) later)
    by false e later = rw e later

-- what is found among the rows of a block, and then among those behind it
pub met_on : (style : StyleOf) (table : ℕ) (asked : GeoBox) (rows : List BoxedRow)
    → met style table asked rows ≡ met style table asked (take 64 rows) ++ met style table asked (drop 64 rows)
met_on style table asked rows =
    ap (met style table asked) (sym (take-append-drop 64 rows)) ∙ met-append style table asked (take 64 rows) (drop 64 rows)

-- the next block of rows
pub block_next : (blocks : List (Option GeoBox)) (rows : List BoxedRow) (i at : ℕ) → i < length blocks → AreBlocks (drop i blocks) (drop at rows)
    → (0 < length (drop at rows)) × (get_or blocks i None ≡ around_rows (take 64 (drop at rows)))
    × AreBlocks (drop (i + 1) blocks) (drop (at + 64) rows)
block_next blocks rows i at within are =
    let next : AreBlocks (get_or blocks i None ∷ drop (suc i) blocks) (drop at rows) =
    subst (λ (own : List (Option GeoBox)). AreBlocks own (drop at rows)) (drop-cons blocks i None within) are in (
      next.0,
      next.1,
      subst (λ (own : List (Option GeoBox)). AreBlocks own (drop (at + 64) rows)) (ap (λ n. drop n blocks) (sym (add-one i)))
          (subst (λ (own : List BoxedRow). AreBlocks (drop (suc i) blocks) own) (drop-drop 64 at rows) next.2),
    )

-- what is found in a block comes to what was found before it
pub found_next : (style : StyleOf) (table : ℕ) (asked : GeoBox) (rows : List BoxedRow) (at : ℕ) (old new all : List NumberedRow)
    → old ++ met style table asked (drop at rows) ≡ all → new ≡ old ++ met style table asked (take 64 (drop at rows))
    → new ++ met style table asked (drop (at + 64) rows) ≡ all
found_next style table asked rows at old new all before is =
    ap (λ own. own ++ met style table asked (drop (at + 64) rows)) is
    ∙ append_assoc old (met style table asked (take 64 (drop at rows))) (met style table asked (drop (at + 64) rows))
    ∙ ap (λ own. old ++ own)
    (ap (λ own. met style table asked (take 64 (drop at rows)) ++ met style table asked own) (sym (drop-drop 64 at rows))
    ∙ sym (met_on style table asked (drop at rows)))
    ∙ before

-- a block more, and then those behind it
pub blocks_more : (blocks more : List (Option GeoBox)) (box : Option GeoBox) (all rows : List BoxedRow) (at : ℕ)
    → ((later : List (Option GeoBox)) → AreBlocks later (drop at rows) → AreBlocks (blocks ++ later) all) → 0 < length (drop at rows)
    → box ≡ around_rows (take 64 (drop at rows)) → more ≡ blocks ++ box ∷ []
    → (later : List (Option GeoBox)) → AreBlocks later (drop (at + 64) rows) → AreBlocks (more ++ later) all
blocks_more blocks more box all rows at before some is grown later are =
    subst (λ (own : List (Option GeoBox)). AreBlocks own all)
    (sym (ap (λ own. own ++ later) grown ∙ append_assoc blocks (box ∷ []) later))
    (before (box ∷ later) (some, is, subst (λ (own : List BoxedRow). AreBlocks later own) (sym (drop-drop 64 at rows)) are))
