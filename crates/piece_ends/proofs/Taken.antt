-- What is left of the pieces when one more is used.
use Rattle.std.proofs.Common.{◌≡◌, ◌≢◌, ℕ, zero, suc, ◌<◌, Bool, true, false, cond, Some, None, List, [], ◌∷◌, length, get_or, set}
use Rattle.std.proofs.Common.{replicate, refl, sym, ◌∙◌, ap, subst, arith, get_or-set_other, length-set, ⊎_elim, Result, Ok, Err}
use Rattle.std.specs.Prelude.{OnOk, OnErr}
use Rattle.std.specs.Option.{option_map}
use Rattle.std.specs.FinMap as map
use Rattle.std.proofs.lemmas.Bool.{cases_eq}
use Rattle.osm_base.specs.values.Place.{PlaceOf}
use Rattle.piece_ends.specs.declared.index.Links.{Links}
use Rattle.piece_ends.specs.Heads.{HeadMap}
use Rattle.piece_ends.specs.Pieces.{Line, same_place, fits}
use Rattle.piece_ends.specs.Index.{unused_of, piece_at, IsAt, AreHeads, AreHeadsFrom, IsIndex, IsLowestAt, NoneAt, AreUsedBelow, head_of}
use Rattle.piece_ends.specs.Walk.{next_at}
use Rattle.piece_ends.proofs.SamePlace.{one_place, head_of-insert}
use Rattle.piece_ends.proofs.IndexBuilt.{either}

-- nothing is used at first
pub unused_of-replicate : (pieces : List Line) → unused_of (replicate (length pieces) false) pieces ≡ pieces
unused_of-replicate [] = refl
unused_of-replicate (piece ∷ pieces) = ap (λ rest. piece ∷ rest) (unused_of-replicate pieces)

-- the lowest unused piece at a place is the first one there among the unused
next_at-here : (place : PlaceOf) (used : List Bool) (pieces : List Line) (number : ℕ) → number < length pieces
    → fits place (get_or pieces number []) ≡ true
    → get_or used number true ≡ false → ((other : ℕ) → other < number → get_or used other true ≡ false
    → fits place (get_or pieces other []) ≡ false)
    → next_at place (unused_of used pieces) ≡ Some (get_or pieces number [], unused_of (set used number true) pieces)
next_at-here place [] pieces number below fit free passed = absurd (cc)
next_at-here place (mark ∷ used) [] number below fit free passed = absurd (omega arith)
next_at-here place (true ∷ used) (piece ∷ pieces) zero below fit free passed = absurd (cc)
next_at-here place (false ∷ used) (piece ∷ pieces) zero below fit free passed = rw fit refl
next_at-here place (true ∷ used) (piece ∷ pieces) (suc number) below fit free passed =
    next_at-here place used pieces number (omega arith) fit free (λ other less. passed (suc other) (omega arith))
next_at-here place (false ∷ used) (piece ∷ pieces) (suc number) below fit free passed =
    let off : fits place piece ≡ false = passed 0 (omega arith) refl in
    rw off (ap (option_map (λ found. (found.0, piece ∷ found.1)))
    (next_at-here place used pieces number (omega arith) fit free (λ other less. passed (suc other) (omega arith))))

next_at-off : (place : PlaceOf) (used : List Bool) (pieces : List Line)
    → ((other : ℕ) → other < length pieces → get_or used other true ≡ false → fits place (get_or pieces other []) ≡ false)
    → next_at place (unused_of used pieces) ≡ None
next_at-off place [] pieces passed = refl
next_at-off place (true ∷ used) [] passed = refl
next_at-off place (false ∷ used) [] passed = refl
next_at-off place (true ∷ used) (piece ∷ pieces) passed = next_at-off place used pieces (λ other less. passed (suc other) (omega arith))
next_at-off place (false ∷ used) (piece ∷ pieces) passed =
    let off : fits place piece ≡ false = passed 0 (omega arith) refl in
    rw off (ap (option_map (λ found. (found.0, piece ∷ found.1)))
    (next_at-off place used pieces (λ other less. passed (suc other) (omega arith))))

module _ (pieces : List Line) (used : List Bool) (place : PlaceOf) where
  pub next_at-lowest : (number : ℕ) → IsLowestAt pieces used place number
      → next_at place (unused_of used pieces) ≡ Some (piece_at pieces number, unused_of (set used number true) pieces)
  next_at-lowest number low = next_at-here place used pieces number low.at_place.below low.at_place.fit low.unused (λ other less free.
      ⊎_elim
      (λ fit. let below : other < length pieces = omega (arith, low.at_place.below) in
      absurd (omega (arith, low.lowest other (record { below = below; fit = fit }) free)))
      (λ off. off)
      (either (fits place (get_or pieces other []))))

  pub next_at-none : NoneAt pieces used place → next_at place (unused_of used pieces) ≡ None
  next_at-none none = next_at-off place used pieces (λ other below free.
      ⊎_elim
      (λ fit. let busy : get_or used other true ≡ true = none other (record { below = below; fit = fit }) in absurd (cc))
      (λ off. off)
      (either (fits place (get_or pieces other []))))

-- the first unused piece
pub unused_of-first : (used : List Bool) (pieces : List Line) (number : ℕ) → number < length pieces → get_or used number true ≡ false
    → AreUsedBelow used number
    → unused_of used pieces ≡ get_or pieces number [] ∷ unused_of (set used number true) pieces
unused_of-first [] pieces number below free passed = absurd (cc)
unused_of-first (mark ∷ used) [] number below free passed = absurd (omega arith)
unused_of-first (true ∷ used) (piece ∷ pieces) zero below free passed = absurd (cc)
unused_of-first (false ∷ used) (piece ∷ pieces) zero below free passed = refl
unused_of-first (true ∷ used) (piece ∷ pieces) (suc number) below free passed =
    unused_of-first used pieces number (omega arith) free (λ other less. passed (suc other) (omega arith))
unused_of-first (false ∷ used) (piece ∷ pieces) (suc number) below free passed =
    let busy : false ≡ true = passed 0 (omega arith) in absurd (cc)

pub unused_of-all : (used : List Bool) (pieces : List Line) → AreUsedBelow used (length used) → unused_of used pieces ≡ []
unused_of-all [] pieces passed = refl
unused_of-all (true ∷ used) [] passed = refl
unused_of-all (false ∷ used) [] passed = refl
unused_of-all (true ∷ used) (piece ∷ pieces) passed = unused_of-all used pieces (λ other less. passed (suc other) (omega arith))
unused_of-all (false ∷ used) (piece ∷ pieces) passed = let busy : false ≡ true = passed 0 (omega arith) in absurd (cc)

-- a mark more
pub still_free : (used : List Bool) (number other : ℕ) → get_or (set used number true) other true ≡ false
    → (other ≢ number) × (get_or used other true ≡ false)
still_free used number other free = ⊎_elim
    (λ (e : other ≡ number). absurd (let h : get_or (set used number true) number true ≡ true = marked_now used number in
    let g : get_or (set used number true) number true ≡ false = subst (λ n. get_or (set used number true) n true ≡ false) e free in cc))
    (λ (e : other ≢ number). (e, sym (get_or-set_other used number other true true e) ∙ free))
    (cases_eq other number)
  where
    marked_now : (used : List Bool) (number : ℕ) → get_or (set used number true) number true ≡ true
    marked_now [] number = refl
    marked_now (mark ∷ used) zero = refl
    marked_now (mark ∷ used) (suc number) = marked_now used number

pub AreUsedBelow-set : (used : List Bool) (first number : ℕ) → AreUsedBelow used first → AreUsedBelow (set used number true) first
AreUsedBelow-set used first number passed other less =
    ⊎_elim (λ t. t) (λ f. let h = passed other less in let g = (still_free used number other f).1 in absurd (cc))
    (either (get_or (set used number true) other true))

module _ (pieces : List Line) (used : List Bool) (links : List Links) (heads : HeadMap) (index : IsIndex pieces used links heads)
    (number : ℕ) where
  pub IsIndex-used : IsIndex pieces (set used number true) links heads
  IsIndex-used = record {
    marks = length-set used number true ∙ index.marks;
    rows = index.rows;
    points = index.points;
    linked = index.linked;
    headed = record {
      at_place = index.headed.at_place;
      lowest = λ place other here free. index.headed.lowest place other here (still_free used number other free).1;
    };
  }

  -- the lowest unused piece at a place may become the head there
  pub IsIndex-headed : (place : PlaceOf) → IsLowestAt pieces used place number
      → IsIndex pieces (set used number true) links (map.insert heads place number)
  IsIndex-headed place low =
      let headed_at : (q : PlaceOf) → head_of pieces (map.insert heads place number) q
      ≡ cond (same_place q place) number (head_of pieces heads q) = head_of-insert pieces heads place number in
      record {
        marks = length-set used number true ∙ index.marks;
        rows = index.rows;
        points = index.points;
        linked = index.linked;
        headed = record {
          at_place = λ q below. ⊎_elim
              (λ t. let is_number : head_of pieces (map.insert heads place number) q ≡ number =
              headed_at q ∙ ap (λ b. cond b number (head_of pieces heads q)) t in
              rw (is_number, one_place q place t) low.at_place)
              (λ f. let is_old : head_of pieces (map.insert heads place number) q ≡ head_of pieces heads q =
              headed_at q ∙ ap (λ b. cond b number (head_of pieces heads q)) f in
              rw is_old (index.headed.at_place q (rw is_old at below)))
              (either (same_place q place));
          lowest = λ q other here free. ⊎_elim
              (λ t. let is_number : head_of pieces (map.insert heads place number) q ≡ number =
              headed_at q ∙ ap (λ b. cond b number (head_of pieces heads q)) t in
              rw is_number (low.lowest other (subst (λ own. IsAt pieces own other) (one_place q place t) here)
              (still_free used number other free).1))
              (λ f. let is_old : head_of pieces (map.insert heads place number) q ≡ head_of pieces heads q =
              headed_at q ∙ ap (λ b. cond b number (head_of pieces heads q)) f in
              rw is_old (index.headed.lowest q other here (still_free used number other free).1))
              (either (same_place q place));
        };
      }

  -- whether there was memory for it or not
  pub IsIndex-put : {T E : Type 0} (place : PlaceOf) (result : Result T E) (after : HeadMap)
      → OnOk result (after ≡ map.insert heads place number) → OnErr result (after ≡ heads)
      → IsLowestAt pieces used place number → IsIndex pieces (set used number true) links after
  IsIndex-put place (Ok value) after ok err low = subst (IsIndex pieces (set used number true) links) (sym ok) (IsIndex-headed place low)
  IsIndex-put place (Err error) after ok err low = subst (IsIndex pieces (set used number true) links) (sym err) IsIndex-used

-- the heads of pieces of which none is used
pub AreHeads-new : (pieces : List Line) (heads : HeadMap) (used : List Bool) → AreHeadsFrom pieces heads 0 → AreHeads pieces heads used
AreHeads-new pieces heads used headed = record {
  at_place = λ place. (headed place).at_place;
  lowest = λ place number here free. (headed place).lowest number (omega arith) here;
}
