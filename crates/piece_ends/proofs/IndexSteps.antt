-- Steps along the pieces at a place.
use Rattle.std.proofs.Common.{◌≡◌, ◌≢◌, ℕ, ◌<◌, ◌≤◌, Bool, true, false, zero, suc, List, [], ◌∷◌, length, get_or, refl, arith}
use Rattle.osm_base.specs.values.Place.{PlaceOf}
use Rattle.piece_ends.specs.declared.index.Links.{Links}
use Rattle.piece_ends.specs.Heads.{HeadMap}
use Rattle.piece_ends.specs.Pieces.{Line}
use Rattle.piece_ends.specs.Index.{IsAt, IsIndex, NoneAt, next_of, head_of}

pub true_from_not_false : (b : Bool) → (b ≡ false → ⊥) → b ≡ true
true_from_not_false true h = refl
true_from_not_false false h = absurd (h refl)

-- what a read mark says of a number at any default
pub marked : (used : List Bool) (number : ℕ) → get_or used number false ≡ true → get_or used number true ≡ true
marked [] number e = refl
marked (mark ∷ used) zero e = e
marked (mark ∷ used) (suc number) e = marked used number e

module _ (pieces : List Line) (used : List Bool) (place : PlaceOf) where
  -- a number is at the place, or is that of all pieces, and no unused piece there is below it
  pub record IsReached (number : ℕ) : Type 0 where
    pub at_place : number < length pieces → IsAt pieces place number
    pub passed : (other : ℕ) → IsAt pieces place other → get_or used other true ≡ false → number ≤ other

  pub none_at_end : (number : ℕ) → IsReached number → length pieces ≤ number → NoneAt pieces used place
  none_at_end number reached end other here =
      true_from_not_false _ (λ free. let most : number ≤ other = reached.passed other here free in absurd (omega (arith, here.below)))

  -- from the head
  pub reached_head : (links : List Links) (heads : HeadMap) → IsIndex pieces used links heads → IsReached (head_of pieces heads place)
  reached_head links heads index = record { at_place = index.headed.at_place place; passed = index.headed.lowest place }

  -- and from a used piece to the next one
  pub reached_next : (links : List Links) (heads : HeadMap) → IsIndex pieces used links heads → (number : ℕ) → number < length pieces
      → IsReached number → get_or used number true ≡ true → IsReached (next_of pieces links place number)
  reached_next links heads index number below reached busy =
      let here = reached.at_place below in
      let next = index.linked place number (omega arith) here in
      record {
        at_place = next.at_place;
        passed = λ other own free.
            let most : number ≤ other = reached.passed other own free in
            let apart : other ≢ number = λ e. let one : get_or used number true ≡ false = rw (← e) free in cc in
            next.lowest other (omega arith) own;
      }
