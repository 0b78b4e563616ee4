-- Reading one piece after the other, as a loop does.
use Rattle.std.proofs.Common.{◌≡◌, ℕ, List, [], ◌∷◌, Result, Ok, Err, sym, ap, ◌∙◌}
use Rattle.opl_object.specs.declared.why.Why.{Why}
use Rattle.opl_object.specs.declared.why.LineRefused.{LineRefused}
use Rattle.opl_object.specs.declared.why.LineRefused.TheVariants.{Bad, OutOfMemory}
use Rattle.opl_object.specs.Why.{◌>>=◌, each_piece, Refuses}

module _ {A : Type 0} (step : A → List ℕ → Result A Why) (front : A) (piece : List ℕ) (pieces : List (List ℕ)) (all : Result A Why) where
  -- the piece is read
  pub goes_on : (next : A) → each_piece step front (piece ∷ pieces) ≡ all → step front piece ≡ Ok next → each_piece step next pieces ≡ all
  unfolding each_piece
  goes_on next so_far read = sym (ap (λ r. r >>= λ x. each_piece step x pieces) read) ∙ so_far

  -- it has a fault
  pub fault_at : (why : Why) → each_piece step front (piece ∷ pieces) ≡ all → step front piece ≡ Err why → all ≡ Err why
  unfolding each_piece
  fault_at why so_far read = sym so_far ∙ ap (λ r. r >>= λ x. each_piece step x pieces) read

  -- it is refused
  pub refused_at : (refused : LineRefused) → each_piece step front (piece ∷ pieces) ≡ all → Refuses refused (step front piece)
      → Refuses refused all
  refused_at (Bad why) so_far read = fault_at why so_far read
  refused_at OutOfMemory so_far read = tt

-- no piece is left
pub none_left : {A : Type 0} (step : A → List ℕ → Result A Why) (front : A) (all : Result A Why) → each_piece step front [] ≡ all
    → all ≡ Ok front
unfolding each_piece
none_left step front all so_far = sym so_far

-- what was refused is refused in what follows from it
pub refused_then : {A B : Type 0} (refused : LineRefused) (read : Result A Why) (next : A → Result B Why) → Refuses refused read
    → Refuses refused (read >>= next)
refused_then (Bad why) read next e = ap (λ r. r >>= next) e
refused_then OutOfMemory read next e = tt
