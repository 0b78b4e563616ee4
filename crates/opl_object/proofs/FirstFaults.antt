-- The first fault of a list is the one at which reading its pieces in order stops.
use Rattle.std.proofs.Common.{◌≡◌, ℕ, Bool, true, false, cond, List, [], ◌∷◌, ◌++◌, Result, Ok, Err, refl, ◌∙◌, ap}
use Rattle.std.specs.List.{AllByRecursion}
use Rattle.opl_object.specs.declared.why.Why.{Why}
use Rattle.opl_object.specs.Why.{◌>>=◌, each_piece}
use Rattle.opl_object.proofs.Steps.{bind_ok, ok_is}

-- ---- readings that are refused

abbrev refused : {A : Type 0} → Why → Result A Why
refused why = Err why

abbrev done : {A : Type 0} → A → Result A Why
done x = Ok x

pub err_is : {A : Type 0} (why other : Why) → refused {A = A} why ≡ Err other → other ≡ why
err_is why other e = cc

pub no_err : {A : Type 0} (x : A) (why : Why) → done x ≡ Err why → ⊥
no_err x why e = absurd cc

-- what was refused before its last step was refused there
pub then_err : {A B : Type 0} (read : Result A Why) (made : A → B) (why : Why) → (read >>= λ x. Ok (made x)) ≡ Err why → read ≡ Err why
then_err (Ok x) made why e = absurd (no_err (made x) why e)
then_err (Err cause) made why e = cc

pub chosen_err : {A : Type 0} (test : Bool) (x : A) (cause why : Why) → cond test (Ok x) (Err cause) ≡ Err why
    → (test ≡ false) × (why ≡ cause)
chosen_err true x cause why e = absurd (no_err x why e)
chosen_err false x cause why e = (refl, err_is cause why e)

-- a reading that is begun by a choice
pub taken_err : {A : Type 0} (test : Bool) (x : A) (read : Result A Why) (why : Why) → cond test (Ok x) read ≡ Err why
    → (test ≡ false) × (read ≡ Err why)
taken_err true x read why e = absurd (no_err x why e)
taken_err false x read why e = (refl, e)

-- what a front of a list has
pub all_front : {A : Type 0} (P : A → Type 0) (front rest : List A) → AllByRecursion P (front ++ rest) → AllByRecursion P front
all_front P [] rest all = tt
all_front P (x ∷ front) rest all = (all.0, all_front P front rest all.1)

-- what the item behind a front has
pub all_at : {A : Type 0} (P : A → Type 0) (front : List A) (x : A) (rest : List A) → AllByRecursion P (front ++ x ∷ rest) → P x
all_at P [] x rest all = all.0
all_at P (y ∷ front) x rest all = all_at P front x rest all.1

-- ---- where a reading of pieces stops

-- the pieces before are read, and this one is refused
pub record StopsAt {S : Type 0} (step : S → List ℕ → Result S Why) (front : S) (pieces : List (List ℕ)) (why : Why) : Type 0 where
  pub before : List (List ℕ)
  pub piece : List ℕ
  pub after : List (List ℕ)
  pub state : S
  pub form : pieces ≡ before ++ piece ∷ after
  pub read : each_piece step front before ≡ Ok state
  pub fault : step state piece ≡ Err why

module _ {S : Type 0} (step : S → List ℕ → Result S Why) where
  stopped : (front : S) (piece : List ℕ) (pieces : List (List ℕ)) (why : Why) (read : Result S Why) → step front piece ≡ read
      → ((next : S) → each_piece step next pieces ≡ Err why → StopsAt step next pieces why)
      → (read >>= λ next. each_piece step next pieces) ≡ Err why → StopsAt step front (piece ∷ pieces) why
  unfolding each_piece
  stopped front piece pieces why (Err cause) is later e =
      record { before = []; piece = piece; after = pieces; state = front; form = refl; read = refl; fault = is ∙ e }
  stopped front piece pieces why (Ok next) is later e =
      let s = later next e in
      record {
        before = piece ∷ s.before;
        piece = s.piece;
        after = s.after;
        state = s.state;
        form = ap (λ ps. piece ∷ ps) s.form;
        read = ap (λ r. r >>= λ next. each_piece step next s.before) is ∙ s.read;
        fault = s.fault;
      }

  pub stops_at : (front : S) (pieces : List (List ℕ)) (why : Why) → each_piece step front pieces ≡ Err why → StopsAt step front pieces why
  unfolding each_piece
  stops_at front [] why e = absurd (no_err front why e)
  stops_at front (piece ∷ pieces) why e = stopped front piece pieces why (step front piece) refl (λ next. stops_at next pieces why) e

  pub stops_again : (front : S) (before : List (List ℕ)) (piece : List ℕ) (after : List (List ℕ)) (state : S) (why : Why)
      → each_piece step front before ≡ Ok state → step state piece ≡ Err why → each_piece step front (before ++ piece ∷ after) ≡ Err why
  unfolding each_piece
  stops_again front [] piece after state why read fault =
      ap (λ r. r >>= λ next. each_piece step next after) (ap (λ s. step s piece) (ok_is front state read) ∙ fault)
  stops_again front (first ∷ before) piece after state why read fault =
      let next = bind_ok (step front first) (λ next. each_piece step next before) state read in
      ap (λ r. r >>= λ next. each_piece step next (before ++ piece ∷ after)) next.1
      ∙ stops_again next.0 before piece after state why next.2 fault
