-- Histories that grow.
use Rattle.std.proofs.Common.{◌≡◌, ◌≤◌, ◌+◌, ℕ, List, [], ◌∷◌, ◌++◌, length, refl, sym, ap, subst, arith, length-append}
use Rattle.std.proofs.lemmas.List.{take_all, take-append-le}
use Rattle.std.proofs.lemmas.List.Sums.{fold-append}
use Rattle.update_flow.specs.History.{History, state_after}
use Rattle.update_flow.specs.Stands.{StandsFor}
use Rattle.update_flow.specs.State.{State, Step, after}
use Rattle.run_promise.specs.Keeps.{Is, IsOneOf, whole, with_steps}

pub length_more : {A : Type 0} (items : List A) (item : A) → length (items ++ item ∷ []) ≡ length items + 1
length_more items item = length-append items (item ∷ [])

pub append_more : {A : Type 0} (one two three : List A) → (one ++ two) ++ three ≡ one ++ (two ++ three)
append_more [] two three = refl
append_more (item ∷ one) two three = ap (λ own. item ∷ own) (append_more one two three)

-- the state after one step more
pub state-more : (step : Step) (history : History) → state_after (with_steps (step ∷ []) history) ≡ after (state_after history) step
state-more step history = fold-append after history.base history.steps (step ∷ [])

-- bytes after so many steps stay so when the history grows
pub is_more : (bytes : List ℕ) (history : History) (more : List Step) (steps : ℕ) → Is bytes history steps
    → Is bytes (with_steps more history) steps
is_more bytes history more steps is = record {
  within = omega (arith, is.within, longer history.steps more);
  stands = subst (λ (own : List Step). StandsFor bytes (state_after (record { base = history.base; steps = own })))
      (sym (take-append-le steps history.steps more is.within)) is.stands;
}
  where
    longer : (one two : List Step) → length one ≤ length (one ++ two)
    longer [] two = omega arith
    longer (item ∷ one) two = let rest = longer one two in omega (arith, rest)

-- bytes after all steps
pub is_all : (bytes : List ℕ) (history : History) → StandsFor bytes (state_after history) → Is bytes history (length history.steps)
is_all bytes history stands = record {
  within = omega arith;
  stands = subst (λ (own : List Step). StandsFor bytes (state_after (record { base = history.base; steps = own })))
      (sym (take_all (length history.steps) history.steps (omega arith))) stands;
}

pub one_of_all : (bytes : List ℕ) (history : History) → StandsFor bytes (state_after history) → IsOneOf (whole history) bytes
one_of_all bytes history stands = (length history.steps, omega arith, omega arith, is_all bytes history stands)

-- bytes after one step more
pub is_next : (bytes : List ℕ) (history : History) (step : Step) → StandsFor bytes (after (state_after history) step)
    → Is bytes (with_steps (step ∷ []) history) (length history.steps + 1)
is_next bytes history step stands =
    subst (λ (count : ℕ). Is bytes (with_steps (step ∷ []) history) count) (length_more history.steps step)
    (is_all bytes (with_steps (step ∷ []) history)
    (subst (λ (state : State). StandsFor bytes state) (sym (state-more step history)) stands))
