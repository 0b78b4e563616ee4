-- All that an iterator gives, where each of its runs gives what it had left.
use Rattle.std.proofs.Common.{◌≡◌, ℕ, ◌<◌, zero, suc, refl, ap, arith, true, List, [], ◌∷◌, Option, Some, length, slice_get, slice_index_or}
use Rattle.std.specs.Option.{option_map}
use Rattle.std.specs.Iterator.{Drains, DrainsIf}
use Rattle.std.specs.Iterator.Runs.{Run, Trigger, YieldsRun, YieldsInOrder}

seen : (n : ℕ) → Trigger n
unfolding Trigger
seen n = tt

read_at : {A : Type 0} (xs : List A) (k : ℕ) (d : A) → k < length xs → slice_get xs k ≡ Some (slice_index_or xs k d)
read_at [] k d h = absurd (omega (arith, h))
read_at (x ∷ xs) zero d h = refl
read_at (x ∷ xs) (suc k) d h = read_at xs k d (omega (arith, h))

gave : {S A : Type 0} (steps : S → Option A → S → Type 0) (s : S) (xs : List A) → DrainsIf steps (true ≡ true) s xs
    → YieldsRun steps s xs true (slice_get xs)
unfolding YieldsRun
gave steps s xs e = (e, λ k. refl)

abbrev whole_run : {S A : Type 0} (steps : S → Option A → S → Type 0) (s : S) (xs : List A) → Drains steps s xs → Run steps
whole_run steps s xs e = record {
  from = s;
  items = xs;
  whole = true;
  len = length xs;
  at = slice_get xs;
  seen = seen (length xs);
  long = refl;
  reads = λ k d h. ap (option_map (λ y. y)) (read_at xs k d h);
  gave = gave steps s xs (e.1.0, e.1.1, λ _. (e.0, e.1.2));
}

pub all_drained : {S A : Type 0} (steps : S → Option A → S → Type 0) (left : S → List A) (s : S) (xs : List A) → YieldsInOrder steps left
    → Drains steps s xs → xs ≡ left s
all_drained steps left s xs order e = let run = whole_run steps s xs e in (order run run.seen).4 refl
