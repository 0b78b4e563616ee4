-- The rows of all keys, by their numbers.
use Rattle.std.proofs.Common.{◌≡◌, List, get_or, length, map, sym}
use Rattle.std.specs.List.{range_with_len}
use Rattle.std.proofs.lemmas.List.{get_or-map, length-map}
use Rattle.std.proofs.lemmas.List.FromFn.{fill_by_all}

-- what a function makes of a list is what it makes of each place of the list
pub by_number : {A B : Type 0} (f : A → B) (xs : List A) (d : A) → map (λ i. f (get_or xs i d)) (range_with_len 0 (length xs)) ≡ map f xs
by_number f xs d = sym (fill_by_all (λ i. f (get_or xs i d)) (map f xs) (length xs) (f d) (length-map xs f)
    (λ k less. get_or-map f xs k d (f d) less))
