-- How far a worker has drawn.
use Rattle.std.specs.Prelude.{ℕ, ◌+◌, List, fold}

-- one more than the last of a list, 0 where there is none
abbrev pub top : List ℕ → ℕ
top xs = fold (λ _ x. x + 1) 0 xs
