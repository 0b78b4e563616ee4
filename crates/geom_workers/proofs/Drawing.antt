-- How near a worker is to the end of the tickets.
use Rattle.std.proofs.Common.{ℕ, ◌+◌, ◌-◌, ◌≡◌, ◌<◌, ◌≤◌, List, [], ◌∷◌, ◌++◌, append_assoc, ap, ◌∙◌, arith, subst, sym}
use Rattle.std.specs.Prelude.{All, fold}
use Rattle.geom_workers.specs.Drawn.{top}
use Rattle.std.proofs.lemmas.List.Elements.{All-head, All-tail}
use Rattle.std.proofs.lemmas.List.Sums.{fold_push}

-- numbers below n
top_from : (start n : ℕ) (xs : List ℕ) → start ≤ n → All (λ x. x < n) xs → fold (λ _ x. x + 1) start xs ≤ n
top_from start n [] le all = le
top_from start n (x ∷ xs) le all = top_from (x + 1) n xs (let less = All-head (λ x. x < n) x xs all in omega arith)
    (All-tail (λ x. x < n) x xs all)

-- a ticket above the earlier ones is nearer to the end
pub nearer : (xs : List ℕ) (ticket tickets : ℕ) → All (λ x. x < ticket) xs → ticket < tickets
    → tickets - top (xs ++ ticket ∷ []) < tickets - top xs
nearer xs ticket tickets all below =
    let first = top_from 0 ticket xs (omega arith) all in
    let next = fold_push (λ (_ : ℕ) (x : ℕ). x + 1) 0 xs ticket in
    omega arith

-- and so are those that are drawn behind it
pub nearer_still : (xs next last : List ℕ) (ticket tickets : ℕ) → All (λ x. x < ticket) xs → ticket < tickets → next ≡ xs ++ ticket ∷ []
    → top next ≤ top last → tickets - top last < tickets - top xs
nearer_still xs next last ticket tickets all below is further =
    let near = nearer xs ticket tickets all below in
    let behind = subst (λ (own : List ℕ). top own ≤ top last) is further in
    omega (arith, near, behind)

-- and further than each worker's start
pub further : (start now next : List ℕ) (ticket : ℕ) → top start ≤ top now → All (λ x. x < ticket) now → next ≡ now ++ ticket ∷ []
    → top start ≤ top next
further start now next ticket far all is =
    let first = top_from 0 ticket now (omega arith) all in
    let last = fold_push (λ (_ : ℕ) (x : ℕ). x + 1) 0 now ticket in
    subst (λ (own : List ℕ). top start ≤ top own) (sym is) (omega arith)

-- what a seat drew is what it drew before, and then the batch
pub grown : (before batch tickets next items : List ℕ) (ticket : ℕ) → tickets ≡ before ++ batch → next ≡ tickets ++ ticket ∷ []
    → items ≡ batch ++ ticket ∷ [] → next ≡ before ++ items
grown before batch tickets next items ticket was drawn more =
    drawn ∙ ap (λ (own : List ℕ). own ++ ticket ∷ []) was ∙ append_assoc before batch (ticket ∷ [])
    ∙ sym (ap (λ (own : List ℕ). before ++ own) more)
