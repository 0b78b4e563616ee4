-- Pages are dealt.
use Rattle.std.proofs.Common.{◌≡◌, ℕ, zero, suc, ◌+◌, ◌-◌, ◌≤◌, List, [], ◌∷◌, ◌++◌, length, take, drop, sym, ap, ◌∙◌, arith, append_assoc}
use Rattle.std.proofs.Common.{length-take, length-drop}
use Rattle.std.proofs.lemmas.List.{drop-drop, take_all}
use Rattle.chain_store.specs.Parts.{dealt, given, given_by, growth, growth_of, laid_all, laid_of, pages_for, times, times_new, times_old}
use Rattle.chain_store.specs.declared.parts.Part.{Part}
use Rattle.chain_store.specs.declared.parts.Laid.{Laid}
use Rattle.chain_store.proofs.Times.{times-append, times-cut}

-- so many of two lists
pub take-both : (n : ℕ) (xs ys : List ℕ) → take n (xs ++ ys) ≡ take n xs ++ take (n - length xs) ys
take-both zero xs ys = ap (λ (k : ℕ). take k ys) (let none : 0 ≡ 0 - length xs = omega arith in none)
take-both (suc n) [] ys = ap (λ (k : ℕ). take k ys) (let none : suc n ≡ suc n - 0 = omega arith in none)
take-both (suc n) (x ∷ xs) ys =
    let less : n - length xs ≡ suc n - suc (length xs) = omega arith in
    ap (λ (l : List ℕ). x ∷ l) (take-both n xs ys ∙ ap (λ (k : ℕ). take n xs ++ take k ys) less)

take_take : (n : ℕ) (ys : List ℕ) → take n (take n ys) ≡ take n ys
take_take n ys = take_all n (take n ys) (omega (arith, length-take n ys))

-- what a part does not take from the pool makes no difference to it
pub dealt-take : (part : Part) (pool : List ℕ) → dealt part (take (growth_of part) pool) ≡ dealt part pool
dealt-take part pool =
    let need : ℕ = pages_for (length part.bytes) in
    take-both need part.old (take (need - length part.old) pool)
    ∙ ap (λ (l : List ℕ). take need part.old ++ l) (take_take (need - length part.old) pool)
    ∙ sym (take-both need part.old pool)

pub drop-add : (m n : ℕ) (xs : List ℕ) → drop (m + n) xs ≡ drop n (drop m xs)
drop-add m n xs = sym (drop-drop n m xs)

-- one part more
pub laid-more : (front : List Laid) (one : Laid) (part : Part) (rest : List Part) (here pool after : List ℕ) (taken : ℕ)
    → taken ≡ growth_of part → here ≡ take taken pool → after ≡ drop taken pool → one ≡ laid_of part (dealt part here)
    → (front ++ one ∷ []) ++ laid_all rest after ≡ front ++ laid_all (part ∷ rest) pool
laid-more front one part rest here pool after taken many is behind laid =
    let same : dealt part here ≡ dealt part pool =
    ap (λ (l : List ℕ). dealt part l) (is ∙ ap (λ (k : ℕ). take k pool) many) ∙ dealt-take part pool in
    append_assoc front (one ∷ []) (laid_all rest after)
    ∙ ap (λ (l : Laid). front ++ l ∷ laid_all rest after) (laid ∙ ap (λ (l : List ℕ). laid_of part l) same)
    ∙ ap (λ (l : List ℕ). front ++ laid_of part (dealt part pool) ∷ laid_all rest l) (behind ∙ ap (λ (k : ℕ). drop k pool) many)

-- the pages of the parts and what is left of the pool are the old ones and the pool, without those that are given up
pub dealt-times : (p : ℕ) (parts : List Part) (pool : List ℕ) → growth parts ≤ length pool
    → times_new p (laid_all parts pool) + times p (drop (growth parts) pool) + times p (given parts) ≡ times_old p (laid_all parts pool)
    + times p pool
dealt-times p [] pool enough = omega arith
dealt-times p (part ∷ parts) pool enough =
    let need : ℕ = pages_for (length part.bytes) in
    let own : ℕ = length part.old in
    let rest : List ℕ = drop (growth_of part) pool in
    let later = dealt-times p parts rest (omega (arith, enough, length-drop (growth_of part) pool)) in
    let here : times p (dealt part pool) ≡ times p (take need part.old) + times p (take (need - own) pool) =
    ap (λ (l : List ℕ). times p l) (take-both need part.old pool) ∙ times-append p (take need part.old) (take (need - own) pool) in
    let along : times p (drop (growth_of part + growth parts) pool) ≡ times p (drop (growth parts) rest) =
    ap (λ (l : List ℕ). times p l) (drop-add (growth_of part) (growth parts) pool) in
    omega (
      arith,
      later,
      here,
      along,
      times-cut p need part.old,
      times-cut p (need - own) pool,
      times-append p (given_by part) (given parts),
    )
