-- Pages with the zeros behind their bytes.
use Rattle.std.proofs.Common.{◌≡◌, ℕ, ◌+◌, ◌-◌, ◌≤◌, List, ◌++◌, length, replicate, drop, ap, ◌∙◌, arith, length-append}
use Rattle.std.proofs.lemmas.List.{append-nil, drop-replicate, length-replicate}
use Rattle.page_journal.specs.PageSet.{padded}

length-padded : (bytes : List ℕ) → length (padded bytes) ≡ length bytes + (4096 - length bytes)
unfolding padded
length-padded bytes =
    length-append bytes (replicate (4096 - length bytes) 0)
    ∙ ap (λ (n : ℕ). length bytes + n) (length-replicate {A = ℕ} (4096 - length bytes) 0)

-- a page has its length where its bytes are no more
pub padded_long : (bytes : List ℕ) → length bytes ≤ 4096 → length (padded bytes) ≡ 4096
padded_long bytes few = omega (arith, length-padded bytes, few)

pub padded_few : (bytes : List ℕ) → length (padded bytes) ≡ 4096 → length bytes ≤ 4096
padded_few bytes long = omega (arith, length-padded bytes, long)

-- and that many bytes are the page
pub padded_whole : (bytes : List ℕ) → length bytes ≡ 4096 → padded bytes ≡ bytes
unfolding padded
padded_whole bytes long =
    let none : 4096 - length bytes ≡ 0 = omega (arith, long) in
    ap (λ (n : ℕ). bytes ++ replicate n 0) none ∙ append-nil bytes

-- and a page of zeros whose front these bytes became is the page
pub page_made : (bytes part : List ℕ) → part ≡ bytes → part ++ drop (length bytes) (replicate 4096 0) ≡ padded bytes
unfolding padded
page_made bytes part same =
    ap (λ (l : List ℕ). l ++ drop (length bytes) (replicate 4096 0)) same
    ∙ ap (λ (l : List ℕ). bytes ++ l) (drop-replicate (length bytes) 4096 0)
