-- Numbers in bytes.
use Rattle.std.proofs.Common.{◌≡◌, ℕ, ◌+◌, ◌-◌, ◌≤◌, List, length, take, drop, ap, arith}
use Rattle.std.proofs.lemmas.List.{drop_all}
use Rattle.std.specs.Int.{w32, w64, from_le_bytes}
use Rattle.page_journal.specs.Pages.{number}
use Rattle.chain_store.specs.Links.{half_number}

-- the number that four bytes of them spell
pub half_part : (bytes : List ℕ) (at : ℕ) → from_le_bytes w32 (take (at + 4 - at) (drop at bytes)) ≡ half_number bytes at
unfolding half_number
half_part bytes at =
    let four : at + 4 - at ≡ 4 = omega arith in
    ap (λ (n : ℕ). from_le_bytes w32 (take n (drop at bytes))) four

-- behind the end of bytes stand zeros
pub number-beyond : (bytes : List ℕ) (at : ℕ) → length bytes ≤ at → number bytes at ≡ 0
unfolding number
number-beyond bytes at behind = ap (λ (l : List ℕ). from_le_bytes w64 (take 8 l)) (drop_all at bytes behind)
