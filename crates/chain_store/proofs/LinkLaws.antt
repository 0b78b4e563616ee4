-- What a page of a chain tells that was written.
use Rattle.std.proofs.Common.{◌≡◌, ◌≢◌, ℕ, ◌-◌, ◌^◌, ◌<◌, ◌≤◌, List, ◌++◌, length, take, drop, replicate, refl, sym, ap, ◌∙◌, arith}
use Rattle.std.proofs.Common.{append_assoc}
use Rattle.std.proofs.Math.Seq.{drop-append_seam, take-append_seam}
use Rattle.std.proofs.lemmas.Nat.{from_le_bytes-to_le_bytes_4, from_le_bytes-to_le_bytes_8}
use Rattle.std.specs.Int.{w32, w64, from_le_bytes, to_le_bytes}
use Rattle.page_journal.specs.Pages.{number}
use Rattle.chain_store.specs.Links.{data_of, half_number, held_in, many_of, next_of, owner_of}
use Rattle.chain_store.specs.Pairs.{link_front, link_page}
use Rattle.chain_store.specs.declared.layout.TheConstants.{FREE}
use Rattle.chain_store.proofs.Paths.{data_of-link}

-- a number behind other bytes
half_behind : (front rest : List ℕ) (n at : ℕ) → at ≡ length front → n < 2 ^ 32 → half_number (front ++ (to_le_bytes w32 n ++ rest)) at ≡ n
unfolding half_number
half_behind front rest n at is small =
    let four : length (to_le_bytes w32 n) ≡ 4 = refl in
    ap (λ (k : ℕ). from_le_bytes w32 (take 4 (drop k (front ++ (to_le_bytes w32 n ++ rest))))) is
    ∙ ap (λ (l : List ℕ). from_le_bytes w32 (take 4 l)) (drop-append_seam front (to_le_bytes w32 n ++ rest))
    ∙ ap (λ (k : ℕ). from_le_bytes w32 (take k (to_le_bytes w32 n ++ rest))) (sym four)
    ∙ ap (λ (l : List ℕ). from_le_bytes w32 l) (take-append_seam (to_le_bytes w32 n) rest)
    ∙ from_le_bytes-to_le_bytes_4 n small

number_first : (rest : List ℕ) (n : ℕ) → n < 2 ^ 64 → number (to_le_bytes w64 n ++ rest) 0 ≡ n
unfolding number
number_first rest n small =
    let eight : length (to_le_bytes w64 n) ≡ 8 = refl in
    ap (λ (k : ℕ). from_le_bytes w64 (take k (to_le_bytes w64 n ++ rest))) (sym eight)
    ∙ ap (λ (l : List ℕ). from_le_bytes w64 l) (take-append_seam (to_le_bytes w64 n) rest)
    ∙ from_le_bytes-to_le_bytes_8 n small

module _ (next owner : ℕ) (held : List ℕ) where
  zeros : List ℕ
  zeros = replicate (4096 - length (link_front next owner held)) 0

  pages_as : link_page next owner held ≡ to_le_bytes w64 next
      ++ (to_le_bytes w32 (length held) ++ (to_le_bytes w32 owner ++ (held ++ zeros)))
  unfolding link_page zeros
  pages_as =
      append_assoc (to_le_bytes w64 next) (to_le_bytes w32 (length held) ++ (to_le_bytes w32 owner ++ held)) zeros
      ∙ ap (λ (l : List ℕ). to_le_bytes w64 next ++ l) (append_assoc (to_le_bytes w32 (length held)) (to_le_bytes w32 owner ++ held) zeros
      ∙ ap (λ (l : List ℕ). to_le_bytes w32 (length held) ++ l) (append_assoc (to_le_bytes w32 owner) held zeros))

  pub next_of-link_page : next < 2 ^ 64 → next_of (link_page next owner held) ≡ next
  next_of-link_page small = ap (λ (l : List ℕ). next_of l) pages_as
      ∙ number_first (to_le_bytes w32 (length held) ++ (to_le_bytes w32 owner ++ (held ++ zeros))) next small

  pub many_of-link_page : length held ≤ 4080 → many_of (link_page next owner held) ≡ length held
  many_of-link_page few =
      let eight : 8 ≡ length (to_le_bytes w64 next) = refl in
      ap (λ (l : List ℕ). many_of l) pages_as
      ∙ half_behind (to_le_bytes w64 next) (to_le_bytes w32 owner ++ (held ++ zeros)) (length held) 8 eight (omega (arith, few))

  pub owner_of-link_page : owner < 2 ^ 32 → owner_of (link_page next owner held) ≡ owner
  owner_of-link_page small =
      let front : List ℕ = to_le_bytes w64 next ++ to_le_bytes w32 (length held) in
      let twelve : 12 ≡ length front = refl in
      ap (λ (l : List ℕ). owner_of l) (pages_as
      ∙ sym (append_assoc (to_le_bytes w64 next) (to_le_bytes w32 (length held)) (to_le_bytes w32 owner ++ (held ++ zeros))))
      ∙ half_behind front (held ++ zeros) owner 12 twelve small

  held_behind : held_in (length held) (link_page next owner held) ≡ held
  unfolding held_in
  held_behind =
      let front : List ℕ = (to_le_bytes w64 next ++ to_le_bytes w32 (length held)) ++ to_le_bytes w32 owner in
      let sixteen : 16 ≡ length front = refl in
      let whole : link_page next owner held ≡ front ++ (held ++ zeros) =
      pages_as ∙ sym (append_assoc (to_le_bytes w64 next) (to_le_bytes w32 (length held)) (to_le_bytes w32 owner ++ (held ++ zeros)))
      ∙ sym (append_assoc (to_le_bytes w64 next ++ to_le_bytes w32 (length held)) (to_le_bytes w32 owner) (held ++ zeros)) in
      ap (λ (l : List ℕ). take (length held) (drop 16 l)) whole
      ∙ ap (λ (k : ℕ). take (length held) (drop k (front ++ (held ++ zeros)))) sixteen
      ∙ ap (λ (l : List ℕ). take (length held) l) (drop-append_seam front (held ++ zeros))
      ∙ take-append_seam held zeros

  pub data_of-link_page : length held ≤ 4080 → owner < 2 ^ 32 → owner ≢ FREE → data_of (link_page next owner held) ≡ held
  data_of-link_page few small own =
      data_of-link (link_page next owner held) (λ is. own (sym (owner_of-link_page small) ∙ is))
      ∙ ap (λ (n : ℕ). held_in n (link_page next owner held)) (many_of-link_page few)
      ∙ held_behind
