-- Pages are put into a set, one after another.
use Rattle.std.proofs.Common.{◌≡◌, inl, inr, ℕ, ◌+◌, ◌<◌, ◌≤◌, ◌==◌, ◌&&◌, min, Bool, true, false, cond, List, [], ◌∷◌, ◌++◌, length}
use Rattle.std.proofs.Common.{take, drop, get_or, refl, sym, ap, ◌∙◌, arith, append_assoc, length-append, add-one, drop-cons}
use Rattle.std.proofs.lemmas.Bool.{cases_lt}
use Rattle.std.proofs.lemmas.List.{drop-drop, drop_all, take_all}
use Rattle.std.specs.Int.{w32, w64, to_le_bytes}
use Rattle.std.proofs.Math.ListN.{set}
use Rattle.std.specs.FinMap as finite
use Rattle.page_journal.specs.PageSet.{PageMap, padded}
use Rattle.chain_store.specs.Pairs.{chain_pairs, link_front, link_page, puts, stays_so}
use Rattle.chain_store.specs.Parts.{first_held, head_or, later_held}

-- what a page holds, where fewer bytes are there
pub cut_held : (bytes : List ℕ) (n : ℕ) → n ≡ min (length bytes) 4080 → take n bytes ≡ first_held bytes
unfolding first_held
cut_held bytes n is = elim (cases_lt (length bytes) 4080) [
  | inl few ↦ take_all n bytes (omega (arith, is, few)) ∙ sym (take_all 4080 bytes (omega (arith, few)))
  | inr many ↦ ap (λ (k : ℕ). take k bytes) (let all : n ≡ 4080 = omega (arith, is, many) in all)
]

pub cut_later : (bytes : List ℕ) (n : ℕ) → n ≡ min (length bytes) 4080 → drop n bytes ≡ later_held bytes
unfolding later_held
cut_later bytes n is = elim (cases_lt (length bytes) 4080) [
  | inl few ↦ drop_all n bytes (omega (arith, is, few)) ∙ sym (drop_all 4080 bytes (omega (arith, few)))
  | inr many ↦ ap (λ (k : ℕ). drop k bytes) (let all : n ≡ 4080 = omega (arith, is, many) in all)
]

-- what was written of a page field by field
link_whole : (next owner n : ℕ) (held one two three four : List ℕ) → one ≡ [] ++ to_le_bytes w64 next → n ≡ length held
    → two ≡ one ++ to_le_bytes w32 n → three ≡ two ++ to_le_bytes w32 owner → four ≡ three ++ held → four ≡ link_front next owner held
link_whole next owner n held one two three four is1 many is2 is3 is4 =
    is4 ∙ ap (λ (l : List ℕ). l ++ held) (is3
    ∙ ap (λ (l : List ℕ). l ++ to_le_bytes w32 owner) (is2 ∙ ap (λ (l : List ℕ). l ++ to_le_bytes w32 n) is1))
    ∙ ap (λ (k : ℕ). ((to_le_bytes w64 next ++ to_le_bytes w32 k) ++ to_le_bytes w32 owner) ++ held) many
    ∙ simp append_assoc

-- it fits the page
pub link_fits : (next owner n : ℕ) (held one two three four : List ℕ) → one ≡ [] ++ to_le_bytes w64 next → n ≡ length held
    → two ≡ one ++ to_le_bytes w32 n → three ≡ two ++ to_le_bytes w32 owner → four ≡ three ++ held → length held ≤ 4080
    → length four ≤ 4096
link_fits next owner n held one two three four is1 many is2 is3 is4 few =
    let whole = link_whole next owner n held one two three four is1 many is2 is3 is4 in
    let eight : length (to_le_bytes w64 next) ≡ 8 = refl in
    let four_many : length (to_le_bytes w32 (length held)) ≡ 4 = refl in
    let four_owner : length (to_le_bytes w32 owner) ≡ 4 = refl in
    omega (
      arith,
      ap (λ (l : List ℕ). length l) whole,
      length-append (to_le_bytes w64 next) (to_le_bytes w32 (length held) ++ (to_le_bytes w32 owner ++ held)),
      length-append (to_le_bytes w32 (length held)) (to_le_bytes w32 owner ++ held),
      length-append (to_le_bytes w32 owner) held,
      eight,
      four_many,
      four_owner,
      few,
    )

-- and with zeros behind it is the page
pub link_made : (next owner n : ℕ) (held one two three four : List ℕ) → one ≡ [] ++ to_le_bytes w64 next → n ≡ length held
    → two ≡ one ++ to_le_bytes w32 n → three ≡ two ++ to_le_bytes w32 owner → four ≡ three ++ held
    → padded four ≡ link_page next owner held
unfolding link_page padded
link_made next owner n held one two three four is1 many is2 is3 is4 =
    ap (λ (l : List ℕ). padded l) (link_whole next owner n held one two three four is1 many is2 is3 is4)

pub puts-append : (set : PageMap) (xs ys : List (ℕ × List ℕ)) → puts set (xs ++ ys) ≡ puts (puts set xs) ys
puts-append set [] ys = refl
puts-append set (pair ∷ pairs) ys = puts-append (finite.insert set pair.0 pair.1) pairs ys

pub puts-cond : (b : Bool) (set : PageMap) (pair : ℕ × List ℕ) (rest : List (ℕ × List ℕ))
    → puts (cond b set (finite.insert set pair.0 pair.1)) rest ≡ puts set (cond b rest (pair ∷ rest))
puts-cond true set pair rest = refl
puts-cond false set pair rest = refl

-- what stands at a place, and behind it
pub drop-at : {A : Type 0} (xs : List A) (i : ℕ) (d : A) → i < length xs → drop i xs ≡ get_or xs i d ∷ drop (i + 1) xs
drop-at xs i d below = rw (add-one, drop-cons xs i d) refl

pub chain-more : (set next : PageMap) (owner tail : ℕ) (pages old same rest held later : List ℕ) (i : ℕ) → i < length pages
    → held ≡ first_held rest → later ≡ later_held rest
    → next ≡ cond (stays_so (get_or pages i 0) (head_or (drop (i + 1) pages) tail) (drop i old) (drop i same)) set
    (finite.insert set (get_or pages i 0) (link_page (head_or (drop (i + 1) pages) tail) owner held))
    → puts next (chain_pairs owner tail (drop (i + 1) pages) later (drop (i + 1) old) (drop (i + 1) same))
    ≡ puts set (chain_pairs owner tail (drop i pages) rest (drop i old) (drop i same))
chain-more set next owner tail pages old same rest held later i below is behind step =
    let n : ℕ = get_or pages i 0 in
    let after : ℕ = head_or (drop (i + 1) pages) tail in
    let stays : Bool = stays_so n after (drop i old) (drop i same) in
    let pairs : List (ℕ × List ℕ) = chain_pairs owner tail (drop (i + 1) pages) (later_held rest) (drop 1 (drop i old))
    (drop 1 (drop i same)) in
    ap (λ (s : PageMap). puts s (chain_pairs owner tail (drop (i + 1) pages) later (drop (i + 1) old) (drop (i + 1) same))) step
    ∙ ap (λ (l : List ℕ). puts (cond stays set (finite.insert set n (link_page after owner l)))
    (chain_pairs owner tail (drop (i + 1) pages) later (drop (i + 1) old) (drop (i + 1) same))) is
    ∙ ap (λ (l : List ℕ). puts (cond stays set (finite.insert set n (link_page after owner (first_held rest))))
    (chain_pairs owner tail (drop (i + 1) pages) l (drop (i + 1) old) (drop (i + 1) same))) behind
    ∙ ap (λ (l : List ℕ). puts (cond stays set (finite.insert set n (link_page after owner (first_held rest))))
    (chain_pairs owner tail (drop (i + 1) pages) (later_held rest) l (drop (i + 1) same))) (sym (drop-drop 1 i old))
    ∙ ap (λ (l : List ℕ). puts (cond stays set (finite.insert set n (link_page after owner (first_held rest))))
    (chain_pairs owner tail (drop (i + 1) pages) (later_held rest) (drop 1 (drop i old)) l)) (sym (drop-drop 1 i same))
    ∙ puts-cond stays set (n, link_page after owner (first_held rest)) pairs
    ∙ ap (λ (ns : List ℕ). puts set (chain_pairs owner tail ns rest (drop i old) (drop i same))) (sym (drop-at pages i 0 below))

pub kept_is : (n next place : ℕ) (old same : List ℕ) (found : Bool)
    → found ≡ ((head_or (drop place old) 0 == n) && (head_or (drop (place + 1) old) 0 == next))
    → stays_so n next (drop place old) same ≡ (found && (head_or same 0 == 1))
kept_is n next place old same found is =
    ap (λ (l : List ℕ). ((head_or (drop place old) 0 == n) && (head_or l 0 == next)) && (head_or same 0 == 1)) (drop-drop 1 place old)
    ∙ ap (λ (b : Bool). b && (head_or same 0 == 1)) (sym is)
