-- Numbers and pages are equal where their bytes are.
use Rattle.std.proofs.Common.{◌≡◌, ℕ, ◌+◌, ◌-◌, ◌^◌, ◌<◌, ◌≤◌, List, [], ◌++◌, length, take, drop, get_or, refl, sym, ap, ◌∙◌, arith}
use Rattle.std.proofs.Common.{length-take, length-drop}
use Rattle.std.proofs.lemmas.List.{ext_get_or, get_or-take, get_or-drop, take_all, append-nil, drop_all, drop-drop}
use Rattle.std.proofs.lemmas.Nat.{from_le_bytes-to_le_bytes_8}
use Rattle.std.specs.Int.{w64, from_le_bytes, to_le_bytes}
use borrow.Rule.Slice.PartMut.{put_mid}
use Rattle.outside.specs.Disk.{overlaid, ReadsFrom}
use Rattle.outside.proofs.Overlay.{length-overlaid, overlaid-in, overlaid-within}
use Rattle.page_journal.specs.Pages.{head_of, number, page_from}

length-part : (n : ℕ) (bytes : List ℕ) (at : ℕ) → at + n ≤ length bytes → length (take n (drop at bytes)) ≡ n
length-part n bytes at fits = length-take n (drop at bytes) ∙ omega (arith, length-drop at bytes)

part_same : (n : ℕ) (b c : List ℕ) (i j : ℕ) → i + n ≤ length b → j + n ≤ length c
    → ((k : ℕ) → k < n → get_or c (j + k) 0 ≡ get_or b (i + k) 0) → take n (drop j c) ≡ take n (drop i b)
part_same n b c i j in-b in-c same =
    let long-c = length-part n c j in-c in
    let both : length (take n (drop j c)) ≡ length (take n (drop i b)) = long-c ∙ sym (length-part n b i in-b) in
    ext_get_or 0 (take n (drop j c)) (take n (drop i b)) both (λ k inside.
    let below : k < n = omega arith in
    get_or-take n (drop j c) k 0 below ∙ get_or-drop j c k 0 ∙ same k below ∙ sym (get_or-drop i b k 0)
    ∙ sym (get_or-take n (drop i b) k 0 below))

pub number_same : (b c : List ℕ) (i j : ℕ) → i + 8 ≤ length b → j + 8 ≤ length c
    → ((k : ℕ) → k < 8 → get_or c (j + k) 0 ≡ get_or b (i + k) 0) → number c j ≡ number b i
unfolding number
number_same b c i j in-b in-c same = ap (λ (l : List ℕ). from_le_bytes w64 l) (part_same 8 b c i j in-b in-c same)

pub page_same : (b c : List ℕ) (i j : ℕ) → i + 4096 ≤ length b → j + 4096 ≤ length c
    → ((k : ℕ) → k < 4096 → get_or c (j + k) 0 ≡ get_or b (i + k) 0) → page_from c j ≡ page_from b i
unfolding page_from
page_same b c i j in-b in-c same = part_same 4096 b c i j in-b in-c same

-- a list of that length is its own page
pub page_whole : (page : List ℕ) → length page ≡ 4096 → page_from page 0 ≡ page
unfolding page_from
page_whole page long = take_all 4096 page (omega arith)

-- the number at the front of a page is the number at its place
pub number-page_from : (bytes : List ℕ) (at n : ℕ) → at + 4096 ≤ length bytes → n + 8 ≤ 4096
    → number (page_from bytes at) n ≡ number bytes (at + n)
unfolding page_from
number-page_from bytes at n fits inside =
    let long = length-part 4096 bytes at fits in
    number_same bytes (page_from bytes at) (at + n) n (omega arith) (omega arith) (λ k below.
    let place : at + (n + k) ≡ at + n + k = omega arith in
    get_or-take 4096 (drop at bytes) (n + k) 0 (omega arith) ∙ get_or-drop at bytes (n + k) 0
    ∙ ap (λ (i : ℕ). get_or bytes i 0) place)

-- what eight bytes read spell is the number that stands there
pub number_read : (bytes old new : List ℕ) (at count : ℕ) → length old ≡ 8 → at + 8 ≤ length bytes → ReadsFrom at count bytes old new
    → from_le_bytes w64 new ≡ number bytes at
unfolding number
number_read bytes old new at count long fits reads =
    let many : count ≡ 8 = omega (arith, reads.many) in
    let none : drop count old ≡ [] = drop_all count old (omega arith) in
    let whole : new ≡ take 8 (drop at bytes) =
    reads.bytes ∙ ap (λ (l : List ℕ). take count (drop at bytes) ++ l) none ∙ append-nil (take count (drop at bytes))
    ∙ ap (λ (n : ℕ). take n (drop at bytes)) many in
    ap (λ (l : List ℕ). from_le_bytes w64 l) whole

-- and what a page read gives is the page
pub page_read : (bytes old new : List ℕ) (at count : ℕ) → length old ≡ 4096 → count ≡ 4096 → ReadsFrom at count bytes old new
    → new ≡ page_from bytes at
unfolding page_from
page_read bytes old new at count long many reads =
    let none : drop count old ≡ [] = drop_all count old (omega arith) in
    reads.bytes ∙ ap (λ (l : List ℕ). take count (drop at bytes) ++ l) none ∙ append-nil (take count (drop at bytes))
    ∙ ap (λ (n : ℕ). take n (drop at bytes)) many

-- a number whose eight bytes stand there
pub number_put : (bytes : List ℕ) (at n : ℕ) → at + 8 ≤ length bytes → n < 2 ^ 64
    → ((k : ℕ) → k < 8 → get_or bytes (at + k) 0 ≡ get_or (to_le_bytes w64 n) k 0) → number bytes at ≡ n
unfolding number
number_put bytes at n fits small same =
    let spelled : List ℕ = to_le_bytes w64 n in
    let eight : length spelled ≡ 8 = refl in
    let front : (k : ℕ) → 0 + k ≡ k = λ k. omega arith in
    let part : take 8 (drop at bytes) ≡ take 8 spelled = part_same 8 spelled bytes 0 at (omega arith) fits (λ k below.
    same k below ∙ ap (λ (i : ℕ). get_or spelled i 0) (sym (front k))) in
    ap (λ (l : List ℕ). from_le_bytes w64 l) (part ∙ take_all 8 spelled (omega arith)) ∙ from_le_bytes-to_le_bytes_8 n small

-- numbers and pages of bytes that were written over others
pub number_overlaid : (at : ℕ) (bytes content : List ℕ) (n : ℕ) → n + 8 ≤ length bytes
    → number (overlaid at bytes content) (at + n) ≡ number bytes n
number_overlaid at bytes content n inside =
    let long = length-overlaid at bytes content in
    number_same bytes (overlaid at bytes content) n (at + n) inside (omega arith) (λ k below.
    let place : at + n + k ≡ at + (n + k) = omega arith in
    ap (λ (i : ℕ). get_or (overlaid at bytes content) i 0) place ∙ overlaid-in at bytes content (n + k) (omega arith))

pub page_overlaid : (at : ℕ) (page content : List ℕ) → length page ≡ 4096 → page_from (overlaid at page content) at ≡ page
page_overlaid at page content long =
    let size = length-overlaid at page content in
    let front : (k : ℕ) → 0 + k ≡ k = λ k. omega arith in
    page_same page (overlaid at page content) 0 at (omega arith) (omega arith) (λ k below.
    overlaid-in at page content k (omega arith) ∙ ap (λ (i : ℕ). get_or page i 0) (sym (front k)))
    ∙ page_whole page long

-- a number whose bytes were written over others
pub number_written : (at n : ℕ) (content : List ℕ) → n < 2 ^ 64 → number (overlaid at (to_le_bytes w64 n) content) at ≡ n
number_written at n content small =
    let spelled : List ℕ = to_le_bytes w64 n in
    let eight : length spelled ≡ 8 = refl in
    let long = length-overlaid at spelled content in
    number_put (overlaid at spelled content) at n (omega arith) small (λ k below. overlaid-in at spelled content k (omega arith))

-- a part of a slice that was copied over
pub put_mid-overlaid : (at count : ℕ) (old new : List ℕ) → at ≤ length old → length new ≡ count
    → put_mid at (at + count - at) old new ≡ overlaid at new old
put_mid-overlaid at count old new within long =
    let end : at + (at + count - at) ≡ at + length new = omega arith in
    let rest : drop (at + count - at) (drop at old) ≡ drop (at + length new) old =
    drop-drop (at + count - at) at old ∙ ap (λ (n : ℕ). drop n old) end in
    ap (λ (l : List ℕ). take at old ++ (new ++ l)) rest ∙ sym (overlaid-within at new old within)

-- one byte that was read
pub byte_read : (bytes old new : List ℕ) (at count : ℕ) → length old ≡ 1 → at + 1 ≤ length bytes → ReadsFrom at count bytes old new
    → get_or new 0 0 ≡ get_or bytes at 0
byte_read bytes old new at count long fits reads =
    let many : count ≡ 1 = omega (arith, reads.many) in
    let none : drop count old ≡ [] = drop_all count old (omega arith) in
    let whole : new ≡ take 1 (drop at bytes) =
    reads.bytes ∙ ap (λ (l : List ℕ). take count (drop at bytes) ++ l) none ∙ append-nil (take count (drop at bytes))
    ∙ ap (λ (n : ℕ). take n (drop at bytes)) many in
    let place : at + 0 ≡ at = omega arith in
    ap (λ (l : List ℕ). get_or l 0 0) whole ∙ get_or-take 1 (drop at bytes) 0 0 (omega arith) ∙ get_or-drop at bytes 0 0
    ∙ ap (λ (i : ℕ). get_or bytes i 0) place

-- a page that was read, where it is there
pub page_read_whole : (bytes old new : List ℕ) (at count : ℕ) → length old ≡ 4096 → at + 4096 ≤ length bytes
    → ReadsFrom at count bytes old new
    → new ≡ page_from bytes at
page_read_whole bytes old new at count long fits reads = page_read bytes old new at count long (omega (arith, reads.many)) reads

pub page_long : (bytes : List ℕ) (at : ℕ) → at + 4096 ≤ length bytes → length (page_from bytes at) ≡ 4096
unfolding page_from
page_long bytes at fits = length-part 4096 bytes at fits

-- the first two pages, as they are read
pub head_read : (bytes old new : List ℕ) (count : ℕ) → length old ≡ 8192 → 8192 ≤ length bytes → ReadsFrom 0 count bytes old new
    → new ≡ head_of bytes
head_read bytes old new count long fits reads =
    let many : count ≡ 8192 = omega (arith, reads.many) in
    let none : drop count old ≡ [] = drop_all count old (omega arith) in
    reads.bytes ∙ ap (λ (l : List ℕ). take count bytes ++ l) none ∙ append-nil (take count bytes) ∙ ap (λ (n : ℕ). take n bytes) many

pub number-head_of : (bytes : List ℕ) (at : ℕ) → at + 8 ≤ 8192 → 8192 ≤ length bytes → number (head_of bytes) at ≡ number bytes at
number-head_of bytes at inside fits =
    let long : length (head_of bytes) ≡ 8192 = length-take 8192 bytes ∙ omega arith in
    number_same bytes (head_of bytes) at at (omega arith) (omega arith) (λ k below. get_or-take 8192 bytes (at + k) 0 (omega arith))

pub byte-head_of : (bytes : List ℕ) (at : ℕ) → at < 8192 → get_or (head_of bytes) at 0 ≡ get_or bytes at 0
byte-head_of bytes at inside = get_or-take 8192 bytes at 0 inside

-- the number that eight bytes of them spell
pub number_part : (bytes : List ℕ) (at : ℕ) → from_le_bytes w64 (take (at + 8 - at) (drop at bytes)) ≡ number bytes at
unfolding number
number_part bytes at =
    let eight : at + 8 - at ≡ 8 = omega arith in
    ap (λ (n : ℕ). from_le_bytes w64 (take n (drop at bytes))) eight
