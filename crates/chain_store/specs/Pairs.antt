-- What a commit puts into the set of pages.
use Rattle.std.specs.Prelude.{ℕ, ◌-◌, ◌==◌, ◌&&◌, Bool, cond, List, [], ◌∷◌, ◌++◌, length, drop, replicate}
use Rattle.std.specs.Int.{w32, w64, to_le_bytes}
use Rattle.std.specs.FinMap as map
use Rattle.page_journal.specs.PageSet.{PageMap}
use Rattle.chain_store.specs.Parts.{first_held, head_or, later_held}
use Rattle.chain_store.specs.declared.parts.Laid.{Laid}

-- the front of a page of a chain, and the page
abbrev pub link_front : ℕ → ℕ → List ℕ → List ℕ
link_front next owner held = to_le_bytes w64 next ++ (to_le_bytes w32 (length held) ++ (to_le_bytes w32 owner ++ held))

unfoldable pub link_page : ℕ → ℕ → List ℕ → List ℕ
link_page next owner held = link_front next owner held ++ replicate (4096 - length (link_front next owner held)) 0

-- a set with these pages put into it, one after another
abbrev pub puts : PageMap → List (ℕ × List ℕ) → PageMap
puts set [] = set
puts set (pair ∷ pairs) = puts (map.insert set pair.0 pair.1) pairs

-- the page with this number was the first of these, before the same next page, and its mark says that it keeps its bytes
abbrev pub stays_so : ℕ → ℕ → List ℕ → List ℕ → Bool
stays_so n next old same = (head_or old 0 == n) && (head_or (drop 1 old) 0 == next) && (head_or same 0 == 1)

-- the pages of a chain that has these bytes, at these numbers, without those that stay; after the last comes `tail`
abbrev pub chain_pairs : ℕ → ℕ → List ℕ → List ℕ → List ℕ → List ℕ → List (ℕ × List ℕ)
chain_pairs owner tail [] bytes old same = []
chain_pairs owner tail (n ∷ ns) bytes old same =
    cond (stays_so n (head_or ns tail) old same) (chain_pairs owner tail ns (later_held bytes) (drop 1 old) (drop 1 same))
    ((n, link_page (head_or ns tail) owner (first_held bytes)) ∷ chain_pairs owner tail ns (later_held bytes) (drop 1 old) (drop 1 same))

-- those of several chains
abbrev pub laid_pairs : List Laid → List (ℕ × List ℕ)
laid_pairs [] = []
laid_pairs (one ∷ others) = chain_pairs one.number 0 one.pages one.bytes one.old one.same ++ laid_pairs others
