-- Which pages of a chain keep their bytes: a mark for each page, 1 where it has the same bytes as before.
use Rattle.std.specs.Prelude.{◌≡◌, ℕ, zero, suc, List, [], ◌∷◌, Option, None, Some, cond, length}
use Rattle.std.specs.Str.{bytes_eq}
use Rattle.chain_store.specs.Parts.{first_held, later_held, pages_for}

-- the mark of a page that held these bytes, and holds those
abbrev pub mark_of : List ℕ → List ℕ → ℕ
mark_of before held = cond (bytes_eq before held) 1 0

-- the marks of so many pages of a chain that had the ones of these bytes, and has the others
abbrev pub same_from : ℕ → List ℕ → List ℕ → List ℕ
same_from zero before bytes = []
same_from (suc many) before bytes = mark_of (first_held before) (first_held bytes) ∷ same_from many (later_held before) (later_held bytes)

-- those of all its pages
unfoldable pub same_pages : List ℕ → List ℕ → List ℕ
same_pages before bytes = same_from (pages_for (length bytes)) before bytes

-- those where the bytes before are known; else none
abbrev pub marks_over : Option (List ℕ) → List ℕ → List ℕ
marks_over None bytes = []
marks_over (Some before) bytes = same_pages before bytes

-- only pages that keep their bytes are marked
abbrev pub AreSame : List ℕ → List ℕ → List ℕ → Type 0
AreSame [] before bytes = Unit {0}
AreSame (mark ∷ marks) before bytes = (mark ≡ 1 → first_held before ≡ first_held bytes)
    × AreSame marks (later_held before) (later_held bytes)
