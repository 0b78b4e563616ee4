-- The texts of pieces of rows, and texts that are put one behind another.
use Rattle.std.proofs.Common.{◌≡◌, ℕ, ◌+◌, ◌<◌, List, [], ◌∷◌, ◌++◌, length, drop, get_or, Some, Result, Ok, Err, IfOk, refl, sym, ap, ◌∙◌, subst, append_assoc, arith, Vec, Global}
use Rattle.std.specs.Prelude.{flat_map, map, max, MatchResult}
use Rattle.std.specs.Borrow.{Bor}
use Rattle.std.specs.List.{AllZip, Contains}
use Rattle.std.proofs.lemmas.List.{drop_more}
use Rattle.rayon.specs.Lists.{chunks_of}
use Rattle.rayon.proofs.ToStd.{chunks_of-concat}
use Rattle.osm_base.specs.declared.bounds.memory.OutOfMemory.{OutOfMemory}
use Rattle.osm_base.specs.declared.values.row.Row.{Row}
use Rattle.osm_base.specs.map.Spots.{SpotOf}
use Rattle.delta_feed.specs.Text.{entry_lines, row_lines, table_entries, ended_lines}
use Rattle.delta_feed.proofs.Trees.{text_append}

-- texts, one behind another
abbrev pub bytes_of : List (Vec ℕ Global) → List ℕ
bytes_of texts = flat_map (λ (text : Vec ℕ Global). text.items) texts

-- those from a place on begin with the one there
pub bytes_more : (texts : List (Vec ℕ Global)) (i : ℕ) (text : Vec ℕ Global) → i < length texts → text ≡ get_or texts i text
    → bytes_of (drop i texts) ≡ text.items ++ bytes_of (drop (i + 1) texts)
bytes_more texts i text there is =
    ap bytes_of (drop_more texts i text there) ∙ ap (λ (own : Vec ℕ Global). own.items ++ bytes_of (drop (i + 1) texts)) (sym is)

-- the text of rows
abbrev pub told : List (SpotOf × Row) → List ℕ
told entries = ended_lines (entry_lines (table_entries entries))

told_append : (entries others : List (SpotOf × Row)) → told (entries ++ others) ≡ told entries ++ told others
told_append [] others = refl
told_append (entry ∷ entries) others =
    let first = row_lines entry.0 (Some entry.1) in
    text_append first (entry_lines (table_entries (entries ++ others)))
    ∙ ap (λ (own : List ℕ). ended_lines first ++ own) (told_append entries others)
    ∙ sym (append_assoc (ended_lines first) (told entries) (told others))
    ∙ ap (λ (own : List ℕ). own ++ told others) (sym (text_append first (entry_lines (table_entries entries))))

-- pieces of them, one behind another
abbrev joined : List (Bor (List (SpotOf × Row))) → List (SpotOf × Row)
joined pieces = flat_map (λ (piece : Bor (List (SpotOf × Row))). piece.now) pieces

joined_now : (pieces : List (Bor (List (SpotOf × Row))))
    → joined pieces ≡ flat_map (λ (own : List (SpotOf × Row)). own) (map (λ (piece : Bor (List (SpotOf × Row))). piece.now) pieces)
joined_now [] = refl
joined_now (piece ∷ pieces) = ap (λ (own : List (SpotOf × Row)). piece.now ++ own) (joined_now pieces)

-- what is made of a piece is its text, if memory was there
abbrev pub IsTextOf : Bor (List (SpotOf × Row)) → Result (Vec ℕ Global) OutOfMemory → Type 0
IsTextOf piece made = IfOk made (λ text. text.items ≡ told piece.now)

all_texts : (pieces : List (Bor (List (SpotOf × Row)))) (texts : List (Vec ℕ Global))
    → AllZip IsTextOf pieces (map Ok texts) → bytes_of texts ≡ told (joined pieces)
all_texts [] [] each = refl
all_texts [] (text ∷ texts) each = absurd each
all_texts (piece ∷ pieces) [] each = absurd each
all_texts (piece ∷ pieces) (text ∷ texts) each =
    ap (λ (own : List ℕ). own ++ bytes_of texts) each.0
    ∙ ap (λ (own : List ℕ). told piece.now ++ own) (all_texts pieces texts each.1)
    ∙ sym (told_append piece.now (joined pieces))

-- the texts of all the pieces are the text of the rows
pub pieces_told : (made : Result (Vec (Vec ℕ Global) Global) OutOfMemory) (pieces : List (Bor (List (SpotOf × Row))))
    (texts : List (Result (Vec ℕ Global) OutOfMemory)) (slice entries : List (SpotOf × Row)) (size : ℕ) → slice ≡ entries
    → map (λ (piece : Bor (List (SpotOf × Row))). piece.now) pieces ≡ chunks_of (max size 1) slice → AllZip IsTextOf pieces texts
    → MatchResult made (λ all. (own : List (Vec ℕ Global)) × (texts ≡ map Ok own) × (all.items ≡ own)) (λ fault. Contains texts (Err fault))
    → IfOk made (λ all. bytes_of all.items ≡ told entries)
pieces_told (Ok all) pieces texts slice entries size same shown each (own, are, items) =
    let some : 0 < max size 1 = omega arith in
    ap bytes_of items
    ∙ all_texts pieces own (subst (λ (made : List (Result (Vec ℕ Global) OutOfMemory)). AllZip IsTextOf pieces made) are each)
    ∙ ap told (joined_now pieces
    ∙ ap (λ (pieces : List (List (SpotOf × Row))). flat_map (λ (own : List (SpotOf × Row)). own) pieces) shown
    ∙ chunks_of-concat (max size 1) slice some ∙ same)
pieces_told (Err fault) pieces texts slice entries size same shown each whole = tt
