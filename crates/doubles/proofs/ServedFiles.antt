-- Files whose bytes are given out from the front.
use Rattle.std.proofs.Common.{◌≡◌, ◌≢◌, ℕ, ◌+◌, ◌-◌, ◌<◌, ◌≤◌, List, [], ◌++◌, length, take, drop, get_or, sym, ap, ◌∙◌, subst, arith, min}
use Rattle.std.proofs.Common.{Option, Some, inl, inr, length-drop}
use Rattle.std.proofs.Math.ListN.{set, length-set}
use Rattle.std.proofs.lemmas.Bool.{cases_lt}
use Rattle.std.proofs.lemmas.List.{take_at, set-set, drop-drop, drop_all, get_or-set_same, get_or-set_other, take-append-drop}
use Rattle.std.proofs.lemmas.Option.{slice_get-get_or, slice_get_past}
use Rattle.std.specs.Io.KnownBytes.{Consumes, IsAtEnd}
use Rattle.std.specs.List.{slice_get}

-- bytes that were rotated to the left, cut to what stood behind the front
pub rotated_cut : (count n : ℕ) (file bytes rotated cut : List ℕ) → bytes ≡ file → rotated ≡ drop count bytes ++ take count bytes
    → length bytes - count ≡ n → cut ≡ take n rotated → cut ≡ drop count file
rotated_cut count n file bytes rotated cut same turned long cut-is =
    cut-is ∙ ap (λ xs. take n xs) turned
    ∙ take_at (drop count bytes) (take count bytes) n (length-drop count bytes ∙ long)
    ∙ ap (λ xs. drop count xs) same

-- more bytes served from the front of one file, of files of which some were served already
pub set-served_more : (files now : List (List ℕ)) (file served count : ℕ) → file < length files
    → set files file (drop served (get_or files file [])) ≡ now
    → set files file (drop (served + count) (get_or files file [])) ≡ set now file (drop count (get_or now file []))
set-served_more files now file served count within shown =
    let left : List ℕ = drop served (get_or files file []) in
    let P : List (List ℕ) → Type 0 =
    λ xs. set files file (drop (served + count) (get_or files file [])) ≡ set xs file (drop count (get_or xs file [])) in
    let at-file : get_or (set files file left) file [] ≡ left = get_or-set_same files file left [] within in
    subst P shown
    (sym (set-set files file left (drop count (get_or (set files file left) file []))
    ∙ ap (λ xs. set files file (drop count xs)) at-file
    ∙ ap (λ xs. set files file xs) (drop-drop count served (get_or files file []))))

-- what is left of the file itself
left-at-file : (files after : List (List ℕ)) (file count : ℕ) → file < length files
    → after ≡ set files file (drop count (get_or files file []))
    → slice_get after file ≡ Some (drop count (get_or files file []))
left-at-file files after file count within left =
    let bytes : List ℕ = drop count (get_or files file []) in
    let within-set : file < length (set files file bytes) = simp length-set within in
    ap (λ xs. slice_get xs file) left
    ∙ slice_get-get_or (set files file bytes) file [] within-set
    ∙ ap Some (get_or-set_same files file bytes [] within)

-- the other files stay as they were
pub slice_get-set_other : {X : Type 0} (xs : List X) (i j : ℕ) (y : X) → j ≢ i → slice_get (set xs i y) j ≡ slice_get xs j
slice_get-set_other xs i j y other =
    elim (cases_lt j (length xs)) [
      | inl within ↦
          let within-set : j < length (set xs i y) = simp length-set within in
          slice_get-get_or (set xs i y) j y within-set
          ∙ ap Some (get_or-set_other xs i j y y other)
          ∙ sym (slice_get-get_or xs j y within)
      | inr past ↦
          let past-set : length (set xs i y) ≤ j = simp length-set past in
          slice_get_past (set xs i y) j past-set ∙ sym (slice_get_past xs j past)
    ]

-- bytes given from the front of one file are what a read consumes of it
pub served-Consumes : (files after : List (List ℕ)) (file count : ℕ) (given : List ℕ) → file < length files
    → after ≡ set files file (drop count (get_or files file [])) → given ≡ take count (get_or files file [])
    → Consumes (slice_get files file) (slice_get after file) given
served-Consumes files after file count given within left front =
    let bytes : List ℕ = get_or files file [] in
    let before : slice_get files file ≡ Some bytes = slice_get-get_or files file [] within in
    let now : slice_get after file ≡ Some (drop count bytes) = left-at-file files after file count within left in
    let whole : bytes ≡ given ++ drop count bytes = sym (ap (λ xs. xs ++ drop count bytes) front ∙ take-append-drop count bytes) in
    let P : Option (List ℕ) → Type 0 = λ known. Consumes known (slice_get after file) given in
    let Q : Option (List ℕ) → Type 0 = λ known. Consumes (Some bytes) known given in
    subst P (sym before) (subst Q (sym now) whole)

-- where none are given although there is room, none are left
pub served-IsAtEnd : (files after : List (List ℕ)) (file count room : ℕ) → file < length files
    → after ≡ set files file (drop count (get_or files file [])) → count ≡ min room (length (get_or files file []))
    → 0 < room → count ≡ 0 → IsAtEnd (slice_get after file)
served-IsAtEnd files after file count room within left most some none =
    let bytes : List ℕ = get_or files file [] in
    let now : slice_get after file ≡ Some (drop count bytes) = left-at-file files after file count within left in
    let short : length bytes ≤ count = omega arith in
    let Q : Option (List ℕ) → Type 0 = λ known. IsAtEnd known in
    subst Q (sym now) (drop_all count bytes short)
