-- Bytes written over a content, place by place. Past the end of a list the byte is 0, so that a gap of zeros does not show.
use Rattle.std.proofs.Common.{◌≡◌, ℕ, ◌+◌, ◌-◌, ◌<◌, ◌≤◌, ◌⊎◌, inl, inr, max, List, ◌++◌, length, take, drop, replicate, get_or, sym, ap}
use Rattle.std.proofs.Common.{◌∙◌, arith, append_assoc, length-append, length-take, length-drop}
use Rattle.std.proofs.lemmas.Bool.{cases_lt}
use Rattle.std.proofs.lemmas.List.{get_or-take, get_or-drop, get_or_append_left, get_or-append_right, get_or-replicate, get_or_past}
use Rattle.std.proofs.lemmas.List.{length-replicate, append-nil, ext_get_or, take_all, take_at}
use Rattle.outside.specs.Disk.{Torn, padded, overlaid}

pub length-padded : (at : ℕ) (content : List ℕ) → length (padded at content) ≡ at
unfolding padded
length-padded at content =
    length-append (take at content) (replicate (at - length content) 0)
    ∙ omega (arith, length-take at content, length-replicate {A = ℕ} (at - length content) 0)

padded-below : (at : ℕ) (content : List ℕ) (i : ℕ) → i < at → get_or (padded at content) i 0 ≡ get_or content i 0
unfolding padded
padded-below at content i below =
    let front = length-take at content in
    elim (cases_lt i (length content)) [
      | inl inside ↦
          get_or_append_left (take at content) (replicate (at - length content) 0) 0 i (omega arith)
          ∙ get_or-take at content i 0 below
      | inr past ↦
          let long : length (take at content) ≡ length content = omega arith in
          get_or-append_right (take at content) (replicate (at - length content) 0) (length content) i 0 long past
          ∙ get_or-replicate (at - length content) (i - length content) 0 0 (omega arith)
          ∙ sym (get_or_past content i 0 past)
    ]

pub length-overlaid : (at : ℕ) (bytes content : List ℕ) → length (overlaid at bytes content) ≡ max (length content) (at + length bytes)
unfolding overlaid
length-overlaid at bytes content =
    length-append (padded at content ++ bytes) (drop (at + length bytes) content)
    ∙ omega (arith, length-append (padded at content) bytes, length-padded at content, length-drop (at + length bytes) content)

-- within the range stand the bytes
pub overlaid-in : (at : ℕ) (bytes content : List ℕ) (i : ℕ) → i < length bytes
    → get_or (overlaid at bytes content) (at + i) 0 ≡ get_or bytes i 0
unfolding overlaid
overlaid-in at bytes content i inside =
    let long = length-padded at content in
    let both : length (padded at content ++ bytes) ≡ at + length bytes = length-append (padded at content) bytes ∙ omega arith in
    let back : at + i - at ≡ i = omega arith in
    get_or_append_left (padded at content ++ bytes) (drop (at + length bytes) content) 0 (at + i) (omega arith)
    ∙ get_or-append_right (padded at content) bytes at (at + i) 0 long (omega arith)
    ∙ ap (λ (k : ℕ). get_or bytes k 0) back

-- and beside it all is as it was
pub overlaid-beside : (at : ℕ) (bytes content : List ℕ) (i : ℕ) → (i < at) ⊎ (at + length bytes ≤ i)
    → get_or (overlaid at bytes content) i 0 ≡ get_or content i 0
unfolding overlaid
overlaid-beside at bytes content i (inl below) =
    let long = length-padded at content in
    let both = length-append (padded at content) bytes in
    get_or_append_left (padded at content ++ bytes) (drop (at + length bytes) content) 0 i (omega arith)
    ∙ get_or_append_left (padded at content) bytes 0 i (omega arith)
    ∙ padded-below at content i below
overlaid-beside at bytes content i (inr above) =
    let long = length-padded at content in
    let both : length (padded at content ++ bytes) ≡ at + length bytes = length-append (padded at content) bytes ∙ omega arith in
    let back : at + length bytes + (i - (at + length bytes)) ≡ i = omega arith in
    get_or-append_right (padded at content ++ bytes) (drop (at + length bytes) content) (at + length bytes) i 0 both above
    ∙ get_or-drop (at + length bytes) content (i - (at + length bytes)) 0
    ∙ ap (λ (k : ℕ). get_or content k 0) back

pub Torn-same : (at count : ℕ) (content : List ℕ) → Torn at count content content
Torn-same at count content = record {
  no_shorter = omega arith;
  no_longer = omega arith;
  below = λ i inside before j. get_or content i 0;
  above = λ i inside behind j. get_or content i 0;
}

-- a write of fewer bytes from the same place is one that was cut short
pub Torn-overlaid : (at count : ℕ) (bytes content : List ℕ) → length bytes ≤ count → Torn at count content (overlaid at bytes content)
Torn-overlaid at count bytes content short =
    let long = length-overlaid at bytes content in
    record {
      no_shorter = omega arith;
      no_longer = omega arith;
      below = λ i inside before. overlaid-beside at bytes content i (inl before);
      above = λ i inside behind. overlaid-beside at bytes content i (inr (omega arith));
    }

-- where the bytes lie within the content, nothing is made longer
pub overlaid-within : (at : ℕ) (bytes content : List ℕ) → at ≤ length content
    → overlaid at bytes content ≡ take at content ++ (bytes ++ drop (at + length bytes) content)
unfolding overlaid padded
overlaid-within at bytes content within =
    let none : at - length content ≡ 0 = omega arith in
    ap (λ (n : ℕ). take at content ++ replicate n 0 ++ bytes ++ drop (at + length bytes) content) none
    ∙ ap (λ (l : List ℕ). l ++ bytes ++ drop (at + length bytes) content) (append-nil (take at content))
    ∙ append_assoc (take at content) bytes (drop (at + length bytes) content)

padded-any : (len : ℕ) (content : List ℕ) (i : ℕ) → length content ≤ len → get_or (padded len content) i 0 ≡ get_or content i 0
padded-any len content i long =
    elim (cases_lt i len) [
      | inl inside ↦ padded-below len content i inside
      | inr past ↦
          let size = length-padded len content in
          get_or_past (padded len content) i 0 (omega arith) ∙ sym (get_or_past content i 0 (omega arith))
    ]

-- zeros that are written over, or stand in a gap, do not show
pub overlaid-padded : (at : ℕ) (bytes content : List ℕ)
    → overlaid at bytes (padded (max (length content) (at + length bytes)) content) ≡ overlaid at bytes content
overlaid-padded at bytes content =
    let len = max (length content) (at + length bytes) in
    let size = length-padded len content in
    let first = length-overlaid at bytes (padded len content) in
    let second = length-overlaid at bytes content in
    let same : length (overlaid at bytes (padded len content)) ≡ length (overlaid at bytes content) = omega arith in
    let long : length content ≤ len = omega arith in
    ext_get_or 0 (overlaid at bytes (padded len content)) (overlaid at bytes content) same (λ i inside.
    elim (cases_lt i at) [
      | inl before ↦
          overlaid-beside at bytes (padded len content) i (inl before) ∙ padded-any len content i long
          ∙ sym (overlaid-beside at bytes content i (inl before))
      | inr from ↦ elim (cases_lt i (at + length bytes)) [
        | inl in-range ↦
            let there : at + (i - at) ≡ i = omega arith in
            ap (λ (k : ℕ). get_or (overlaid at bytes (padded len content)) k 0) (sym there)
            ∙ overlaid-in at bytes (padded len content) (i - at) (omega arith)
            ∙ sym (overlaid-in at bytes content (i - at) (omega arith))
            ∙ ap (λ (k : ℕ). get_or (overlaid at bytes content) k 0) there
        | inr behind ↦
            overlaid-beside at bytes (padded len content) i (inr behind) ∙ padded-any len content i long
            ∙ sym (overlaid-beside at bytes content i (inr behind))
      ]
    ])

-- what was made longer, cut to its old length
pub take-padded : (len : ℕ) (content : List ℕ) → length content ≤ len → take (length content) (padded len content) ≡ content
unfolding padded
take-padded len content long =
    let whole : take len content ≡ content = take_all len content long in
    ap (λ (l : List ℕ). take (length content) (l ++ replicate (len - length content) 0)) whole
    ∙ take_at content (replicate (len - length content) 0) (length content) (λ i. length content)
