-- The marks of records.
use Rattle.std.proofs.Common.{◌≡◌, ◌⊎◌, ℕ, ◌+◌, ◌*◌, List, [], ◌∷◌, ◌++◌, length, get_or, take, sym, ap, ◌∙◌, arith, length-append, inl}
use Rattle.std.proofs.Common.{inr}
use Rattle.std.proofs.Math.Seq.{take-append_seam}
use Rattle.std.proofs.lemmas.List.{get_or_append_left, get_or_push, take-append-le}
use Rattle.std.proofs.lemmas.Bool.{cases_order}
use Rattle.bucket_records.specs.Records.{records_bytes}
use Rattle.bucket_records.specs.Places.{AreMarks}

pub no_marks : (records : List (ℕ × List ℕ)) (marks : List ℕ) → marks ≡ [] → AreMarks records marks
no_marks records marks none k d inside = let long = ap (λ (l : List ℕ). length l) none in absurd (omega (arith, inside, long))

-- with a record more they are marks still
marks_longer : (records : List (ℕ × List ℕ)) (one : ℕ × List ℕ) (marks : List ℕ) → AreMarks records marks
    → AreMarks (records ++ one ∷ []) marks
marks_longer records one marks are k d inside =
    let was = are k d inside in
    let long = length-append records (one ∷ []) in (
      omega (arith, was.0, long),
      was.1 ∙ ap (λ (l : List (ℕ × List ℕ)). length (records_bytes l))
          (sym (take-append-le (16 * (k + 1)) records (one ∷ []) (omega (arith, was.0)))),
    )

-- and the record may be the next that is marked
marks_next : (records : List (ℕ × List ℕ)) (one : ℕ × List ℕ) (marks more : List ℕ) (begin : ℕ) → AreMarks records marks
    → begin ≡ length (records_bytes records) → 16 * (length marks + 1) ≡ length records → more ≡ marks ++ begin ∷ []
    → AreMarks (records ++ one ∷ []) more
marks_next records one marks more begin are here many more-is k d inside =
    let long = length-append records (one ∷ []) in
    let longer = ap (λ (l : List ℕ). length l) more-is ∙ length-append marks (begin ∷ []) in
    elim (cases_order k (length marks)) [
      | inl level ↦
          let all : take (16 * (k + 1)) (records ++ one ∷ []) ≡ records =
          let count : 16 * (k + 1) ≡ length records = omega (arith, level, many) in
          ap (λ (n : ℕ). take n (records ++ one ∷ [])) count ∙ take-append_seam records (one ∷ []) in (
            omega (arith, level, many, long),
            ap (λ (l : List ℕ). get_or l k d) more-is ∙ get_or_push marks begin d k (sym level) ∙ here
                ∙ ap (λ (l : List (ℕ × List ℕ)). length (records_bytes l)) (sym all),
          )
      | inr (inl low) ↦
          let was = marks_longer records one marks are k d low in (
            was.0,
            ap (λ (l : List ℕ). get_or l k d) more-is ∙ get_or_append_left marks (begin ∷ []) d k low ∙ was.1,
          )
      | inr (inr high) ↦ absurd (omega (arith, high, inside, longer))
    ]

pub marks_more : (records : List (ℕ × List ℕ)) (one : ℕ × List ℕ) (marks more : List ℕ) (count begin : ℕ) → AreMarks records marks
    → count ≡ length records → begin ≡ length (records_bytes records)
    → (more ≡ marks) ⊎ ((16 * (length marks + 1) ≡ count) × (more ≡ marks ++ begin ∷ []))
    → AreMarks (records ++ one ∷ []) more
marks_more records one marks more count begin are many here (inl same) k d inside =
    let was = marks_longer records one marks are k d (let long = ap (λ (l : List ℕ). length l) same in omega (arith, inside, long)) in
    (was.0, ap (λ (l : List ℕ). get_or l k d) same ∙ was.1)
marks_more records one marks more count begin are many here (inr next) k d inside =
    marks_next records one marks more begin are here (next.0 ∙ many) next.1 k d inside
