-- Bytes that grow in pieces.
use Rattle.std.proofs.Common.{ℕ, List, ◌++◌, Option, Some, None, take, drop, sym, ap, ◌∙◌, append_assoc}
use Rattle.std.proofs.lemmas.List.{take-append-drop}
use Rattle.std.specs.Io.KnownBytes.{Appends}
use Rattle.outside.specs.Bytes.{AppendsPrefix}

-- a front of the bytes, and then what is left, is all of them
pub Appends_more : (count : ℕ) (bytes : List ℕ) (before now after : Option (List ℕ)) → Appends before now (take count bytes)
    → Appends now after (drop count bytes) → Appends before after bytes
Appends_more count bytes None now after first rest = tt
Appends_more count bytes (Some a) None after first rest = absurd first
Appends_more count bytes (Some a) (Some b) None first rest = rest
Appends_more count bytes (Some a) (Some b) (Some c) first rest =
    rest ∙ ap (λ xs. xs ++ drop count bytes) first ∙ append_assoc a (take count bytes) (drop count bytes)
    ∙ ap (λ xs. a ++ xs) (take-append-drop count bytes)

-- a front of the bytes, and then some front of what is left, is some front of them
pub AppendsPrefix_more : (count : ℕ) (bytes : List ℕ) (before now after : Option (List ℕ)) → Appends before now (take count bytes)
    → AppendsPrefix now after (drop count bytes) → AppendsPrefix before after bytes
AppendsPrefix_more count bytes None now after first rest = tt
AppendsPrefix_more count bytes (Some a) None after first rest = absurd first
AppendsPrefix_more count bytes (Some a) (Some b) None first rest = rest
AppendsPrefix_more count bytes (Some a) (Some b) (Some c) first (front, back, whole, grown) = (
  take count bytes ++ front,
  back,
  sym (take-append-drop count bytes) ∙ ap (λ xs. take count bytes ++ xs) whole ∙ sym (append_assoc (take count bytes) front back),
  grown ∙ ap (λ xs. xs ++ front) first ∙ append_assoc a (take count bytes) front,
)
