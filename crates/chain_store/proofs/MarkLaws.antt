-- Marks for the pages that keep their bytes.
use Rattle.std.proofs.Common.{◌≡◌, inr, ℕ, zero, suc, Bool, true, false, cond, List, [], ◌∷◌, ◌++◌, length, refl, sym, ap, subst, ◌∙◌}
use Rattle.std.proofs.Common.{arith, append_assoc}
use Rattle.std.proofs.lemmas.Slice.Eq.{bytes_eq-Decides}
use Rattle.std.specs.Str.{bytes_eq}
use Rattle.chain_store.specs.Chains.{IsMarked}
use Rattle.chain_store.specs.Marks.{AreSame, mark_of, same_from, same_pages}
use Rattle.chain_store.specs.Parts.{first_held, later_held, pages_for}
use Rattle.chain_store.specs.Store.{HasBytes}

mark_true : (mark : ℕ) (b : Bool) → mark ≡ cond b 1 0 → mark ≡ 1 → b ≡ true
mark_true mark true is one = refl
mark_true mark false is one = absurd (omega (arith, is, one))

same_from-are : (many : ℕ) (before bytes : List ℕ) → AreSame (same_from many before bytes) before bytes
same_from-are zero before bytes = tt
same_from-are (suc many) before bytes = (
  λ marked. (bytes_eq-Decides (first_held before) (first_held bytes)).0
      (mark_true (mark_of (first_held before) (first_held bytes)) (bytes_eq (first_held before) (first_held bytes)) refl marked),
  same_from-are many (later_held before) (later_held bytes),
)

-- pages that are marked so keep their bytes
pub same_pages-are : (before bytes : List ℕ) → AreSame (same_pages before bytes) before bytes
unfolding same_pages
same_pages-are before bytes = same_from-are (pages_for (length bytes)) before bytes

-- marks that were made of the bytes that a chain has in the store
pub marked_by : (pages : List (List ℕ)) (n first : ℕ) (old bytes same old_read bytes_read : List ℕ) → HasBytes pages n first old
    → old_read ≡ old
    → bytes_read ≡ bytes → same ≡ same_pages old_read bytes_read → IsMarked pages n first same bytes
marked_by pages n first old bytes same old_read bytes_read has is_old is_bytes is =
    inr (
      old,
      has,
      subst (λ (l : List ℕ). AreSame l old bytes)
          (sym (is ∙ ap (λ (l : List ℕ). same_pages l bytes_read) is_old ∙ ap (λ (l : List ℕ). same_pages old l) is_bytes))
          (same_pages-are old bytes),
    )

-- one mark more
pub same-more : (marks : List ℕ) (mark many left : ℕ) (rest_before rest held_before held later_before later : List ℕ) → left ≡ suc many
    → held_before ≡ first_held rest_before → held ≡ first_held rest → later_before ≡ later_held rest_before → later ≡ later_held rest
    → mark ≡ mark_of held_before held
    → (marks ++ mark ∷ []) ++ same_from many later_before later ≡ marks ++ same_from left rest_before rest
same-more marks mark many left rest_before rest held_before held later_before later is is_before is_held behind_before behind is_mark =
    append_assoc marks (mark ∷ []) (same_from many later_before later)
    ∙ ap (λ (m : ℕ). marks ++ m ∷ same_from many later_before later)
    (is_mark ∙ ap (λ (l : List ℕ). mark_of l held) is_before ∙ ap (λ (l : List ℕ). mark_of (first_held rest_before) l) is_held)
    ∙ ap (λ (l : List ℕ). marks ++ mark_of (first_held rest_before) (first_held rest) ∷ same_from many l later) behind_before
    ∙ ap (λ (l : List ℕ). marks ++ mark_of (first_held rest_before) (first_held rest) ∷ same_from many (later_held rest_before) l) behind
    ∙ ap (λ (n : ℕ). marks ++ same_from n rest_before rest) (sym is)

-- all marks are made
pub same-whole : (marks before bytes : List ℕ) (many : ℕ) → many ≡ pages_for (length bytes) → marks ≡ same_from many before bytes
    → marks ≡ same_pages before bytes
unfolding same_pages
same-whole marks before bytes many is made = made ∙ ap (λ (n : ℕ). same_from n before bytes) is
