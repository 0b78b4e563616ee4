-- Shares of pieces that stand behind one another are shares of all their bytes.
use Rattle.std.proofs.Common.{◌≡◌, ℕ, suc, zero, ◌+◌, ◌<◌, ◌≤◌, List, [], ◌∷◌, ◌++◌, length, length-append, take, drop_at, flat_map, slice_index_or}
use Rattle.std.proofs.Common.{sym, subst, arith}
use Rattle.std.proofs.lemmas.List.{take_more, take-append-le}
use Rattle.std.proofs.lemmas.Slice.Zip.{all_zipped_more}
use Rattle.std.specs.Borrow.{Bor}
use Rattle.std.specs.List.{AllZip}
use Rattle.osm_base.specs.declared.bounds.limits.LimitNumbers.{LimitNumbers}
use Rattle.opl_files.specs.declared.parts.Share.{Share}
use Rattle.opl_files.specs.Parts.{AreShares, IsPart, IsShareOf}

-- the bytes of pieces, one behind another
abbrev pub bytes_of : List (Bor (List ℕ)) → List ℕ
bytes_of pieces = flat_map (λ (piece : Bor (List ℕ)). piece.now) pieces

-- each of these shares has its whole piece
abbrev pub AreWhole : List (Bor (List ℕ)) → List Share → Type 0
AreWhole pieces shares = AllZip (λ (piece : Bor (List ℕ)) (share : Share). length piece.now ≤ share.len) pieces shares

-- with one more of each
pub whole_more : (pieces : List (Bor (List ℕ))) (shares : List Share) (whole : ℕ) (piece : Bor (List ℕ)) (share : Share)
    → whole < length pieces → whole < length shares → AreWhole (take whole pieces) (take whole shares)
    → share ≡ slice_index_or shares whole share → length (slice_index_or pieces whole piece).now ≤ share.len
    → AreWhole (take (whole + 1) pieces) (take (whole + 1) shares)
whole_more pieces shares whole piece share one other are is within =
    rw (take_more pieces whole piece one, take_more shares whole share other)
    (all_zipped_more _ (take whole pieces) (take whole shares) (slice_index_or pieces whole piece) (slice_index_or shares whole share) are
    (subst (λ (own : Share). length (slice_index_or pieces whole piece).now ≤ own.len) is within))

-- a share of a piece is one of the bytes that the piece begins
share_in : (limits : LimitNumbers) (piece later : List ℕ) (share : Share) → IsShareOf limits piece share → IsShareOf limits (piece ++ later) share
share_in limits piece later share is = (
  (let lengths = length-append piece later in omega (arith, is.0, lengths)),
  subst (λ own. IsPart limits own share.part) (sym (take-append-le share.len piece later is.0)) is.1,
)

-- shares up to the first behind those that have their whole pieces
pub shares_of : (limits : LimitNumbers) (pieces : List (Bor (List ℕ))) (shares : List Share) (whole : ℕ)
    → AllZip (λ (piece : Bor (List ℕ)) (share : Share). IsShareOf limits piece.now share) pieces shares
    → AreWhole (take whole pieces) (take whole shares) → AreShares limits (bytes_of pieces) (take (suc whole) shares)
shares_of limits [] [] whole each are = tt
shares_of limits [] (share ∷ shares) whole each are = absurd each
shares_of limits (piece ∷ pieces) [] whole each are = absurd each
shares_of limits (piece ∷ pieces) (share ∷ shares) zero each are =
    let first = share_in limits piece.now (bytes_of pieces) share each.0 in (first.0, first.1, tt)
shares_of limits (piece ∷ pieces) (share ∷ shares) (suc whole) each are =
    let first = share_in limits piece.now (bytes_of pieces) share each.0 in
    let len : length piece.now ≡ share.len = omega (arith, each.0.0, are.0) in (
      first.0,
      first.1,
      subst (λ own. AreShares limits own (take (suc whole) shares)) (sym (drop_at piece.now (bytes_of pieces) share.len len))
          (shares_of limits pieces shares whole each.1 are.1),
    )
