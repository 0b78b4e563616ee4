-- The exchange that adds an entry keeps the rule.
use Rattle.std.proofs.Common.{◌≡◌, ℕ, suc, ◌+◌, ◌<◌, ◌==◌, Bool, true, false, List, [], ◌∷◌, ◌++◌, length, refl, ap, sym, ◌∙◌, subst, arith}
use Rattle.std.proofs.Common.{inl, length-append, None}
use Rattle.std.proofs.lemmas.List.{append-nil}
use Rattle.std.proofs.lemmas.Bool.Decides.{nat_tests}
use mathlib.Core.List.{IsPrefix}
use prog.Atomic.{either}
use Rattle.logbook.specs.Pages.{Cell, cell, keeps, no_nib, step, Moves, Goes}
use Rattle.table_versions.specs.declared.history.Entry.{Entry}
use Rattle.table_versions.specs.History.{IsKept, AddsOne}
use Rattle.table_versions.proofs.Beginnings.{prefix_whole}

abbrev pub shown : List Entry → List Entry
shown log = []

abbrev pub moved : List Entry → List Entry → ℕ → Type 0
moved xs ys n = Unit {0}

pub adds_goes : (log v : List Entry) (e : Entry) (old n : ℕ) → length v ≡ suc old → length log ≡ suc n → IsPrefix v log → (b : Bool)
    → (n == old) ≡ b
    → Goes IsKept shown moved 0 (v, (no_nib, None)) (λ n. either (n == old) (old + 1) n)
    (AddsOne (step 0 old (old + 1) e) (v, (no_nib, None))) ((n, true) ∷ []) log
adds_goes log v e old n len long pre true is =
    let here : n ≡ old = grind (arith, nat_tests) in
    let same : v ≡ log = prefix_whole v log pre (omega arith) in
    let word : either (n == old) (old + 1) n ≡ old + 1 = rw is refl in
    let longer : length (log ++ e ∷ []) ≡ suc (old + 1) = omega (arith, length-append log (e ∷ [])) in (
      keeps,
      e ∷ [],
      None,
      tt,
      record { deltas = old + 1; words = ap (λ (k : ℕ). (k, true) ∷ []) word; entries = longer },
      inl (refl, refl),
      rw is (ap (λ w. w ++ e ∷ []) (sym same)),
    )
adds_goes log v e old n len long pre false is =
    let all : log ++ [] ≡ log = append-nil log in
    let word : either (n == old) (old + 1) n ≡ n = rw is refl in (
      keeps,
      [],
      None,
      tt,
      record { deltas = n; words = ap (λ (k : ℕ). (k, true) ∷ []) word; entries = ap length all ∙ long },
      inl (refl, refl),
      rw is tt,
    )

-- whatever the book is, the exchange adds the entry to all that was seen, or finds another number
pub adds_moves : (v : List Entry) (e : Entry) (old : ℕ) → length v ≡ suc old
    → Moves IsKept shown moved 0 (v, (no_nib, None)) (λ n. either (n == old) (old + 1) n)
    (AddsOne (step 0 old (old + 1) e) (v, (no_nib, None)))
adds_moves v e old len cs log kept pre away =
    let P : List Cell → Type 0 = λ c. (0 < length c) × ((cell c 0).1 ≡ true)
    × Goes IsKept shown moved 0 (v, (no_nib, None)) (λ n. either (n == old) (old + 1) n)
    (AddsOne (step 0 old (old + 1) e) (v, (no_nib, None))) c log in
    subst P (sym kept.words) (omega arith, refl, adds_goes log v e old kept.deltas len kept.entries pre (kept.deltas == old) refl)
