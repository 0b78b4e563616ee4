-- What the writes of a commit leave, one write more at a time.
use Rattle.std.proofs.Common.{◌≡◌, inl, inr, ⊎_elim, ℕ, ◌+◌, ◌*◌, ◌^◌, ◌<◌, ◌≤◌, ◌⊎◌, List, [], ◌∷◌, length, refl, sym, ap, ◌∙◌, arith}
use Rattle.std.proofs.lemmas.Bool.{cases_lt}
use Rattle.std.specs.Int.{w64, to_le_bytes}
use Rattle.outside.specs.Disk.{overlaid}
use Rattle.outside.proofs.Overlay.{length-overlaid, overlaid-in, overlaid-beside}
use Rattle.page_journal.specs.Crash.{BesideGate, BesideJournal, BesidePages}
use Rattle.page_journal.specs.Pages.{page_from}
use Rattle.page_journal.specs.PageSet.{page_at}
use Rattle.page_journal.specs.Written.{Below, PagesPut, HomePut, NumberPut, FieldsPut, GatePut}
use Rattle.page_journal.proofs.Bytes.{page_same, page_overlaid, number_written}
use Rattle.page_journal.proofs.Places.{Spares-self, Spares-less, Spares-trans, Spares-overlaid, Beside, number_spared}

pub bodies_none : (entries : List (ℕ × List ℕ)) (at : ℕ) (bytes : List ℕ) → PagesPut entries 0 at bytes bytes
bodies_none entries at bytes = record {
  spares = Spares-self (Below at) bytes;
  pages = λ place below. absurd (omega (arith, below));
  long = λ some. absurd (omega (arith, some));
}

pub bodies_more : (entries : List (ℕ × List ℕ)) (count at next : ℕ) (page old now : List ℕ) → PagesPut entries count at old now
    → next ≡ at + 4096 * count → page ≡ page_at entries count → length page ≡ 4096
    → PagesPut entries (count + 1) at old (overlaid next page now)
bodies_more entries count at next page old now put place-is page-is size =
    let long = length-overlaid next page now in
    record {
      spares = Spares-overlaid (Below at) old now next page put.spares (λ i below. inl (omega (arith, below, place-is)));
      pages = λ place inside. elim (cases_lt place count) [
        | inl earlier ↦
            let some : 0 < count = omega arith in
            let fits : at + 4096 * place + 4096 ≤ length now = omega (arith, put.long some, earlier) in
            page_same now (overlaid next page now) (at + 4096 * place) (at + 4096 * place) fits (omega arith) (λ k below.
            overlaid-beside next page now (at + 4096 * place + k) (inl (omega (arith, place-is, earlier, below))))
            ∙ put.pages place earlier
        | inr last ↦
            let same : place ≡ count = omega arith in
            let there : at + 4096 * place ≡ next = omega (arith, same, place-is) in
            ap (λ (i : ℕ). page_from (overlaid next page now) i) there ∙ page_overlaid next page now size ∙ page-is
            ∙ ap (λ (k : ℕ). page_at entries k) (sym same)
      ];
      long = λ some. omega (arith, place-is);
    }

pub home_none : (numbers : ℕ → ℕ) (pages : ℕ → List ℕ) (bytes : List ℕ) → HomePut numbers pages 0 bytes bytes
home_none numbers pages bytes = record {
  spares = Spares-self (BesidePages 0 numbers) bytes;
  stand = λ place below. absurd (omega (arith, below));
  long = λ place below. absurd (omega (arith, below));
}

-- a place outside of a page lies beside a write of it
pub beside_page : (count : ℕ) (numbers : ℕ → ℕ) (place at size : ℕ) → place < count → at ≡ 4096 * numbers place → size ≡ 4096
    → Beside (BesidePages count numbers) at size
beside_page count numbers place at size inside at-is size-is = λ i keeps.
    ⊎_elim (λ before. inl (omega (arith, before, at-is))) (λ behind. inr (omega (arith, behind, at-is, size-is))) (keeps place inside)

pub home_more : (numbers : ℕ → ℕ) (pages : ℕ → List ℕ) (count at : ℕ) (page old now : List ℕ) → HomePut numbers pages count old now
    → ((place : ℕ) → place < count → numbers place < numbers count) → at ≡ 4096 * numbers count
    → page ≡ pages count → length page ≡ 4096 → HomePut numbers pages (count + 1) old (overlaid at page now)
home_more numbers pages count at page old now put rises at-is page-is size =
    let long = length-overlaid at page now in
    let fewer : (i : ℕ) → BesidePages (count + 1) numbers i → BesidePages count numbers i =
    λ i keeps place inside. keeps place (omega (arith, inside)) in
    record {
      spares = Spares-overlaid (BesidePages (count + 1) numbers) old now at page
          (Spares-less (BesidePages count numbers) (BesidePages (count + 1) numbers) old now fewer put.spares)
          (beside_page (count + 1) numbers count at (length page) (omega arith) at-is size);
      stand = λ place inside. elim (cases_lt place count) [
        | inl earlier ↦
            let above = rises place earlier in
            let fits = put.long place earlier in
            page_same now (overlaid at page now) (4096 * numbers place) (4096 * numbers place) fits (omega arith) (λ k below.
            overlaid-beside at page now (4096 * numbers place + k) (inl (omega (arith, at-is, above, below))))
            ∙ put.stand place earlier
        | inr last ↦
            let same : place ≡ count = omega arith in
            let there : 4096 * numbers place ≡ at = ap (λ (k : ℕ). 4096 * numbers k) same ∙ sym at-is in
            ap (λ (i : ℕ). page_from (overlaid at page now) i) there ∙ page_overlaid at page now size ∙ page-is
            ∙ ap (λ (k : ℕ). pages k) (sym same)
      ];
      long = λ place inside. elim (cases_lt place count) [
        | inl earlier ↦ omega (arith, put.long place earlier)
        | inr last ↦
            let same : place ≡ count = omega arith in
            let there : 4096 * numbers place ≡ at = ap (λ (k : ℕ). 4096 * numbers k) same ∙ sym at-is in
            omega arith
      ];
    }

pub number_is_put : (at value : ℕ) (bytes : List ℕ) → value < 2 ^ 64 → NumberPut at value bytes (overlaid at (to_le_bytes w64 value) bytes)
number_is_put at value bytes small =
    let spelled : List ℕ = to_le_bytes w64 value in
    let eight : length spelled ≡ 8 = refl in
    let long = length-overlaid at spelled bytes in
    record {
      spares = Spares-overlaid (λ i. (i < at) ⊎ (at + 8 ≤ i)) bytes bytes at spelled (Spares-self (λ i. (i < at) ⊎ (at + 8 ≤ i)) bytes)
          (λ i keeps. ⊎_elim (λ before. inl before) (λ behind. inr (omega (arith, behind, eight))) keeps);
      here = number_written at value bytes small;
      long = omega (arith, eight);
    }

pub fields_put : (first count : ℕ) (old mid new : List ℕ) → NumberPut 8 first old mid → NumberPut 16 count mid new
    → FieldsPut first count old new
fields_put first count old mid new one two = record {
  spares = Spares-trans (λ i. (i < 8) ⊎ (24 ≤ i)) old mid new
      (Spares-less (λ i. (i < 8) ⊎ (8 + 8 ≤ i)) (λ i. (i < 8) ⊎ (24 ≤ i)) old mid
      (λ i keeps. ⊎_elim (λ before. inl before) (λ behind. inr (omega (arith, behind))) keeps) one.spares)
      (Spares-less (λ i. (i < 16) ⊎ (16 + 8 ≤ i)) (λ i. (i < 8) ⊎ (24 ≤ i)) mid new
      (λ i keeps. ⊎_elim (λ before. inl (omega (arith, before))) (λ behind. inr (omega (arith, behind))) keeps) two.spares);
  start = number_spared (λ i. (i < 16) ⊎ (16 + 8 ≤ i)) mid new 8 two.spares (omega (arith, one.long)) (λ i from to. inl (omega (arith, to)))
      ∙ one.here;
  pages = two.here;
}

-- places that are not the journal's fields lie beside a field
pub beside_field : (low at size : ℕ) → 8 ≤ at → at + 8 ≤ 24 → size ≡ 8 → Beside (BesideJournal low) at size
beside_field low at size above below eight = λ i keeps.
    ⊎_elim (λ before. inl (omega (arith, before))) (λ behind. inr (omega (arith, behind, eight))) keeps.0

-- all places but the gate lie beside the gate
pub beside_gate : Beside BesideGate 4095 1
beside_gate = λ i other. elim (cases_lt i 4095) [ inl before ↦ inl before | inr from ↦ inr (omega (arith, from, other)) ]

pub gate_put : (value : ℕ) (bytes : List ℕ) → GatePut value bytes (overlaid 4095 (value ∷ []) bytes)
gate_put value bytes = record {
  spares = Spares-overlaid BesideGate bytes bytes 4095 (value ∷ []) (Spares-self BesideGate bytes) beside_gate;
  gate = overlaid-in 4095 (value ∷ []) bytes 0 (omega arith);
}
