-- The bytes of an empty store.
use Rattle.std.proofs.Common.{◌≡◌, ◌≢◌, inl, inr, ℕ, ◌+◌, ◌-◌, ◌<◌, ◌≤◌, ◌⊎◌, List, [], ◌∷◌, length, slice_index_or, subst, get_or}
use Rattle.std.proofs.Common.{slice_index, sym, ap, ◌∙◌, arith}
use Rattle.std.proofs.lemmas.List.{ext_get_or}
use Rattle.outside.specs.Disk.{DiskView, Only, Tells, overlaid}
use Rattle.outside.proofs.Overlay.{length-overlaid, overlaid-in}
use Rattle.page_journal.specs.Crash.{IsSettled}
use Rattle.page_journal.specs.Home.{IsFresh, IsHomePage}
use Rattle.page_journal.specs.Pages.{number, gate, page_from}
use Rattle.page_journal.specs.declared.layout.TheConstants.{MARK, OPEN}
use Rattle.page_journal.proofs.Bytes.{number_same, number-page_from}

-- bytes over none
pub overlaid-none : (bytes content : List ℕ) → length content ≡ 0 → overlaid 0 bytes content ≡ bytes
overlaid-none bytes content none =
    let long = length-overlaid 0 bytes content in
    let same : length (overlaid 0 bytes content) ≡ length bytes = omega arith in
    ext_get_or 0 (overlaid 0 bytes content) bytes same (λ i inside.
    let front : i ≡ 0 + i = omega arith in
    ap (λ (k : ℕ). get_or (overlaid 0 bytes content) k 0) front ∙ overlaid-in 0 bytes content i (omega arith))

-- what a write beside them leaves of a number
number_beside : (at n : ℕ) (old new : List ℕ) → length new ≡ length old → n + 8 ≤ length old → (n + 8 ≤ at) ⊎ (at + 8 ≤ n)
    → ((i : ℕ) → (i < at) ⊎ (at + 8 ≤ i) → slice_index new i ≡ slice_index old i) → number new n ≡ number old n
number_beside at n old new size fits (inl before) same =
    number_same old new n n fits (omega arith) (λ k below. same (n + k) (inl (omega arith)))
number_beside at n old new size fits (inr behind) same =
    number_same old new n n fits (omega arith) (λ k below. same (n + k) (inr (omega arith)))

pub fresh : (none one two three : List ℕ) → length none ≡ 8192 → ((i : ℕ) → slice_index none i ≡ 0)
    → length one ≡ length none → number one 0 ≡ MARK → ((i : ℕ) → (i < 0) ⊎ (0 + 8 ≤ i) → slice_index one i ≡ slice_index none i)
    → length two ≡ length one → number two 4096 ≡ 2 → ((i : ℕ) → (i < 4096) ⊎ (4096 + 8 ≤ i) → slice_index two i ≡ slice_index one i)
    → length three ≡ length two → number three 4104 ≡ 1 → ((i : ℕ) → (i < 4104) ⊎ (4104 + 8 ≤ i) → slice_index three i ≡ slice_index two i)
    → IsFresh three
fresh none one two three long zero long1 mark others1 long2 home others2 long3 format others3 = record {
  long = omega arith;
  mark =
      number_beside 4104 0 two three long3 (omega arith) (inl (omega arith)) others3
      ∙ number_beside 4096 0 one two long2 (omega arith) (inl (omega arith)) others2 ∙ mark;
  home = number_beside 4104 4096 two three long3 (omega arith) (inl (omega arith)) others3 ∙ home;
  format = format;
  zeros = λ i where-i. elim where-i [
    | inl low ↦
        let from = low.0 in
        let to = low.1 in
        others3 i (inl (omega arith)) ∙ others2 i (inl to) ∙ others1 i (inr (omega arith)) ∙ zero i
    | inr high ↦
        others3 i (inr (omega arith)) ∙ others2 i (inr (omega arith)) ∙ others1 i (inr (omega arith)) ∙ zero i
  ];
}

-- such a store is at rest, and page 1 is its one home page
pub fresh_settled : (bytes : List ℕ) (view : DiskView) → IsFresh bytes → Tells view bytes → Only bytes view.crashes
    → IsSettled (page_from bytes 4096 ∷ []) bytes view
fresh_settled bytes view is told only =
    let gate-is : gate bytes ≡ 0 = is.zeros 4095 (inl (omega arith, omega arith)) in
    let long = is.long in
    let shut : gate bytes ≢ OPEN = λ is_open. absurd (omega (arith, gate-is, is_open)) in
    record {
      told = told;
      only = only;
      shut = shut;
      home = record {
        formatted = record { long = omega arith; marked = is.mark };
        journal = λ is_open. absurd (shut is_open);
        some = omega arith;
        count = number-page_from bytes 4096 0 (omega arith) (omega arith) ∙ is.home;
        holds = omega arith;
        each = λ n from to.
            let one : n ≡ 1 = omega (arith, from, to) in
            let here : IsHomePage bytes 1 (page_from bytes 4096) =
            inr (record { not_there = λ is_open. absurd (shut is_open); same = λ i. page_from bytes 4096 }) in
            subst (λ (k : ℕ). IsHomePage bytes k (slice_index_or (page_from bytes 4096 ∷ []) (k - 1) [])) (sym one) here;
      };
    }
