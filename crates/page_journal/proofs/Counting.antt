-- Numbers that are written a page at a time.
use Rattle.std.proofs.Common.{◌≡◌, inl, inr, ℕ, ◌+◌, ◌-◌, ◌*◌, ◌<◌, ◌≤◌, List, length, get_or, slice_index, replicate, ap, ◌∙◌, arith}
use Rattle.std.proofs.lemmas.Bool.{cases_lt}
use Rattle.std.proofs.lemmas.List.{get_or-replicate, get_or_past, length-replicate}
use Rattle.outside.specs.Disk.{overlaid}
use Rattle.outside.proofs.Overlay.{length-overlaid, overlaid-beside, overlaid-in}
use Rattle.page_journal.specs.Pages.{number, number_pages}
use Rattle.page_journal.specs.PageSet.{number_at}
use Rattle.page_journal.specs.Written.{Below, NumbersHeld, NumbersPut}
use Rattle.page_journal.proofs.Bytes.{number_same, number_overlaid}
use Rattle.page_journal.proofs.Places.{Spares-self, Spares-overlaid}

-- one number more in the buffer
pub held_added : (entries : List (ℕ × List ℕ)) (count start at filled value : ℕ) (buffer next base now : List ℕ)
    → NumbersHeld entries count start at filled buffer base now → number next (8 * filled) ≡ value
    → ((other : ℕ) → other < filled → number next (8 * other) ≡ number buffer (8 * other)) → length next ≡ 4096
    → value ≡ number_at entries count → ((i : ℕ) → 8 * filled + 8 ≤ i → slice_index next i ≡ slice_index buffer i)
    → NumbersHeld entries (count + 1) start at (filled + 1) next base now
held_added entries count start at filled value buffer next base now held here others size is behind = record {
  from = held.from;
  place = omega (arith, held.place);
  spares = held.spares;
  written = λ place before. held.written place (omega (arith, before));
  held = λ place below. elim (cases_lt place filled) [
    | inl earlier ↦
        let same : count - filled + place ≡ count + 1 - (filled + 1) + place = omega (arith, held.place, held.from) in
        others place earlier ∙ held.held place earlier ∙ ap (λ (k : ℕ). number_at entries k) same
    | inr last ↦
        let at-last : place ≡ filled = omega arith in
        let there : count ≡ count + 1 - (filled + 1) + place = omega (arith, held.place, held.from) in
        ap (λ (k : ℕ). number next (8 * k)) at-last ∙ here ∙ is ∙ ap (λ (k : ℕ). number_at entries k) there
  ];
  long = held.long;
  size = size;
  whole = held.whole;
  rest = λ i from. behind i (omega (arith, from)) ∙ held.rest i (omega (arith, from));
}

-- once the buffer is written, all stand on the disk
flushed : (entries : List (ℕ × List ℕ)) (count start at filled : ℕ) (buffer base now : List ℕ)
    → NumbersHeld entries count start at filled buffer base now → filled ≤ 512
    → (place : ℕ) → place < count → number (overlaid at buffer now) (start + 8 * place) ≡ number_at entries place
flushed entries count start at filled buffer base now held few place inside =
    let long = length-overlaid at buffer now in
    let size = held.size in
    elim (cases_lt (place + filled) count) [
      | inl before ↦
          let behind-at : start < at = omega (arith, held.place, before) in
          let fits : start + 8 * place + 8 ≤ length now = omega (arith, held.place, held.long behind-at, before) in
          number_same now (overlaid at buffer now) (start + 8 * place) (start + 8 * place) fits (omega arith) (λ k below.
          overlaid-beside at buffer now (start + 8 * place + k) (inl (omega (arith, held.place, before, below))))
          ∙ held.written place before
      | inr behind ↦
          let q = place - (count - filled) in
          let many : filled ≤ count = omega (arith, held.place, held.from) in
          let where-it : start + 8 * place ≡ at + 8 * q = omega (arith, held.place, held.from, many, behind) in
          let below : q < filled = omega (arith, many, inside, behind) in
          let here : count - filled + q ≡ place = omega (arith, many, behind) in
          ap (λ (i : ℕ). number (overlaid at buffer now) i) where-it
          ∙ number_overlaid at buffer now (8 * q) (omega arith)
          ∙ held.held q below ∙ ap (λ (k : ℕ). number_at entries k) here
    ]

pub held_flushed : (entries : List (ℕ × List ℕ)) (count start at : ℕ) (buffer next base now : List ℕ)
    → NumbersHeld entries count start at 512 buffer base now → length next ≡ 4096 → ((i : ℕ) → slice_index next i ≡ 0)
    → NumbersHeld entries count start (at + 4096) 0 next base (overlaid at buffer now)
held_flushed entries count start at buffer next base now held size zero =
    let long = length-overlaid at buffer now in
    record {
      from = omega (arith, held.from);
      place = omega (arith, held.place);
      spares = Spares-overlaid (Below start) base now at buffer held.spares (λ i below. inl (omega (arith, held.from, below)));
      written = λ place before. flushed entries count start at 512 buffer base now held (omega arith) place (omega (arith, before));
      held = λ place below. absurd (omega (arith, below));
      long = λ after. omega (arith, held.size);
      size = size;
      whole = (held.whole.0 + 1, omega (arith, held.whole.1));
      rest = λ i from. zero i;
    }

pub held_last : (entries : List (ℕ × List ℕ)) (count start at filled : ℕ) (buffer base now : List ℕ)
    → NumbersHeld entries count start at filled buffer base now → filled ≤ 512
    → NumbersPut entries count start base (overlaid at buffer now)
held_last entries count start at filled buffer base now held few =
    let long = length-overlaid at buffer now in
    record {
      spares = Spares-overlaid (Below start) base now at buffer held.spares (λ i below. inl (omega (arith, held.from, below)));
      numbers = flushed entries count start at filled buffer base now held few;
      long = λ some. omega (arith, held.place, held.size);
      padded = λ i from to.
          let q = i - at in
          let pages = held.whole.0 in
          let many : count ≡ 512 * pages + filled = omega (arith, held.place, held.whole.1) in
          let last : number_pages count ≤ pages + 1 = omega (arith, many, few) in
          let here : i ≡ at + q = omega (arith, from, held.place) in
          let inside : q < length buffer = omega (arith, to, held.size, held.whole.1, last, here) in
          ap (λ (k : ℕ). get_or (overlaid at buffer now) k 0) here ∙ overlaid-in at buffer now q inside
          ∙ held.rest q (omega (arith, from, held.place, here));
    }

pub held_none : (entries : List (ℕ × List ℕ)) (count start at filled : ℕ) (buffer base now : List ℕ)
    → NumbersHeld entries count start at filled buffer base now → filled ≡ 0 → NumbersPut entries count start base now
held_none entries count start at filled buffer base now held none = record {
  spares = held.spares;
  numbers = λ place inside. held.written place (omega (arith, inside, none));
  long = λ some.
      let behind : start < at = omega (arith, held.place, none, some) in
      omega (arith, held.place, held.long behind, none);
  padded = λ i from to.
      let pages = held.whole.0 in
      let many : count ≡ 512 * pages = omega (arith, held.place, held.whole.1, none) in
      let all : number_pages count ≡ pages = omega (arith, many) in
      absurd (omega (arith, from, to, many, all));
}

pub held_start : (entries : List (ℕ × List ℕ)) (start : ℕ) (buffer now : List ℕ) → length buffer ≡ 4096
    → ((i : ℕ) → slice_index buffer i ≡ 0)
    → NumbersHeld entries 0 start start 0 buffer now now
held_start entries start buffer now size zero = record {
  from = omega arith;
  place = omega arith;
  spares = Spares-self (Below start) now;
  written = λ place before. absurd (omega (arith, before));
  held = λ place below. absurd (omega (arith, below));
  long = λ after. absurd (omega (arith, after));
  size = size;
  whole = (0, omega arith);
  rest = λ i from. zero i;
}

-- zeros are zero at each place, and past their end
pub zeros-zero : (count i : ℕ) → slice_index (replicate count 0) i ≡ 0
zeros-zero count i =
    let size = length-replicate {A = ℕ} count 0 in
    elim (cases_lt i count) [
      | inl inside ↦ get_or-replicate count i 0 0 inside
      | inr past ↦ get_or_past (replicate count 0) i 0 (omega (arith, size, past))
    ]
