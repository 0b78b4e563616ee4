-- The four parts of a commit: the journal, its gate opened, the pages copied home, the gate shut.
use Rattle.std.proofs.Common.{◌≡◌, ◌≢◌, inl, inr, ℕ, ◌+◌, ◌*◌, ◌<◌, ◌≤◌, ◌⊎◌, List, length, sym, ap, ◌∙◌, arith}
use Rattle.std.proofs.lemmas.Bool.{cases_eq}
use Rattle.outside.specs.Disk.{Crashes, DiskView, Only, Tells, Within, Goes}
use Rattle.page_journal.specs.Crash.{Spares, IsSettled, BesideGate, BesideJournal, BesidePages}
use Rattle.page_journal.specs.Home.{IsFormatted, Home}
use Rattle.page_journal.specs.Pages.{page_from, gate, number_pages}
use Rattle.page_journal.specs.PageSet.{number_at, page_at}
use Rattle.page_journal.specs.Written.{Below, NumbersPut, PagesPut, FieldsPut, GatePut, HomePut, JournalPut, Makes}
use Rattle.page_journal.specs.declared.layout.TheConstants.{OPEN, SHUT}
use Rattle.page_journal.proofs.Moments.{goes_weaker}
use Rattle.page_journal.proofs.Places.{Spares-less, Spares-trans, within_only, number_spared, page_spared}
use Rattle.page_journal.proofs.Standing.{Stands, AreNumbers, Has, Rest, Placed, home_open, home_shut, in_place, formatted_spared}
use Rattle.page_journal.proofs.Standing.{stands_spared, rest_spared, beside_others}

-- the numbers, the pages and the fields, written one after another
pub journal_put : (entries : List (ℕ × List ℕ)) (count home at : ℕ) (old one two new : List ℕ) → 1 ≤ home → 1 ≤ count
    → at ≡ 4096 * (home + number_pages count)
    → NumbersPut entries count (4096 * home) old one → PagesPut entries count at one two → FieldsPut home count two new
    → JournalPut entries count home old new
journal_put entries count home at old one two new above some at-is numbers bodies fields =
    let K : ℕ → Type 0 = BesideJournal (4096 * home) in
    let F : ℕ → Type 0 = λ i. (i < 8) ⊎ (24 ≤ i) in
    let long-one = numbers.long some in
    let long-two = bodies.long some in
    record {
      spares = Spares-trans K old two new
          (Spares-trans K old one two
          (Spares-less (Below (4096 * home)) K old one (λ i keeps. keeps.1) numbers.spares)
          (Spares-less (Below at) K one two (λ i keeps. let low = keeps.1 in omega (arith, low, at-is)) bodies.spares))
          (Spares-less F K two new (λ i keeps. keeps.0) fields.spares);
      first = fields.start;
      pages_are = fields.pages;
      numbers = λ place inside.
          let in-one : 4096 * home + 8 * place + 8 ≤ length one = omega (arith, long-one, inside) in
          let in-two : 4096 * home + 8 * place + 8 ≤ length two = omega (arith, in-one, bodies.spares.no_shorter) in
          number_spared F two new (4096 * home + 8 * place) fields.spares in-two (λ i from to. inr (omega (arith, from, above)))
          ∙ number_spared (Below at) one two (4096 * home + 8 * place) bodies.spares in-one (λ i from to. omega (arith, to, inside, at-is))
          ∙ numbers.numbers place inside;
      bodies = λ place inside.
          let there : 4096 * (home + number_pages count + place) ≡ at + 4096 * place = omega (arith, at-is) in
          let in-two : at + 4096 * place + 4096 ≤ length two = omega (arith, long-two, inside) in
          ap (λ (i : ℕ). page_from new i) there
          ∙ page_spared F two new (at + 4096 * place) fields.spares in-two (λ i from to. inr (omega (arith, from, above, at-is)))
          ∙ bodies.pages place inside;
      long = λ yes. omega (arith, long-two, fields.spares.no_shorter, at-is);
    }

module _ (entries : List (ℕ × List ℕ)) (count home : ℕ) (old new : List (List ℕ)) (makes : Makes entries count home old new) where
  abbrev pub numbers : ℕ → ℕ
  numbers = number_at entries

  abbrev pub pages : ℕ → List ℕ
  pages = page_at entries

  -- the old home pages or the new ones
  abbrev pub OldOrNew : List ℕ → Type 0
  OldOrNew left = Home old left ⊎ Home new left

  are : AreNumbers count numbers home
  are = record { some = makes.some; positive = makes.positive; below = makes.below; rises = makes.rises }

  has : Has count numbers pages new
  has = record {
    some = makes.pages;
    says = makes.says ∙ sym makes.many;
    inside = λ place inside within. makes.inside place inside;
  }

  -- the old home pages stand in place
  pub record Before (bytes : List ℕ) : Type 0 where
    pub formatted : IsFormatted bytes
    pub was : Has 0 numbers pages old
    pub rest : Rest 0 numbers old bytes

  -- the journal stands, and so do the pages that are not in it
  pub record Staged (bytes : List ℕ) : Type 0 where
    pub stands : Stands count numbers pages home bytes
    pub rest : Rest count numbers new bytes

  before_home : (bytes : List ℕ) → Before bytes → gate bytes ≢ OPEN → Home old bytes
  before_home bytes before shut =
      home_shut 0 numbers pages home bytes old before.formatted before.was before.rest
      (record { each = λ place inside. absurd (omega (arith, inside)) }) shut

  settled_before : (view : DiskView) (bytes : List ℕ) → IsSettled old bytes view → Before bytes
  settled_before view bytes settled = record {
    formatted = settled.home.formatted;
    was = record {
      some = settled.home.some;
      says = settled.home.count;
      inside = λ place inside. absurd (omega (arith, inside));
    };
    rest = record {
      holds = settled.home.holds;
      others = λ n from to none. in_place old bytes settled.home settled.shut n from to;
    };
  }

  before_spared : (K : ℕ → Type 0) (one two : List ℕ) → Spares K one two → ((i : ℕ) → i < 8 → K i)
      → ((i : ℕ) → 4096 ≤ i → i < 4096 * home → K i) → Before one → Before two
  before_spared K one two spares low high before = record {
    formatted = formatted_spared K one two spares before.formatted low;
    was = before.was;
    rest = rest_spared K 0 numbers old one two spares (λ n i from to none begin end.
        high i (omega (arith, begin, from)) (omega (arith, end, to, makes.more))) before.rest;
  }

  above : 2 ≤ home
  above = omega (arith, makes.many, makes.pages)

  beside_low : (i : ℕ) → i < 8 → BesideJournal (4096 * home) i
  beside_low i low = (inl low, omega (arith, low, above))

  beside_high : (i : ℕ) → 4096 ≤ i → i < 4096 * home → BesideJournal (4096 * home) i
  beside_high i from to = (inr (omega (arith, from)), to)

  -- while the journal is written, the old pages are home
  journal_home : (view : DiskView) (bytes left : List ℕ) → IsSettled old bytes view → Spares (BesideJournal (4096 * home)) bytes left
      → Home old left
  journal_home view bytes left settled spares =
      let size = settled.home.formatted.long in
      let at-gate : gate left ≡ gate bytes = spares.same 4095 (omega (arith, size)) (inr (omega arith), omega (arith, above)) in
      before_home left (before_spared (BesideJournal (4096 * home)) bytes left spares beside_low beside_high
      (settled_before view bytes settled))
      (λ is_open. settled.shut (sym at-gate ∙ is_open))

  pub go_journal : (view : DiskView) (bytes : List ℕ) (after : Crashes) → IsSettled old bytes view
      → ((base : List ℕ) → Within (Spares (BesideJournal (4096 * home)) base) view.crashes
      → Goes (Spares (BesideJournal (4096 * home)) base) view.crashes after)
      → Goes OldOrNew view.crashes after
  go_journal view bytes after settled crash =
      goes_weaker (Spares (BesideJournal (4096 * home)) bytes) OldOrNew view.crashes after
      (crash bytes (within_only (BesideJournal (4096 * home)) bytes view.crashes settled.only))
      (λ left spares. inl (journal_home view bytes left settled spares))

  pub to_before : (view : DiskView) (bytes now : List ℕ) → IsSettled old bytes view → JournalPut entries count home bytes now → Before now
  to_before view bytes now settled put =
      before_spared (BesideJournal (4096 * home)) bytes now put.spares beside_low beside_high (settled_before view bytes settled)

  pub to_staged : (view : DiskView) (bytes now : List ℕ) → IsSettled old bytes view → JournalPut entries count home bytes now → Staged now
  to_staged view bytes now settled put =
      let before = to_before view bytes now settled put in
      let long = put.long makes.some in
      record {
        stands = record {
          formatted = before.formatted;
          first = put.first;
          pages_are = put.pages_are;
          entries = put.numbers;
          bodies = put.bodies;
          long = long;
        };
        rest = record {
          holds = omega (arith, makes.many, long);
          others = λ n from to none.
              let kept = makes.others n from to none in
              before.rest.others n from kept.0 (λ place inside. absurd (omega (arith, inside))) ∙ sym kept.1;
        };
      }

  -- beside the gate stands all that counts
  gate_places : (i : ℕ) → (i < 24) ⊎ (4096 * home ≤ i) → BesideGate i
  gate_places i (inl low) = λ is. absurd (omega (arith, low, is))
  gate_places i (inr high) = λ is. absurd (omega (arith, high, is, above))

  staged_gate : (one two : List ℕ) → Spares BesideGate one two → Staged one → Staged two
  staged_gate one two spares staged = record {
    stands = stands_spared BesideGate count numbers pages home one two spares gate_places staged.stands;
    rest = rest_spared BesideGate count numbers new one two spares
        (λ n i from to none low high is. absurd (omega (arith, low, from, is))) staged.rest;
  }

  -- while the gate is opened, the old pages are home or the new ones
  gate_home : (bytes left : List ℕ) → Before bytes → Staged bytes → Spares BesideGate bytes left → OldOrNew left
  gate_home bytes left before staged spares =
      let then-staged = staged_gate bytes left spares staged in
      elim (cases_eq (gate left) OPEN) [
        | inl is_open ↦ inr (home_open count numbers pages home left new then-staged.stands are has then-staged.rest is_open)
        | inr shut ↦ inl (before_home left (before_spared BesideGate bytes left spares (λ i low is. absurd (omega (arith, low, is)))
            (λ i from to is. absurd (omega (arith, from, is))) before) shut)
      ]

  pub go_gate : (bytes : List ℕ) (before after : Crashes) → Only bytes before → Before bytes → Staged bytes
      → ((base : List ℕ) → Within (Spares BesideGate base) before → Goes (Spares BesideGate base) before after)
      → Goes OldOrNew before after
  go_gate bytes before after only was staged crash =
      goes_weaker (Spares BesideGate bytes) OldOrNew before after (crash bytes (within_only BesideGate bytes before only))
      (λ left spares. gate_home bytes left was staged spares)

  pub to_open : (bytes now : List ℕ) → Staged bytes → GatePut OPEN bytes now → Staged now
  to_open bytes now staged put = staged_gate bytes now put.spares staged

  page_places : (i : ℕ) → (i < 24) ⊎ (4096 * home ≤ i) → BesidePages count numbers i
  page_places i (inl low) = λ place inside. inl (omega (arith, low, makes.positive place inside))
  page_places i (inr high) = λ place inside. inr (omega (arith, high, makes.below place inside))

  staged_pages : (one two : List ℕ) → Spares (BesidePages count numbers) one two → Staged one → Staged two
  staged_pages one two spares staged = record {
    stands = stands_spared (BesidePages count numbers) count numbers pages home one two spares page_places staged.stands;
    rest = rest_spared (BesidePages count numbers) count numbers new one two spares
        (λ n i from to none low high. beside_others count numbers n i none low high) staged.rest;
  }

  gate_stays : (one two : List ℕ) → Spares (BesidePages count numbers) one two → Staged one → gate two ≡ gate one
  gate_stays one two spares staged =
      spares.same 4095 (omega (arith, staged.stands.formatted.long)) (λ place inside. inl (omega (arith, makes.positive place inside)))

  -- while the pages are copied home, the new ones are
  pub go_home : (bytes : List ℕ) (before after : Crashes) → Only bytes before → Staged bytes → gate bytes ≡ OPEN
      → ((base : List ℕ) → Within (Spares (BesidePages count numbers) base) before
      → Goes (Spares (BesidePages count numbers) base) before after)
      → Goes OldOrNew before after
  go_home bytes before after only staged is_open crash =
      goes_weaker (Spares (BesidePages count numbers) bytes) OldOrNew before after
      (crash bytes (within_only (BesidePages count numbers) bytes before only))
      (λ left spares.
      let then-staged = staged_pages bytes left spares staged in
      inr (home_open count numbers pages home left new then-staged.stands are has then-staged.rest
      (gate_stays bytes left spares staged ∙ is_open)))

  pub to_copied : (bytes now : List ℕ) → Staged bytes → HomePut numbers pages count bytes now → Staged now
  to_copied bytes now staged put = staged_pages bytes now put.spares staged

  pub to_placed : (bytes now : List ℕ) → HomePut numbers pages count bytes now → Placed count numbers pages now
  to_placed bytes now put = record { each = put.stand }

  placed_gate : (one two : List ℕ) → Spares BesideGate one two → Staged one → Placed count numbers pages one
      → Placed count numbers pages two
  placed_gate one two spares staged placed = record {
    each = λ place inside.
        let low = makes.positive place inside in
        let high = makes.below place inside in
        page_spared BesideGate one two (4096 * numbers place) spares (omega (arith, high, staged.stands.long))
        (λ i from to is. absurd (omega (arith, from, is, low))) ∙ placed.each place inside;
  }

  -- while the gate is shut, the new pages are home either way
  shut_home : (bytes left : List ℕ) → Staged bytes → Placed count numbers pages bytes → Spares BesideGate bytes left → Home new left
  shut_home bytes left staged placed spares =
      let then-staged = staged_gate bytes left spares staged in
      elim (cases_eq (gate left) OPEN) [
        | inl is_open ↦ home_open count numbers pages home left new then-staged.stands are has then-staged.rest is_open
        | inr shut ↦ home_shut count numbers pages home left new then-staged.stands.formatted has then-staged.rest
            (placed_gate bytes left spares staged placed) shut
      ]

  pub go_shut : (bytes : List ℕ) (before after : Crashes) → Only bytes before → Staged bytes → Placed count numbers pages bytes
      → ((base : List ℕ) → Within (Spares BesideGate base) before → Goes (Spares BesideGate base) before after)
      → Goes OldOrNew before after
  go_shut bytes before after only staged placed crash =
      goes_weaker (Spares BesideGate bytes) OldOrNew before after (crash bytes (within_only BesideGate bytes before only))
      (λ left spares. inr (shut_home bytes left staged placed spares))

  pub to_done : (bytes now : List ℕ) (view : DiskView) → Staged bytes → Placed count numbers pages bytes → GatePut SHUT bytes now
      → Tells view now → Only now view.crashes → IsSettled new now view
  to_done bytes now view staged placed put told only = record {
    told = told;
    only = only;
    shut = λ is_open. absurd (omega (arith, put.gate, is_open));
    home = shut_home bytes now staged placed put.spares;
  }
