-- A journal that a crash has left open is copied home, and its gate is shut.
use Rattle.std.proofs.Common.{◌≡◌, ◌≢◌, ◌↔◌, Bool, false, inl, inr, ⊎_elim, Err, ℕ, zero, suc, ◌+◌, ◌-◌, ◌*◌, ◌<◌, ◌≤◌, ◌⊎◌, List, []}
use Rattle.std.proofs.Common.{length, min, slice_index_or, sym, ap, ◌∙◌, subst, arith}
use Rattle.std.specs.Bool.{IsTrue}
use Rattle.std.proofs.lemmas.Bool.{cases_eq, cases_lt}
use Rattle.outside.specs.Disk.{Crashes, Only, Within, Goes}
use Rattle.page_journal.specs.Answers.{CanFinish, SaysHome, Counts, Finishes, Opens}
use Rattle.page_journal.specs.Crash.{Spares, AllHome, IsLikeOne, BesideGate, BesidePages}
use Rattle.page_journal.specs.Home.{IsFormatted, AreRising, IsWellFormed, IsHomePage, Home}
use Rattle.page_journal.specs.Pages.{number, page_from, gate, first_page, page_count, number_pages, entry, body_at}
use Rattle.page_journal.specs.PageSet.{up_to}
use Rattle.page_journal.specs.Written.{GatePut, HomePut, Finished}
use Rattle.page_journal.specs.declared.fault.StoreFault.{StoreFault}
use Rattle.page_journal.specs.declared.fault.StoreFault.TheVariants.{NotFormatted, NotEmpty, BadStore, DiskFault, StoreFull, Broken}
use Rattle.page_journal.specs.declared.fault.StoreFault.TheVariants.{OutOfMemory}
use Rattle.page_journal.specs.declared.layout.TheConstants.{OPEN, SHUT}
use Rattle.page_journal.proofs.Bytes.{number-page_from}
use Rattle.page_journal.proofs.Moments.{goes_weaker}
use Rattle.page_journal.proofs.Places.{within_only, number_spared, page_spared}
use Rattle.page_journal.proofs.Sets.{length-up_to, get_or-up_to}
use Rattle.page_journal.proofs.Standing.{Stands, AreNumbers, Has, Rest, apart, find_place, home_open, home_shut, formatted_spared}
use Rattle.page_journal.proofs.Standing.{stands_spared, rest_spared, beside_others}

-- the pages of the journal
abbrev pub bodies_of : List ℕ → ℕ → List ℕ
bodies_of bytes place = page_from bytes (body_at bytes place)

rising_from : (f : ℕ → ℕ) (count : ℕ) → ((place : ℕ) → place + 1 < count → f place < f (place + 1)) → (one two : ℕ) → one < two
    → two < count → f one < f two
rising_from f count next one zero before inside = absurd (omega (arith, before))
rising_from f count next one (suc two) before inside =
    let last : two + 1 ≡ suc two = omega arith in
    let step : f two < f (suc two) = subst (λ (k : ℕ). f two < f k) last (next two (omega (arith, inside))) in
    elim (cases_lt one two) [
      | inl earlier ↦ omega (arith, rising_from f count next one two earlier (omega (arith, inside)), step)
      | inr here ↦
          let same : one ≡ two = omega (arith, before, here) in
          subst (λ (k : ℕ). f k < f (suc two)) (sym same) step
    ]

module _ (bytes : List ℕ) (first count : ℕ) (first-is : first ≡ first_page bytes) (count-is : count ≡ page_count bytes) where
  pub numbers : IsWellFormed bytes → AreNumbers count (entry bytes) first
  numbers well = record {
    some = omega (arith, well.some, count-is);
    positive = λ place inside. well.numbers.positive place (omega (arith, inside, count-is));
    below = λ place inside. omega (arith, well.numbers.below place (omega (arith, inside, count-is)), first-is);
    rises = λ one two before inside.
        rising_from (entry bytes) (page_count bytes) (λ place fits. well.numbers.rises place fits) one two before
        (omega (arith, inside, count-is));
  }

  stands : IsFormatted bytes → IsWellFormed bytes → Stands count (entry bytes) (bodies_of bytes) first bytes
  stands formatted well = record {
    formatted = formatted;
    first = sym first-is;
    pages_are = sym count-is;
    entries = λ place inside. ap (λ (n : ℕ). number bytes (4096 * n + 8 * place)) first-is;
    bodies = λ place inside.
        ap (λ (n : ℕ). page_from bytes (4096 * (n + number_pages count + place))) first-is
        ∙ ap (λ (n : ℕ). page_from bytes (4096 * (first_page bytes + number_pages n + place))) count-is;
    long =
        let same : 4096 * (first + number_pages count + count)
        ≡ 4096 * (first_page bytes + number_pages (page_count bytes) + page_count bytes) =
        ap (λ (n : ℕ). 4096 * (n + number_pages count + count)) first-is
        ∙ ap (λ (n : ℕ). 4096 * (first_page bytes + number_pages n + n)) count-is in
        omega (arith, same, well.long);
  }

  has : (pages : List (List ℕ)) → Home pages bytes → gate bytes ≡ OPEN → Has count (entry bytes) (bodies_of bytes) pages
  has pages home is_open =
      let are = numbers (home.journal is_open) in
      record {
        some = home.some;
        says = home.count;
        inside = λ place inside within.
            elim (home.each (entry bytes place) (are.positive place inside) within) [
              | inl there ↦
                  let other : there.place < count = omega (arith, there.within, count-is) in
                  let same : there.place ≡ place = apart count (entry bytes) first there.place place are other inside there.here in
                  there.same ∙ ap (λ (k : ℕ). bodies_of bytes k) same
              | inr not ↦ absurd (not.not_there is_open place (omega (arith, inside, count-is)) (λ i. entry bytes place))
            ];
      }

  rest : (pages : List (List ℕ)) → Home pages bytes → Rest count (entry bytes) pages bytes
  rest pages home = record {
    holds = home.holds;
    others = λ n from to none. elim (home.each n from to) [
      | inl there ↦ absurd (none there.place (omega (arith, there.within, count-is)) there.here)
      | inr here ↦ sym here.same
    ];
  }

  page_places : IsWellFormed bytes → (i : ℕ) → (i < 24) ⊎ (4096 * first ≤ i) → BesidePages count (entry bytes) i
  page_places well i (inl low) = λ place inside. inl (omega (arith, low, (numbers well).positive place inside))
  page_places well i (inr high) = λ place inside. inr (omega (arith, high, (numbers well).below place inside))

  above : IsWellFormed bytes → 1 ≤ first
  above well =
      let some : 0 < count = omega (arith, well.some, count-is) in
      let below = (numbers well).below 0 some in
      omega (arith, below)

  gate_places : IsWellFormed bytes → (i : ℕ) → (i < 24) ⊎ (4096 * first ≤ i) → BesideGate i
  gate_places well i (inl low) = λ is. absurd (omega (arith, low, is))
  gate_places well i (inr high) = λ is. absurd (omega (arith, high, is, above well))

  gate_stays : IsFormatted bytes → IsWellFormed bytes → (left : List ℕ) → Spares (BesidePages count (entry bytes)) bytes left
      → gate left ≡ gate bytes
  gate_stays formatted well left spares =
      spares.same 4095 (omega (arith, formatted.long)) (λ place inside. inl (omega (arith, (numbers well).positive place inside)))

  module _ (pages : List (List ℕ)) (home : Home pages bytes) (is_open : gate bytes ≡ OPEN) where
    well : IsWellFormed bytes
    well = home.journal is_open

    then_stands : (left : List ℕ) → Spares (BesidePages count (entry bytes)) bytes left
        → Stands count (entry bytes) (bodies_of bytes) first left
    then_stands left spares =
        stands_spared (BesidePages count (entry bytes)) count (entry bytes) (bodies_of bytes) first bytes left spares (page_places well)
        (stands home.formatted well)

    then_rest : (left : List ℕ) → Spares (BesidePages count (entry bytes)) bytes left → Rest count (entry bytes) pages left
    then_rest left spares =
        rest_spared (BesidePages count (entry bytes)) count (entry bytes) pages bytes left spares
        (λ n i from to none low high. beside_others count (entry bytes) n i none low high) (rest pages home)

    -- while the pages are copied home
    copying : (left : List ℕ) → Spares (BesidePages count (entry bytes)) bytes left → Home pages left
    copying left spares =
        home_open count (entry bytes) (bodies_of bytes) first left pages (then_stands left spares) (numbers well) (has pages home is_open)
        (then_rest left spares) (gate_stays home.formatted well left spares ∙ is_open)

    pub go_copy : (old new : Crashes) → Only bytes old
        → (Within (Spares (BesidePages count (entry bytes)) bytes) old → Goes (Spares (BesidePages count (entry bytes)) bytes) old new)
        → Goes (Home pages) old new
    go_copy old new only crash =
        goes_weaker (Spares (BesidePages count (entry bytes)) bytes) (Home pages) old new
        (crash (within_only (BesidePages count (entry bytes)) bytes old only)) copying

    -- while the gate is shut
    shutting : (now left : List ℕ) → HomePut (entry bytes) (bodies_of bytes) count bytes now → Spares BesideGate now left → Home pages left
    shutting now left put spares =
        let s = stands_spared BesideGate count (entry bytes) (bodies_of bytes) first now left spares (gate_places well)
        (then_stands now put.spares) in
        let r = rest_spared BesideGate count (entry bytes) pages now left spares
        (λ n i from to none low high is. absurd (omega (arith, low, from, is))) (then_rest now put.spares) in
        let h = has pages home is_open in
        elim (cases_eq (gate left) OPEN) [
          | inl is_now ↦ home_open count (entry bytes) (bodies_of bytes) first left pages s (numbers well) h r is_now
          | inr is_not ↦ home_shut count (entry bytes) (bodies_of bytes) first left pages s.formatted h r (record {
            each = λ place inside.
                let low = (numbers well).positive place inside in
                page_spared BesideGate now left (4096 * entry bytes place) spares (put.long place inside)
                (λ i from to is. absurd (omega (arith, from, is, low))) ∙ put.stand place inside;
          }) is_not
        ]

    pub go_shut : (now : List ℕ) (old new : Crashes) → Only now old → HomePut (entry bytes) (bodies_of bytes) count bytes now
        → ((base : List ℕ) → Within (Spares BesideGate base) old → Goes (Spares BesideGate base) old new) → Goes (Home pages) old new
    go_shut now old new only put crash =
        goes_weaker (Spares BesideGate now) (Home pages) old new (crash now (within_only BesideGate now old only))
        (λ left spares. shutting now left put spares)

  -- what stands behind the home pages while they are written
  read_places : IsWellFormed bytes → (place : ℕ) → place ≤ count → (i : ℕ) → 4096 * first ≤ i → BesidePages place (entry bytes) i
  read_places well place few i from = λ k inside. inr (omega (arith, from, (numbers well).below k (omega (arith, inside, few))))

  long_enough : IsWellFormed bytes → 4096 * (first + number_pages count + count) ≤ length bytes
  long_enough well =
      let same : 4096 * (first + number_pages count + count)
      ≡ 4096 * (first_page bytes + number_pages (page_count bytes) + page_count bytes) =
      ap (λ (n : ℕ). 4096 * (n + number_pages count + count)) first-is
      ∙ ap (λ (n : ℕ). 4096 * (first_page bytes + number_pages n + n)) count-is in
      omega (arith, same, well.long)

  pub number_fits : IsWellFormed bytes → (place : ℕ) (left : List ℕ) → place < count
      → HomePut (entry bytes) (bodies_of bytes) place bytes left
      → first * 4096 + 8 * place + 8 ≤ length left
  number_fits well place left inside put = omega (arith, long_enough well, inside, put.spares.no_shorter)

  -- the place to which the page goes
  pub copy_to : IsWellFormed bytes → (place value : ℕ) (left : List ℕ) → place < count
      → HomePut (entry bytes) (bodies_of bytes) place bytes left
      → value ≡ number left (first * 4096 + 8 * place) → min value first * 4096 ≡ 4096 * entry bytes place
  copy_to well place value left inside put is =
      let at-is : first * 4096 + 8 * place ≡ 4096 * first_page bytes + 8 * place = omega (arith, first-is) in
      let fits : first * 4096 + 8 * place + 8 ≤ length bytes = omega (arith, long_enough well, inside) in
      let same : value ≡ entry bytes place =
      is ∙ number_spared (BesidePages place (entry bytes)) bytes left (first * 4096 + 8 * place) put.spares fits
      (λ i from to. read_places well place (omega (arith, inside)) i (omega (arith, from)))
      ∙ ap (λ (at : ℕ). number bytes at) at-is in
      let below = (numbers well).below place inside in
      omega (arith, same, below)

  pub body_fits : IsWellFormed bytes → (place at : ℕ) (left : List ℕ) → place < count
      → HomePut (entry bytes) (bodies_of bytes) place bytes left
      → at ≡ 4096 * (first + number_pages count + place) → at + 4096 ≤ length left
  body_fits well place at left inside put at-is = omega (arith, long_enough well, inside, put.spares.no_shorter, at-is)

  -- and the page itself
  pub copied_body : IsWellFormed bytes → (place at : ℕ) (left : List ℕ) → place < count
      → HomePut (entry bytes) (bodies_of bytes) place bytes left
      → at ≡ 4096 * (first + number_pages count + place) → page_from left at ≡ bodies_of bytes place
  copied_body well place at left inside put at-is =
      let fits : at + 4096 ≤ length bytes = omega (arith, long_enough well, inside, at-is) in
      let there : 4096 * (first + number_pages count + place) ≡ body_at bytes place =
      ap (λ (n : ℕ). 4096 * (n + number_pages count + place)) first-is
      ∙ ap (λ (n : ℕ). 4096 * (first_page bytes + number_pages n + place)) count-is in
      page_spared (BesidePages place (entry bytes)) bytes left at put.spares fits
      (λ i from to. read_places well place (omega (arith, inside)) i (omega (arith, from, at-is)))
      ∙ ap (λ (i : ℕ). page_from bytes i) (at-is ∙ there)

  pub rises_to : IsWellFormed bytes → (place : ℕ) → place < count → (k : ℕ) → k < place → entry bytes k < entry bytes place
  rises_to well place inside k before = (numbers well).rises k place before inside

  pub finished : (mid now : List ℕ) → IsFormatted bytes → IsWellFormed bytes → gate bytes ≡ OPEN
      → HomePut (entry bytes) (bodies_of bytes) count bytes mid → GatePut SHUT mid now → Finished bytes now
  finished mid now formatted well is_open put shut =
      let mid-formatted = formatted_spared (BesidePages count (entry bytes)) bytes mid put.spares formatted
      (λ i low. page_places well i (inl (omega (arith, low)))) in
      record {
        formatted = formatted_spared BesideGate mid now shut.spares mid-formatted (λ i low is. absurd (omega (arith, low, is)));
        shut = λ yes. absurd (omega (arith, shut.gate, yes));
        long = omega (arith, put.spares.no_shorter, shut.spares.no_shorter);
        home = λ n page from fits is.
            let in-mid : 4096 * n + 4096 ≤ length mid = omega (arith, fits, put.spares.no_shorter) in
            page_spared BesideGate mid now (4096 * n) shut.spares in-mid (λ i low high yes. absurd (omega (arith, low, yes, from)))
            ∙ elim is [
              | inl there ↦
                  let inside : there.place < count = omega (arith, there.within, count-is) in
                  ap (λ (k : ℕ). page_from mid (4096 * k)) (sym there.here) ∙ put.stand there.place inside ∙ sym there.same
              | inr here ↦
                  page_spared (BesidePages count (entry bytes)) bytes mid (4096 * n) put.spares fits
                  (λ i low high. beside_others count (entry bytes) n i
                  (λ place inside. here.not_there is_open place (omega (arith, inside, count-is))) low high)
                  ∙ sym here.same
            ];
      }

-- with the gate shut, nothing is to be finished
pub finished_shut : (bytes : List ℕ) → IsFormatted bytes → gate bytes ≢ OPEN → Finished bytes bytes
finished_shut bytes formatted shut = record {
  formatted = formatted;
  shut = shut;
  long = omega arith;
  home = λ n page from fits is. elim is [ inl there ↦ absurd (shut there.is_open) | inr here ↦ sym here.same ];
}

-- each number has a home page
pub home_page : (bytes : List ℕ) (n : ℕ) → (page : List ℕ) × IsHomePage bytes n page
home_page bytes n = elim (cases_eq (gate bytes) OPEN) [
  | inl is_open ↦ elim (find_place (entry bytes) n (page_count bytes)) [
    | inl found ↦ (
      page_from bytes (body_at bytes found.0),
      inl (record {
        is_open = is_open;
        place = found.0;
        within = found.1;
        here = found.2;
        same = λ i. page_from bytes (body_at bytes found.0);
      }),
    )
    | inr none ↦ (page_from bytes (4096 * n), inr (record { not_there = λ yes. none; same = λ i. page_from bytes (4096 * n) }))
  ]
  | inr shut ↦ (page_from bytes (4096 * n), inr (record { not_there = λ yes. absurd (shut yes); same = λ i. page_from bytes (4096 * n) }))
]

abbrev pub root_of : List ℕ → List ℕ
root_of bytes = (home_page bytes 1).0

pub root_says : (bytes now : List ℕ) → IsFormatted bytes → Finished bytes now → number (root_of bytes) 0 ≡ number now 4096
root_says bytes now formatted done =
    let stands : page_from now 4096 ≡ root_of bytes =
    done.home 1 (root_of bytes) (omega arith) (omega (arith, formatted.long)) (home_page bytes 1).1 in
    sym (ap (λ (l : List ℕ). number l 0) stands) ∙ number-page_from now 4096 0 (omega (arith, done.formatted.long)) (omega arith)

pub says_home : (bytes now : List ℕ) (home : ℕ) → IsFormatted bytes → Finished bytes now → home ≡ number now 4096 → SaysHome bytes home
says_home bytes now home formatted done is = record {
  root = root_of bytes;
  stands = (home_page bytes 1).1;
  says = root_says bytes now formatted done ∙ sym is;
}

abbrev pub pages_of : List ℕ → ℕ → List (List ℕ)
pages_of bytes home = up_to (λ n. (home_page bytes n).0) (home - 1)

module _ (bytes now : List ℕ) (home : ℕ) (can : CanFinish bytes) (done : Finished bytes now) (is : home ≡ number now 4096)
    (some : 2 ≤ home) (fits : 4096 * home ≤ length bytes) where
  pub many : length (pages_of bytes home) + 1 ≡ home
  many = omega (arith, length-up_to (λ n. (home_page bytes n).0) (home - 1), some)

  says : number (slice_index_or (pages_of bytes home) 0 []) 0 ≡ length (pages_of bytes home) + 1
  says =
      ap (λ (l : List ℕ). number l 0) (get_or-up_to (λ n. (home_page bytes n).0) (home - 1) 1 (omega arith) (omega (arith, some)))
      ∙ root_says bytes now can.formatted done ∙ sym is ∙ sym many

  pub home_before : Home (pages_of bytes home) bytes
  home_before = record {
    formatted = can.formatted;
    journal = can.journal;
    some = omega (arith, many, some);
    count = says;
    holds = omega (arith, many, fits);
    each = λ n from to.
        subst (λ (page : List ℕ). IsHomePage bytes n page)
        (sym (get_or-up_to (λ k. (home_page bytes k).0) (home - 1) n from (omega (arith, to, many))))
        (home_page bytes n).1;
  }

  pub home_after : Home (pages_of bytes home) now
  home_after = record {
    formatted = done.formatted;
    journal = λ yes. absurd (done.shut yes);
    some = omega (arith, many, some);
    count = says;
    holds = omega (arith, many, fits, done.long);
    each = λ n from to.
        let inside : 4096 * n + 4096 ≤ length bytes = omega (arith, to, many, fits) in
        inr (record {
          not_there = λ yes. absurd (done.shut yes);
          same =
              get_or-up_to (λ k. (home_page bytes k).0) (home - 1) n from (omega (arith, to, many))
              ∙ sym (done.home n (home_page bytes n).0 from inside (home_page bytes n).1);
        });
  }

-- one number more rises
pub rising_more : (bytes : List ℕ) (first place last value : ℕ) → AreRising bytes first place → (place ≡ 0 → last ≡ 0)
    → (0 < place → last ≡ number bytes (4096 * first + 8 * (place - 1))) → value ≡ number bytes (4096 * first + 8 * place)
    → last < value → value < first → AreRising bytes first (place + 1)
rising_more bytes first place last value so_far start before is over below = record {
  positive = λ k inside. elim (cases_lt k place) [
    | inl earlier ↦ so_far.positive k earlier
    | inr here ↦
        let same : k ≡ place = omega (arith, inside, here) in
        let value-is : number bytes (4096 * first + 8 * k) ≡ value = ap (λ (n : ℕ). number bytes (4096 * first + 8 * n)) same ∙ sym is in
        omega (arith, value-is, over)
  ];
  below = λ k inside. elim (cases_lt k place) [
    | inl earlier ↦ so_far.below k earlier
    | inr here ↦
        let same : k ≡ place = omega (arith, inside, here) in
        let value-is : number bytes (4096 * first + 8 * k) ≡ value = ap (λ (n : ℕ). number bytes (4096 * first + 8 * n)) same ∙ sym is in
        omega (arith, value-is, below)
  ];
  rises = λ k inside. elim (cases_lt (k + 1) place) [
    | inl earlier ↦ so_far.rises k earlier
    | inr here ↦
        let same : k + 1 ≡ place = omega (arith, inside, here) in
        let some : 0 < place = omega (arith, same) in
        let k-is : place - 1 ≡ k = omega (arith, same) in
        let last-is : last ≡ number bytes (4096 * first + 8 * k) = before some ∙ ap (λ (n : ℕ). number bytes (4096 * first + 8 * n)) k-is in
        let value-is : number bytes (4096 * first + 8 * (k + 1)) ≡ value =
        ap (λ (n : ℕ). number bytes (4096 * first + 8 * n)) same ∙ sym is in
        omega (arith, last-is, value-is, over)
  ];
}

-- a number that does not
pub rising_not : (bytes : List ℕ) (first count place last value : ℕ) → place < count → (place ≡ 0 → last ≡ 0)
    → (0 < place → last ≡ number bytes (4096 * first + 8 * (place - 1))) → value ≡ number bytes (4096 * first + 8 * place)
    → ¬ ((last < value) × (value < first)) → ¬ AreRising bytes first count
rising_not bytes first count place last value inside start before is not = λ rising.
    let low = rising.positive place inside in
    let high = rising.below place inside in
    let less : value < first = omega (arith, is, high) in
    let more : last < value = elim (cases_lt 0 place) [
      | inl some ↦
          let next : place - 1 + 1 ≡ place = omega (arith, some) in
          let step = rising.rises (place - 1) (omega (arith, next, inside)) in
          let there : number bytes (4096 * first + 8 * (place - 1 + 1)) ≡ number bytes (4096 * first + 8 * place) =
          ap (λ (n : ℕ). number bytes (4096 * first + 8 * n)) next in
          omega (arith, step, there, before some, is)
      | inr none ↦
          let at-zero : place ≡ 0 = omega (arith, none) in
          omega (arith, start at-zero, low, is)
    ] in
    not (more, less)

pub rising_none : (bytes : List ℕ) (first : ℕ) → AreRising bytes first 0
rising_none bytes first = record {
  positive = λ place inside. absurd (omega (arith, inside));
  below = λ place inside. absurd (omega (arith, inside));
  rises = λ place inside. absurd (omega (arith, inside));
}

-- a refusal of the number of home pages is one of the store
pub opens_count : (bytes now : List ℕ) (len : ℕ) (fault : StoreFault) → CanFinish bytes → Finished bytes now → len ≡ length bytes
    → Counts now len (Err fault) → Opens bytes (Err fault)
opens_count bytes now len NotFormatted can done long is = absurd is
opens_count bytes now len NotEmpty can done long is = absurd is
opens_count bytes now len (BadStore page) can done long is = inr (record {
  one = is.0;
  finish = can;
  home = number now 4096;
  says = says_home bytes now (number now 4096) can.formatted done (λ i. number now 4096);
  bad = ⊎_elim (λ few. inl few) (λ short. inr (omega (arith, short, long))) is.1;
})
opens_count bytes now len DiskFault can done long is = tt
opens_count bytes now len (StoreFull pages) can done long is = absurd is
opens_count bytes now len Broken can done long is = absurd is
opens_count bytes now len OutOfMemory can done long is = absurd is

-- and so is one of its journal
pub opens_finish : (bytes : List ℕ) (fault : StoreFault) → Finishes bytes (Err fault) → Opens bytes (Err fault)
opens_finish bytes NotFormatted is = absurd is
opens_finish bytes NotEmpty is = absurd is
opens_finish bytes (BadStore page) is = inl is
opens_finish bytes DiskFault is = tt
opens_finish bytes (StoreFull pages) is = absurd is
opens_finish bytes Broken is = absurd is
opens_finish bytes OutOfMemory is = absurd is

-- a number of home pages that is refused
pub too_few : (home n len : ℕ) (holds : Bool) → home ≡ n → holds ≡ false → (IsTrue holds ↔ ((2 ≤ home) × (4096 * home ≤ len)))
    → (n < 2) ⊎ (len < 4096 * n)
too_few home n len holds is not both = elim (cases_lt home 2) [
  | inl few ↦ inl (omega (arith, few, is))
  | inr some ↦ elim (cases_lt len (4096 * home)) [
    | inl short ↦ inr (omega (arith, short, is))
    | inr fits ↦
        let yes = both.1 (some, fits) in
        absurd (cc (not, yes))
  ]
]

-- each outcome has the home pages of itself
pub like_itself : (crashes : Crashes) → AllHome crashes → (left : List ℕ) → crashes.outcomes left → IsLikeOne crashes left
like_itself crashes all left now =
    let pages = all left now in
    record { one = left; among = now; pages = pages.0; had = pages.1; has = pages.1 }
