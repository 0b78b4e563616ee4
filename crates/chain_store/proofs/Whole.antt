-- What a commit makes of a sound store is a sound store.
use Rattle.std.proofs.Common.{◌≡◌, ◌≢◌, inl, inr, ℕ, ◌+◌, ◌<◌, ◌≤◌, List, ◌++◌, length, refl, sym, ap, subst, ◌∙◌, arith}
use Rattle.std.proofs.lemmas.Bool.{cases_lt}
use Rattle.chain_store.specs.Chain.{HasPages, Holds, IsGood, Path, data_in}
use Rattle.chain_store.specs.Directories.{IsChain}
use Rattle.chain_store.specs.Parts.{IsNoPart, IsPart, head_or, pages_for, times, times_new, times_old, up_from}
use Rattle.chain_store.specs.Planned.{Covered, Planned}
use Rattle.chain_store.specs.State.{IsIn, IsOwner, IsSound}
use Rattle.chain_store.specs.declared.layout.TheConstants.{FREE}
use Rattle.chain_store.specs.declared.parts.Laid.{Laid}
use Rattle.chain_store.proofs.Counts.{AreCounted}
use Rattle.chain_store.proofs.LaidParts.{Known, freed_path, new_part, old_once, old_owner, part_known, part_or, path_behind, written_data}
use Rattle.chain_store.proofs.LaidParts.{written_path}
use Rattle.chain_store.proofs.Times.{length-few, place_of, times-append, times-fresh, times-up_from, times_at}
use Rattle.chain_store.proofs.Unique.{bytes_one, data_same, pages_one, path_good, path_once, path_same}
use Rattle.chain_store.proofs.WrittenLaws.{was_written, written_long}

module _ (page : ℕ → List ℕ) (home more : ℕ) (first : ℕ → ℕ) (parts : List Laid) (used left kept : List ℕ)
    (covered : Covered page home more first parts used left kept) where
  -- a free page tells that
  pub free_good : (p : ℕ) → 1 ≤ times p (used ++ kept) → IsGood page home FREE p
  free_good p some = path_good page home FREE (first FREE) (used ++ kept) 0 p covered.free_is.path some

  -- nothing is dealt twice
  dealt_once : (p : ℕ) → times_old p parts + times p (used ++ kept) + times p (up_from home more) ≤ 1
  dealt_once p =
      let mine = old_once page page home first first parts p covered.old in
      let spare = path_once page home FREE (first FREE) (used ++ kept) p covered.free_is.path in
      elim (cases_lt 0 (times_old p parts)) [
        | inl here ↦
            let owner = old_owner page page home first first parts p covered.old (omega (arith, here)) in
            elim (cases_lt 0 (times p (used ++ kept))) [
              | inl there ↦
                  let good = free_good p (omega (arith, there)) in
                  let same : owner.0 ≡ FREE = sym owner.3.link.owner ∙ good.link.owner in
                  absurd (omega (arith, same, owner.1))
              | inr none ↦ elim (times-up_from p home more) [
                | inl fresh ↦ absurd (omega (arith, fresh.0, owner.3.below))
                | inr without ↦ omega (arith, mine, none, without)
              ]
            ]
        | inr none ↦ elim (cases_lt 0 (times p (used ++ kept))) [
          | inl there ↦
              let good = free_good p (omega (arith, there)) in
              elim (times-up_from p home more) [
                | inl fresh ↦ absurd (omega (arith, fresh.0, good.below))
                | inr without ↦ omega (arith, spare, none, without)
              ]
          | inr nothing ↦ elim (times-up_from p home more) [
            | inl fresh ↦ omega (arith, none, nothing, fresh.2)
            | inr without ↦ omega (arith, none, nothing, without)
          ]
        ]
      ]

  pub new_once : (p : ℕ) → times_new p parts + (times p left + times p kept) ≤ 1
  new_once p = omega (arith, covered.covers p, dealt_once p)

  -- what is dealt are pages behind the root page
  pub dealt_inside : (p : ℕ) → 1 ≤ times_new p parts + (times p left + times p kept) → (2 ≤ p) × (p < home + more)
  dealt_inside p some =
      elim (cases_lt 0 (times_old p parts)) [
        | inl here ↦
            let owner = old_owner page page home first first parts p covered.old (omega (arith, here)) in
            (owner.3.above, omega (arith, owner.3.below))
        | inr none ↦ elim (cases_lt 0 (times p (used ++ kept))) [
          | inl there ↦ let good = free_good p (omega (arith, there)) in (good.above, omega (arith, good.below))
          | inr nothing ↦ elim (times-up_from p home more) [
            | inl fresh ↦ (omega (arith, fresh.0, covered.some), fresh.1)
            | inr without ↦ absurd (omega (arith, some, covered.covers p, none, nothing, without))
          ]
        ]
      ]

module _ (page new : ℕ → List ℕ) (home more : ℕ) (first next : ℕ → ℕ) (parts : List Laid) (used left kept : List ℕ)
    (plan : Planned page new home more first next parts used left kept) where
  known : (n : ℕ) (pages bytes : List ℕ) → IsPart n pages bytes parts → Known page new home first next parts n pages bytes
  known n pages bytes part = part_known page new home first next parts n pages bytes part plan.covered.old plan.laid plan.begins

  -- a part has its new pages, and its bytes
  pub part_pages : (n : ℕ) (pages bytes : List ℕ) → IsPart n pages bytes parts → HasPages new (home + more) n (next n) pages
  part_pages n pages bytes part =
      let is = known n pages bytes part in
      let inside : (p : ℕ) → 1 ≤ times p pages → (2 ≤ p) × (p < home + more) =
      λ p some. dealt_inside page home more first parts used left kept plan.covered p (omega (arith, some, is.among_new p)) in
      let own : n ≢ FREE = λ same. absurd (omega (arith, same, is.chain)) in
      record {
        path = subst (λ (k : ℕ). Path new (home + more) n k pages 0) (sym is.begins)
            (written_path new (home + more) n own pages bytes inside is.written);
        few = length-few pages 2 (home + more) (λ p.
            omega (arith, is.among_new p, new_once page home more first parts used left kept plan.covered p)) inside;
      }

  pub part_holds : (n : ℕ) (pages bytes : List ℕ) → IsPart n pages bytes parts → Holds new (home + more) n (next n) bytes
  part_holds n pages bytes part =
      let is = known n pages bytes part in
      let own : n ≢ FREE = λ same. absurd (omega (arith, same, is.chain)) in
      record { ns = pages; has = part_pages n pages bytes part; held = written_data new (home + more) n own pages bytes is.written }

  pub part_data : (n : ℕ) (pages bytes : List ℕ) → IsPart n pages bytes parts → data_in new pages ≡ bytes
  part_data n pages bytes part =
      let is = known n pages bytes part in
      let own : n ≢ FREE = λ same. absurd (omega (arith, same, is.chain)) in
      written_data new (home + more) n own pages bytes is.written

  -- the pages of another chain stay
  other_stays : (n : ℕ) (ns : List ℕ) → IsChain n → IsNoPart n parts → HasPages page home n (first n) ns → (p : ℕ) → 1 ≤ times p ns
      → new p ≡ page p
  other_stays n ns chain none has p some =
      let good = path_good page home n (first n) ns 0 p has.path some in
      let not_old : times_old p parts ≡ 0 = elim (cases_lt 0 (times_old p parts)) [
        | inl here ↦
            let owner = old_owner page new home first next parts p plan.covered.old (omega (arith, here)) in
            let same : n ≡ owner.0 = sym good.link.owner ∙ owner.3.link.owner in
            absurd (owner.2 (subst (λ (k : ℕ). IsNoPart k parts) same none))
        | inr without ↦ omega (arith, without)
      ] in
      let not_free : times p (used ++ kept) ≡ 0 = elim (cases_lt 0 (times p (used ++ kept))) [
        | inl there ↦
            let spare = free_good page home more first parts used left kept plan.covered p (omega (arith, there)) in
            let same : n ≡ FREE = sym good.link.owner ∙ spare.link.owner in
            absurd (omega (arith, same, chain))
        | inr without ↦ omega (arith, without)
      ] in
      let not_fresh : times p (up_from home more) ≡ 0 = elim (times-up_from p home more) [
        | inl fresh ↦ absurd (omega (arith, fresh.0, good.below))
        | inr without ↦ without
      ] in
      plan.stays p good.above good.below (omega (arith, plan.covered.covers p, not_old, not_free, not_fresh))
      (omega (arith, plan.covered.covers p, not_old, not_free, not_fresh))

  pub other_pages : (n : ℕ) (ns : List ℕ) → IsChain n → IsNoPart n parts → HasPages page home n (first n) ns
      → HasPages new (home + more) n (next n) ns
  other_pages n ns chain none has = record {
    path = subst (λ (k : ℕ). Path new (home + more) n k ns 0) (sym (plan.others_begin n chain none))
        (path_same page new home more n (first n) ns 0 (other_stays n ns chain none has) has.path);
    few = omega (arith, has.few);
  }

  pub other_holds : (n : ℕ) (bytes : List ℕ) → IsChain n → IsNoPart n parts → Holds page home n (first n) bytes
      → Holds new (home + more) n (next n) bytes
  other_holds n bytes chain none holds = record {
    ns = holds.ns;
    has = other_pages n holds.ns chain none holds.has;
    held = data_same page new home more n holds.ns (other_stays n holds.ns chain none holds.has) ∙ holds.held;
  }

  -- what is left is free
  pub free_pages : HasPages new (home + more) FREE (next FREE) (left ++ kept)
  free_pages =
      let stays : (p : ℕ) → 1 ≤ times p kept → new p ≡ page p = λ p some.
      let spare = free_good page home more first parts used left kept plan.covered p (omega (arith, some, times-append p used kept)) in
      plan.stays p spare.above spare.below (omega (arith, new_once page home more first parts used left kept plan.covered p, some))
      (omega (arith, new_once page home more first parts used left kept plan.covered p, some)) in
      let inside : (p : ℕ) → 1 ≤ times p left → (2 ≤ p) × (p < home + more) =
      λ p some. dealt_inside page home more first parts used left kept plan.covered p (omega (arith, some)) in
      let path : Path new (home + more) FREE (head_or kept 0) kept 0 =
      path_same page new home more FREE (head_or kept 0) kept 0 stays
      (path_behind page home FREE (first FREE) used kept plan.covered.free_is.path) in
      record {
        path = subst (λ (k : ℕ). Path new (home + more) FREE k (left ++ kept) 0) (sym plan.free_begins)
            (freed_path new (home + more) left kept inside plan.freed path);
        few = length-few (left ++ kept) 2 (home + more)
            (λ p. omega (arith, times-append p left kept, new_once page home more first parts used left kept plan.covered p))
            (λ p some. dealt_inside page home more first parts used left kept plan.covered p
            (omega (arith, some, times-append p left kept)));
      }

  in_part : (p : ℕ) → 1 ≤ times_new p parts → (n : ℕ) × IsOwner n × IsIn new (home + more) next n p
  in_part p some =
      let found = new_part page new home first next parts p some in
      let place = place_of p found.1 found.4 in (
        found.0,
        inr (known found.0 found.1 found.2 found.3).chain,
        record { ns = found.1; has = part_pages found.0 found.1 found.2 found.3; place = place.0; below = place.1; here = place.2 },
      )

  in_free : (p : ℕ) → 1 ≤ times p left + times p kept → (n : ℕ) × IsOwner n × IsIn new (home + more) next n p
  in_free p some =
      let place = place_of p (left ++ kept) (omega (arith, some, times-append p left kept)) in
      (FREE, inl refl, record { ns = left ++ kept; has = free_pages; place = place.0; below = place.1; here = place.2 })

  -- what was dealt is in a part or free
  in_dealt : (p : ℕ) → 1 ≤ times_old p parts + times p (used ++ kept) + times p (up_from home more)
      → (n : ℕ) × IsOwner n × IsIn new (home + more) next n p
  in_dealt p some = elim (cases_lt 0 (times_new p parts)) [
    | inl here ↦ in_part p (omega (arith, here))
    | inr none ↦ in_free p (omega (arith, some, none, plan.covered.covers p))
  ]

  old_in : (p n : ℕ) → IsOwner n → IsIn page home first n p → (k : ℕ) × IsOwner k × IsIn new (home + more) next k p
  old_in p n (inl free_chain) is =
      let has : HasPages page home FREE (first FREE) is.ns = subst (λ (k : ℕ). HasPages page home k (first k) is.ns) free_chain is.has in
      let same : is.ns ≡ used ++ kept = pages_one page home FREE (first FREE) is.ns (used ++ kept) has plan.covered.free_is in
      in_dealt p (omega (arith, ap (λ (l : List ℕ). times p l) same, times_at p is.ns is.place is.below is.here))
  old_in p n (inr chain) is = elim (part_or n parts) [
    | inl none ↦ (
      n,
      inr chain,
      record {
        ns = is.ns;
        has = other_pages n is.ns chain none is.has;
        place = is.place;
        below = is.below;
        here =
            is.here;
      },
    )
    | inr some ↦
        let part = known n some.0 some.1 some.2 in
        let same : is.ns ≡ part.old = pages_one page home n (first n) is.ns part.old is.has part.had in
        in_dealt p (omega (arith, ap (λ (l : List ℕ). times p l) same, times_at p is.ns is.place is.below is.here, part.among_old p))
  ]

  pub new_sound : IsSound new (home + more) next
  new_sound = record {
    chains = λ n owner. elim owner [
      | inl is_free ↦ (left ++ kept, subst (λ (k : ℕ). HasPages new (home + more) k (next k) (left ++ kept)) (sym is_free) free_pages)
      | inr chain ↦ elim (part_or n parts) [
        | inl none ↦ let old = plan.covered.sound.chains n (inr chain) in (old.0, other_pages n old.0 chain none old.1)
        | inr some ↦ (some.0, part_pages n some.0 some.1 some.2)
      ]
    ];
    owned = λ p from to. elim (cases_lt p home) [
      | inl before ↦ let old = plan.covered.sound.owned p from before in old_in p old.0 old.1 old.2
      | inr behind ↦ in_dealt p (omega (arith, times-fresh p home more (omega (arith, behind)) to))
    ];
  }

  -- each chain has as many pages as its bytes need, where those of the store were whole
  pub new_counted : ((p : ℕ) → 2 ≤ p → p < home → length (page p) ≡ 4096) → AreCounted new (home + more) next
  new_counted long n bytes chain holds =
      let own : n ≢ FREE = λ same. absurd (omega (arith, same, chain)) in
      elim (part_or n parts) [
        | inl none ↦
            let old = plan.covered.sound.chains n (inr chain) in
            let was = was_written page home n own long (first n) old.0 (data_in page old.0) old.1.path refl in
            let there = other_holds n (data_in page old.0) chain none (record { ns = old.0; has = old.1; held = refl }) in
            let same : data_in page old.0 ≡ bytes = bytes_one new (home + more) n (next n) (data_in page old.0) bytes there holds in (
              old.0,
              other_pages n old.0 chain none old.1,
              written_long page n 0 old.0 (data_in page old.0) was
                  ∙ ap (λ (l : List ℕ). pages_for (length l)) same,
            )
        | inr some ↦
            let part = known n some.0 some.1 some.2 in
            let same : some.1 ≡ bytes = bytes_one new (home + more) n (next n) some.1 bytes (part_holds n some.0 some.1 some.2) holds in (
              some.0,
              part_pages n some.0 some.1 some.2,
              written_long new n 0 some.0 some.1 part.written
                  ∙ ap (λ (l : List ℕ). pages_for (length l)) same,
            )
      ]
