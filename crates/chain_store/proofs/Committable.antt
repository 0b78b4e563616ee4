-- The set of a commit may be committed, whatever the store is.
use Rattle.std.proofs.Common.{◌≡◌, ◌≢◌, inl, inr, ℕ, ◌+◌, ◌-◌, ◌<◌, ◌≤◌, ◌==◌, ◌&&◌, Bool, true, false, cond, List, [], ◌∷◌, ◌++◌, length}
use Rattle.std.proofs.Common.{drop, Option, None, refl, sym, ap, subst, ◌∙◌, arith}
use Rattle.std.proofs.lemmas.Bool.{cases_lt, eqb-true}
use Rattle.std.specs.List.{All}
use Rattle.std.specs.Option.{is_some, IsSome}
use Rattle.std.specs.Ordering.{nat_cmp}
use Rattle.std.specs.FinMap as finite
use Rattle.page_journal.specs.Pages.{number}
use Rattle.page_journal.specs.PageSet.{CanCommit, PageMap}
use Rattle.chain_store.specs.Chain.{AreBehindRoot, IsBehindRoot}
use Rattle.chain_store.specs.Firsts.{MayFill}
use Rattle.chain_store.specs.Pairs.{chain_pairs, laid_pairs, link_page, puts, stays_so}
use Rattle.chain_store.specs.Parts.{first_held, head_or, later_held, times, times_new, times_old}
use Rattle.chain_store.specs.Plan.{IsDealt, kept_free, more_of, set_of, spare_of, wanted}
use Rattle.chain_store.specs.declared.layout.TheConstants.{FREE}
use Rattle.chain_store.specs.declared.parts.Laid.{Laid}
use Rattle.chain_store.specs.declared.parts.Part.{Part}
use Rattle.chain_store.specs.declared.planning.Dealt.{Dealt}
use Rattle.chain_store.proofs.Looked.{chain_numbers, insert_other, insert_same, laid_numbers, numbers, numbers-append, puts_other}
use Rattle.chain_store.proofs.Outcome.{covers, whole_free}
use Rattle.chain_store.proofs.PairLaws.{puts-append}
use Rattle.chain_store.proofs.Parting.{laid_pairs-append}
use Rattle.chain_store.proofs.Times.{once-cases, once-same, place_of, times-cut, times-fresh, times-up_from}
use Rattle.chain_store.proofs.WrittenLaws.{both_true}

-- what holds of each number of a list
pub all_times : (P : ℕ → Type 0) (xs : List ℕ) (p : ℕ) → All P xs → 1 ≤ times p xs → P p
all_times P xs p all some = let place = place_of p xs some in subst P place.2 (all place.0 0 place.1)

-- a page that was none of the old ones is put
put_cond : (b : Bool) (p n : ℕ) (link : List ℕ) (rest : List (ℕ × List ℕ)) (least : ℕ) → (n ≡ p → b ≡ true → ⊥)
    → least ≤ times p (numbers rest) → cond (n == p) 1 0 + least ≤ times p (numbers (cond b rest ((n, link) ∷ rest)))
put_cond true p n link rest least not enough = elim (once-cases p n) [
  | inl here ↦ absurd (not here.0 refl)
  | inr there ↦ omega (arith, there.1, enough)
]
put_cond false p n link rest least not enough = omega (arith, enough)

head_in : (p n : ℕ) (old same : List ℕ) (after : ℕ) → p ≢ 0 → times p old ≡ 0 → n ≡ p → stays_so n after old same ≡ true → ⊥
head_in p n [] same after other none is stays =
    let first = (both_true (0 == n) (0 == after) (both_true ((0 == n) && (0 == after)) (head_or same 0 == 1) stays).0).0 in
    other (sym (eqb-true 0 n first ∙ is))
head_in p n (o ∷ os) same after other none is stays =
    let first = (both_true (o == n) (head_or os 0 == after)
    (both_true ((o == n) && (head_or os 0 == after)) (head_or same 0 == 1) stays).0).0 in
    absurd (omega (arith, none, once-same p o (eqb-true o n first ∙ is)))

times_behind : (p : ℕ) (old : List ℕ) → times p old ≡ 0 → times p (drop 1 old) ≡ 0
times_behind p [] none = refl
times_behind p (o ∷ os) none = omega (arith, none)

pub chain_put : (p owner tail : ℕ) (ns bytes old same : List ℕ) → p ≢ 0 → times p old ≡ 0
    → times p ns ≤ times p (numbers (chain_pairs owner tail ns bytes old same))
chain_put p owner tail [] bytes old same other none = omega arith
chain_put p owner tail (n ∷ ns) bytes old same other none =
    put_cond (stays_so n (head_or ns tail) old same) p n (link_page (head_or ns tail) owner (first_held bytes))
    (chain_pairs owner tail ns (later_held bytes) (drop 1 old) (drop 1 same)) (times p ns)
    (λ is stays. head_in p n old same (head_or ns tail) other none is stays)
    (chain_put p owner tail ns (later_held bytes) (drop 1 old) (drop 1 same) other (times_behind p old none))

pub laid_put : (p : ℕ) (parts : List Laid) → p ≢ 0 → times_old p parts ≡ 0 → times_new p parts ≤ times p (numbers (laid_pairs parts))
laid_put p [] other none = omega arith
laid_put p (one ∷ others) other none =
    omega (
      arith,
      numbers-append p (chain_pairs one.number 0 one.pages one.bytes one.old one.same) (laid_pairs others),
      chain_put p one.number 0 one.pages one.bytes one.old one.same other (omega (arith, none)),
      laid_put p others other (omega (arith, none)),
    )

insert_keeps : (set : PageMap) (n : ℕ) (page : List ℕ) (p : ℕ) → IsSome (finite.get set p)
    → IsSome (finite.get (finite.insert set n page) p)
insert_keeps set n page p some = elim (once-cases p n) [
  | inl here ↦ subst (λ (k : ℕ). IsSome (finite.get (finite.insert set n page) k)) here.0
      (ap (λ (o : Option (List ℕ)). is_some o) (insert_same set n page))
  | inr there ↦ ap (λ (o : Option (List ℕ)). is_some o) (insert_other set n page p (λ is. there.0 (sym is))) ∙ some
]

puts_keeps : (set : PageMap) (pairs : List (ℕ × List ℕ)) (p : ℕ) → IsSome (finite.get set p) → IsSome (finite.get (puts set pairs) p)
puts_keeps set [] p some = some
puts_keeps set (pair ∷ pairs) p some = puts_keeps (finite.insert set pair.0 pair.1) pairs p (insert_keeps set pair.0 pair.1 p some)

puts_has : (set : PageMap) (pairs : List (ℕ × List ℕ)) (p : ℕ) → 1 ≤ times p (numbers pairs) → IsSome (finite.get (puts set pairs) p)
puts_has set [] p some = absurd (omega arith)
puts_has set (pair ∷ pairs) p some = elim (once-cases p pair.0) [
  | inl here ↦ puts_keeps (finite.insert set pair.0 pair.1) pairs p
      (subst (λ (k : ℕ). IsSome (finite.get (finite.insert set pair.0 pair.1) k)) here.0
      (ap (λ (o : Option (List ℕ)). is_some o) (insert_same set pair.0 pair.1)))
  | inr there ↦ puts_has (finite.insert set pair.0 pair.1) pairs p (omega (arith, some, there.1))
]

-- all old pages of parts are behind the root page
abbrev pub AreOldBehind : ℕ → List Laid → Type 0
AreOldBehind home [] = Unit {0}
AreOldBehind home (one ∷ others) = AreBehindRoot home one.old × AreOldBehind home others

old_behind : (home p : ℕ) (parts : List Laid) → AreOldBehind home parts → 1 ≤ times_old p parts → (2 ≤ p) × (p < home)
old_behind home p [] behind some = absurd (omega arith)
old_behind home p (one ∷ others) behind some = elim (cases_lt 0 (times p one.old)) [
  | inl here ↦ all_times (IsBehindRoot home) one.old p behind.0 (omega (arith, here))
  | inr none ↦ old_behind home p others behind.1 (omega (arith, some, none))
]

module _ (home : ℕ) (parts bases : List Part) (count : ℕ) (free : List ℕ) (dealt : Dealt) (may : All (MayFill count) bases)
    (is : IsDealt parts bases count free home dealt) (some : 2 ≤ home)
    (old : AreOldBehind home (dealt.chains.items ++ dealt.directories.items))
    (free_behind : AreBehindRoot home free) where
  all : List Laid
  all = dealt.chains.items ++ dealt.directories.items

  pub dealt_within : (p : ℕ) → 1 ≤ times_new p (dealt.chains.items ++ dealt.directories.items) + times p dealt.left.items
      → (2 ≤ p) × (p < home + more_of parts bases free)
  dealt_within p there =
      let law = covers home parts bases count free dealt may is p in
      let whole = ap (λ (l : List ℕ). times p l) (whole_free home parts bases count free dealt may is) in
      elim (cases_lt 0 (times_old p (dealt.chains.items ++ dealt.directories.items))) [
        | inl was ↦
            let behind = old_behind home p (dealt.chains.items ++ dealt.directories.items) old (omega (arith, was)) in
            (behind.0, omega (arith, behind.1))
        | inr none ↦ elim (cases_lt 0 (times p free)) [
          | inl spare ↦ let behind = all_times (IsBehindRoot home) free p free_behind (omega (arith, spare)) in
              (behind.0, omega (arith, behind.1))
          | inr nothing ↦ elim (times-up_from p home (more_of parts bases free)) [
            | inl fresh ↦ (omega (arith, fresh.0, some), fresh.1)
            | inr without ↦ absurd (omega (arith, there, law, whole, none, nothing, without))
          ]
        ]
      ]

  module _ (front : List ℕ) (tells : number front 0 ≡ home + more_of parts bases free) where
    abbrev set : PageMap
    set = set_of dealt.chains.items dealt.directories.items dealt.left.items dealt.tail front

    abbrev set_all : PageMap
    set_all = puts finite.empty (laid_pairs (dealt.chains.items ++ dealt.directories.items))

    abbrev set_free : PageMap
    set_free = puts set_all (chain_pairs FREE dealt.tail dealt.left.items [] [] [])

    set_is : set_of dealt.chains.items dealt.directories.items dealt.left.items dealt.tail front ≡ finite.insert set_free 1 front
    set_is = ap (λ (s : PageMap). finite.insert (puts s (chain_pairs FREE dealt.tail dealt.left.items [] [] [])) 1 front)
        (sym (ap (λ l. puts finite.empty l) (laid_pairs-append dealt.chains.items dealt.directories.items)
        ∙ puts-append finite.empty (laid_pairs dealt.chains.items) (laid_pairs dealt.directories.items)))

    within : (n : ℕ) → IsSome (finite.get (finite.insert set_free 1 front) n) → (1 ≤ n) × (n < home + more_of parts bases free)
    within n there = elim (once-cases n 1) [
      | inl root ↦ (omega (arith, root.0), omega (arith, root.0, some))
      | inr other ↦ elim (cases_lt 0 (times n (numbers (chain_pairs FREE dealt.tail dealt.left.items [] [] [])))) [
        | inl spare ↦
            let inside = dealt_within n (omega (arith, spare, chain_numbers n FREE dealt.tail dealt.left.items [] [] [])) in
            (omega (arith, inside.0), inside.1)
        | inr none ↦ elim (cases_lt 0 (times n (numbers (laid_pairs (dealt.chains.items ++ dealt.directories.items))))) [
          | inl put ↦
              let inside = dealt_within n (omega (arith, put, laid_numbers n (dealt.chains.items ++ dealt.directories.items))) in
              (omega (arith, inside.0), inside.1)
          | inr nothing ↦
              let gone : finite.get (finite.insert set_free 1 front) n ≡ None =
              insert_other set_free 1 front n (λ is_one. other.0 (sym is_one))
              ∙ puts_other n set_all (chain_pairs FREE dealt.tail dealt.left.items [] [] []) (omega (arith, none))
              ∙ puts_other n finite.empty (laid_pairs (dealt.chains.items ++ dealt.directories.items)) (omega (arith, nothing))
              ∙ finite.get-empty nat_cmp n in
              absurd (cc (gone, there))
        ]
      ]
    ]

    fresh_put : (n : ℕ) → home ≤ n → n < home + more_of parts bases free → IsSome (finite.get (finite.insert set_free 1 front) n)
    fresh_put n from to =
        let law = covers home parts bases count free dealt may is n in
        let whole = ap (λ (l : List ℕ). times n l) (whole_free home parts bases count free dealt may is) in
        let fresh = times-fresh n home (more_of parts bases free) from to in
        let not_old : times_old n (dealt.chains.items ++ dealt.directories.items) ≡ 0 =
        elim (cases_lt 0 (times_old n (dealt.chains.items ++ dealt.directories.items))) [
          | inl was ↦ let behind = old_behind home n (dealt.chains.items ++ dealt.directories.items) old (omega (arith, was)) in
              absurd (omega (arith, behind.1, from))
          | inr none ↦ omega (arith, none)
        ] in
        let not_free : times n free ≡ 0 = elim (cases_lt 0 (times n free)) [
          | inl spare ↦ let behind = all_times (IsBehindRoot home) free n free_behind (omega (arith, spare)) in
              absurd (omega (arith, behind.1, from))
          | inr none ↦ omega (arith, none)
        ] in
        let not_kept : times n (kept_free parts bases free) ≡ 0 =
        omega (arith, times-cut n (wanted parts bases - length (spare_of parts bases)) free, not_free) in
        let other : n ≢ 0 = λ zero_is. absurd (omega (arith, zero_is, from, some)) in
        insert_keeps set_free 1 front n (elim (cases_lt 0 (times_new n (dealt.chains.items ++ dealt.directories.items))) [
          | inl part ↦ puts_keeps set_all (chain_pairs FREE dealt.tail dealt.left.items [] [] []) n
              (puts_has finite.empty (laid_pairs (dealt.chains.items ++ dealt.directories.items)) n
              (omega (arith, part, laid_put n (dealt.chains.items ++ dealt.directories.items) other not_old)))
          | inr none ↦ puts_has set_all (chain_pairs FREE dealt.tail dealt.left.items [] [] []) n
              (omega (arith, law, whole, fresh, none, not_kept, chain_put n FREE dealt.tail dealt.left.items [] [] [] other refl))
        ])

    pub can_commit : CanCommit (set_of dealt.chains.items dealt.directories.items dealt.left.items dealt.tail front) home
        (home + more_of parts bases free)
    can_commit = subst (λ (s : PageMap). CanCommit s home (home + more_of parts bases free)) (sym set_is) (record {
      more = omega arith;
      within = within;
      root = (front, insert_same set_free 1 front, tells);
      new = fresh_put;
    })
