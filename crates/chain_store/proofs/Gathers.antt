-- What was written is gathered, chain by chain.
use Rattle.std.proofs.Common.{◌≡◌, ◌≢◌, ◌⊎◌, inl, inr, ℕ, ◌-◌, ◌<◌, Bool, true, cond, List, [], ◌∷◌, ◌++◌, Option, Some, None, refl, sym}
use Rattle.std.proofs.Common.{ap, subst, ◌∙◌, arith}
use Rattle.std.specs.Option.{is_some, IsSome, unwrap_or}
use Rattle.std.specs.Ordering.{nat_cmp, eq_by_cmp}
use Rattle.std.specs.Cmp.{nat_cmp_total, eq_by_cmp_equiv}
use Rattle.std.specs.FinMap as map
use Rattle.page_journal.proofs.Sets.{not_equal}
use Rattle.chain_store.specs.Gathered.{AreApart, AreGathered, EachGathered, IsGathered, IsGathering, IsNoNumber}
use Rattle.chain_store.specs.Known.{Lists}
use Rattle.chain_store.specs.declared.parts.Part.{Part}
use Rattle.chain_store.proofs.Times.{same_or}

equal_here : (a b : ℕ) → a ≡ b → eq_by_cmp nat_cmp a b ≡ true
equal_here a b is = subst (λ (k : ℕ). eq_by_cmp nat_cmp a k ≡ true) is ((eq_by_cmp_equiv nat_cmp_total).refl a)

pub removed-here : (lists : Lists) (n q : ℕ) → q ≡ n → map.get (map.remove lists n) q ≡ None
removed-here lists n q is = map.get-remove nat_cmp_total lists n q ∙ ap (λ (b : Bool). cond b None (map.get lists q)) (equal_here q n is)

pub removed-there : (lists : Lists) (n q : ℕ) → q ≢ n → map.get (map.remove lists n) q ≡ map.get lists q
removed-there lists n q other = map.get-remove nat_cmp_total lists n q
    ∙ ap (λ (b : Bool). cond b None (map.get lists q)) (not_equal q n other)

pub len-less : {X : Type 0} (m : map.FinMap nat_cmp X) (n : ℕ) (value : X) → map.get m n ≡ Some value → map.len (map.remove m n) < map.len m
len-less {X} m n value is =
    let has : map.contains_key m n ≡ true = ap (λ (o : Option X). is_some o) is in
    let less : map.len (map.remove m n) ≡ map.len m - 1 =
    map.len-remove nat_cmp_total m n ∙ ap (λ (b : Bool). cond b (map.len m - 1) (map.len m)) has in
    elim (same_or (map.len m) 0) [
      | inl none ↦
          let nothing : map.get m n ≡ None = ap (λ (l : map.FinMap nat_cmp X). map.get l n) (map.empty_of_len m none)
          ∙ map.get-empty nat_cmp n in
          absurd (cc (nothing, is))
      | inr some ↦ omega (arith, less, some)
    ]

number_or : (n : ℕ) (parts : List Part) → IsNoNumber n parts ⊎ (IsNoNumber n parts → ⊥)
number_or n [] = inl tt
number_or n (part ∷ parts) = elim (same_or n part.number) [
  | inl here ↦ inr (λ none. none.0 here)
  | inr there ↦ elim (number_or n parts) [
    | inl none ↦ inl (there, none)
    | inr some ↦ inr (λ none. some none.1)
  ]
]

no_number-push : (n : ℕ) (parts : List Part) (part : Part) → IsNoNumber n parts → n ≢ part.number → IsNoNumber n (parts ++ part ∷ [])
no_number-push n [] part none other = (other, tt)
no_number-push n (one ∷ others) part none other = (none.0, no_number-push n others part none.1 other)

no_number-pushed : (n : ℕ) (parts : List Part) (part : Part) → IsNoNumber n (parts ++ part ∷ []) → IsNoNumber n parts × (n ≢ part.number)
no_number-pushed n [] part none = (tt, none.0)
no_number-pushed n (one ∷ others) part none = let later = no_number-pushed n others part none.1 in ((none.0, later.0), later.1)

apart-push : (parts : List Part) (part : Part) → AreApart parts → IsNoNumber part.number parts → AreApart (parts ++ part ∷ [])
apart-push [] part apart none = (tt, tt)
apart-push (one ∷ others) part apart none =
    (no_number-push one.number others part apart.0 (λ same. none.0 (sym same)), apart-push others part apart.1 none.1)

each-push : (written read before : Lists) (parts : List Part) (part : Part) → EachGathered written read before parts
    → IsGathered written read before part → EachGathered written read before (parts ++ part ∷ [])
each-push written read before [] part each here = (here, tt)
each-push written read before (one ∷ others) part each here = (each.0, each-push written read before others part each.1 here)

some_or : (o : Option (List ℕ)) (list : List ℕ) → IsSome o → list ≡ unwrap_or o [] → o ≡ Some list
some_or None list some is = absurd (cc some)
some_or (Some found) list some is = ap (λ (l : List ℕ). Some l) (sym is)

none_or : (o : Option (List ℕ)) (list : List ℕ) → list ≡ unwrap_or o [] → (list ≡ []) ⊎ (o ≡ Some list)
none_or None list is = inl is
none_or (Some found) list is = inr (ap (λ (l : List ℕ). Some l) (sym is))

module _ (written read before : Lists) where
  pub gather_none : IsGathering written read before [] written read before
  gather_none = record { each = tt; apart = tt; others = λ n none. (refl, refl, refl); gone = λ n some. absurd (some tt) }

  pub gather_more : (parts : List Part) (part : Part) (left known had left_now known_now had_now : Lists)
      → IsGathering written read before parts left known had → map.get left part.number ≡ Some part.bytes
      → ((n : ℕ) (bytes : List ℕ) → map.get written n ≡ Some bytes → IsSome (map.get read n))
      → part.old ≡ unwrap_or (map.get known part.number) [] → part.same ≡ unwrap_or (map.get had part.number) []
      → left_now ≡ map.remove left part.number → known_now ≡ map.remove known part.number → had_now ≡ map.remove had part.number
      → IsGathering written read before (parts ++ part ∷ []) left_now known_now had_now
  gather_more parts part left known had left_now known_now had_now so_far here some old was left_is known_is had_is =
      let n : ℕ = part.number in
      let new : IsNoNumber n parts = elim (number_or n parts) [
        | inl none ↦ none
        | inr already ↦ (let gone = so_far.gone n already in absurd (cc (gone, here)))
      ] in
      let same = so_far.others n new in
      record {
        each = each-push written read before parts part so_far.each (
          sym same.0 ∙ here,
          some_or (map.get read n) part.old (some n part.bytes (sym same.0 ∙ here))
              (old ∙ ap (λ (o : Option (List ℕ)). unwrap_or o []) same.1),
          none_or (map.get before n) part.same (was ∙ ap (λ (o : Option (List ℕ)). unwrap_or o []) same.2),
        );
        apart = apart-push parts part so_far.apart new;
        others = λ q none.
            let before_it = no_number-pushed q parts part none in
            let so = so_far.others q before_it.0 in (
              ap (λ (l : Lists). map.get l q) left_is ∙ removed-there left n q before_it.1 ∙ so.0,
              ap (λ (l : Lists). map.get l q) known_is ∙ removed-there known n q before_it.1 ∙ so.1,
              ap (λ (l : Lists). map.get l q) had_is ∙ removed-there had n q before_it.1 ∙ so.2,
            );
        gone = λ q already. elim (same_or q n) [
          | inl is ↦ ap (λ (l : Lists). map.get l q) left_is ∙ removed-here left n q is
          | inr other ↦
              ap (λ (l : Lists). map.get l q) left_is ∙ removed-there left n q other
              ∙ so_far.gone q (λ none. already (no_number-push q parts part none other))
        ];
      }

  pub gathered : (parts : List Part) (left known had : Lists) → IsGathering written read before parts left known had → left ≡ map.empty
      → AreGathered written read before parts
  gathered parts left known had so_far is = record {
    each = so_far.each;
    apart = so_far.apart;
    whole = λ n none. sym (so_far.others n none).0 ∙ ap (λ (l : Lists). map.get l n) is ∙ map.get-empty nat_cmp n;
  }
