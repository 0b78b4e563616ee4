-- What a set of pages makes of the pages of chains.
use Rattle.std.proofs.Common.{◌≡◌, ◌≢◌, inl, inr, ℕ, ◌+◌, ◌≤◌, Bool, true, false, cond, List, [], ◌∷◌, ◌++◌, drop, map, Option, Some, None}
use Rattle.std.proofs.Common.{refl, sym, ap, subst, ◌∙◌, arith}
use Rattle.std.specs.Cmp.{nat_cmp_total, eq_by_cmp_equiv}
use Rattle.std.specs.FinMap as finite
use Rattle.page_journal.specs.PageSet.{PageMap, page_or}
use Rattle.page_journal.proofs.Sets.{not_equal}
use Rattle.chain_store.specs.Pairs.{chain_pairs, laid_pairs, link_page, puts, stays_so}
use Rattle.chain_store.specs.Parts.{first_held, head_or, later_held, times, times_new}
use Rattle.chain_store.specs.declared.parts.Laid.{Laid}
use Rattle.chain_store.proofs.PairLaws.{puts-append}
use Rattle.chain_store.proofs.Times.{once-cases}

abbrev pub numbers : List (ℕ × List ℕ) → List ℕ
numbers pairs = map (λ pair. pair.0) pairs

pub numbers-append : (p : ℕ) (xs ys : List (ℕ × List ℕ)) → times p (numbers (xs ++ ys)) ≡ times p (numbers xs) + times p (numbers ys)
numbers-append p [] ys = omega arith
numbers-append p (x ∷ xs) ys = omega (arith, numbers-append p xs ys)

cond_numbers : (p : ℕ) (b : Bool) (pair : ℕ × List ℕ) (rest : List (ℕ × List ℕ))
    → times p (numbers (cond b rest (pair ∷ rest))) ≤ times p (numbers (pair ∷ rest))
cond_numbers p true pair rest = omega arith
cond_numbers p false pair rest = omega arith

-- only the pages of the chain are put
pub chain_numbers : (p owner tail : ℕ) (ns bytes old same : List ℕ)
    → times p (numbers (chain_pairs owner tail ns bytes old same)) ≤ times p ns
chain_numbers p owner tail [] bytes old same = omega arith
chain_numbers p owner tail (n ∷ ns) bytes old same =
    omega (
      arith,
      chain_numbers p owner tail ns (later_held bytes) (drop 1 old) (drop 1 same),
      cond_numbers p (stays_so n (head_or ns tail) old same) (n, link_page (head_or ns tail) owner (first_held bytes))
          (chain_pairs owner tail ns (later_held bytes) (drop 1 old) (drop 1 same)),
    )

pub laid_numbers : (p : ℕ) (parts : List Laid) → times p (numbers (laid_pairs parts)) ≤ times_new p parts
laid_numbers p [] = omega arith
laid_numbers p (one ∷ others) =
    omega (
      arith,
      numbers-append p (chain_pairs one.number 0 one.pages one.bytes one.old one.same) (laid_pairs others),
      chain_numbers p one.number 0 one.pages one.bytes one.old one.same,
      laid_numbers p others,
    )

insert_there : (set : PageMap) (n : ℕ) (page : List ℕ) (p : ℕ) → p ≢ n → finite.get (finite.insert set n page) p ≡ finite.get set p
insert_there set n page p other =
    finite.get-insert nat_cmp_total set n page p ∙ ap (λ (b : Bool). cond b (Some page) (finite.get set p)) (not_equal p n other)

insert_here : (set : PageMap) (n : ℕ) (page : List ℕ) → finite.get (finite.insert set n page) n ≡ Some page
insert_here set n page =
    finite.get-insert nat_cmp_total set n page n
    ∙ ap (λ (b : Bool). cond b (Some page) (finite.get set n)) ((eq_by_cmp_equiv nat_cmp_total).refl n)

pub insert_other : (set : PageMap) (n : ℕ) (page : List ℕ) (p : ℕ) → p ≢ n → finite.get (finite.insert set n page) p ≡ finite.get set p
insert_other = insert_there

pub insert_same : (set : PageMap) (n : ℕ) (page : List ℕ) → finite.get (finite.insert set n page) n ≡ Some page
insert_same = insert_here

-- a page that is not put stays in the set as it is
pub puts_other : (p : ℕ) (set : PageMap) (pairs : List (ℕ × List ℕ)) → times p (numbers pairs) ≡ 0
    → finite.get (puts set pairs) p ≡ finite.get set p
puts_other p set [] none = refl
puts_other p set (pair ∷ pairs) none = elim (once-cases p pair.0) [
  | inl here ↦ absurd (omega (arith, none, here.1))
  | inr there ↦
      puts_other p (finite.insert set pair.0 pair.1) pairs (omega (arith, none, there.1))
      ∙ insert_there set pair.0 pair.1 p (λ is. there.0 (sym is))
]

module _ (page : ℕ → List ℕ) where
  -- the pages once a set is written over them
  abbrev pub look : PageMap → ℕ → List ℕ
  look set n = page_or (finite.get set n) (page n)

  -- these are the pages of a chain, each as it is to be, or as it was where it stays
  abbrev pub Looks : (ℕ → List ℕ) → ℕ → ℕ → List ℕ → List ℕ → List ℕ → List ℕ → Type 0
  Looks f owner tail [] bytes old same = Unit {0}
  Looks f owner tail (n ∷ ns) bytes old same =
      (f n ≡ cond (stays_so n (head_or ns tail) old same) (page n) (link_page (head_or ns tail) owner (first_held bytes)))
      × Looks f owner tail ns (later_held bytes) (drop 1 old) (drop 1 same)

  abbrev pub AllLook : (ℕ → List ℕ) → List Laid → Type 0
  AllLook f [] = Unit {0}
  AllLook f (one ∷ others) = Looks f one.number 0 one.pages one.bytes one.old one.same × AllLook f others

  pub looks_same : (f g : ℕ → List ℕ) (owner tail : ℕ) (ns bytes old same : List ℕ) → ((p : ℕ) → 1 ≤ times p ns → g p ≡ f p)
      → Looks f owner tail ns bytes old same → Looks g owner tail ns bytes old same
  looks_same f g owner tail [] bytes old same agree looks = tt
  looks_same f g owner tail (n ∷ ns) bytes old same agree looks = (
    agree n (elim (once-cases n n) [ inl is ↦ omega (arith, is.1) | inr not ↦ absurd (not.0 refl) ]) ∙ looks.0,
    looks_same f g owner tail ns (later_held bytes) (drop 1 old) (drop 1 same) (λ p some. agree p (omega (arith, some))) looks.1,
  )

  pub looks_chain : (set : PageMap) (owner tail : ℕ) (ns bytes old same : List ℕ) → ((p : ℕ) → times p ns ≤ 1)
      → ((p : ℕ) → 1 ≤ times p ns → finite.get set p ≡ None)
      → Looks (look (puts set (chain_pairs owner tail ns bytes old same))) owner tail ns bytes old same
  looks_chain set owner tail [] bytes old same few none = tt
  looks_chain set owner tail (n ∷ ns) bytes old same few none =
      let link : List ℕ = link_page (head_or ns tail) owner (first_held bytes) in
      let rest : List (ℕ × List ℕ) = chain_pairs owner tail ns (later_held bytes) (drop 1 old) (drop 1 same) in
      let own : times n ns ≡ 0 = elim (once-cases n n) [ inl is ↦ omega (arith, is.1, few n) | inr not ↦ absurd (not.0 refl) ] in
      let out : times n (numbers rest) ≡ 0 = omega
      (arith, chain_numbers n owner tail ns (later_held bytes) (drop 1 old) (drop 1 same), own) in
      let here : finite.get set n ≡ None = none n
      (elim (once-cases n n) [ inl is ↦ omega (arith, is.1) | inr not ↦ absurd (not.0 refl) ]) in
      let fewer : (p : ℕ) → times p ns ≤ 1 = λ p. omega (arith, few p) in
      let none_set : (p : ℕ) → 1 ≤ times p ns → finite.get set p ≡ None = λ p some. none p (omega (arith, some)) in
      let none_put : (p : ℕ) → 1 ≤ times p ns → finite.get (finite.insert set n link) p ≡ None = λ p some.
      insert_there set n link p (λ is. absurd (omega (arith, own, subst (λ (k : ℕ). 1 ≤ times k ns) is some))) ∙ none_set p some in
      elim (stays_so n (head_or ns tail) old same) as (λ b.
      (look (puts set (cond b rest ((n, link) ∷ rest))) n ≡ cond b (page n) link)
      × Looks (look (puts set (cond b rest ((n, link) ∷ rest)))) owner tail ns (later_held bytes) (drop 1 old) (drop 1 same)) [
        | true ↦ (
          ap (λ (o : Option (List ℕ)). page_or o (page n)) (puts_other n set rest out ∙ here),
          looks_chain set owner tail ns (later_held bytes) (drop 1 old) (drop 1 same) fewer none_set,
        )
        | false ↦ (
          ap (λ (o : Option (List ℕ)). page_or o (page n)) (puts_other n (finite.insert set n link) rest out ∙ insert_here set n link),
          looks_chain (finite.insert set n link) owner tail ns (later_held bytes) (drop 1 old) (drop 1 same) fewer none_put,
        )
      ]

  pub looks_parts : (set : PageMap) (parts : List Laid) → ((p : ℕ) → times_new p parts ≤ 1)
      → ((p : ℕ) → 1 ≤ times_new p parts → finite.get set p ≡ None) → AllLook (look (puts set (laid_pairs parts))) parts
  looks_parts set [] few none = tt
  looks_parts set (one ∷ others) few none =
      let pairs : List (ℕ × List ℕ) = chain_pairs one.number 0 one.pages one.bytes one.old one.same in
      let mid : PageMap = puts set pairs in
      let last : PageMap = puts mid (laid_pairs others) in
      let same : puts set (pairs ++ laid_pairs others) ≡ last = puts-append set pairs (laid_pairs others) in
      let mine = looks_chain set one.number 0 one.pages one.bytes one.old one.same (λ p. omega (arith, few p))
      (λ p some. none p (omega (arith, some))) in
      let stay : (p : ℕ) → 1 ≤ times p one.pages → look last p ≡ look mid p = λ p some.
      ap (λ (o : Option (List ℕ)). page_or o (page p))
      (puts_other p mid (laid_pairs others) (omega (arith, some, few p, laid_numbers p others))) in
      let theirs = looks_parts mid others (λ p. omega (arith, few p)) (λ p some.
      puts_other p set pairs (omega (arith, some, few p, chain_numbers p one.number 0 one.pages one.bytes one.old one.same))
      ∙ none p (omega (arith, some))) in
      subst (λ (s : PageMap). AllLook (look s) (one ∷ others)) (sym same) (
        looks_same (look mid) (look last) one.number 0 one.pages one.bytes one.old one.same stay mine,
        theirs,
      )
