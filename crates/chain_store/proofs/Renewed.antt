-- The store that a commit leaves.
use Rattle.std.proofs.Common.{◌≡◌, ◌⊎◌, inl, inr, ℕ, ◌+◌, ◌-◌, ◌*◌, ◌/◌, ◌%◌, ◌^◌, ◌<◌, ◌≤◌, Bool, true, false, List, [], ◌++◌, length, map}
use Rattle.std.proofs.Common.{replicate, refl, sym, ap, ◌∙◌, arith}
use Rattle.std.proofs.lemmas.List.{get_or-replicate, length-replicate}
use Rattle.page_journal.proofs.Bytes.{number_same}
use Rattle.std.proofs.lemmas.Bool.{cases_lt}
use Rattle.page_journal.specs.Pages.{number}
use Rattle.chain_store.specs.Directories.{IsChain, first_in}
use Rattle.chain_store.specs.Firsts.{begins_at, filled, firsts_put}
use Rattle.chain_store.specs.Gathered.{base_of, base_parts}
use Rattle.chain_store.specs.Kept.{bytes_at}
use Rattle.chain_store.specs.Parts.{AreOld, Begin, IsNoPart, IsPart, head_or, laid_all, laid_bytes_at, times_new}
use Rattle.chain_store.specs.declared.layout.TheConstants.{CHAIN_END}
use Rattle.chain_store.specs.declared.parts.Laid.{Laid}
use Rattle.chain_store.specs.declared.walking.Walked.{Walked}
use Rattle.chain_store.proofs.Begins.{begin_all, begins_none, begins_part, firsts_at}
use Rattle.chain_store.proofs.Directory.{directory_bytes, directory_number, no_directory}
use Rattle.chain_store.proofs.FirstLaws.{first_in-bucket, first_in-root}
use Rattle.chain_store.proofs.NumberLaws.{number-beyond}
use Rattle.chain_store.proofs.Parting.{no_part-both, part_cases}
use Rattle.chain_store.proofs.Pools.{length-firsts_put}

-- zeros are the number 0
eight_zeros : number (replicate 8 0) 0 ≡ 0
unfolding number
eight_zeros = refl

number-zeros : (n at : ℕ) → at + 8 ≤ n → number (replicate n 0) at ≡ 0
number-zeros n at fits =
    let few : List ℕ = replicate 8 0 in
    let many : List ℕ = replicate n 0 in
    let few_long : length few ≡ 8 = length-replicate {A = ℕ} 8 0 in
    let many_long : length many ≡ n = length-replicate {A = ℕ} n 0 in
    number_same few many 0 at (omega (arith, few_long)) (omega (arith, many_long, fits)) (λ k below.
    get_or-replicate n (at + k) 0 0 (omega arith) ∙ sym (get_or-replicate 8 (0 + k) 0 0 (omega arith)))
    ∙ eight_zeros

module _ (page : ℕ → List ℕ) (home : ℕ) (front new_front : List ℕ) (ws : List Walked) (same : Bool) (before count : ℕ) (chains : List Laid)
    (pool : List ℕ)
    (first : ℕ → ℕ) (first_is : (n : ℕ) → first n ≡ first_in front (bytes_at ws) n)
    (eight : length ws ≡ 8) (long : (m : ℕ) → m < 8 → length (bytes_at ws m) ≡ 8 * before) (few : count ≤ 65536)
    (same_is : same ≡ true → count ≡ before)
    (gone : same ≡ false → (n : ℕ) → 16 ≤ n → IsChain n → IsNoPart n chains → first n ≡ 0)
    (mine : AreOld page home first chains)
    (theirs_old : AreOld page home first (laid_all (map (filled count chains) (base_parts same count 8 ws)) pool))
    (chains_are : (n : ℕ) (pages bytes : List ℕ) → IsPart n pages bytes chains
    → (n < CHAIN_END) × (n < 16 → n < 8) × (16 ≤ n → (pages ≡ []) ⊎ ((n - 16) % 65536 < count)))
    (small : (p : ℕ) → 1 ≤ times_new p chains → p < 2 ^ 64)
    (firsts : (n : ℕ) → n < 16 → number new_front (48 + 8 * n)
    ≡ begins_at (laid_all (map (filled count chains) (base_parts same count 8 ws)) pool) n (begins_at chains n (number front (48 + 8 * n))))
  where
    abbrev directories : List Laid
    directories = laid_all (map (filled count chains) (base_parts same count 8 ws)) pool

    abbrev next : ℕ → ℕ
    next n = first_in new_front (laid_bytes_at directories) n

    base_long : (m : ℕ) → m < 8 → length (base_of same count (bytes_at ws m)) ≡ 8 * count
    base_long m below = elim same as (λ b. (b ≡ true → count ≡ before) → length (base_of b count (bytes_at ws m)) ≡ 8 * count) [
      | true ↦ λ is. omega (arith, long m below, is refl)
      | false ↦ λ is. length-replicate {A = ℕ} (8 * count) 0
    ] same_is

    directory_is : (m : ℕ) → m < 8 → laid_bytes_at directories m
        ≡ firsts_put 0 (16 + 65536 * m) count chains (base_of same count (bytes_at ws m))
    directory_is m below =
        directory_bytes same count chains 8 m ws pool (omega (arith, eight))
        ∙ ap (λ (k : ℕ). firsts_put 0 (16 + 65536 * k) count chains (base_of same count (bytes_at ws m)))
        (let is : 8 + m - 8 ≡ m = omega arith in is)

    pub directory_long : (m : ℕ) → m < 8 → length (laid_bytes_at directories m) ≡ 8 * count
    directory_long m below =
        let here = base_long m below in
        ap (λ (l : List ℕ). length l) (directory_is m below)
        ∙ length-firsts_put 0 (16 + 65536 * m) count chains (base_of same count (bytes_at ws m)) (omega (arith, here)) ∙ here

    -- where a chain begins in the root page
    root_next : (n : ℕ) → n < 16 → next n ≡ begins_at directories n (begins_at chains n (first n))
    root_next n below =
        first_in-root new_front (laid_bytes_at directories) n below ∙ firsts n below
        ∙ ap (λ (k : ℕ). begins_at directories n (begins_at chains n k)) (sym (first_is n ∙ first_in-root front (bytes_at ws) n below))

    -- and in a directory
    base_first : (m b : ℕ) → m < 8 → b < count → (n : ℕ) → n ≡ 16 + 65536 * m + b → IsNoPart n chains
        → number (base_of same count (bytes_at ws m)) (8 * b) ≡ first n
    base_first m b map_below below n is none =
        let above : 16 ≤ n = omega (arith, is) in
        let chain : n < CHAIN_END = omega (arith, is, map_below, below, few) in
        let map_is : (n - 16) / 65536 ≡ m = omega (arith, is, below, few) in
        let bucket_is : (n - 16) % 65536 ≡ b = omega (arith, is, below, few) in
        let stood : first n ≡ number (bytes_at ws m) (8 * b) =
        first_is n ∙ first_in-bucket front (bytes_at ws) n above chain
        ∙ ap (λ (k : ℕ). number (bytes_at ws k) (8 * ((n - 16) % 65536))) map_is
        ∙ ap (λ (k : ℕ). number (bytes_at ws m) (8 * k)) bucket_is in
        elim same as (λ v. (v ≡ false → (k : ℕ) → 16 ≤ k → IsChain k → IsNoPart k chains → first k ≡ 0)
        → number (base_of v count (bytes_at ws m)) (8 * b) ≡ first n) [
          | true ↦ λ was. sym stood
          | false ↦ λ was. number-zeros (8 * count) (8 * b) (omega (arith, below)) ∙ sym (was refl n above chain none)
        ] gone

    old_beyond : (n : ℕ) → 16 ≤ n → IsChain n → count ≤ (n - 16) % 65536 → IsNoPart n chains → first n ≡ 0
    old_beyond n above chain outside none =
        let below : (n - 16) / 65536 < 8 = omega (arith, above, chain) in
        elim same as (λ v. (v ≡ false → (k : ℕ) → 16 ≤ k → IsChain k → IsNoPart k chains → first k ≡ 0) → (v ≡ true → count ≡ before)
        → first n ≡ 0) [
          | true ↦ λ was is.
              first_is n ∙ first_in-bucket front (bytes_at ws) n above chain
              ∙ number-beyond (bytes_at ws ((n - 16) / 65536)) (8 * ((n - 16) % 65536))
              (omega (arith, long ((n - 16) / 65536) below, is refl, outside))
          | false ↦ λ was is. was refl n above chain none
        ] gone same_is

    bucket_next : (n : ℕ) → 16 ≤ n → IsChain n → (n - 16) % 65536 < count
        → next n ≡ begins_at chains n (number (base_of same count (bytes_at ws ((n - 16) / 65536))) (8 * ((n - 16) % 65536)))
    bucket_next n above chain inside =
        let m : ℕ = (n - 16) / 65536 in
        let b : ℕ = (n - 16) % 65536 in
        let below : m < 8 = omega (arith, above, chain) in
        let here = base_long m below in
        let zero_more : 0 + 8 * b ≡ 8 * b = omega arith in
        first_in-bucket new_front (laid_bytes_at directories) n above chain
        ∙ ap (λ (l : List ℕ). number l (8 * b)) (directory_is m below)
        ∙ ap (λ (k : ℕ). number (firsts_put 0 (16 + 65536 * m) count chains (base_of same count (bytes_at ws m))) k) (sym zero_more)
        ∙ firsts_at 0 (16 + 65536 * m) count b chains (base_of same count (bytes_at ws m)) (omega (arith, here)) inside small
        ∙ ap (λ (k : ℕ). begins_at chains (16 + 65536 * m + b) (number (base_of same count (bytes_at ws m)) k)) zero_more
        ∙ ap (λ (k : ℕ). begins_at chains k (number (base_of same count (bytes_at ws m)) (8 * b)))
        (let whole : 16 + 65536 * m + b ≡ n = omega (arith, above) in whole)

    beyond_next : (n : ℕ) → 16 ≤ n → IsChain n → count ≤ (n - 16) % 65536 → next n ≡ 0
    beyond_next n above chain outside =
        let below : (n - 16) / 65536 < 8 = omega (arith, above, chain) in
        first_in-bucket new_front (laid_bytes_at directories) n above chain
        ∙ number-beyond (laid_bytes_at directories ((n - 16) / 65536)) (8 * ((n - 16) % 65536))
        (omega (arith, directory_long ((n - 16) / 65536) below, outside))

    pub part_begins : (n : ℕ) (pages bytes : List ℕ) → IsPart n pages bytes (chains ++ directories) → next n ≡ head_or pages 0
    part_begins n pages bytes part = elim (part_cases n pages bytes chains directories part) [
      | inl own ↦
          let is = chains_are n pages bytes own in
          elim (cases_lt n 16) [
            | inl low ↦
                root_next n low
                ∙ begins_none directories n (begins_at chains n (first n)) (no_directory same count chains n 8 ws pool (inl (is.1 low)))
                ∙ begins_part page home first chains n (first n) pages bytes mine own
            | inr above ↦ elim (cases_lt ((n - 16) % 65536) count) [
              | inl inside ↦
                  bucket_next n (omega (arith, above)) is.0 inside
                  ∙ begins_part page home first chains n (number (base_of same count (bytes_at ws ((n - 16) / 65536)))
                  (8 * ((n - 16) % 65536))) pages bytes mine own
              | inr outside ↦
                  beyond_next n (omega (arith, above)) is.0 (omega (arith, outside))
                  ∙ elim (is.2 (omega (arith, above))) [
                    | inl none ↦ sym (ap (λ (l : List ℕ). head_or l 0) none)
                    | inr inside ↦ absurd (omega (arith, inside, outside))
                  ]
            ]
          ]
      | inr theirs ↦
          let is = directory_number same count chains n 8 ws pool pages bytes theirs in
          let low : n < 16 = omega (arith, is.1, eight) in
          root_next n low ∙ begins_part page home first directories n (begins_at chains n (first n)) pages bytes theirs_old theirs
    ]

    pub all_begin : Begin next (chains ++ directories)
    all_begin = begin_all next (chains ++ directories) part_begins

    pub other_begins : (n : ℕ) → IsChain n → IsNoPart n (chains ++ directories) → next n ≡ first n
    other_begins n chain none =
        let both = no_part-both n chains directories none in
        elim (cases_lt n 16) [
          | inl low ↦
              root_next n low ∙ begins_none directories n (begins_at chains n (first n)) both.1 ∙ begins_none chains n (first n) both.0
          | inr above ↦ elim (cases_lt ((n - 16) % 65536) count) [
            | inl inside ↦
                bucket_next n (omega (arith, above)) chain inside
                ∙ begins_none chains n (number (base_of same count (bytes_at ws ((n - 16) / 65536))) (8 * ((n - 16) % 65536))) both.0
                ∙ base_first ((n - 16) / 65536) ((n - 16) % 65536) (omega (arith, above, chain)) inside n (omega (arith, above)) both.0
            | inr outside ↦ beyond_next n (omega (arith, above)) chain (omega (arith, outside))
                ∙ sym (old_beyond n (omega (arith, above)) chain (omega (arith, outside)) both.0)
          ]
        ]
