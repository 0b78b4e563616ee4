-- The directories of a commit, as what is kept of a store.
use Rattle.std.proofs.Common.{◌≡◌, ℕ, zero, suc, ◌+◌, ◌-◌, ◌*◌, ◌<◌, ◌==◌, Bool, true, false, List, [], ◌∷◌, length, drop, map, refl, ap}
use Rattle.std.proofs.Common.{◌∙◌, arith}
use Rattle.std.proofs.lemmas.Bool.{eqb-true}
use Rattle.std.proofs.lemmas.List.{length-map, length-replicate}
use Rattle.std.specs.List.{All}
use Rattle.chain_store.specs.Firsts.{MayFill, filled}
use Rattle.chain_store.specs.Gathered.{base_of, base_parts}
use Rattle.chain_store.specs.Kept.{bytes_at, pages_at}
use Rattle.chain_store.specs.Parts.{growth_of, laid_all, laid_bytes_at, laid_pages_at}
use Rattle.chain_store.specs.declared.parts.Laid.{Laid}
use Rattle.chain_store.specs.declared.parts.Part.{Part}
use Rattle.chain_store.specs.declared.walking.Walked.{Walked}
use Rattle.chain_store.proofs.Directory.{directory_bytes, may_fill}
use Rattle.chain_store.proofs.Pools.{length-firsts_put}

pub base_long : (same : Bool) (count before : ℕ) (bytes : List ℕ) → (same ≡ true → count ≡ before) → length bytes ≡ 8 * before
    → length (base_of same count bytes) ≡ 8 * count
base_long true count before bytes is long = omega (arith, is refl, long)
base_long false count before bytes is long = length-replicate {A = ℕ} (8 * count) 0

pub bases_fill : (count before : ℕ) (ws : List Walked) → length ws ≡ 8 → ((m : ℕ) → m < 8 → length (bytes_at ws m) ≡ 8 * before)
    → All (MayFill count) (base_parts (count == before) count 8 ws)
bases_fill count before ws eight long =
    may_fill (count == before) count 8 ws (omega arith) (omega (arith, eight)) (λ m below.
    base_long (count == before) count before (bytes_at ws m) (λ is. eqb-true count before is) (long m (omega (arith, below, eight))))

pub length-laid_all : (parts : List Part) (pool : List ℕ) → length (laid_all parts pool) ≡ length parts
length-laid_all [] pool = refl
length-laid_all (part ∷ parts) pool = omega (arith, length-laid_all parts (drop (growth_of part) pool))

pub length-base_parts : (same : Bool) (count k : ℕ) (ws : List Walked) → length (base_parts same count k ws) ≡ length ws
length-base_parts same count k [] = refl
length-base_parts same count k (w ∷ ws) = omega (arith, length-base_parts same count (k + 1) ws)

-- what was read, as a list of lists
pub bytes_from : (ws : List Walked) (laid : List Laid) (m : ℕ) → map (λ (w : Walked). w.bytes.items) ws ≡ map (λ (l : Laid). l.bytes) laid
    → bytes_at ws m ≡ laid_bytes_at laid m
bytes_from [] [] m is = refl
bytes_from [] (l ∷ laid) m is = absurd (cc is)
bytes_from (w ∷ ws) [] m is = absurd (cc is)
bytes_from (w ∷ ws) (l ∷ laid) zero is = cc is
bytes_from (w ∷ ws) (l ∷ laid) (suc m) is = bytes_from ws laid m (cc is)

pub pages_from : (ws : List Walked) (laid : List Laid) (m : ℕ) → map (λ (w : Walked). w.pages.items) ws ≡ map (λ (l : Laid). l.pages) laid
    → pages_at ws m ≡ laid_pages_at laid m
pages_from [] [] m is = refl
pages_from [] (l ∷ laid) m is = absurd (cc is)
pages_from (w ∷ ws) [] m is = absurd (cc is)
pages_from (w ∷ ws) (l ∷ laid) zero is = cc is
pages_from (w ∷ ws) (l ∷ laid) (suc m) is = pages_from ws laid m (cc is)

module _ (same : Bool) (count before : ℕ) (chains : List Laid) (ws : List Walked) (pool : List ℕ) (laid : List Laid)
    (is : laid ≡ laid_all (map (filled count chains) (base_parts same count 8 ws)) pool) (eight : length ws ≡ 8)
    (same_is : same ≡ true → count ≡ before) (long : (m : ℕ) → m < 8 → length (bytes_at ws m) ≡ 8 * before) where
  pub laid_eight : length laid ≡ 8
  laid_eight =
      ap (λ (l : List Laid). length l) is
      ∙ length-laid_all (map (filled count chains) (base_parts same count 8 ws)) pool
      ∙ length-map (base_parts same count 8 ws) (filled count chains)
      ∙ length-base_parts same count 8 ws ∙ eight

  pub laid_long : (m : ℕ) → m < 8 → length (laid_bytes_at laid m) ≡ 8 * count
  laid_long m below =
      let base = base_long same count before (bytes_at ws m) same_is (long m below) in
      ap (λ (l : List Laid). length (laid_bytes_at l m)) is
      ∙ ap (λ (l : List ℕ). length l) (directory_bytes same count chains 8 m ws pool (omega (arith, below, eight)))
      ∙ length-firsts_put 0 (16 + 65536 * (8 + m - 8)) count chains (base_of same count (bytes_at ws m)) (omega (arith, base)) ∙ base
