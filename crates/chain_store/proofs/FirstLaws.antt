-- Where a first page is told.
use Rattle.std.proofs.Common.{◌≡◌, ℕ, ◌+◌, ◌-◌, ◌*◌, ◌/◌, ◌%◌, ◌<◌, ◌≤◌, List, [], ◌∷◌, zero, suc, length, get_or, refl, arith}
use Rattle.std.proofs.lemmas.Bool.Decides.{nat_tests}
use Rattle.page_journal.specs.Pages.{number}
use Rattle.chain_store.specs.Directories.{first_in, IsChain}
use Rattle.chain_store.specs.Kept.{bytes_at, pages_at}
use Rattle.chain_store.specs.declared.walking.Walked.{Walked}
use Rattle.std.specs.Int.{w64, to_le_bytes}
use Rattle.outside.specs.Disk.{overlaid}
use Rattle.chain_store.specs.Firsts.{first_put}
use Rattle.chain_store.specs.Parts.{head_or}
use Rattle.chain_store.specs.declared.parts.Laid.{Laid}
use Rattle.chain_store.specs.declared.layout.TheConstants.{FREE}

pub first_in-free : (front : List ℕ) (directory : ℕ → List ℕ) (n : ℕ) → n ≡ FREE → first_in front directory n ≡ number front 40
unfolding first_in
first_in-free front directory n is = grind (arith, nat_tests)

pub first_in-root : (front : List ℕ) (directory : ℕ → List ℕ) (n : ℕ) → n < 16 → first_in front directory n ≡ number front (48 + 8 * n)
unfolding first_in
first_in-root front directory n below = grind (arith, nat_tests)

pub first_in-bucket : (front : List ℕ) (directory : ℕ → List ℕ) (n : ℕ) → 16 ≤ n → IsChain n
    → first_in front directory n ≡ number (directory ((n - 16) / 65536)) (8 * ((n - 16) % 65536))
unfolding first_in
first_in-bucket front directory n above chain = grind (arith, nat_tests)

pub bytes_at-get_or : (directories : List Walked) (m : ℕ) (other : Walked) → m < length directories
    → (get_or directories m other).bytes.items ≡ bytes_at directories m
bytes_at-get_or [] m other below = absurd (omega arith)
bytes_at-get_or (walked ∷ others) zero other below = refl
bytes_at-get_or (walked ∷ others) (suc m) other below = bytes_at-get_or others m other (omega arith)

pub pages_at-get_or : (directories : List Walked) (m : ℕ) (other : Walked) → m < length directories
    → (get_or directories m other).pages.items ≡ pages_at directories m
pages_at-get_or [] m other below = absurd (omega arith)
pages_at-get_or (walked ∷ others) zero other below = refl
pages_at-get_or (walked ∷ others) (suc m) other below = pages_at-get_or others m other (omega arith)

module _ (at low count : ℕ) (one : Laid) (bytes : List ℕ) where
  pub first_put-low : one.number < low → first_put at low count one bytes ≡ bytes
  unfolding first_put
  first_put-low below = grind (arith, nat_tests)

  pub first_put-behind : count ≤ one.number - low → first_put at low count one bytes ≡ bytes
  unfolding first_put
  first_put-behind behind = grind (arith, nat_tests)

  pub first_put-here : low ≤ one.number → one.number - low < count
      → first_put at low count one bytes ≡ overlaid (at + 8 * (one.number - low)) (to_le_bytes w64 (head_or one.pages 0)) bytes
  unfolding first_put
  first_put-here above below = grind (arith, nat_tests)
