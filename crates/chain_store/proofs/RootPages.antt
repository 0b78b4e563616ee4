-- The root page that a commit writes.
use Rattle.std.proofs.Common.{◌≡◌, inl, inr, ℕ, ◌+◌, ◌*◌, ◌^◌, ◌<◌, ◌≤◌, List, length, ap, ◌∙◌, arith}
use Rattle.page_journal.specs.Pages.{number}
use Rattle.page_journal.proofs.Bytes.{number_written}
use Rattle.chain_store.specs.Directories.{root_in}
use Rattle.chain_store.specs.Firsts.{begins_at, firsts_put}
use Rattle.chain_store.specs.Parts.{times_new}
use Rattle.chain_store.specs.Plan.{IsSmall, field_put, root_bytes}
use Rattle.chain_store.specs.declared.parts.Laid.{Laid}
use Rattle.chain_store.specs.declared.root.Root.{Root}
use Rattle.chain_store.proofs.Begins.{firsts_at, firsts_beside, put_beside}
use Rattle.chain_store.proofs.Pools.{length-firsts_put, length-put}

module _ (front : List ℕ) (root : Root) (home free : ℕ) (chains directories : List Laid) (long : length front ≡ 4096) where
  one : List ℕ
  one = field_put 0 home front

  two : List ℕ
  two = field_put 8 root.format one

  three : List ℕ
  three = field_put 16 root.state two

  four : List ℕ
  four = field_put 24 root.changes three

  five : List ℕ
  five = field_put 32 root.buckets four

  six : List ℕ
  six = field_put 40 free five

  long1 : length one ≡ 4096
  unfolding one
  long1 = length-put 0 home front (omega (arith, long)) ∙ long

  long2 : length two ≡ 4096
  unfolding two
  long2 = length-put 8 root.format one (omega (arith, long1)) ∙ long1

  long3 : length three ≡ 4096
  unfolding three
  long3 = length-put 16 root.state two (omega (arith, long2)) ∙ long2

  long4 : length four ≡ 4096
  unfolding four
  long4 = length-put 24 root.changes three (omega (arith, long3)) ∙ long3

  long5 : length five ≡ 4096
  unfolding five
  long5 = length-put 32 root.buckets four (omega (arith, long4)) ∙ long4

  long6 : length six ≡ 4096
  unfolding six
  long6 = length-put 40 free five (omega (arith, long5)) ∙ long5

  at0 : home < 2 ^ 64 → number six 0 ≡ home
  unfolding one two three four five six
  at0 home_small =
      put_beside 40 free 0 five (omega (arith, long5)) (omega (arith, long5)) (inl (omega arith))
      ∙ put_beside 32 root.buckets 0 four (omega (arith, long4)) (omega (arith, long4)) (inl (omega arith))
      ∙ put_beside 24 root.changes 0 three (omega (arith, long3)) (omega (arith, long3)) (inl (omega arith))
      ∙ put_beside 16 root.state 0 two (omega (arith, long2)) (omega (arith, long2)) (inl (omega arith))
      ∙ put_beside 8 root.format 0 one (omega (arith, long1)) (omega (arith, long1)) (inl (omega arith))
      ∙ number_written 0 home front home_small

  at8 : root.format < 2 ^ 64 → number six 8 ≡ root.format
  unfolding two three four five six
  at8 small =
      put_beside 40 free 8 five (omega (arith, long5)) (omega (arith, long5)) (inl (omega arith))
      ∙ put_beside 32 root.buckets 8 four (omega (arith, long4)) (omega (arith, long4)) (inl (omega arith))
      ∙ put_beside 24 root.changes 8 three (omega (arith, long3)) (omega (arith, long3)) (inl (omega arith))
      ∙ put_beside 16 root.state 8 two (omega (arith, long2)) (omega (arith, long2)) (inl (omega arith))
      ∙ number_written 8 root.format one small

  at16 : root.state < 2 ^ 64 → number six 16 ≡ root.state
  unfolding three four five six
  at16 small =
      put_beside 40 free 16 five (omega (arith, long5)) (omega (arith, long5)) (inl (omega arith))
      ∙ put_beside 32 root.buckets 16 four (omega (arith, long4)) (omega (arith, long4)) (inl (omega arith))
      ∙ put_beside 24 root.changes 16 three (omega (arith, long3)) (omega (arith, long3)) (inl (omega arith))
      ∙ number_written 16 root.state two small

  at24 : root.changes < 2 ^ 64 → number six 24 ≡ root.changes
  unfolding four five six
  at24 small =
      put_beside 40 free 24 five (omega (arith, long5)) (omega (arith, long5)) (inl (omega arith))
      ∙ put_beside 32 root.buckets 24 four (omega (arith, long4)) (omega (arith, long4)) (inl (omega arith))
      ∙ number_written 24 root.changes three small

  at32 : root.buckets < 2 ^ 64 → number six 32 ≡ root.buckets
  unfolding five six
  at32 small =
      put_beside 40 free 32 five (omega (arith, long5)) (omega (arith, long5)) (inl (omega arith))
      ∙ number_written 32 root.buckets four small

  at40 : free < 2 ^ 64 → number six 40 ≡ free
  unfolding six
  at40 free_small = number_written 40 free five free_small

  behind : (k : ℕ) → 48 ≤ k → k + 8 ≤ 4096 → number six k ≡ number front k
  unfolding one two three four five six
  behind k from to =
      put_beside 40 free k five (omega (arith, long5)) (omega (arith, long5)) (inr (omega arith))
      ∙ put_beside 32 root.buckets k four (omega (arith, long4)) (omega (arith, long4)) (inr (omega arith))
      ∙ put_beside 24 root.changes k three (omega (arith, long3)) (omega (arith, long3)) (inr (omega arith))
      ∙ put_beside 16 root.state k two (omega (arith, long2)) (omega (arith, long2)) (inr (omega arith))
      ∙ put_beside 8 root.format k one (omega (arith, long1)) (omega (arith, long1)) (inr (omega arith))
      ∙ put_beside 0 home k front (omega (arith, long)) (omega (arith, long)) (inr (omega arith))

  new : List ℕ
  new = root_bytes front root home free chains directories

  seven : List ℕ
  seven = firsts_put 48 0 16 chains six

  long7 : length seven ≡ 4096
  unfolding seven
  long7 = length-firsts_put 48 0 16 chains six (omega (arith, long6)) ∙ long6

  -- its fields
  low : (k : ℕ) → k + 8 ≤ 48 → number (root_bytes front root home free chains directories) k ≡ number six k
  unfolding one two three four five six seven
  low k below =
      firsts_beside 48 0 16 k directories seven (omega (arith, long7)) (omega (arith, long7)) (inl below)
      ∙ firsts_beside 48 0 16 k chains six (omega (arith, long6)) (omega (arith, long6)) (inl below)

  pub root_long : length (root_bytes front root home free chains directories) ≡ 4096
  unfolding one two three four five six seven
  root_long = length-firsts_put 48 0 16 directories seven (omega (arith, long7)) ∙ long7

  pub root_home : home < 2 ^ 64 → number (root_bytes front root home free chains directories) 0 ≡ home
  root_home home_small = low 0 (omega arith) ∙ at0 home_small

  pub root_buckets : root.buckets < 2 ^ 64 → number (root_bytes front root home free chains directories) 32 ≡ root.buckets
  root_buckets small = low 32 (omega arith) ∙ at32 small

  pub root_free : free < 2 ^ 64 → number (root_bytes front root home free chains directories) 40 ≡ free
  root_free free_small = low 40 (omega arith) ∙ at40 free_small

  pub root_fields : IsSmall root → root_in (root_bytes front root home free chains directories) ≡ root
  root_fields small = λ i. record {
    format = (low 8 (omega arith) ∙ at8 small.format) i;
    state = (low 16 (omega arith) ∙ at16 small.state) i;
    changes = (low 24 (omega arith) ∙ at24 small.changes) i;
    buckets = root_buckets small.buckets i;
  }

  -- and the first pages
  pub root_firsts : ((p : ℕ) → 1 ≤ times_new p chains → p < 2 ^ 64) → ((p : ℕ) → 1 ≤ times_new p directories → p < 2 ^ 64) → (n : ℕ)
      → n < 16 → number (root_bytes front root home free chains directories) (48 + 8 * n)
      ≡ begins_at directories n (begins_at chains n (number front (48 + 8 * n)))
  unfolding one two three four five six seven
  root_firsts new_small old_small n below =
      let zero_more : 0 + n ≡ n = omega arith in
      firsts_at 48 0 16 n directories seven (omega (arith, long7)) below old_small
      ∙ ap (λ (k : ℕ). begins_at directories k (number seven (48 + 8 * n))) zero_more
      ∙ ap (λ (k : ℕ). begins_at directories n k) (
      firsts_at 48 0 16 n chains six (omega (arith, long6)) below new_small
      ∙ ap (λ (k : ℕ). begins_at chains k (number six (48 + 8 * n))) zero_more
      ∙ ap (λ (k : ℕ). begins_at chains n k) (behind (48 + 8 * n) (omega arith) (omega (arith, below)))
      )
