-- What is read of a store when it is opened.
use Rattle.std.proofs.Common.{◌≡◌, inl, inr, ℕ, zero, suc, ◌+◌, ◌*◌, ◌<◌, ◌≤◌, List, [], ◌∷◌, ◌++◌, length, Ok, Err, refl, sym, ap, subst}
use Rattle.std.proofs.Common.{◌∙◌, arith}
use Rattle.std.proofs.lemmas.Bool.{cases_lt}
use Rattle.outside.specs.Disk.{DiskView}
use Rattle.page_journal.specs.Crash.{IsSettled}
use Rattle.page_journal.specs.Pages.{page_from}
use Rattle.page_journal.specs.declared.fault.StoreFault.{StoreFault}
use Rattle.page_journal.specs.declared.fault.StoreFault.TheVariants.{NotFormatted, NotEmpty, BadStore, DiskFault, StoreFull, Broken}
use Rattle.page_journal.specs.declared.fault.StoreFault.TheVariants.{OutOfMemory}
use Rattle.chain_store.specs.Answers.{HaveRead, IsDirectory, ReadsDirectories, ReadsDirectory, ReadsKept}
use Rattle.chain_store.specs.Chain.{HasPages, data_in}
use Rattle.chain_store.specs.Directories.{directory_first, root_in}
use Rattle.chain_store.specs.Kept.{bytes_at, pages_at, page_total}
use Rattle.chain_store.specs.Links.{page_in}
use Rattle.chain_store.specs.declared.walking.Walked.{Walked}

-- a home page where the gate is shut
pub home_page : (pages : List (List ℕ)) (bytes : List ℕ) (view : DiskView) (n : ℕ) → IsSettled pages bytes view → 1 ≤ n → n ≤ length pages
    → page_from bytes (4096 * n) ≡ page_in pages n
home_page pages bytes view n settled from to = elim (settled.home.each n from to) [
  | inl journal ↦ absurd (settled.shut journal.is_open)
  | inr place ↦ sym place.same
]

pub pages_at-push : (directories : List Walked) (walked : Walked) (m : ℕ) → m < length directories
    → pages_at (directories ++ walked ∷ []) m ≡ pages_at directories m
pages_at-push [] walked m below = absurd (omega arith)
pages_at-push (one ∷ others) walked zero below = refl
pages_at-push (one ∷ others) walked (suc m) below = pages_at-push others walked m (omega arith)

pub pages_at-last : (directories : List Walked) (walked : Walked) (m : ℕ) → m ≡ length directories
    → pages_at (directories ++ walked ∷ []) m ≡ walked.pages.items
pages_at-last [] walked zero is = refl
pages_at-last [] walked (suc m) is = absurd (omega arith)
pages_at-last (one ∷ others) walked zero is = absurd (omega arith)
pages_at-last (one ∷ others) walked (suc m) is = pages_at-last others walked m (omega arith)

pub bytes_at-push : (directories : List Walked) (walked : Walked) (m : ℕ) → m < length directories
    → bytes_at (directories ++ walked ∷ []) m ≡ bytes_at directories m
bytes_at-push [] walked m below = absurd (omega arith)
bytes_at-push (one ∷ others) walked zero below = refl
bytes_at-push (one ∷ others) walked (suc m) below = bytes_at-push others walked m (omega arith)

pub bytes_at-last : (directories : List Walked) (walked : Walked) (m : ℕ) → m ≡ length directories
    → bytes_at (directories ++ walked ∷ []) m ≡ walked.bytes.items
bytes_at-last [] walked zero is = refl
bytes_at-last [] walked (suc m) is = absurd (omega arith)
bytes_at-last (one ∷ others) walked zero is = absurd (omega arith)
bytes_at-last (one ∷ others) walked (suc m) is = bytes_at-last others walked m (omega arith)

pub page_total-push : (directories : List Walked) (walked : Walked)
    → page_total (directories ++ walked ∷ []) ≡ page_total directories + length walked.pages.items
page_total-push [] walked = omega arith
page_total-push (one ∷ others) walked = omega (arith, page_total-push others walked)

-- a property of each of them, and of the next
pub more_of : (P : ℕ → List ℕ → Type 0) (pick : List Walked → ℕ → List ℕ) (directories all : List Walked) (count : ℕ) (last : List ℕ)
    → ((m : ℕ) → m < count → pick all m ≡ pick directories m) → pick all count ≡ last
    → ((m : ℕ) → m < count → P m (pick directories m)) → P count last
    → (m : ℕ) → m < count + 1 → P m (pick all m)
more_of P pick directories all count last same is so_far here m below = elim (cases_lt m count) [
  | inl before ↦ subst (λ (l : List ℕ). P m l) (sym (same m before)) (so_far m before)
  | inr end ↦
      let at : m ≡ count = omega (arith, end, below) in
      subst (λ (k : ℕ). P k (pick all k)) (sym at) (subst (λ (l : List ℕ). P count l) (sym is) here)
]

module _ (pages : List (List ℕ)) where
  pub read_more : (directories : List Walked) (walked : Walked) (m : ℕ) → length directories ≡ m → HaveRead pages directories m
      → ReadsDirectory pages m (Ok walked) → HaveRead pages (directories ++ walked ∷ []) (m + 1)
  read_more directories walked m many read here = record {
    has = more_of (λ k ns. HasPages (page_in pages) (length pages + 1) (8 + k) (directory_first (page_in pages 1) k) ns) pages_at
        directories
        (directories ++ walked ∷ []) m walked.pages.items
        (λ k below. pages_at-push directories walked k (omega (arith, below, many)))
        (pages_at-last directories walked m (sym many)) read.has here.0;
    held = λ k below. elim (cases_lt k m) [
      | inl before ↦
          ap (λ (ns : List ℕ). data_in (page_in pages) ns) (pages_at-push directories walked k (omega (arith, before, many)))
          ∙ read.held k before ∙ sym (bytes_at-push directories walked k (omega (arith, before, many)))
      | inr end ↦
          let at : k ≡ length directories = omega (arith, end, below, many) in
          ap (λ (ns : List ℕ). data_in (page_in pages) ns) (pages_at-last directories walked k at)
          ∙ here.1 ∙ sym (bytes_at-last directories walked k at)
    ];
  }

  -- a directory that was read is one
  pub directory_read : (directories : List Walked) (count buckets k : ℕ) → HaveRead pages directories count
      → ((m : ℕ) → m < count → length (bytes_at directories m) ≡ 8 * buckets) → buckets ≡ (root_in (page_in pages 1)).buckets → k < count
      → IsDirectory pages k
  directory_read directories count buckets k read long is below = record {
    bytes = bytes_at directories k;
    holds = record { ns = pages_at directories k; has = read.has k below; held = read.held k below };
    long = long k below ∙ ap (λ (n : ℕ). 8 * n) is;
  }

  pub bad_directory : (m : ℕ) (fault : StoreFault) → m < 8 → ((k : ℕ) → k < m → IsDirectory pages k) → ReadsDirectory pages m (Err fault)
      → ReadsDirectories pages (Err fault)
  bad_directory m NotFormatted below before here = tt
  bad_directory m NotEmpty below before here = tt
  bad_directory m (BadStore at) below before here = (m, below, before, here)
  bad_directory m DiskFault below before here = tt
  bad_directory m (StoreFull n) below before here = tt
  bad_directory m Broken below before here = tt
  bad_directory m OutOfMemory below before here = tt

  pub bad_kept : (fault : StoreFault) → ReadsDirectories pages (Err fault) → ReadsKept pages (Err fault)
  bad_kept NotFormatted here = tt
  bad_kept NotEmpty here = tt
  bad_kept (BadStore at) here = inr here
  bad_kept DiskFault here = tt
  bad_kept (StoreFull n) here = tt
  bad_kept Broken here = tt
  bad_kept OutOfMemory here = tt
