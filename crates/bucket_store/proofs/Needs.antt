-- What a commit leaves, or tells, are the home pages that are needed.
use Rattle.std.proofs.Common.{◌≡◌, ℕ, ◌+◌, ◌*◌, max, Bool, List, length, Result, Ok, Err, sym, ap, ◌∙◌, arith}
use Rattle.std.specs.FinMap as map
use Rattle.std.specs.Cmp.{nat_cmp_total}
use Rattle.page_journal.specs.declared.fault.StoreFault.{StoreFault}
use Rattle.page_journal.specs.declared.fault.StoreFault.TheVariants.{NotFormatted, NotEmpty, BadStore, DiskFault, StoreFull, Broken}
use Rattle.page_journal.specs.declared.fault.StoreFault.TheVariants.{OutOfMemory}
use Rattle.chain_store.specs.Answers.{IsReadAnswer}
use Rattle.chain_store.specs.Needed.{FitsNeeded, chain_pages, needed, total}
use Rattle.chain_store.specs.Parts.{pages_for}
use Rattle.chain_store.specs.declared.root.Root.{Root}
use Rattle.chain_store.proofs.Totals.{total-same}
use Rattle.bucket_records.specs.Records.{BucketMap, records_bytes}
use Rattle.bucket_store.specs.Image.{Image, IsPart, Spells}
use Rattle.bucket_store.specs.Needed.{FitsImage, NeedsPages}

needed_same : (home before : ℕ) (root next : Root) (one two : ℕ → List ℕ) → home ≡ before → root ≡ next → one ≡ two
    → needed home root.buckets one ≡ needed before next.buckets two
needed_same home before root next one two same_home same_root same =
    ap (λ (h : ℕ). needed h root.buckets one) same_home
    ∙ ap (λ (r : Root). needed before r.buckets one) same_root
    ∙ ap (λ (s : ℕ → List ℕ). needed before next.buckets s) same

pub fits_image : (result : Result (Unit {0}) StoreFault) (home before limit most now : ℕ) (root : Root) (one two : ℕ → List ℕ)
    (image : Image)
    → home ≡ before → limit ≡ most → root ≡ image.root → one ≡ two → Spells image two
    → FitsNeeded (needed home root.buckets one) limit now result → FitsImage before image most now result
fits_image (Ok done) home before limit most now root one two image same_home same_limit same_root same spells fits = (
  record { strings = two; spells = spells; are = fits.0 ∙ needed_same home before root image.root one two same_home same_root same },
  omega (arith, fits.0, fits.1, same_limit),
)
fits_image (Err NotFormatted) home before limit most now root one two image same_home same_limit same_root same spells fits = tt
fits_image (Err NotEmpty) home before limit most now root one two image same_home same_limit same_root same spells fits = tt
fits_image (Err (BadStore at)) home before limit most now root one two image same_home same_limit same_root same spells fits = tt
fits_image (Err DiskFault) home before limit most now root one two image same_home same_limit same_root same spells fits = tt
fits_image (Err (StoreFull pages)) home before limit most now root one two image same_home same_limit same_root same spells fits = (
  record { strings = two; spells = spells; are = fits.0 ∙ needed_same home before root image.root one two same_home same_root same },
  omega (arith, fits.0, fits.1, same_limit),
)
fits_image (Err Broken) home before limit most now root one two image same_home same_limit same_root same spells fits = tt
fits_image (Err OutOfMemory) home before limit most now root one two image same_home same_limit same_root same spells fits = tt

-- a refusal of a read tells none
pub fits_unread : (fault : StoreFault) (broken : Bool) (before : ℕ) (image : Image) (limit now : ℕ)
    → IsReadAnswer {T = Unit {0}} broken (Err fault)
    → FitsImage before image limit now (Err fault)
fits_unread NotFormatted broken before image limit now alone = tt
fits_unread NotEmpty broken before image limit now alone = tt
fits_unread (BadStore at) broken before image limit now alone = tt
fits_unread DiskFault broken before image limit now alone = tt
fits_unread (StoreFull pages) broken before image limit now alone = absurd alone
fits_unread Broken broken before image limit now alone = tt
fits_unread OutOfMemory broken before image limit now alone = tt

-- the records of a bucket are those of one map
part_one : (buckets bucket : ℕ) (whole one two : BucketMap) → IsPart buckets bucket whole one → IsPart buckets bucket whole two → one ≡ two
part_one buckets bucket whole one two is are =
    map.same_map nat_cmp_total map.nat_cmp-IsAntisymmetric one two (λ key. is.each key ∙ sym (are.each key))

-- so what spells a store has one length each
spelled_one : (image : Image) (one two : ℕ → List ℕ) → Spells image one → Spells image two
    → chain_pages image.root.buckets one ≡ chain_pages image.root.buckets two
unfolding chain_pages
spelled_one image one two is are =
    let texts = total-same (λ n. pages_for (length (one n))) (λ n. pages_for (length (two n))) 8 (λ n below.
    ap (λ (l : List ℕ). pages_for (length l)) (is.texts n below ∙ sym (are.texts n below))) in
    let buckets = total-same (λ m. total (λ b. pages_for (length (one (16 + 65536 * m + b)))) image.root.buckets)
    (λ m. total (λ b. pages_for (length (two (16 + 65536 * m + b)))) image.root.buckets) 8 (λ m below.
    total-same (λ b. pages_for (length (one (16 + 65536 * m + b)))) (λ b. pages_for (length (two (16 + 65536 * m + b)))) image.root.buckets
    (λ b low.
    let here = is.parts m b below low in
    let there = are.parts m b below low in
    let same = part_one image.root.buckets b (image.maps m) here.0 there.0 here.1 there.1 in
    ap (λ (l : List ℕ). pages_for (length l)) (
    here.2.bytes_are
    ∙ ap (λ (own : BucketMap). records_bytes (map.entries own)) same
    ∙ sym there.2.bytes_are))) in
    omega (arith, texts, buckets)

-- and just one number of pages is needed
pub needs_one : (home : ℕ) (image : Image) (one two : ℕ) → NeedsPages home image one → NeedsPages home image two → one ≡ two
needs_one home image one two is are =
    is.are
    ∙ ap (λ (chains : ℕ). max home (2 + chains)) (spelled_one image is.strings are.strings is.spells are.spells)
    ∙ sym are.are
