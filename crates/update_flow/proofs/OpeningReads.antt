-- What the opening of a store reads.
use Rattle.std.proofs.Common.{◌≡◌, inl, inr, ◌+◌, ◌*◌, ℕ, List, length, Some, refl, sym, ap, subst, ◌∙◌, arith}
use Rattle.std.specs.FinMap as map
use Rattle.std.proofs.lemmas.Option.{same_Some}
use Rattle.outside.specs.Disk.{DiskView, ReadsAtMost, Stays}
use Rattle.outside.specs.declared.disk.Disk.{Ghosts}
use Rattle.page_journal.specs.Home.{Home}
use Rattle.page_journal.specs.Journal.{disk_of as disk_under, home_count}
use Rattle.page_journal.proofs.ReadCounts.{reads_more, reads_then}
use Rattle.page_journal.proofs.Uniqueness.{one_home}
use Rattle.chain_store.specs.Chain.{HasPages}
use Rattle.chain_store.specs.Chains.{OnlyRead, disk_of, journal_of, kept_of, read_of}
use Rattle.chain_store.specs.Directories.{directory_first, first_in}
use Rattle.chain_store.specs.Kept.{bytes_at, page_total, pages_at}
use Rattle.chain_store.specs.Known.{MayRead}
use Rattle.chain_store.specs.Links.{page_in}
use Rattle.chain_store.specs.Store.{kept_first}
use Rattle.chain_store.specs.declared.kept.Kept.{Kept}
use Rattle.chain_store.proofs.Puts.{get-here}
use Rattle.bucket_store.specs.Image.{Has, Image}
use Rattle.bucket_store.specs.Opening.{Fits, directory_pages}
use Rattle.bucket_store.specs.Transaction.{IsOpenStore, chains_of}
use Rattle.bucket_store.specs.declared.buckets.Buckets.{Buckets}
use Rattle.bucket_store.specs.declared.resting.Resting.{Resting}
use Rattle.bucket_store.proofs.Holding.{kept_holds}
use Rattle.update_flow.specs.Opening.{HoldsState}
use Rattle.update_flow.specs.OpeningReads.{ReadsStyle, ReadsToOpen, text_first}
use Rattle.update_flow.specs.State.{State}
use Rattle.update_flow.specs.declared.fields.TheConstants.{STYLE_TEXT}

-- where the style begins
style_first : (front : List ℕ) (directory : ℕ → List ℕ) → first_in front directory STYLE_TEXT ≡ text_first front STYLE_TEXT
unfolding first_in
style_first front directory = refl

kept_style : (pages : List (List ℕ)) (kept : Kept) → kept.front.items ≡ page_in pages 1
    → kept_first kept STYLE_TEXT ≡ text_first (page_in pages 1) STYLE_TEXT
kept_style pages kept same =
    style_first kept.front.items (bytes_at kept.directories.items) ∙ ap (λ (front : List ℕ). text_first front STYLE_TEXT) same

module _ {D : Type 0} {g : Ghosts D} (old new : Buckets D g) (rest now : Image) (has : Has rest now old) where
  -- the style is read within a transaction
  pub text_read : MayRead (4096 * home_count (journal_of (chains_of old))) STYLE_TEXT (read_of (chains_of old)) (read_of (chains_of new))
      (disk_of (chains_of old)) (disk_of (chains_of new)) → OnlyRead (chains_of old) (chains_of new)
      → ((pages : List (List ℕ)) → IsOpenStore pages old → IsOpenStore pages new)
      → ReadsStyle (disk_of (chains_of old)) (disk_of (chains_of new))
  text_read (inl same) stays opens =
      let open_chains = has.opens.open_chains in
      let own = kept_holds has.pages (kept_of (chains_of old)) rest.root has.strings open_chains.keeps has.state STYLE_TEXT
      (inl (omega arith)) (omega arith) in
      record {
        pages = has.pages;
        rests = open_chains.rests.0;
        style = own.ns;
        has = subst (λ (first : ℕ). HasPages (page_in has.pages) (length has.pages + 1) STYLE_TEXT first own.ns)
            (kept_style has.pages (kept_of (chains_of old)) open_chains.keeps.front) own.has;
        count = reads_more 0 (length own.ns) (4096 * home_count (journal_of (chains_of old))) (4096 * (length has.pages + 1))
            (disk_of (chains_of old)).reads
            (disk_of (chains_of new)).reads (omega arith) (omega (arith, open_chains.rests.1)) same.1;
      }
  text_read (inr (none, chain)) stays opens =
      let open_chains = has.opens.open_chains in
      let known = (opens has.pages has.opens).open_chains.known STYLE_TEXT chain.0
      (ap (λ lists. map.get lists STYLE_TEXT) chain.1 ∙ get-here (read_of (chains_of old)) STYLE_TEXT chain.0 STYLE_TEXT refl) in
      record {
        pages = has.pages;
        rests = open_chains.rests.0;
        style = chain.0;
        has = subst (λ (first : ℕ). HasPages (page_in has.pages) (length has.pages + 1) STYLE_TEXT first chain.0)
            (ap (λ (kept : Kept). kept_first kept STYLE_TEXT) stays.kept
            ∙ kept_style has.pages (kept_of (chains_of old)) open_chains.keeps.front) known;
        count = reads_more (length chain.0) (length chain.0) (4096 * home_count (journal_of (chains_of old)))
            (4096 * (length has.pages + 1))
            (disk_of (chains_of old)).reads (disk_of (chains_of new)).reads (omega arith) (omega (arith, open_chains.rests.1)) chain.2;
      }

module _ {D : Type 0} {g : Ghosts D} where
  -- from a disk that buckets took to the one that they gave back
  pub style_over : (old new : Buckets D g) (first last : D) → disk_under (journal_of (chains_of old)) ≡ first
      → last ≡ disk_under (journal_of (chains_of new)) → ReadsStyle (disk_of (chains_of old)) (disk_of (chains_of new))
      → ReadsStyle (g.view first) (g.view last)
  style_over old new first last taken given reads =
      subst (λ (d : D). ReadsStyle (g.view first) (g.view d)) (sym given)
      (subst (λ (d : D). ReadsStyle (g.view d) (g.view (disk_under (journal_of (chains_of new))))) taken reads)

-- where there is no style nothing is read
pub style_unread : (state : State) (view : DiskView) → HoldsState state view → ReadsStyle view view
style_unread state view holds =
    let image = holds.image in
    let own = holds.holds.has.state in
    let text = own.state.each STYLE_TEXT (inl (omega arith)) (omega arith) in
    record {
      pages = own.pages;
      rests = (holds.holds.bytes, record { told = holds.holds.told; only = holds.holds.only; shut = holds.holds.shut; home = own.home });
      style = text.ns;
      has = subst (λ (first : ℕ). HasPages (page_in own.pages) (length own.pages + 1) STYLE_TEXT first text.ns)
          (style_first (page_in own.pages 1) own.state.directory) text.has;
      count = λ before told. (before, told, omega arith, omega arith);
    }

-- the first pages and the directories, and then the style
pub opens_then : (bytes : List ℕ) (old mid new : DiskView) (found : Resting) → old.content ≡ Some bytes → Stays old mid
    → (fits : Fits found mid) → ReadsAtMost (2 + directory_pages found) (length bytes) old mid → ReadsStyle mid new
    → ReadsToOpen bytes old new
opens_then bytes old mid new found told stays fits first second =
    let here = fits.rests in
    let there = second.rests in
    let same : here.0 ≡ bytes = same_Some here.0 bytes (sym here.1.told ∙ stays.content ∙ told) in
    let also : there.0 ≡ bytes = same_Some there.0 bytes (sym there.1.told ∙ stays.content ∙ told) in
    let home : Home fits.pages bytes = subst (λ (b : List ℕ). Home fits.pages b) same here.1.home in
    let other : Home second.pages bytes = subst (λ (b : List ℕ). Home second.pages b) also there.1.home in
    let one : second.pages ≡ fits.pages = one_home second.pages fits.pages bytes other home in
    let total = page_total found.kept.directories.items in
    record {
      pages = fits.pages;
      home = home;
      directories = found.kept.directories.items;
      eight = found.kept.eight;
      are = λ m below. subst (λ (front : List ℕ). HasPages (page_in fits.pages) (length fits.pages + 1) (8 + m) (directory_first front m)
          (pages_at found.kept.directories.items m)) fits.keeps.front (fits.keeps.has m below);
      style = second.style;
      has = subst (λ (pages : List (List ℕ)). HasPages (page_in pages) (length pages + 1) STYLE_TEXT
          (text_first (page_in pages 1) STYLE_TEXT) second.style) one second.has;
      count = reads_then (2 + total) (length second.style) (length bytes) old.reads mid.reads new.reads first
          (reads_more (length second.style) (length second.style) (4096 * (length second.pages + 1)) (length bytes) mid.reads new.reads
          (omega arith) other.holds
          second.count);
    }
