-- The store once the plan of a commit is carried out.
use Rattle.std.proofs.Common.{◌≡◌, ◌≢◌, ◌⊎◌, inl, inr, ℕ, ◌+◌, ◌-◌, ◌*◌, ◌/◌, ◌%◌, ◌<◌, ◌≤◌, List, [], ◌∷◌, ◌++◌, length, take, drop, Some}
use Rattle.std.proofs.Common.{refl, sym, ap, subst, ◌∙◌, arith}
use Rattle.std.proofs.lemmas.Bool.{cases_lt}
use Rattle.std.specs.FinMap as finite
use Rattle.page_journal.specs.Crash.{IsSettled}
use Rattle.page_journal.specs.Pages.{number}
use Rattle.page_journal.proofs.Bytes.{page_long}
use Rattle.outside.specs.Disk.{DiskView}
use Rattle.chain_store.specs.Chain.{HasPages, Holds, Path, data_in}
use Rattle.chain_store.specs.Chains.{IsMarked}
use Rattle.chain_store.specs.Directories.{first_in}
use Rattle.chain_store.specs.Gathered.{AreApart, EachGathered, IsNoNumber}
use Rattle.chain_store.specs.Known.{AreStored, Lists}
use Rattle.chain_store.specs.Links.{IsLink, data_of, next_of, page_in}
use Rattle.chain_store.specs.Parts.{IsNoPart, IsPart, growth_of, laid_all, pages_for}
use Rattle.chain_store.specs.State.{IsOwner, IsSound}
use Rattle.chain_store.specs.Store.{kept_first}
use Rattle.chain_store.specs.declared.kept.Kept.{Kept}
use Rattle.chain_store.specs.declared.layout.TheConstants.{CHAIN_END, FREE}
use Rattle.chain_store.specs.declared.parts.Laid.{Laid}
use Rattle.chain_store.specs.declared.parts.Part.{Part}
use Rattle.chain_store.proofs.Attached.{home_page}
use Rattle.chain_store.proofs.FirstLaws.{first_in-bucket, first_in-free, first_in-root}
use Rattle.chain_store.proofs.Parting.{AreClear, AreParts}
use Rattle.chain_store.proofs.Unique.{pages_one}
use Rattle.chain_store.proofs.WrittenLaws.{WasMarked, was_written}

-- home pages have their length
pub pages_long : (pages : List (List ℕ)) (bytes : List ℕ) (view : DiskView) → IsSettled pages bytes view → (n : ℕ) → 2 ≤ n
    → n < length pages + 1
    → length (page_in pages n) ≡ 4096
pages_long pages bytes view settled n above below =
    let here = home_page pages bytes view n settled (omega (arith, above)) (omega (arith, below)) in
    ap (λ (l : List ℕ). length l) (sym here) ∙ page_long bytes (4096 * n) (omega (arith, settled.home.holds, below))

-- the same paths in pages that agree
module _ (page new : ℕ → List ℕ) (home chain : ℕ) (agree : (n : ℕ) → 2 ≤ n → n < home → new n ≡ page n) where
  path_agree : (first : ℕ) (ns : List ℕ) (at : ℕ) → Path page home chain first ns at → Path new home chain first ns at
  path_agree first [] at path = path
  path_agree first (n ∷ ns) at path =
      let here = agree n path.1.above path.1.below in (
        path.0,
        record { above = path.1.above; below = path.1.below; link = subst (λ (l : List ℕ). IsLink chain l) (sym here) path.1.link },
        subst (λ (l : List ℕ). Path new home chain (next_of l) ns at) (sym here) (path_agree (next_of (page n)) ns at path.2),
      )

  data_agree : (first : ℕ) (ns : List ℕ) (at : ℕ) → Path page home chain first ns at → data_in new ns ≡ data_in page ns
  data_agree first [] at path = refl
  data_agree first (n ∷ ns) at path =
      ap (λ (l : List ℕ). data_of l ++ data_in new ns) (agree n path.1.above path.1.below)
      ∙ ap (λ (l : List ℕ). data_of (page n) ++ l) (data_agree (next_of (page n)) ns at path.2)

  pub pages_agree : (first : ℕ) (ns : List ℕ) → HasPages page home chain first ns → HasPages new home chain first ns
  pages_agree first ns has = record { path = path_agree first ns 0 has.path; few = has.few }

  pub data_agrees : (first : ℕ) (ns : List ℕ) → HasPages page home chain first ns → data_in new ns ≡ data_in page ns
  data_agrees first ns has = data_agree first ns 0 has.path

  pub holds_agree : (first : ℕ) (bytes : List ℕ) → Holds page home chain first bytes → Holds new home chain first bytes
  holds_agree first bytes holds = record {
    ns = holds.ns;
    has = pages_agree first holds.ns holds.has;
    held = data_agree first holds.ns 0 holds.has.path ∙ holds.held;
  }

-- a sound store, seen by pages and firsts that agree
pub sound_agree : (page new : ℕ → List ℕ) (home : ℕ) (first next : ℕ → ℕ) → ((n : ℕ) → 2 ≤ n → n < home → new n ≡ page n)
    → ((n : ℕ) → IsOwner n → next n ≡ first n) → IsSound page home first → IsSound new home next
sound_agree page new home first next agree same sound = record {
  chains = λ n owner.
      let old = sound.chains n owner in (
        old.0,
        subst (λ (k : ℕ). HasPages new home n k old.0) (sym (same n owner))
            (pages_agree page new home n agree (first n) old.0 old.1),
      );
  owned = λ p from to.
      let old = sound.owned p from to in (
        old.0,
        old.1,
        record {
          ns = old.2.ns;
          has = subst (λ (k : ℕ). HasPages new home old.0 k old.2.ns) (sym (same old.0 old.1))
              (pages_agree page new home old.0 agree (first old.0) old.2.ns old.2.has);
          place = old.2.place;
          below = old.2.below;
          here = old.2.here;
        },
      );
}

-- first pages told by two directories that are the same
pub first_same : (front : List ℕ) (one two : ℕ → List ℕ) → ((m : ℕ) → m < 8 → one m ≡ two m) → (n : ℕ) → IsOwner n
    → first_in front one n ≡ first_in front two n
first_same front one two same n (inl free) = first_in-free front one n free ∙ sym (first_in-free front two n free)
first_same front one two same n (inr chain) = elim (cases_lt n 16) [
  | inl low ↦ first_in-root front one n low ∙ sym (first_in-root front two n low)
  | inr above ↦
      let below : (n - 16) / 65536 < 8 = omega (arith, above, chain) in
      first_in-bucket front one n (omega (arith, above)) chain
      ∙ ap (λ (l : List ℕ). number l (8 * ((n - 16) % 65536))) (same ((n - 16) / 65536) below)
      ∙ sym (first_in-bucket front two n (omega (arith, above)) chain)
]

-- what was gathered are parts of the store
module _ (pages : List (List ℕ)) (kept : Kept) (written read before : Lists) (buckets : ℕ)
    (known : (n : ℕ) (ns : List ℕ) → finite.get read n ≡ Some ns → HasPages (page_in pages) (length pages + 1) n (kept_first kept n) ns)
    (marked : (n : ℕ) (same bytes : List ℕ) → finite.get before n ≡ Some same → finite.get written n ≡ Some bytes
    → IsMarked pages n (kept_first kept n) same bytes)
    (long : (n : ℕ) → 2 ≤ n → n < length pages + 1 → length (page_in pages n) ≡ 4096)
    (stored : AreStored buckets read written) where
  was_marked : (n first : ℕ) (old same bytes : List ℕ) → n < CHAIN_END → HasPages (page_in pages) (length pages + 1) n first old
      → IsMarked pages n first same bytes → WasMarked (page_in pages) n old same bytes
  was_marked n first old same bytes chain has (inl none) = inl none
  was_marked n first old same bytes chain has (inr (bytes_before, holds, are)) =
      let own : n ≢ FREE = λ is_free. absurd (omega (arith, is_free, chain)) in
      let same_ns : holds.ns ≡ old = pages_one (page_in pages) (length pages + 1) n first holds.ns old holds.has has in
      inr (
        bytes_before,
        was_written (page_in pages) (length pages + 1) n own long first old bytes_before has.path
            (ap (λ (ns : List ℕ). data_in (page_in pages) ns) (sym same_ns) ∙ holds.held),
        are,
      )

  was_of : (part : Part) → part.number < CHAIN_END
      → HasPages (page_in pages) (length pages + 1) part.number (kept_first kept part.number) part.old
      → finite.get written part.number ≡ Some part.bytes → (part.same ≡ []) ⊎ (finite.get before part.number ≡ Some part.same)
      → WasMarked (page_in pages) part.number part.old part.same part.bytes
  was_of part chain has here (inl none) = inl none
  was_of part chain has here (inr is) =
      was_marked part.number (kept_first kept part.number) part.old part.same part.bytes chain has
      (marked part.number part.same part.bytes is here)

  pub gathered_are : (parts : List Part) → EachGathered written read before parts → AreApart parts
      → AreParts (page_in pages) (length pages + 1) (kept_first kept) parts
  gathered_are [] each apart = tt
  gathered_are (part ∷ parts) each apart =
      let is = stored part.number part.bytes each.0.0 in
      let has = known part.number part.old each.0.1 in
      (is.1, has, was_of part is.1 has each.0.0 each.0.2, apart.0, gathered_are parts each.1 apart.1)

-- what is known of a part that was gathered
pub laid_part : (written read before : Lists) (parts : List Part) (pool : List ℕ) (n : ℕ) (pages bytes : List ℕ)
    → EachGathered written read before parts
    → IsPart n pages bytes (laid_all parts pool) → finite.get written n ≡ Some bytes
laid_part written read before [] pool n pages bytes each part = absurd part
laid_part written read before (part ∷ parts) pool n pages bytes each (inl here) =
    ap (λ (k : ℕ). finite.get written k) here.0 ∙ each.0.0 ∙ ap (λ (l : List ℕ). Some l) (sym here.2)
laid_part written read before (part ∷ parts) pool n pages bytes each (inr there) =
    laid_part written read before parts (drop (growth_of part) pool) n pages bytes each.1 there

-- no bytes have no pages
pub part_none : (parts : List Part) (pool : List ℕ) (n : ℕ) (pages bytes : List ℕ) → IsPart n pages bytes (laid_all parts pool) → bytes ≡ []
    → pages ≡ []
part_none [] pool n pages bytes part none = absurd part
part_none (part ∷ parts) pool n pages bytes (inl here) none =
    here.1 ∙ ap (λ (l : List ℕ). take (pages_for (length l)) (part.old ++ pool)) (sym here.2 ∙ none)
part_none (part ∷ parts) pool n pages bytes (inr there) none = part_none parts (drop (growth_of part) pool) n pages bytes there none

pub no_number_of : (n : ℕ) (parts : List Part) (pool : List ℕ) → IsNoPart n (laid_all parts pool) → IsNoNumber n parts
no_number_of n [] pool none = tt
no_number_of n (part ∷ parts) pool none = (none.0, no_number_of n parts (drop (growth_of part) pool) none.1)

-- no chain that was gathered has the number of a directory
pub clear_of : (written read before : Lists) (buckets : ℕ) (parts : List Part) (pool : List ℕ) (others : List Laid)
    → EachGathered written read before parts
    → AreStored buckets read written → ((n : ℕ) → (n < 16 → n < 8) → IsNoPart n others) → AreClear (laid_all parts pool) others
clear_of written read before buckets [] pool others each stored none = tt
clear_of written read before buckets (part ∷ parts) pool others each stored none = (
  none part.number (stored part.number part.bytes each.0.0).2,
  clear_of written read before buckets parts (drop (growth_of part) pool) others each.1 stored none,
)

-- bytes are none, or some
pub none_or : (bytes : List ℕ) → (bytes ≡ []) ⊎ (bytes ≢ [])
none_or [] = inl refl
none_or (b ∷ bytes) = inr (λ is. absurd (cc is))
