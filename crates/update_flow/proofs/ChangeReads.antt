-- What a change reads of the disk under a store.
use Rattle.std.proofs.Common.{◌≡◌, ℕ, List, sym, ap, subst, ◌∙◌}
use Rattle.std.proofs.lemmas.Option.{same_Some}
use Rattle.outside.specs.Disk.{DiskView}
use Rattle.outside.specs.declared.disk.Disk.{Ghosts}
use Rattle.page_journal.specs.Crash.{IsAtRest}
use Rattle.page_journal.specs.Home.{Home}
use Rattle.page_journal.specs.Journal.{disk_of as disk_under}
use Rattle.page_journal.proofs.Uniqueness.{one_home}
use Rattle.chain_store.specs.Answers.{RestsWith}
use Rattle.chain_store.specs.Chains.{disk_of, journal_of, kept_of}
use Rattle.chain_store.specs.Store.{Keeps}
use Rattle.chain_store.specs.declared.root.Root.{Root}
use Rattle.bucket_store.specs.Buckets.{bucket_count}
use Rattle.bucket_store.specs.Image.{Has, Image}
use Rattle.bucket_store.specs.Transaction.{chains_of}
use Rattle.bucket_store.specs.declared.buckets.Buckets.{Buckets}
use Rattle.store_maps.specs.Asked.{May}
use Rattle.update_flow.specs.ChangeReads.{ReadsTouched}
use Rattle.update_flow.specs.Reads.{MayLoad, ReadsOnce}
use Rattle.update_flow.specs.Stands.{IsImported}
use Rattle.update_flow.specs.State.{Holding}

-- a store at rest has one list of home pages
pub pages_one : (one other : List (List ℕ)) (view : DiskView) → IsAtRest one view → IsAtRest other view → one ≡ other
pages_one one other view first second =
    let same : second.0 ≡ first.0 = same_Some second.0 first.0 (sym second.1.told ∙ first.1.told) in
    one_home one other first.0 first.1.home (subst (λ (b : List ℕ). Home other b) same second.1.home)

-- from a disk that buckets took to the one that they gave back
pub touched_on : {D : Type 0} {g : Ghosts D} (old new : Buckets D g) (held : Holding) (image : Image) (may : May) (pages : List (List ℕ))
    (first last : D)
    → disk_under (journal_of (chains_of old)) ≡ first → last ≡ disk_under (journal_of (chains_of new)) → Has image image old
    → IsImported held image
    → IsAtRest pages (g.view first)
    → ((home : List (List ℕ)) → RestsWith home (journal_of (chains_of old))
    → ReadsOnce (MayLoad may (bucket_count (chains_of old))) home (kept_of (chains_of old))
    (disk_of (chains_of old)) (disk_of (chains_of new)))
    → ReadsTouched may held.buckets pages (g.view first) (g.view last)
touched_on {D} {g} old new held image may pages first last taken given has is rests reads =
    let open_chains = has.opens.open_chains in
    let kept = kept_of (chains_of old) in
    let here : IsAtRest pages (disk_of (chains_of old)) = subst (λ (d : D). IsAtRest pages (g.view d)) (sym taken) rests in
    let same : has.pages ≡ pages = pages_one has.pages pages (disk_of (chains_of old)) open_chains.rests.0 here in
    let count : bucket_count (chains_of old) ≡ held.buckets = ap (λ (r : Root). r.buckets) (has.root ∙ is.root) in
    let once : ReadsOnce (MayLoad may held.buckets) pages kept (disk_of (chains_of old)) (disk_of (chains_of new)) =
    subst (λ (n : ℕ). ReadsOnce (MayLoad may n) pages kept (disk_of (chains_of old)) (disk_of (chains_of new))) count
    (reads pages (subst (λ (p : List (List ℕ)). RestsWith p (journal_of (chains_of old))) same open_chains.rests)) in (
      kept,
      subst (λ (p : List (List ℕ)). Keeps p kept) same open_chains.keeps,
      subst (λ (d : D). ReadsOnce (MayLoad may held.buckets) pages kept (g.view first) (g.view d)) (sym given)
          (subst (λ (d : D). ReadsOnce (MayLoad may held.buckets) pages kept (g.view d) (g.view (disk_under (journal_of (chains_of new)))))
          taken once),
    )
