use Rattle.std.proofs.Common.{◌≡◌, ◌<◌, ◌*◌, ◌==◌, ℕ, List, length, drop, map, sym, ap, subst, ◌∙◌, arith, refl}
use Rattle.std.proofs.lemmas.Bool.{eqb-true}
use Rattle.std.proofs.lemmas.List.{length-map}
use Rattle.std.specs.List.{All}
use Rattle.page_journal.specs.Pages.{number}
use Rattle.chain_store.specs.Firsts.{MayFill}
use Rattle.chain_store.specs.Gathered.{base_parts}
use Rattle.chain_store.specs.Kept.{buckets_in}
use Rattle.chain_store.specs.Parts.{growth, head_or, laid_bytes_at}
use Rattle.chain_store.specs.Plan.{IsDealt, root_bytes, set_of, whole_pool}
use Rattle.chain_store.specs.declared.kept.Kept.{Kept}
use Rattle.chain_store.specs.declared.parts.Laid.{Laid}
use Rattle.chain_store.specs.declared.parts.Part.{Part}
use Rattle.chain_store.specs.declared.planning.Dealt.{Dealt}
use Rattle.chain_store.specs.declared.root.Root.{Root}
use Rattle.chain_store.specs.declared.walking.Walked.{Walked}
use Rattle.chain_store.proofs.Bases.{bases_fill, bytes_from, laid_eight, laid_long}
use Rattle.chain_store.proofs.RootPages.{root_buckets}
use Rattle.chain_store.proofs.planning.Plan.of.Goals as goal

-- the directories as they were made are those of the definition
bases_are : (buckets read before : ℕ) (bases : List Part) (given ws : List Walked) → bases ≡ base_parts (buckets == read) buckets 8 given
    → read ≡ before
    → given ≡ ws → bases ≡ base_parts (buckets == before) buckets 8 ws
bases_are buckets read before bases given ws is same is_ws =
    is ∙ ap (λ (n : ℕ). base_parts (buckets == n) buckets 8 given) same
    ∙ ap (λ (l : List Walked). base_parts (buckets == before) buckets 8 l) is_ws

module _ (kept : Kept) (buckets home : ℕ) (parts bases : List Part) (free : List ℕ) (dealt : Dealt)
    (is : bases ≡ base_parts (buckets == buckets_in kept.front.items) buckets 8 kept.directories.items)
    (dealt_is : IsDealt parts bases buckets free home dealt) where
  whole : IsDealt parts (base_parts (buckets == buckets_in kept.front.items) buckets 8 kept.directories.items) buckets free home dealt
  whole = subst (λ (ps : List Part). IsDealt parts ps buckets free home dealt) is dealt_is

  eight : length dealt.directories.items ≡ 8
  eight = laid_eight (buckets == buckets_in kept.front.items) buckets
      (buckets_in kept.front.items) dealt.chains.items kept.directories.items
      (drop (growth parts) (whole_pool parts (base_parts (buckets == buckets_in kept.front.items) buckets 8 kept.directories.items) free
      home))
      dealt.directories.items whole.directories kept.eight (λ equal. eqb-true buckets (buckets_in kept.front.items) equal) kept.long

  long : (m : ℕ) → m < 8 → length (laid_bytes_at dealt.directories.items m) ≡ 8 * buckets
  long = laid_long (buckets == buckets_in kept.front.items) buckets (buckets_in kept.front.items) dealt.chains.items kept.directories.items
      (drop (growth parts) (whole_pool parts (base_parts (buckets == buckets_in kept.front.items) buckets 8 kept.directories.items) free
      home))
      dealt.directories.items whole.directories kept.eight (λ equal. eqb-true buckets (buckets_in kept.front.items) equal) kept.long

pub of-requires : goal.of-requires
of-requires c =
    let kept : Kept = c.args.kept.now in
    let buckets : ℕ = c.args.root.now.buckets in
    let is = bases_are buckets c.root.result.buckets
    (buckets_in kept.front.items) c.in_ok-bases.bases.items c.directories.result.now kept.directories.items
    c.in_ok-bases.ensures (ap (λ (root : Root). root.buckets) c.root.ensures.root) c.directories.ensures in
    subst (λ (ps : List Part). All (MayFill buckets) ps) (sym is)
    (bases_fill buckets (buckets_in kept.front.items) kept.directories.items kept.eight kept.long)

pub of-requires-2-clause-eight : goal.of-requires-2-clause-eight
of-requires-2-clause-eight c =
    let kept : Kept = c.args.kept.now in
    let buckets : ℕ = c.args.root.now.buckets in
    let is = bases_are buckets c.root.result.buckets
    (buckets_in kept.front.items) c.in_ok-bases.bases.items c.directories.result.now kept.directories.items
    c.in_ok-bases.ensures (ap (λ (root : Root). root.buckets) c.root.ensures.root) c.directories.ensures in
    sym (length-map c.in_ok-directories.directories.items (λ (one : Walked). one.pages.items))
    ∙ ap (λ (l : List (List ℕ)). length l) c.in_ok-directories.ensures.pages
    ∙ ap (λ (l : List Laid). length (map (λ (one : Laid). one.pages) l)) c.in_ok-set.ensures.directories
    ∙ length-map c.in_ok-dealt.dealt.directories.items (λ (one : Laid). one.pages)
    ∙ eight kept buckets c.args.home c.args.parts.items c.in_ok-bases.bases.items c.args.free.now c.in_ok-dealt.dealt is
    c.in_ok-dealt.ensures

pub of-requires-2-clause-few : goal.of-requires-2-clause-few
of-requires-2-clause-few c =
    let front_is : c.in_ok-front.front.items ≡ c.in_ok-page.page.items = c.in_ok-front.ensures.items ∙ c.deref.ensures.value in
    let page_is : c.in_ok-page.page.items ≡ root_bytes c.args.kept.now.front.items c.args.root.now c.in_ok-dealt.dealt.«end»
    (head_or c.in_ok-dealt.dealt.left.items c.in_ok-dealt.dealt.tail) c.in_ok-dealt.dealt.chains.items
    c.in_ok-dealt.dealt.directories.items =
    c.in_ok-page.ensures.page
    ∙ ap (λ (l : List ℕ). root_bytes l c.args.root.now c.in_ok-dealt.dealt.«end»
    (head_or c.in_ok-dealt.dealt.left.items c.in_ok-dealt.dealt.tail)
    c.in_ok-dealt.dealt.chains.items c.in_ok-dealt.dealt.directories.items) c.front.ensures in
    let is : buckets_in c.in_ok-front.front.items ≡ c.args.root.now.buckets =
    ap (λ (l : List ℕ). number l 32) (front_is ∙ page_is)
    ∙ root_buckets c.args.kept.now.front.items c.args.root.now c.in_ok-dealt.dealt.«end»
    (head_or c.in_ok-dealt.dealt.left.items c.in_ok-dealt.dealt.tail)
    c.in_ok-dealt.dealt.chains.items c.in_ok-dealt.dealt.directories.items c.args.kept.now.page (omega (arith, c.requires)) in
    omega (arith, is, c.requires)

pub of-requires-2-clause-long : goal.of-requires-2-clause-long
of-requires-2-clause-long c = λ m below.
    let kept : Kept = c.args.kept.now in
    let buckets : ℕ = c.args.root.now.buckets in
    let is = bases_are buckets c.root.result.buckets
    (buckets_in kept.front.items) c.in_ok-bases.bases.items c.directories.result.now kept.directories.items
    c.in_ok-bases.ensures (ap (λ (root : Root). root.buckets) c.root.ensures.root) c.directories.ensures in
    let front_is : c.in_ok-front.front.items ≡ c.in_ok-page.page.items = c.in_ok-front.ensures.items ∙ c.deref.ensures.value in
    let page_is : c.in_ok-page.page.items ≡ root_bytes c.args.kept.now.front.items c.args.root.now c.in_ok-dealt.dealt.«end»
    (head_or c.in_ok-dealt.dealt.left.items c.in_ok-dealt.dealt.tail) c.in_ok-dealt.dealt.chains.items
    c.in_ok-dealt.dealt.directories.items =
    c.in_ok-page.ensures.page
    ∙ ap (λ (l : List ℕ). root_bytes l c.args.root.now c.in_ok-dealt.dealt.«end»
    (head_or c.in_ok-dealt.dealt.left.items c.in_ok-dealt.dealt.tail)
    c.in_ok-dealt.dealt.chains.items c.in_ok-dealt.dealt.directories.items) c.front.ensures in
    let count_is : buckets_in c.in_ok-front.front.items ≡ c.args.root.now.buckets =
    ap (λ (l : List ℕ). number l 32) (front_is ∙ page_is)
    ∙ root_buckets c.args.kept.now.front.items c.args.root.now c.in_ok-dealt.dealt.«end»
    (head_or c.in_ok-dealt.dealt.left.items c.in_ok-dealt.dealt.tail)
    c.in_ok-dealt.dealt.chains.items c.in_ok-dealt.dealt.directories.items c.args.kept.now.page (omega (arith, c.requires)) in
    ap (λ (l : List ℕ). length l) (bytes_from c.in_ok-directories.directories.items c.in_ok-dealt.dealt.directories.items m
    (c.in_ok-directories.ensures.bytes ∙ ap (λ (l : List Laid). map (λ (one : Laid). one.bytes) l) c.in_ok-set.ensures.directories))
    ∙ long kept buckets c.args.home c.args.parts.items c.in_ok-bases.bases.items c.args.free.now c.in_ok-dealt.dealt is
    c.in_ok-dealt.ensures m below
    ∙ ap (λ (n : ℕ). 8 * n) (sym count_is)

pub returns : goal.returns
returns c =
    let kept : Kept = c.args.kept.now in
    let buckets : ℕ = c.args.root.now.buckets in
    let dealt : Dealt = c.in_ok-dealt.dealt in
    let is = bases_are buckets c.root.result.buckets
    (buckets_in kept.front.items) c.in_ok-bases.bases.items c.directories.result.now kept.directories.items
    c.in_ok-bases.ensures (ap (λ (root : Root). root.buckets) c.root.ensures.root) c.directories.ensures in
    let front_is : c.of-2.result.front.items ≡ c.in_ok-page.page.items =
    c.of-2.ensures.front ∙ c.in_ok-front.ensures.items ∙ c.deref.ensures.value in
    record {
      dealt = c.in_ok-dealt.dealt;
      is = whole kept buckets c.args.home c.args.parts.items c.in_ok-bases.bases.items c.args.free.now c.in_ok-dealt.dealt is
          c.in_ok-dealt.ensures;
      set_is = c.in_ok-set.ensures.set
          ∙ ap (λ (l : List ℕ). set_of dealt.chains.items dealt.directories.items dealt.left.items dealt.tail l) (sym front_is);
      front_is = front_is ∙ c.in_ok-page.ensures.page
          ∙ ap (λ (l : List ℕ). root_bytes l c.args.root.now dealt.«end»
          (head_or dealt.left.items dealt.tail) dealt.chains.items dealt.directories.items) c.front.ensures;
      end_is = refl;
      end_small = c.in_ok-dealt.ensures.last_small;
      small = c.in_ok-page.ensures.small;
      long = c.of-2.result.page;
      pages_are = ap (λ (ws : List Walked). map (λ (one : Walked). one.pages.items) ws) c.of-2.ensures.directories
          ∙ c.in_ok-directories.ensures.pages
          ∙ ap (λ (l : List Laid). map (λ (one : Laid). one.pages) l) c.in_ok-set.ensures.directories;
      bytes_are = ap (λ (ws : List Walked). map (λ (one : Walked). one.bytes.items) ws) c.of-2.ensures.directories
          ∙ c.in_ok-directories.ensures.bytes
          ∙ ap (λ (l : List Laid). map (λ (one : Laid). one.bytes) l) c.in_ok-set.ensures.directories;
    }
