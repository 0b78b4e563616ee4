-- A plan that is carried out leaves the store with what was written.
use Rattle.std.proofs.Common.{◌≡◌, ◌≢◌, ◌⊎◌, inl, inr, ℕ, ◌+◌, ◌-◌, ◌*◌, ◌/◌, ◌%◌, ◌^◌, ◌<◌, ◌≤◌, ◌==◌, Bool, true, false, List, [], ◌∷◌}
use Rattle.std.proofs.Common.{◌++◌, length, take, drop, map, Option, Some, None, IsTrue, refl, sym, ap, subst, ◌∙◌, arith}
use Rattle.std.proofs.lemmas.Bool.{cases_lt, eqb-true, eqb-false}
use Rattle.std.specs.List.{All}
use Rattle.std.specs.Int.{is_power_of_two}
use Rattle.std.specs.FinMap as finite
use Rattle.page_journal.specs.Pages.{number}
use Rattle.page_journal.specs.PageSet.{PageMap, overwritten, page_or}
use Rattle.page_journal.proofs.Sets.{get_or-up_to, length-up_to}
use Rattle.chain_store.specs.Chain.{HasPages, Holds, data_in}
use Rattle.chain_store.specs.Chains.{IsMarked}
use Rattle.chain_store.specs.Directories.{IsChain, IsCount, directory_first, first_in, root_in}
use Rattle.chain_store.specs.Firsts.{MayFill, begins_at, filled}
use Rattle.chain_store.specs.Gathered.{AreGathered, base_parts}
use Rattle.chain_store.specs.Kept.{buckets_in, bytes_at, pages_at}
use Rattle.chain_store.specs.Known.{AreGone, AreStored, Lists, changed, own_or}
use Rattle.chain_store.specs.Links.{page_in}
use Rattle.chain_store.specs.Needed.{chain_pages, needed}
use Rattle.chain_store.specs.Pairs.{chain_pairs, laid_pairs, puts}
use Rattle.chain_store.specs.Parts.{AreOld, Begin, IsNoPart, IsPart, growth, head_or, laid_all, laid_bytes_at, laid_pages_at, times}
use Rattle.chain_store.specs.Parts.{times_new}
use Rattle.chain_store.specs.Plan.{IsPlan, kept_free, more_of, root_bytes, spare_of, wanted, whole_pool}
use Rattle.chain_store.specs.Planned.{Planned}
use Rattle.chain_store.specs.State.{IsOwner, IsSound, IsState}
use Rattle.chain_store.specs.Store.{Keeps, kept_first}
use Rattle.chain_store.specs.declared.kept.Kept.{Kept}
use Rattle.chain_store.specs.declared.layout.TheConstants.{CHAIN_END, FREE}
use Rattle.chain_store.specs.declared.parts.Laid.{Laid}
use Rattle.chain_store.specs.declared.parts.Part.{Part}
use Rattle.chain_store.specs.declared.planning.Plan.{Plan}
use Rattle.chain_store.specs.declared.root.Root.{Root}
use Rattle.chain_store.specs.declared.walking.Walked.{Walked}
use Rattle.chain_store.proofs.Bases.{bases_fill, bytes_from, laid_long, pages_from}
use Rattle.chain_store.proofs.Directory.{directories_are, directory_number, directory_part, no_directory}
use Rattle.chain_store.proofs.FirstLaws.{first_in-bucket, first_in-free, first_in-root}
use Rattle.chain_store.proofs.LaidParts.{part_or}
use Rattle.chain_store.proofs.Looked.{insert_same, look}
use Rattle.chain_store.proofs.Needs.{needed_from, planned_counted}
use Rattle.chain_store.proofs.NewStore.{clear_of, data_agrees, first_same, gathered_are, holds_agree, laid_part, no_number_of, none_or}
use Rattle.chain_store.proofs.NewStore.{pages_agree, part_none, sound_agree}
use Rattle.chain_store.proofs.NumberLaws.{number-beyond}
use Rattle.chain_store.proofs.Outcome.{covered, planned, set_is}
use Rattle.chain_store.proofs.Parting.{AreClear, AreParts, laid_old, no_part-both, part_cases, part_right, times_new-append}
use Rattle.chain_store.proofs.Renewed.{all_begin, other_begins}
use Rattle.chain_store.proofs.RootPages.{root_fields, root_firsts, root_free}
use Rattle.chain_store.proofs.Times.{once-same, same_or}
use Rattle.chain_store.proofs.Unique.{bytes_one}
use Rattle.chain_store.proofs.Whole.{dealt_inside, new_sound, other_holds, part_data, part_holds, part_pages}
use Rattle.chain_store.proofs.WrittenLaws.{was_written}

head_none : (ns : List ℕ) → ((p : ℕ) → 1 ≤ times p ns → p < 2 ^ 64) → head_or ns 0 < 2 ^ 64
head_none [] small = omega arith
head_none (n ∷ ns) small = small n (omega (arith, once-same n n refl))

head_spare : (ns ms : List ℕ) → ((p : ℕ) → 1 ≤ times p ns + times p ms → p < 2 ^ 64) → head_or ns (head_or ms 0) < 2 ^ 64
head_spare [] ms small = head_none ms (λ p some. small p (omega (arith, some)))
head_spare (n ∷ ns) ms small = small n (omega (arith, once-same n n refl))

module _ (pages : List (List ℕ)) (kept : Kept) (root : Root) (written read before : Lists) (parts : List Part) (free : List ℕ) (plan : Plan)
    (old_root : Root) (strings : ℕ → List ℕ) (state : IsState old_root strings pages) (keeps : Keeps pages kept)
    (known : (n : ℕ) (ns : List ℕ) → finite.get read n ≡ Some ns → HasPages (page_in pages) (length pages + 1) n (kept_first kept n) ns)
    (marked : (n : ℕ) (same bytes : List ℕ) → finite.get before n ≡ Some same → finite.get written n ≡ Some bytes
    → IsMarked pages n (kept_first kept n) same bytes)
    (long : (n : ℕ) → 2 ≤ n → n < length pages + 1 → length (page_in pages n) ≡ 4096)
    (stored : AreStored root.buckets read written)
    (gone : AreGone (buckets_in kept.front.items) root.buckets (kept_first kept) written)
    (few : root.buckets ≤ 65536)
    (count : root.buckets ≢ buckets_in kept.front.items → IsTrue (is_power_of_two root.buckets))
    (gathered : AreGathered written read before parts)
    (free_is : HasPages (page_in pages) (length pages + 1) FREE (kept_first kept FREE) free)
    (is : IsPlan kept root parts free (length pages + 1) plan) where
  abbrev home : ℕ
  home = length pages + 1

  abbrev first : ℕ → ℕ
  first = kept_first kept

  abbrev ws : List Walked
  ws = kept.directories.items

  abbrev same : Bool
  same = root.buckets == buckets_in kept.front.items

  abbrev bases : List Part
  bases = base_parts (root.buckets == buckets_in kept.front.items) root.buckets 8 kept.directories.items

  abbrev chains : List Laid
  chains = is.dealt.chains.items

  abbrev directories : List Laid
  directories = is.dealt.directories.items

  abbrev more : ℕ
  more = more_of parts (base_parts (root.buckets == buckets_in kept.front.items) root.buckets 8 kept.directories.items) free

  abbrev pool : List ℕ
  pool = whole_pool parts (base_parts (root.buckets == buckets_in kept.front.items) root.buckets 8 kept.directories.items) free
      (length pages + 1)

  -- the directories are those that are kept
  directory_same : (m : ℕ) → m < 8 → state.directory m ≡ bytes_at kept.directories.items m
  directory_same m below =
      bytes_one (page_in pages) (length pages + 1) (8 + m) (directory_first (page_in pages 1) m) (state.directory m)
      (bytes_at kept.directories.items m)
      (state.directories m below)
      (record {
        ns = pages_at kept.directories.items m;
        has = subst (λ (l : List ℕ). HasPages (page_in pages) (length pages + 1) (8 + m) (directory_first l m)
            (pages_at kept.directories.items m)) keeps.front (keeps.has m below);
        held = keeps.held m below;
      })

  first_is : (n : ℕ) → IsOwner n → kept_first kept n ≡ first_in (page_in pages 1) state.directory n
  first_is n owner =
      ap (λ (l : List ℕ). first_in l (bytes_at kept.directories.items) n) keeps.front
      ∙ first_same (page_in pages 1) (bytes_at kept.directories.items) state.directory (λ m below. sym (directory_same m below)) n owner

  sound : IsSound (page_in pages) (length pages + 1) (kept_first kept)
  sound = sound_agree (page_in pages) (page_in pages) (length pages + 1) (first_in (page_in pages 1) state.directory) (kept_first kept)
      (λ n above below. refl) first_is state.sound

  may : All (MayFill root.buckets) (base_parts (root.buckets == buckets_in kept.front.items) root.buckets 8 kept.directories.items)
  may = bases_fill root.buckets (buckets_in kept.front.items) kept.directories.items kept.eight kept.long

  own : AreParts (page_in pages) (length pages + 1) (kept_first kept) parts
  own = gathered_are pages kept written read before root.buckets known marked long stored parts gathered.each gathered.apart

  directory_at : (m : ℕ) → 8 + m < 16 → kept_first kept (8 + m) ≡ directory_first kept.front.items m
  directory_at m below =
      first_in-root kept.front.items (bytes_at kept.directories.items) (8 + m) below
      ∙ ap (λ (k : ℕ). number kept.front.items k) (let place : 48 + 8 * (8 + m) ≡ 112 + 8 * m = omega arith in place)

  theirs : AreParts (page_in pages) (length pages + 1) (kept_first kept)
      (map (filled root.buckets is.dealt.chains.items)
      (base_parts (root.buckets == buckets_in kept.front.items) root.buckets 8 kept.directories.items))
  theirs = directories_are (root.buckets == buckets_in kept.front.items) root.buckets is.dealt.chains.items (page_in pages)
      (length pages + 1) (kept_first kept) 8 kept.directories.items (omega (arith, kept.eight)) (λ m below.
      let low : m < 8 = omega (arith, below, kept.eight) in
      let here = sym (directory_at m (omega (arith, low))) in
      let chain : 8 + m ≢ FREE = λ free_chain. absurd (omega (arith, free_chain, low)) in (
        subst (λ (k : ℕ). HasPages (page_in pages) (length pages + 1) (8 + m) k (pages_at kept.directories.items m)) here (keeps.has m low),
        was_written (page_in pages) (length pages + 1) (8 + m) chain long (directory_first kept.front.items m)
            (pages_at kept.directories.items m)
            (bytes_at kept.directories.items m) (keeps.has m low).path (keeps.held m low),
      ))

  eight_more : 8 + length kept.directories.items ≡ 16
  eight_more = omega (arith, kept.eight)

  no_theirs : (n : ℕ) → (n < 16 → n < 8) → IsNoPart n is.dealt.directories.items
  no_theirs n low = subst (λ (l : List Laid). IsNoPart n l) (sym is.is.directories)
      (no_directory (root.buckets == buckets_in kept.front.items) root.buckets is.dealt.chains.items n 8 kept.directories.items
      (drop (growth parts) (whole_pool parts (base_parts
      (root.buckets == buckets_in kept.front.items) root.buckets 8 kept.directories.items) free (length pages + 1)))
      (elim (cases_lt n 16) [
        | inl below ↦ inl (low below)
        | inr above ↦ inr (omega (arith, above, eight_more))
      ]))

  clear : AreClear is.dealt.chains.items is.dealt.directories.items
  clear = subst (λ (l : List Laid). AreClear l is.dealt.directories.items) (sym is.is.chains)
      (clear_of written read before root.buckets parts
      (whole_pool parts (base_parts (root.buckets == buckets_in kept.front.items) root.buckets 8 kept.directories.items) free
      (length pages + 1)) is.dealt.directories.items gathered.each stored no_theirs)

  some : 2 ≤ length pages + 1
  some = omega (arith, keeps.some)

  end_is : length pages + 1 + more_of parts
      (base_parts (root.buckets == buckets_in kept.front.items) root.buckets 8 kept.directories.items) free ≡ plan.home
  end_is = sym (is.end_is ∙ is.is.last)

  pub new_front : List ℕ
  new_front = plan.kept.front.items

  part_written : (n : ℕ) (ps bytes : List ℕ) → IsPart n ps bytes is.dealt.chains.items → finite.get written n ≡ Some bytes
  part_written n ps bytes part =
      laid_part written read before parts (whole_pool parts
      (base_parts (root.buckets == buckets_in kept.front.items) root.buckets 8 kept.directories.items) free (length pages + 1)) n ps
      bytes gathered.each
      (subst (λ (l : List Laid). IsPart n ps bytes l) is.is.chains part)

  chains_are : (n : ℕ) (ps bytes : List ℕ) → IsPart n ps bytes is.dealt.chains.items
      → (n < CHAIN_END) × (n < 16 → n < 8) × (16 ≤ n → (ps ≡ []) ⊎ ((n - 16) % 65536 < root.buckets))
  chains_are n ps bytes part =
      let fact = stored n bytes (part_written n ps bytes part) in (
        fact.1,
        fact.2,
        λ above. elim (none_or bytes) [
          | inl none ↦ inl (part_none parts (whole_pool parts
              (base_parts (root.buckets == buckets_in kept.front.items) root.buckets 8 kept.directories.items) free (length pages + 1)) n ps
              bytes (subst (λ (l : List Laid). IsPart n ps bytes l) is.is.chains part) none)
          | inr full ↦ inr (fact.3 above full)
        ],
      )

  none_written : (n : ℕ) → IsNoPart n is.dealt.chains.items → finite.get written n ≡ None
  none_written n none = gathered.whole n (no_number_of n parts
      (whole_pool parts (base_parts (root.buckets == buckets_in kept.front.items) root.buckets 8 kept.directories.items) free
      (length pages + 1))
      (subst (λ (l : List Laid). IsNoPart n l) is.is.chains none))

  gone_is : (root.buckets == buckets_in kept.front.items) ≡ false → (n : ℕ) → 16 ≤ n → IsChain n → IsNoPart n is.dealt.chains.items
      → kept_first kept n ≡ 0
  gone_is other n above chain none =
      gone (λ equal. eqb-false root.buckets (buckets_in kept.front.items) other equal) n above chain (none_written n none)

  small_new : (p : ℕ) → 1 ≤ times_new p (is.dealt.chains.items ++ is.dealt.directories.items) → p < 2 ^ 64
  small_new p there =
      let inside = dealt_inside (page_in pages) (length pages + 1)
      (more_of parts (base_parts (root.buckets == buckets_in kept.front.items) root.buckets 8 kept.directories.items) free)
      (kept_first kept) (is.dealt.chains.items ++ is.dealt.directories.items)
      (take (wanted parts (base_parts (root.buckets == buckets_in kept.front.items) root.buckets 8 kept.directories.items) - length
      (spare_of parts (base_parts (root.buckets == buckets_in kept.front.items) root.buckets 8 kept.directories.items))) free)
      is.dealt.left.items (kept_free parts (base_parts (root.buckets == buckets_in kept.front.items) root.buckets 8 kept.directories.items)
      free)
      (covered (page_in pages) (length pages + 1) (kept_first kept) parts
      (base_parts (root.buckets == buckets_in kept.front.items) root.buckets 8 kept.directories.items) root.buckets free is.dealt sound
      some free_is may is.is own theirs clear)
      p (omega (arith, there)) in
      omega (arith, inside.1, end_is, is.end_small)

  small_chains : (p : ℕ) → 1 ≤ times_new p is.dealt.chains.items → p < 2 ^ 64
  small_chains p there = small_new p (omega (arith, there, times_new-append p is.dealt.chains.items is.dealt.directories.items))

  small_directories : (p : ℕ) → 1 ≤ times_new p is.dealt.directories.items → p < 2 ^ 64
  small_directories p there = small_new p (omega (arith, there, times_new-append p is.dealt.chains.items is.dealt.directories.items))

  front_long : length kept.front.items ≡ 4096
  front_long = kept.page

  firsts : (n : ℕ) → n < 16 → number plan.kept.front.items (48 + 8 * n)
      ≡ begins_at is.dealt.directories.items n (begins_at is.dealt.chains.items n (number kept.front.items (48 + 8 * n)))
  firsts n below =
      ap (λ (l : List ℕ). number l (48 + 8 * n)) is.front_is
      ∙ root_firsts kept.front.items root is.dealt.«end»
      (head_or is.dealt.left.items is.dealt.tail) is.dealt.chains.items is.dealt.directories.items front_long
      small_chains small_directories n below

  -- the same, with the directories as they were laid
  abbrev laid : List Laid
  laid = laid_all (map (filled root.buckets is.dealt.chains.items)
      (base_parts (root.buckets == buckets_in kept.front.items) root.buckets 8 kept.directories.items))
      (drop (growth parts) (whole_pool parts (base_parts
      (root.buckets == buckets_in kept.front.items) root.buckets 8 kept.directories.items) free (length pages + 1)))

  abbrev next : ℕ → ℕ
  next n = first_in plan.kept.front.items (laid_bytes_at is.dealt.directories.items) n

  mine_old : AreOld (page_in pages) (length pages + 1) (kept_first kept) is.dealt.chains.items
  mine_old = subst (λ (l : List Laid). AreOld (page_in pages) (length pages + 1) (kept_first kept) l) (sym is.is.chains)
      (laid_old (page_in pages) (length pages + 1) (kept_first kept) parts
      (whole_pool parts (base_parts (root.buckets == buckets_in kept.front.items) root.buckets 8 kept.directories.items) free
      (length pages + 1)) own)

  theirs_old : AreOld (page_in pages) (length pages + 1) (kept_first kept) laid
  theirs_old = laid_old (page_in pages) (length pages + 1) (kept_first kept)
      (map (filled root.buckets is.dealt.chains.items)
      (base_parts (root.buckets == buckets_in kept.front.items) root.buckets 8 kept.directories.items))
      (drop (growth parts) (whole_pool parts (base_parts
      (root.buckets == buckets_in kept.front.items) root.buckets 8 kept.directories.items) free (length pages + 1))) theirs

  firsts_laid : (n : ℕ) → n < 16 → number plan.kept.front.items (48 + 8 * n)
      ≡ begins_at laid n (begins_at is.dealt.chains.items n (number kept.front.items (48 + 8 * n)))
  firsts_laid = subst (λ (l : List Laid). (n : ℕ) → n < 16 → number plan.kept.front.items (48 + 8 * n)
      ≡ begins_at l n (begins_at is.dealt.chains.items n (number kept.front.items (48 + 8 * n)))) is.is.directories firsts

  same_count : (root.buckets == buckets_in kept.front.items) ≡ true → root.buckets ≡ buckets_in kept.front.items
  same_count equal = eqb-true root.buckets (buckets_in kept.front.items) equal

  begins : Begin (λ n. first_in plan.kept.front.items (laid_bytes_at is.dealt.directories.items) n)
      (is.dealt.chains.items ++ is.dealt.directories.items)
  begins = subst (λ (l : List Laid). Begin (λ n. first_in plan.kept.front.items (laid_bytes_at l) n) (is.dealt.chains.items ++ l))
      (sym is.is.directories)
      (all_begin (page_in pages) (length pages + 1) kept.front.items plan.kept.front.items kept.directories.items
      (root.buckets == buckets_in kept.front.items) (buckets_in kept.front.items) root.buckets is.dealt.chains.items
      (drop (growth parts) (whole_pool parts (base_parts
      (root.buckets == buckets_in kept.front.items) root.buckets 8 kept.directories.items) free (length pages + 1)))
      (kept_first kept) (λ n. refl) kept.eight kept.long few same_count gone_is mine_old theirs_old chains_are small_chains firsts_laid)

  others : (n : ℕ) → IsChain n → IsNoPart n (is.dealt.chains.items ++ is.dealt.directories.items)
      → first_in plan.kept.front.items (laid_bytes_at is.dealt.directories.items) n ≡ kept_first kept n
  others = subst (λ (l : List Laid). (n : ℕ) → IsChain n → IsNoPart n (is.dealt.chains.items ++ l)
      → first_in plan.kept.front.items (laid_bytes_at l) n ≡ kept_first kept n) (sym is.is.directories)
      (other_begins (page_in pages) (length pages + 1) kept.front.items plan.kept.front.items kept.directories.items
      (root.buckets == buckets_in kept.front.items) (buckets_in kept.front.items) root.buckets is.dealt.chains.items
      (drop (growth parts) (whole_pool parts (base_parts
      (root.buckets == buckets_in kept.front.items) root.buckets 8 kept.directories.items) free (length pages + 1)))
      (kept_first kept) (λ n. refl) kept.eight kept.long few same_count gone_is mine_old theirs_old chains_are small_chains firsts_laid)

  spare_small : (p : ℕ) → 1 ≤ times p is.dealt.left.items
      + times p (kept_free parts (base_parts (root.buckets == buckets_in kept.front.items) root.buckets 8 kept.directories.items) free)
      → p < 2 ^ 64
  spare_small p there =
      let inside = dealt_inside (page_in pages) (length pages + 1)
      (more_of parts (base_parts (root.buckets == buckets_in kept.front.items) root.buckets 8 kept.directories.items) free)
      (kept_first kept) (is.dealt.chains.items ++ is.dealt.directories.items)
      (take (wanted parts (base_parts (root.buckets == buckets_in kept.front.items) root.buckets 8 kept.directories.items) -
      length (spare_of parts (base_parts (root.buckets == buckets_in kept.front.items) root.buckets 8
      kept.directories.items))) free) is.dealt.left.items
      (kept_free parts (base_parts (root.buckets == buckets_in kept.front.items) root.buckets 8
      kept.directories.items) free) (covered (page_in pages) (length pages + 1) (kept_first kept) parts
      (base_parts (root.buckets == buckets_in kept.front.items) root.buckets 8 kept.directories.items)
      root.buckets free is.dealt sound some free_is may is.is own theirs clear) p
      (omega (arith, there)) in
      omega (arith, inside.1, end_is, is.end_small)

  free_small : head_or is.dealt.left.items is.dealt.tail < 2 ^ 64
  free_small = subst (λ (t : ℕ). head_or is.dealt.left.items t < 2 ^ 64) (sym is.is.tail)
      (head_spare is.dealt.left.items (kept_free parts
      (base_parts (root.buckets == buckets_in kept.front.items) root.buckets 8 kept.directories.items) free) spare_small)

  new_is : plan.kept.front.items ≡ root_bytes kept.front.items root is.dealt.«end»
      (head_or is.dealt.left.items is.dealt.tail) is.dealt.chains.items is.dealt.directories.items
  new_is = is.front_is

  free_begins : first_in plan.kept.front.items (laid_bytes_at is.dealt.directories.items) FREE ≡ head_or is.dealt.left.items is.dealt.tail
  free_begins =
      first_in-free plan.kept.front.items (laid_bytes_at is.dealt.directories.items) FREE refl
      ∙ ap (λ (l : List ℕ). number l 40) new_is
      ∙ root_free kept.front.items root is.dealt.«end»
      (head_or is.dealt.left.items is.dealt.tail) is.dealt.chains.items is.dealt.directories.items front_long free_small

  end_fits : length pages + 1 + more_of parts
      (base_parts (root.buckets == buckets_in kept.front.items) root.buckets 8 kept.directories.items) free ≤ 2 ^ 64
  end_fits = omega (arith, end_is, is.end_small)

  abbrev whole_set : PageMap
  whole_set = finite.insert (puts (puts finite.empty (laid_pairs (is.dealt.chains.items ++ is.dealt.directories.items)))
      (chain_pairs FREE is.dealt.tail is.dealt.left.items [] [] [])) 1 plan.kept.front.items

  set_whole : plan.set ≡ whole_set
  set_whole = is.set_is
      ∙ set_is (page_in pages) (length pages + 1) (kept_first kept) parts
      (base_parts (root.buckets == buckets_in kept.front.items) root.buckets 8 kept.directories.items) root.buckets free is.dealt sound
      some free_is may is.is own theirs clear plan.kept.front.items end_fits

  is_planned : Planned (page_in pages) (look (page_in pages) whole_set) (length pages + 1)
      (more_of parts (base_parts (root.buckets == buckets_in kept.front.items) root.buckets 8 kept.directories.items) free)
      (kept_first kept)
      (λ n. first_in plan.kept.front.items (laid_bytes_at is.dealt.directories.items) n)
      (is.dealt.chains.items ++ is.dealt.directories.items)
      (take (wanted parts (base_parts (root.buckets == buckets_in kept.front.items) root.buckets 8 kept.directories.items) - length
      (spare_of parts (base_parts (root.buckets == buckets_in kept.front.items) root.buckets 8 kept.directories.items))) free)
      is.dealt.left.items (kept_free parts (base_parts
      (root.buckets == buckets_in kept.front.items) root.buckets 8 kept.directories.items) free)
  is_planned = planned (page_in pages) (length pages + 1) (kept_first kept) parts
      (base_parts (root.buckets == buckets_in kept.front.items) root.buckets 8 kept.directories.items) root.buckets free is.dealt sound some
      free_is may is.is own theirs clear
      plan.kept.front.items end_fits (λ n. first_in plan.kept.front.items (laid_bytes_at is.dealt.directories.items) n) begins free_begins
      others

  -- the home pages from then on
  abbrev renewed : List (List ℕ)
  renewed = overwritten plan.set plan.home pages

  abbrev renewed_home : ℕ
  renewed_home = length (overwritten plan.set plan.home pages) + 1

  page_at : (n : ℕ) → page_or (finite.get plan.set n) (page_in pages n) ≡ look (page_in pages) whole_set n
  page_at n = ap (λ (s : PageMap). page_or (finite.get s n) (page_in pages n)) set_whole

  more_home : 2 ≤ plan.home
  more_home = omega (arith, end_is, some)

  pub renewed_long : length (overwritten plan.set plan.home pages) + 1 ≡ plan.home
  renewed_long = omega (arith, length-up_to (λ n. page_or (finite.get plan.set n) (page_in pages n)) (plan.home - 1), more_home)

  renewed_is : length (overwritten plan.set plan.home pages) + 1 ≡ length pages + 1
      + more_of parts (base_parts (root.buckets == buckets_in kept.front.items) root.buckets 8 kept.directories.items) free
  renewed_is = renewed_long ∙ sym end_is

  agree : (n : ℕ) → 1 ≤ n → n < length pages + 1
      + more_of parts (base_parts (root.buckets == buckets_in kept.front.items) root.buckets 8 kept.directories.items) free
      → page_in (overwritten plan.set plan.home pages) n ≡ look (page_in pages) whole_set n
  agree n above below =
      get_or-up_to (λ k. page_or (finite.get plan.set k) (page_in pages k)) (plan.home - 1) n above (omega (arith, below, end_is))
      ∙ page_at n

  agree_behind : (n : ℕ) → 2 ≤ n → n < length pages + 1
      + more_of parts (base_parts (root.buckets == buckets_in kept.front.items) root.buckets 8 kept.directories.items) free
      → page_in (overwritten plan.set plan.home pages) n ≡ look (page_in pages) whole_set n
  agree_behind n above below = agree n (omega (arith, above)) below

  root_is : page_in (overwritten plan.set plan.home pages) 1 ≡ plan.kept.front.items
  root_is = agree 1 (omega arith) (omega (arith, some))
      ∙ ap (λ (o : Option (List ℕ)). page_or o (page_in pages 1))
      (insert_same (puts (puts finite.empty (laid_pairs (is.dealt.chains.items ++ is.dealt.directories.items)))
      (chain_pairs FREE is.dealt.tail is.dealt.left.items [] [] [])) 1 plan.kept.front.items)

  -- what holds of the pages as they are looked at holds of them
  pub renewed_pages : (n k : ℕ) (ns : List ℕ)
      → HasPages (look (page_in pages) whole_set)
      (length pages + 1 + more_of parts (base_parts (root.buckets == buckets_in kept.front.items) root.buckets 8 kept.directories.items)
      free) n k ns
      → HasPages (page_in (overwritten plan.set plan.home pages)) (length (overwritten plan.set plan.home pages) + 1) n k ns
  renewed_pages n k ns has = subst (λ (h : ℕ). HasPages (page_in (overwritten plan.set plan.home pages)) h n k ns) (sym renewed_is)
      (pages_agree (look (page_in pages) whole_set) (page_in (overwritten plan.set plan.home pages))
      (length pages + 1 + more_of parts (base_parts (root.buckets == buckets_in kept.front.items) root.buckets 8 kept.directories.items)
      free) n agree_behind k ns has)

  renewed_holds : (n k : ℕ) (bytes : List ℕ)
      → Holds (look (page_in pages) whole_set)
      (length pages + 1 + more_of parts (base_parts (root.buckets == buckets_in kept.front.items) root.buckets 8 kept.directories.items)
      free) n k bytes
      → Holds (page_in (overwritten plan.set plan.home pages)) (length (overwritten plan.set plan.home pages) + 1) n k bytes
  renewed_holds n k bytes holds = subst (λ (h : ℕ). Holds (page_in (overwritten plan.set plan.home pages)) h n k bytes) (sym renewed_is)
      (holds_agree (look (page_in pages) whole_set) (page_in (overwritten plan.set plan.home pages))
      (length pages + 1 + more_of parts (base_parts (root.buckets == buckets_in kept.front.items) root.buckets 8 kept.directories.items)
      free) n agree_behind k bytes holds)

  -- a directory is a part
  directory_is : (m : ℕ) → m < 8 → IsPart (8 + m) (laid_pages_at is.dealt.directories.items m) (laid_bytes_at is.dealt.directories.items m)
      (is.dealt.chains.items ++ is.dealt.directories.items)
  directory_is m below = part_right (8 + m) (laid_pages_at is.dealt.directories.items m)
      (laid_bytes_at is.dealt.directories.items m) is.dealt.chains.items is.dealt.directories.items
      (subst (λ (l : List Laid). IsPart (8 + m) (laid_pages_at l m) (laid_bytes_at l m) l) (sym is.is.directories)
      (directory_part (root.buckets == buckets_in kept.front.items) root.buckets is.dealt.chains.items 8 m kept.directories.items
      (drop (growth parts) (whole_pool parts (base_parts
      (root.buckets == buckets_in kept.front.items) root.buckets 8 kept.directories.items) free (length pages + 1)))
      (omega (arith, below, kept.eight))))

  directory_begins : (m : ℕ) → m < 8 → first_in plan.kept.front.items (laid_bytes_at is.dealt.directories.items) (8 + m)
      ≡ directory_first plan.kept.front.items m
  directory_begins m below =
      first_in-root plan.kept.front.items (laid_bytes_at is.dealt.directories.items) (8 + m) (omega (arith, below))
      ∙ ap (λ (k : ℕ). number plan.kept.front.items k) (let place : 48 + 8 * (8 + m) ≡ 112 + 8 * m = omega arith in place)

  directory_holds : (m : ℕ) → m < 8 → Holds (page_in (overwritten plan.set plan.home pages))
      (length (overwritten plan.set plan.home pages) + 1) (8 + m)
      (directory_first plan.kept.front.items m) (laid_bytes_at is.dealt.directories.items m)
  directory_holds m below =
      subst (λ (k : ℕ). Holds (page_in (overwritten plan.set plan.home pages)) (length (overwritten plan.set plan.home pages) + 1) (8 + m) k
      (laid_bytes_at is.dealt.directories.items m))
      (directory_begins m below)
      (renewed_holds (8 + m) (first_in plan.kept.front.items (laid_bytes_at is.dealt.directories.items) (8 + m))
      (laid_bytes_at is.dealt.directories.items m)
      (part_holds (page_in pages) (look (page_in pages) whole_set) (length pages + 1)
      (more_of parts (base_parts (root.buckets == buckets_in kept.front.items) root.buckets 8 kept.directories.items) free)
      (kept_first kept)
      (λ n. first_in plan.kept.front.items (laid_bytes_at is.dealt.directories.items) n)
      (is.dealt.chains.items ++ is.dealt.directories.items)
      (take (wanted parts (base_parts (root.buckets == buckets_in kept.front.items) root.buckets 8 kept.directories.items) - length
      (spare_of parts (base_parts (root.buckets == buckets_in kept.front.items) root.buckets 8 kept.directories.items))) free)
      is.dealt.left.items (kept_free parts (base_parts
      (root.buckets == buckets_in kept.front.items) root.buckets 8 kept.directories.items) free) is_planned
      (8 + m) (laid_pages_at is.dealt.directories.items m) (laid_bytes_at is.dealt.directories.items m) (directory_is m below)))

  directory_pages : (m : ℕ) → m < 8 → HasPages (page_in (overwritten plan.set plan.home pages))
      (length (overwritten plan.set plan.home pages) + 1) (8 + m)
      (directory_first plan.kept.front.items m) (laid_pages_at is.dealt.directories.items m)
  directory_pages m below =
      subst (λ (k : ℕ). HasPages (page_in (overwritten plan.set plan.home pages)) (length (overwritten plan.set plan.home pages) + 1)
      (8 + m) k (laid_pages_at is.dealt.directories.items m))
      (directory_begins m below)
      (renewed_pages (8 + m) (first_in plan.kept.front.items (laid_bytes_at is.dealt.directories.items) (8 + m))
      (laid_pages_at is.dealt.directories.items m)
      (part_pages (page_in pages) (look (page_in pages) whole_set) (length pages + 1)
      (more_of parts (base_parts (root.buckets == buckets_in kept.front.items) root.buckets 8 kept.directories.items) free)
      (kept_first kept)
      (λ n. first_in plan.kept.front.items (laid_bytes_at is.dealt.directories.items) n)
      (is.dealt.chains.items ++ is.dealt.directories.items)
      (take (wanted parts (base_parts (root.buckets == buckets_in kept.front.items) root.buckets 8 kept.directories.items) - length
      (spare_of parts (base_parts (root.buckets == buckets_in kept.front.items) root.buckets 8 kept.directories.items))) free)
      is.dealt.left.items (kept_free parts (base_parts
      (root.buckets == buckets_in kept.front.items) root.buckets 8 kept.directories.items) free) is_planned
      (8 + m) (laid_pages_at is.dealt.directories.items m) (laid_bytes_at is.dealt.directories.items m) (directory_is m below)))

  directory_data : (m : ℕ) → m < 8 → data_in (page_in (overwritten plan.set plan.home pages)) (laid_pages_at is.dealt.directories.items m)
      ≡ laid_bytes_at is.dealt.directories.items m
  directory_data m below =
      data_agrees (look (page_in pages) whole_set) (page_in (overwritten plan.set plan.home pages))
      (length pages + 1 + more_of parts (base_parts (root.buckets == buckets_in kept.front.items) root.buckets 8 kept.directories.items)
      free) (8 + m) agree_behind
      (first_in plan.kept.front.items (laid_bytes_at is.dealt.directories.items) (8 + m)) (laid_pages_at is.dealt.directories.items m)
      (part_pages (page_in pages) (look (page_in pages) whole_set) (length pages + 1)
      (more_of parts (base_parts (root.buckets == buckets_in kept.front.items) root.buckets 8 kept.directories.items) free)
      (kept_first kept)
      (λ n. first_in plan.kept.front.items (laid_bytes_at is.dealt.directories.items) n)
      (is.dealt.chains.items ++ is.dealt.directories.items)
      (take (wanted parts (base_parts (root.buckets == buckets_in kept.front.items) root.buckets 8 kept.directories.items) - length
      (spare_of parts (base_parts (root.buckets == buckets_in kept.front.items) root.buckets 8 kept.directories.items))) free)
      is.dealt.left.items (kept_free parts (base_parts
      (root.buckets == buckets_in kept.front.items) root.buckets 8 kept.directories.items) free) is_planned
      (8 + m) (laid_pages_at is.dealt.directories.items m) (laid_bytes_at is.dealt.directories.items m) (directory_is m below))
      ∙ part_data (page_in pages) (look (page_in pages) whole_set) (length pages + 1)
      (more_of parts (base_parts (root.buckets == buckets_in kept.front.items) root.buckets 8 kept.directories.items) free)
      (kept_first kept)
      (λ n. first_in plan.kept.front.items (laid_bytes_at is.dealt.directories.items) n)
      (is.dealt.chains.items ++ is.dealt.directories.items)
      (take (wanted parts (base_parts (root.buckets == buckets_in kept.front.items) root.buckets 8 kept.directories.items) - length
      (spare_of parts (base_parts (root.buckets == buckets_in kept.front.items) root.buckets 8 kept.directories.items))) free)
      is.dealt.left.items (kept_free parts (base_parts
      (root.buckets == buckets_in kept.front.items) root.buckets 8 kept.directories.items) free) is_planned
      (8 + m) (laid_pages_at is.dealt.directories.items m) (laid_bytes_at is.dealt.directories.items m) (directory_is m below)

  pages_kept : (m : ℕ) → pages_at plan.kept.directories.items m ≡ laid_pages_at is.dealt.directories.items m
  pages_kept m = pages_from plan.kept.directories.items is.dealt.directories.items m is.pages_are

  bytes_kept : (m : ℕ) → bytes_at plan.kept.directories.items m ≡ laid_bytes_at is.dealt.directories.items m
  bytes_kept m = bytes_from plan.kept.directories.items is.dealt.directories.items m is.bytes_are

  pub renewed_keeps : Keeps (overwritten plan.set plan.home pages) plan.kept
  renewed_keeps = record {
    front = sym root_is;
    some = omega (arith, renewed_long, more_home);
    has = λ m below. subst (λ (ns : List ℕ).
        HasPages (page_in (overwritten plan.set plan.home pages)) (length (overwritten plan.set plan.home pages) + 1) (8 + m)
        (directory_first plan.kept.front.items m) ns) (sym (pages_kept m)) (directory_pages m below);
    held = λ m below. ap (λ (ns : List ℕ). data_in (page_in (overwritten plan.set plan.home pages)) ns) (pages_kept m)
        ∙ directory_data m below ∙ sym (bytes_kept m);
  }

  is_count : IsCount root.buckets
  is_count = elim (same_or root.buckets (buckets_in kept.front.items)) [
    | inl equal ↦ subst IsCount (sym (equal ∙ ap (λ (l : List ℕ). buckets_in l) keeps.front ∙ ap (λ (r : Root). r.buckets) state.fields))
        state.count
    | inr other ↦ inr (count other, few)
  ]

  each_holds : (n : ℕ) → (n < 8) ⊎ (16 ≤ n) → IsChain n
      → Holds (look (page_in pages) whole_set)
      (length pages + 1 + more_of parts (base_parts (root.buckets == buckets_in kept.front.items) root.buckets 8 kept.directories.items)
      free) n
      (first_in plan.kept.front.items (laid_bytes_at is.dealt.directories.items) n) (changed strings written n)
  each_holds n apart chain = elim (part_or n (is.dealt.chains.items ++ is.dealt.directories.items)) [
    | inl none ↦
        let unwritten : finite.get written n ≡ None =
        none_written n (no_part-both n is.dealt.chains.items is.dealt.directories.items none).0 in
        subst (λ (o : Option (List ℕ)). Holds (look (page_in pages) whole_set)
        (length pages + 1 + more_of parts (base_parts
        (root.buckets == buckets_in kept.front.items) root.buckets 8 kept.directories.items) free) n
        (first_in plan.kept.front.items (laid_bytes_at is.dealt.directories.items) n) (own_or o (strings n))) (sym unwritten)
        (other_holds (page_in pages) (look (page_in pages) whole_set) (length pages + 1)
        (more_of parts (base_parts (root.buckets == buckets_in kept.front.items) root.buckets 8 kept.directories.items) free)
        (kept_first kept)
        (λ n. first_in plan.kept.front.items (laid_bytes_at is.dealt.directories.items) n)
        (is.dealt.chains.items ++ is.dealt.directories.items)
        (take (wanted parts (base_parts (root.buckets == buckets_in kept.front.items) root.buckets 8 kept.directories.items) - length
        (spare_of parts (base_parts (root.buckets == buckets_in kept.front.items) root.buckets 8 kept.directories.items))) free)
        is.dealt.left.items (kept_free parts (base_parts
        (root.buckets == buckets_in kept.front.items) root.buckets 8 kept.directories.items) free) is_planned
        n (strings n) chain none
        (subst (λ (k : ℕ). Holds (page_in pages) (length pages + 1) n k (strings n)) (sym (first_is n (inr chain)))
        (state.each n apart chain)))
    | inr part ↦ elim (part_cases n part.0 part.1 is.dealt.chains.items is.dealt.directories.items part.2) [
      | inl mine ↦
          subst (λ (o : Option (List ℕ)). Holds (look (page_in pages) whole_set)
          (length pages + 1 + more_of parts (base_parts
          (root.buckets == buckets_in kept.front.items) root.buckets 8 kept.directories.items) free) n
          (first_in plan.kept.front.items (laid_bytes_at is.dealt.directories.items) n) (own_or o (strings n)))
          (sym (part_written n part.0 part.1 mine))
          (part_holds (page_in pages) (look (page_in pages) whole_set) (length pages + 1)
          (more_of parts (base_parts (root.buckets == buckets_in kept.front.items) root.buckets 8 kept.directories.items) free)
          (kept_first kept)
          (λ n. first_in plan.kept.front.items (laid_bytes_at is.dealt.directories.items) n)
          (is.dealt.chains.items ++ is.dealt.directories.items)
          (take (wanted parts (base_parts (root.buckets == buckets_in kept.front.items) root.buckets 8 kept.directories.items) - length
          (spare_of parts (base_parts (root.buckets == buckets_in kept.front.items) root.buckets 8 kept.directories.items))) free)
          is.dealt.left.items (kept_free parts (base_parts
          (root.buckets == buckets_in kept.front.items) root.buckets 8 kept.directories.items) free) is_planned
          n part.0 part.1 part.2)
      | inr theirs_part ↦
          let number_is = directory_number (root.buckets == buckets_in kept.front.items) root.buckets is.dealt.chains.items n 8
          kept.directories.items
          (drop (growth parts) (whole_pool parts (base_parts
          (root.buckets == buckets_in kept.front.items) root.buckets 8 kept.directories.items) free (length pages + 1))) part.0 part.1
          (subst (λ (l : List Laid). IsPart n part.0 part.1 l) is.is.directories theirs_part) in
          absurd (omega (arith, apart, number_is.0, number_is.1, kept.eight))
    ]
  ]

  pub renewed_state : IsState root (changed strings written) (overwritten plan.set plan.home pages)
  renewed_state = record {
    some = omega (arith, renewed_long, more_home);
    fields = ap (λ (l : List ℕ). root_in l) (root_is ∙ new_is)
        ∙ root_fields kept.front.items root is.dealt.«end»
        (head_or is.dealt.left.items is.dealt.tail) is.dealt.chains.items is.dealt.directories.items front_long is.small;
    count = is_count;
    directory = laid_bytes_at is.dealt.directories.items;
    directories = λ m below. subst (λ (l : List ℕ).
        Holds (page_in (overwritten plan.set plan.home pages)) (length (overwritten plan.set plan.home pages) + 1) (8 + m)
        (directory_first l m) (laid_bytes_at is.dealt.directories.items m)) (sym root_is) (directory_holds m below);
    long = λ m below. laid_long (root.buckets == buckets_in kept.front.items) root.buckets
        (buckets_in kept.front.items) is.dealt.chains.items kept.directories.items
        (drop (growth parts) (whole_pool parts (base_parts
        (root.buckets == buckets_in kept.front.items) root.buckets 8 kept.directories.items) free (length pages + 1)))
        is.dealt.directories.items is.is.directories kept.eight same_count kept.long m below;
    sound = subst (λ (l : List ℕ). IsSound (page_in (overwritten plan.set plan.home pages))
        (length (overwritten plan.set plan.home pages) + 1)
        (first_in l (laid_bytes_at is.dealt.directories.items))) (sym root_is)
        (subst (λ (h : ℕ). IsSound (page_in (overwritten plan.set plan.home pages)) h
        (first_in plan.kept.front.items (laid_bytes_at is.dealt.directories.items))) (sym renewed_is)
        (sound_agree (look (page_in pages) whole_set) (page_in (overwritten plan.set plan.home pages))
        (length pages + 1 + more_of parts (base_parts
        (root.buckets == buckets_in kept.front.items) root.buckets 8 kept.directories.items) free)
        (first_in plan.kept.front.items (laid_bytes_at is.dealt.directories.items))
        (first_in plan.kept.front.items (laid_bytes_at is.dealt.directories.items))
        agree_behind (λ n owner. refl)
        (new_sound (page_in pages) (look (page_in pages) whole_set) (length pages + 1)
        (more_of parts (base_parts (root.buckets == buckets_in kept.front.items) root.buckets 8 kept.directories.items) free)
        (kept_first kept)
        (λ n. first_in plan.kept.front.items (laid_bytes_at is.dealt.directories.items) n)
        (is.dealt.chains.items ++ is.dealt.directories.items)
        (take (wanted parts (base_parts (root.buckets == buckets_in kept.front.items) root.buckets 8 kept.directories.items) - length
        (spare_of parts (base_parts (root.buckets == buckets_in kept.front.items) root.buckets 8 kept.directories.items))) free)
        is.dealt.left.items (kept_free parts (base_parts
        (root.buckets == buckets_in kept.front.items) root.buckets 8 kept.directories.items) free) is_planned)));
    each = λ n apart chain. subst (λ (l : List ℕ).
        Holds (page_in (overwritten plan.set plan.home pages)) (length (overwritten plan.set plan.home pages) + 1) n
        (first_in l (laid_bytes_at is.dealt.directories.items) n) (changed strings written n)) (sym root_is)
        (renewed_holds n (first_in plan.kept.front.items (laid_bytes_at is.dealt.directories.items) n) (changed strings written n)
        (each_holds n apart chain));
  }

  -- it has just the pages that are needed
  pub renewed_needed : plan.home ≡ needed (length pages + 1) root.buckets (changed strings written)
  renewed_needed =
      let laid_is_long = laid_long (root.buckets == buckets_in kept.front.items) root.buckets
      (buckets_in kept.front.items) is.dealt.chains.items kept.directories.items
      (drop (growth parts) (whole_pool parts (base_parts
      (root.buckets == buckets_in kept.front.items) root.buckets 8 kept.directories.items) free (length pages + 1)))
      is.dealt.directories.items is.is.directories kept.eight same_count kept.long in
      let all = planned_counted (page_in pages) (look (page_in pages) whole_set) (length pages + 1)
      (more_of parts (base_parts (root.buckets == buckets_in kept.front.items) root.buckets 8 kept.directories.items) free)
      (kept_first kept)
      (λ n. first_in plan.kept.front.items (laid_bytes_at is.dealt.directories.items) n)
      (is.dealt.chains.items ++ is.dealt.directories.items)
      (take (wanted parts (base_parts (root.buckets == buckets_in kept.front.items) root.buckets 8 kept.directories.items) - length
      (spare_of parts (base_parts (root.buckets == buckets_in kept.front.items) root.buckets 8 kept.directories.items))) free)
      is.dealt.left.items (kept_free parts (base_parts
      (root.buckets == buckets_in kept.front.items) root.buckets 8 kept.directories.items) free) is_planned long
      root.buckets (changed strings written) few each_holds
      (λ m below. (
        laid_bytes_at is.dealt.directories.items m,
        part_holds (page_in pages) (look (page_in pages) whole_set) (length pages + 1)
            (more_of parts (base_parts (root.buckets == buckets_in kept.front.items) root.buckets 8 kept.directories.items) free)
            (kept_first kept)
            (λ n. first_in plan.kept.front.items (laid_bytes_at is.dealt.directories.items) n)
            (is.dealt.chains.items ++ is.dealt.directories.items)
            (take (wanted parts (base_parts (root.buckets == buckets_in kept.front.items) root.buckets 8 kept.directories.items) - length
            (spare_of parts (base_parts (root.buckets == buckets_in kept.front.items) root.buckets 8 kept.directories.items))) free)
            is.dealt.left.items (kept_free parts (base_parts
            (root.buckets == buckets_in kept.front.items) root.buckets 8 kept.directories.items) free) is_planned
            (8 + m) (laid_pages_at is.dealt.directories.items m) (laid_bytes_at is.dealt.directories.items m) (directory_is m below),
        laid_is_long m below,
      ))
      (λ n above chain outside.
      let below : (n - 16) / 65536 < 8 = omega (arith, above, chain) in
      first_in-bucket plan.kept.front.items (laid_bytes_at is.dealt.directories.items) n above chain
      ∙ number-beyond (laid_bytes_at is.dealt.directories.items ((n - 16) / 65536)) (8 * ((n - 16) % 65536))
      (omega (arith, laid_is_long ((n - 16) / 65536) below, outside))) in
      sym end_is ∙ needed_from parts (base_parts (root.buckets == buckets_in kept.front.items) root.buckets 8 kept.directories.items) free
      is.dealt.left.items (length pages + 1) (chain_pages root.buckets (changed strings written)) is.is.left all
