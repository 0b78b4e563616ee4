-- What the plan of a commit makes of a store.
use Rattle.std.proofs.Common.{◌≡◌, ℕ, ◌+◌, ◌-◌, ◌^◌, ◌<◌, ◌≤◌, List, [], ◌∷◌, ◌++◌, length, take, drop, map, Option, None, refl, sym, ap}
use Rattle.std.proofs.Common.{subst, ◌∙◌, arith, length-drop}
use Rattle.std.proofs.lemmas.List.{take-append-drop}
use Rattle.std.specs.List.{All}
use Rattle.std.specs.FinMap as finite
use Rattle.std.specs.Ordering.{nat_cmp}
use Rattle.page_journal.specs.PageSet.{PageMap, page_or}
use Rattle.chain_store.specs.Chain.{HasPages}
use Rattle.chain_store.specs.Directories.{IsChain}
use Rattle.chain_store.specs.Firsts.{MayFill, filled}
use Rattle.chain_store.specs.Pairs.{chain_pairs, laid_pairs, puts}
use Rattle.chain_store.specs.Parts.{AreFreed, AreLaid, AreOld, Begin, IsNoPart, given, growth, head_or, times, times_new, times_old}
use Rattle.chain_store.specs.Parts.{up_from}
use Rattle.chain_store.specs.Plan.{IsDealt, kept_free, more_of, set_of, spare_of, wanted, whole_pool}
use Rattle.chain_store.specs.Planned.{Covered, Planned}
use Rattle.chain_store.specs.State.{IsSound}
use Rattle.chain_store.specs.declared.layout.TheConstants.{FREE}
use Rattle.chain_store.specs.declared.parts.Laid.{Laid}
use Rattle.chain_store.specs.declared.parts.Part.{Part}
use Rattle.chain_store.specs.declared.planning.Dealt.{Dealt}
use Rattle.chain_store.proofs.Deals.{dealt-times, drop-add}
use Rattle.chain_store.proofs.Looked.{AllLook, chain_numbers, insert_other, laid_numbers, look, looks_chain, looks_parts, looks_same}
use Rattle.chain_store.proofs.Looked.{puts_other}
use Rattle.chain_store.proofs.PairLaws.{puts-append}
use Rattle.chain_store.proofs.Parting.{AreClear, AreParts, fine-append, laid_fine, laid_old, laid_pairs-append, old-append}
use Rattle.chain_store.proofs.Parting.{times_new-append, times_old-append}
use Rattle.chain_store.proofs.Pools.{given-filled, growth-filled, pool_enough, pool_left}
use Rattle.chain_store.proofs.LaidParts.{head_along}
use Rattle.chain_store.proofs.Times.{once-same, times-append}
use Rattle.chain_store.proofs.Whole.{dealt_inside, new_once}
use Rattle.chain_store.proofs.WrittenLaws.{AreFine, all_written, freed_looks}

-- all parts look so where they do in pages that are the same
pub all_same : (page f g : ℕ → List ℕ) (parts : List Laid) → ((p : ℕ) → 1 ≤ times_new p parts → g p ≡ f p) → AllLook page f parts
    → AllLook page g parts
all_same page f g [] same looks = tt
all_same page f g (one ∷ others) same looks = (
  looks_same page f g one.number 0 one.pages one.bytes one.old one.same (λ p some. same p (omega (arith, some))) looks.0,
  all_same page f g others (λ p some. same p (omega (arith, some))) looks.1,
)

module _ (home : ℕ) (parts bases : List Part) (count : ℕ) (free : List ℕ) (dealt : Dealt) (may : All (MayFill count) bases)
    (is : IsDealt parts bases count free home dealt) where
  abbrev pub chains : List Laid
  chains = dealt.chains.items

  abbrev pub directories : List Laid
  directories = dealt.directories.items

  abbrev pub left : List ℕ
  left = dealt.left.items

  abbrev pub kept : List ℕ
  kept = kept_free parts bases free

  abbrev pub used : List ℕ
  used = take (wanted parts bases - length (spare_of parts bases)) free

  abbrev pub pool : List ℕ
  pool = whole_pool parts bases free home

  pub whole_free : used ++ kept ≡ free
  whole_free = take-append-drop (wanted parts bases - length (spare_of parts bases)) free

  growth_is : growth (map (filled count chains) bases) ≡ growth bases
  growth_is = growth-filled count chains bases may

  pub rest_enough : growth (map (filled count chains) bases) ≤ length (drop (growth parts) pool)
  rest_enough = omega (arith, growth_is, pool_enough parts bases free home, length-drop (growth parts) pool)

  -- each page is dealt once, and each is one that was there
  pub covers : (p : ℕ) → times_new p (chains ++ directories) + (times p left + times p kept)
      ≡ times_old p (chains ++ directories) + times p (used ++ kept) + times p (up_from home (more_of parts bases free))
  covers p =
      let mine : times_new p chains + times p (drop (growth parts) pool) + times p (given parts) ≡ times_old p chains + times p pool =
      subst (λ (l : List Laid). times_new p l + times p (drop (growth parts) pool) + times p (given parts) ≡ times_old p l + times p pool)
      (sym is.chains)
      (dealt-times p parts pool (omega (arith, pool_enough parts bases free home))) in
      let filled_parts : List Part = map (filled count chains) bases in
      let rest : List ℕ = drop (growth parts) pool in
      let others : times_new p directories + times p (drop (growth filled_parts) rest) + times p (given filled_parts)
      ≡ times_old p directories + times p rest =
      subst (λ (l : List Laid). times_new p l + times p (drop (growth filled_parts) rest) + times p (given filled_parts) ≡ times_old p l
      + times p rest)
      (sym is.directories) (dealt-times p filled_parts rest rest_enough) in
      let behind : times p (drop (growth filled_parts) rest) ≡ times p left + times p kept =
      ap (λ (n : ℕ). times p (drop n rest)) growth_is
      ∙ ap (λ (l : List ℕ). times p l) (sym (drop-add (growth parts) (growth bases) pool) ∙ pool_left parts bases free home)
      ∙ times-append p (drop (wanted parts bases) (spare_of parts bases)) kept
      ∙ ap (λ (l : List ℕ). times p l + times p kept) (sym is.left) in
      let given_is : times p (given filled_parts) ≡ times p (given bases) =
      ap (λ (l : List ℕ). times p l) (given-filled count chains bases may) in
      let all : times p pool ≡ times p (given parts) + times p (given bases) + times p free
      + times p (up_from home (more_of parts bases free)) =
      omega (
        arith,
        times-append p (spare_of parts bases ++ free) (up_from home (more_of parts bases free)),
        times-append p (spare_of parts bases) free,
        times-append p (given parts) (given bases),
      ) in
      omega (
        arith,
        mine,
        others,
        behind,
        given_is,
        all,
        times_new-append p chains directories,
        times_old-append p chains directories,
        ap (λ (l : List ℕ). times p l) whole_free,
      )

module _ (page : ℕ → List ℕ) (home : ℕ) (first : ℕ → ℕ) (parts bases : List Part) (count : ℕ) (free : List ℕ) (dealt : Dealt)
    (sound : IsSound page home first) (some : 2 ≤ home) (free_is : HasPages page home FREE (first FREE) free)
    (may : All (MayFill count) bases)
    (is : IsDealt parts bases count free home dealt)
    (own : AreParts page home first parts)
    (theirs : AreParts page home first (map (filled count dealt.chains.items) bases))
    (clear : AreClear dealt.chains.items dealt.directories.items) where
  pub old_all : AreOld page home first (dealt.chains.items ++ dealt.directories.items)
  old_all = old-append page home first dealt.chains.items dealt.directories.items
      (subst (λ (l : List Laid). AreOld page home first l) (sym is.chains)
      (laid_old page home first parts (whole_pool parts bases free home) own))
      (subst (λ (l : List Laid). AreOld page home first l) (sym is.directories)
      (laid_old page home first (map (filled count dealt.chains.items) bases)
      (drop (growth parts) (whole_pool parts bases free home)) theirs))
      clear

  pub covered : Covered page home (more_of parts bases free) first (dealt.chains.items ++ dealt.directories.items)
      (take (wanted parts bases - length (spare_of parts bases)) free) dealt.left.items (kept_free parts bases free)
  covered = record {
    sound = sound;
    some = some;
    old = old_all;
    free_is = subst (λ (l : List ℕ). HasPages page home FREE (first FREE) l)
        (sym (whole_free home parts bases count free dealt may is)) free_is;
    covers = covers home parts bases count free dealt may is;
  }

  fine : AreFine page (dealt.chains.items ++ dealt.directories.items)
  fine = fine-append page dealt.chains.items dealt.directories.items
      (subst (λ (l : List Laid). AreFine page l) (sym is.chains)
      (laid_fine page home first parts (whole_pool parts bases free home) own (omega (arith, pool_enough parts bases free home))))
      (subst (λ (l : List Laid). AreFine page l) (sym is.directories)
      (laid_fine page home first (map (filled count dealt.chains.items) bases)
      (drop (growth parts) (whole_pool parts bases free home)) theirs (rest_enough home parts bases count free dealt may is)))

  once_all : (p : ℕ) → times_new p (dealt.chains.items ++ dealt.directories.items)
      + (times p dealt.left.items + times p (kept_free parts bases free)) ≤ 1
  once_all p = new_once page home (more_of parts bases free) first (dealt.chains.items ++ dealt.directories.items)
      (take (wanted parts bases - length (spare_of parts bases)) free) dealt.left.items (kept_free parts bases free) covered p

  inside_all : (p : ℕ) → 1 ≤ times_new p (dealt.chains.items ++ dealt.directories.items)
      + (times p dealt.left.items + times p (kept_free parts bases free)) → (2 ≤ p) × (p < home + more_of parts bases free)
  inside_all p there = dealt_inside page home (more_of parts bases free) first (dealt.chains.items ++ dealt.directories.items)
      (take (wanted parts bases - length (spare_of parts bases)) free) dealt.left.items (kept_free parts bases free) covered p there

  module _ (front : List ℕ) (small : home + more_of parts bases free ≤ 2 ^ 64) where
    abbrev set_all : PageMap
    set_all = puts finite.empty (laid_pairs (dealt.chains.items ++ dealt.directories.items))

    abbrev set_free : PageMap
    set_free = puts set_all (chain_pairs FREE dealt.tail dealt.left.items [] [] [])

    pub set_is : set_of dealt.chains.items dealt.directories.items dealt.left.items dealt.tail front ≡ finite.insert set_free 1 front
    set_is = ap (λ (s : PageMap). finite.insert (puts s (chain_pairs FREE dealt.tail dealt.left.items [] [] [])) 1 front)
        (sym (ap (λ l. puts finite.empty l) (laid_pairs-append dealt.chains.items dealt.directories.items)
        ∙ puts-append finite.empty (laid_pairs dealt.chains.items) (laid_pairs dealt.directories.items)))

    abbrev set_whole : PageMap
    set_whole = finite.insert set_free 1 front

    none_yet : (p : ℕ) → finite.get {K = ℕ} {X = List ℕ} {R = nat_cmp} finite.empty p ≡ None
    none_yet p = finite.get-empty nat_cmp p

    small_new : (p : ℕ) → 1 ≤ times_new p (dealt.chains.items ++ dealt.directories.items) → (2 ≤ p) × (p < 2 ^ 64)
    small_new p there = let inside = inside_all p (omega (arith, there)) in (inside.0, omega (arith, inside.1, small))

    -- the parts are written
    pub parts_written : AreLaid (look page set_whole) (dealt.chains.items ++ dealt.directories.items)
    parts_written =
        all_written page (look page set_whole) (dealt.chains.items ++ dealt.directories.items) fine small_new
        (all_same page (look page set_all) (look page set_whole) (dealt.chains.items ++ dealt.directories.items) (λ p there.
        ap (λ (o : Option (List ℕ)). page_or o (page p)) (
        insert_other set_free 1 front p (λ is_root. absurd (omega (arith, is_root, (small_new p there).0)))
        ∙ puts_other p set_all (chain_pairs FREE dealt.tail dealt.left.items [] [] [])
        (omega (arith, there, once_all p, chain_numbers p FREE dealt.tail dealt.left.items [] [] []))))
        (looks_parts page finite.empty (dealt.chains.items ++ dealt.directories.items) (λ p. omega (arith, once_all p))
        (λ p there. none_yet p)))

    kept_small : (l : List ℕ) → ((p : ℕ) → 1 ≤ times p l → p < 2 ^ 64) → head_or l 0 < 2 ^ 64
    kept_small [] low = omega arith
    kept_small (n ∷ ns) low = low n (omega (arith, once-same n n refl))

    tail_small : dealt.tail < 2 ^ 64
    tail_small = subst (λ (t : ℕ). t < 2 ^ 64) (sym is.tail)
        (kept_small (kept_free parts bases free) (λ p there. omega (arith, small, (inside_all p (omega (arith, there))).1)))

    -- what is left is free
    pub left_freed : AreFreed (look page set_whole) dealt.tail dealt.left.items
    left_freed =
        freed_looks page (look page set_whole) dealt.tail dealt.left.items tail_small
        (λ p there. let inside = inside_all p (omega (arith, there)) in (inside.0, omega (arith, inside.1, small)))
        (looks_same page (look page set_free) (look page set_whole) FREE dealt.tail dealt.left.items [] [] [] (λ p there.
        ap (λ (o : Option (List ℕ)). page_or o (page p))
        (insert_other set_free 1 front p (λ is_root. absurd (omega (arith, is_root, (inside_all p (omega (arith, there))).0)))))
        (looks_chain page set_all FREE dealt.tail dealt.left.items [] [] [] (λ p. omega (arith, once_all p)) (λ p there.
        puts_other p finite.empty (laid_pairs (dealt.chains.items ++ dealt.directories.items))
        (omega (arith, there, once_all p, laid_numbers p (dealt.chains.items ++ dealt.directories.items))) ∙ none_yet p)))

    -- other pages stay
    pub others_stay : (p : ℕ) → 2 ≤ p → times_new p (dealt.chains.items ++ dealt.directories.items) ≡ 0 → times p dealt.left.items ≡ 0
        → look page set_whole p ≡ page p
    others_stay p above none none_left = ap (λ (o : Option (List ℕ)). page_or o (page p)) (
        insert_other set_free 1 front p (λ is_root. absurd (omega (arith, is_root, above)))
        ∙ puts_other p set_all (chain_pairs FREE dealt.tail dealt.left.items [] [] [])
        (omega (arith, none_left, chain_numbers p FREE dealt.tail dealt.left.items [] [] []))
        ∙ puts_other p finite.empty (laid_pairs (dealt.chains.items ++ dealt.directories.items))
        (omega (arith, none, laid_numbers p (dealt.chains.items ++ dealt.directories.items)))
        ∙ none_yet p)

    pub planned : (next : ℕ → ℕ) → Begin next (dealt.chains.items ++ dealt.directories.items)
        → next FREE ≡ head_or dealt.left.items dealt.tail
        → ((n : ℕ) → IsChain n → IsNoPart n (dealt.chains.items ++ dealt.directories.items) → next n ≡ first n)
        → Planned page (look page set_whole) home (more_of parts bases free) first next (dealt.chains.items ++ dealt.directories.items)
        (take (wanted parts bases - length (spare_of parts bases)) free) dealt.left.items (kept_free parts bases free)
    planned next begins free_begins others = record {
      covered = covered;
      laid = parts_written;
      freed = subst (λ (t : ℕ). AreFreed (look page set_whole) t dealt.left.items) is.tail left_freed;
      stays = λ p above below none none_left. others_stay p above none none_left;
      begins = begins;
      free_begins = free_begins ∙ ap (λ (t : ℕ). head_or dealt.left.items t) is.tail
          ∙ head_along dealt.left.items (kept_free parts bases free);
      others_begin = others;
    }
