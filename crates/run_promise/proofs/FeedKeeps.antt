-- What a store keeps through a feed, and which of its blocks are told then.
use Rattle.std.proofs.Common.{◌≡◌, ◌≤◌, ◌+◌, ◌-◌, ◌⊎◌, ℕ, zero, suc, Bool, true, false, Option, Some, None, List, [], ◌∷◌, ◌++◌}
use Rattle.std.proofs.Common.{length, Result, ⊎_elim, inl, inr, refl, sym, ◌∙◌, ap, subst, arith}
use Rattle.std.proofs.lemmas.List.{append-nil}
use Rattle.std.specs.List.{AllByRecursion, concat}
use Rattle.tile_cover.specs.Table.{BoundsOf}
use Rattle.update_flow.specs.History.{state_after}
use Rattle.update_flow.specs.State.{Holding, State, formatted, imported, outdated, following, Append, changed}
use Rattle.run_promise.specs.declared.fault.Fault.{Fault}
use Rattle.run_promise.specs.declared.fault.Fault.TheVariants as faults
use Rattle.run_promise.specs.declared.files.Files.{Files}
use Rattle.run_promise.specs.Comes.{Breaks, BreaksIn, Comes, IsRefusal, IsRefusedFor, IsStepFault, MayTake, refused, short, unread}
use Rattle.run_promise.specs.CommandOf.{feed_of}
use Rattle.run_promise.specs.Course.{Course, feeds}
use Rattle.run_promise.specs.Courses.{IsDeltaText, course_of, feed_to, feeds_changes, feeds_full}
use Rattle.run_promise.specs.FeedBlocks.{IsFeedBlock, IsPart}
use Rattle.run_promise.specs.Files.{IsBounds, IsChange}
use Rattle.run_promise.specs.Keeps.{Kept, IsFit, first, whole}
use Rattle.run_promise.specs.Progress.{Progress, Ending, at, begun, committed, in_doubt, keeps, opened, past, plus, unknown}
use Rattle.run_promise.specs.Safety.{AcknowledgesBlocks, untold_blocks}
use Rattle.run_promise.specs.World.{Before, GrewBy}
use Rattle.run_promise.proofs.CourseKeeps.{IsAfter, Reaches, doubted, just_opened, reached, stepped, telling, unopened, went_past, wrote}
use Rattle.run_promise.proofs.CourseLaws.{of_store, of_unknown, three}
use Rattle.run_promise.proofs.HistoryLaws.{append_more, length_more}

-- where the output failed, or memory for a text, the last step may go untold
abbrev pub IsLate : Option Fault → Type 0
IsLate fault = (fault ≡ Some faults.WriteFault) ⊎ (fault ≡ Some faults.OutOfMemory)

-- how many steps these blocks tell
abbrev pub told_in : (full : Bool) → List (List ℕ) → ℕ
told_in full blocks = length blocks - untold_blocks full

none_told : (full : Bool) → told_in full [] ≡ 0
none_told false = refl
none_told true = refl

concat-more : (blocks : List (List ℕ)) (text : List ℕ) → concat (blocks ++ text ∷ []) ≡ concat blocks ++ text
concat-more [] text = append-nil text
concat-more (block ∷ blocks) text = ap (λ (own : List ℕ). block ++ own) (concat-more blocks text)
    ∙ sym (append_more block (concat blocks) text)

all_more : (blocks : List (List ℕ)) (text : List ℕ) → AllByRecursion IsFeedBlock blocks → IsFeedBlock text
    → AllByRecursion IsFeedBlock (blocks ++ text ∷ [])
all_more [] text are block = (block, tt)
all_more (one ∷ blocks) text (is, are) block = (is, all_more blocks text are block)

-- behind the block of all tables each block tells a step
told_more : (full : Bool) (blocks : List (List ℕ)) (text : List ℕ) → untold_blocks full ≤ length blocks
    → told_in full (blocks ++ text ∷ []) ≡ told_in full blocks + 1
told_more full blocks text past_full = let more = length_more blocks text in omega (arith, more, past_full)

-- these blocks were told, which tell the steps that the store keeps
record IsFedTo (full : Bool) (total : ℕ) (before : Kept) (blocks : List (List ℕ)) (untold left : ℕ) (done : Progress) : Type 0 where
  after : IsAfter total before (told_in full blocks) untold left done
  are : AllByRecursion IsFeedBlock blocks
  is : done.written ≡ concat blocks
  all : told_in full blocks + untold + left ≡ total

-- the same at an end, where a block may be told in part
pub record IsFedAt (full : Bool) (before : Kept) (ending : Ending) : Type 0 where
  pub total : ℕ
  pub blocks : List (List ℕ)
  pub half : ℕ
  pub there : Reaches total IsLate before (told_in full blocks) half ending
  pub are : AllByRecursion IsFeedBlock blocks
  pub is : ending.done.written ≡ concat blocks
  pub within : told_in full blocks + half ≤ total
  pub writing : (ending.writing ≡ [])
      ⊎ (IsFeedBlock ending.writing × (told_in full (blocks ++ ending.writing ∷ []) ≤ told_in full blocks + half))

module _ (full : Bool) (total : ℕ) (before : Kept) where
  fed : (ending own : Ending) → ending ≡ own → IsFedAt full before own → IsFedAt full before ending
  fed ending own is there = subst (IsFedAt full before) (sym is) there

  -- where no text is being told
  at_rest : (blocks : List (List ℕ)) (left : ℕ) (done : Progress) (reading : Option ℕ) (fault : Option Fault)
      → IsFedTo full total before blocks 0 left done
      → IsFedAt full before (record { done = done; reading = reading; writing = []; fault = fault })
  at_rest blocks left done reading fault so = record {
    total = total;
    blocks = blocks;
    half = 0;
    there = reached total IsLate before (told_in full blocks) left done reading fault so.after;
    are = so.are;
    is = so.is;
    within = let all = so.all in omega (arith, all);
    writing = inl refl;
  }

  breaks_fed : (blocks : List (List ℕ)) (left : ℕ) (done : Progress) (ending : Ending) → IsFedTo full total before blocks 0 left done
      → Breaks done ending → IsFedAt full before ending
  breaks_fed blocks left done ending so (inl is) = fed ending _ is (at_rest blocks left done None (Some faults.DiskFault) so)
  breaks_fed blocks left done ending so (inr is) = fed ending _ is (at_rest blocks left done None (Some faults.OutOfMemory) so)

  file_fed : (A : Type 0) (file : ℕ) (told : Option (List ℕ)) (Reads : List ℕ → Result A Fault → Type 0) (blocks : List (List ℕ))
      (left : ℕ) (done : Progress) (ending : Ending) → IsFedTo full total before blocks 0 left done
      → BreaksIn A file told Reads done ending → IsFedAt full before ending
  file_fed A file told Reads blocks left done ending so (unread is) =
      fed ending _ is (at_rest blocks left done (Some file) (Some (faults.ReadFault file)) so)
  file_fed A file told Reads blocks left done ending so (short is) =
      fed ending _ is (at_rest blocks left done (Some file) (Some faults.OutOfMemory) so)
  file_fed A file told Reads blocks left done ending so (refused fault own told_so is) =
      fed ending _ is (at_rest blocks left done (Some file) (Some fault) so)

  read_fed : (blocks : List (List ℕ)) (left file : ℕ) (done : Progress) → IsFedTo full total before blocks 0 left done
      → IsFedTo full total before blocks 0 left (past file done)
  read_fed blocks left file done so = record {
    after = went_past total before (told_in full blocks) left file done so.after;
    are = so.are;
    is = so.is;
    all = so.all;
  }

  module _ (old : Before) where
    -- a block that tells all steps that are untold
    block_fed : (Fits : List ℕ → Type 0) (rest : Course) (blocks : List (List ℕ)) (untold left : ℕ) (done : Progress) (ending : Ending)
        → ((text : List ℕ) → told_in full (blocks ++ text ∷ []) ≡ told_in full blocks + untold)
        → IsFedTo full total before blocks untold left done
        → ((text : List ℕ) → IsFedTo full total before (blocks ++ text ∷ []) 0 left (plus text done)
        → Comes old rest (plus text done) ending → IsFedAt full before ending)
        → Comes old (feeds Fits rest) done ending → IsFedAt full before ending
    block_fed Fits rest blocks untold left done ending more so go (inl is) = fed ending _ is (record {
      total = total;
      blocks = blocks;
      half = 0;
      there = telling total IsLate before (told_in full blocks) 0 untold left [] done faults.OutOfMemory (inr refl) (inr (omega arith))
          so.after;
      are = so.are;
      is = so.is;
      within = let all = so.all in omega (arith, all);
      writing = inl refl;
    })
    block_fed Fits rest blocks untold left done ending more so go (inr (own, block, fits, inl is)) = fed ending _ is (record {
      total = total;
      blocks = blocks;
      half = untold;
      there = telling total IsLate before (told_in full blocks) untold untold left own done faults.WriteFault (inl refl) (inr (omega arith))
          so.after;
      are = so.are;
      is = so.is;
      within = let all = so.all in omega (arith, all);
      writing = inr (block, let here = more own in omega (arith, here));
    })
    block_fed Fits rest blocks untold left done ending more so go (inr (own, block, fits, inr comes)) = go own (record {
      after =
          let none : untold - untold ≡ 0 = omega arith in
          subst (λ (count : ℕ). IsAfter total before count 0 left (plus own done)) (sym (more own))
          (subst (λ (untold_now : ℕ). IsAfter total before (told_in full blocks + untold) untold_now left (plus own done)) none
          (wrote total before (told_in full blocks) untold untold left own done (inr (omega arith)) so.after));
      are = all_more blocks own so.are block;
      is = ap (λ (bytes : List ℕ). bytes ++ own) so.is ∙ sym (concat-more blocks own);
      all = let here = more own in let all = so.all in omega (arith, here, all);
    }) comes

    -- each change is read, committed, and told in its block
    changes_fed : (bounds : BoundsOf) (held : Holding) (file count : ℕ) (blocks : List (List ℕ)) (done : Progress) (ending : Ending)
        → untold_blocks full ≤ length blocks → IsFedTo full total before blocks 0 count done
        → Comes old (feeds_changes bounds held file count) done ending → IsFedAt full before ending
    unfolding feeds_changes
    changes_fed bounds held file zero blocks done ending past_full so is = fed ending _ is (at_rest blocks 0 done None None so)
    changes_fed bounds held file (suc count) blocks done ending past_full so (inl breaks) =
        file_fed _ file (old.left file) (IsChange file) blocks (suc count) done ending so breaks
    changes_fed bounds held file (suc count) blocks done ending past_full so (inr (change, told, inl breaks)) =
        breaks_fed blocks (suc count) (past file done) ending (read_fed blocks (suc count) file done so) breaks
    changes_fed bounds held file (suc count) blocks done ending past_full so (inr (change, told, inr c)) =
        let step = Append bounds change in
        let next = changed bounds change held in
        let rest = feeds_changes bounds next (file + 1) count in
        let block = feeds (IsDeltaText held next) rest in
        let own = read_fed blocks (suc count) file done so in
        let further = past file done in
        of_store further.store
        (λ kept. (ending ≡ at (in_doubt step kept further) (Some faults.DiskFault))
        ⊎ IsRefusedFor (IsRefusal old (state_after kept.history) step) further ending
        ⊎ (MayTake old (state_after kept.history) step × Comes old block (committed step kept further) ending))
        (IsRefusedFor (IsStepFault (Some step)) further ending ⊎ Comes old block further ending) (IsFedAt full before ending)
        (λ kept is h. three (λ (doubt : ending ≡ at (in_doubt step kept further) (Some faults.DiskFault)).
        fed ending _ doubt (record {
          total = total;
          blocks = blocks;
          half = 0;
          there = doubted total IsLate before (told_in full blocks) (suc count) step kept further own.after is;
          are = own.are;
          is = own.is;
          within = let all = own.all in omega (arith, all);
          writing = inl refl;
        }))
        (λ (why : IsRefusedFor (IsRefusal old (state_after kept.history) step) further ending).
        fed ending _ why.2 (at_rest blocks (suc count) further None _ own))
        (λ (c : MayTake old (state_after kept.history) step × Comes old block (committed step kept further) ending).
        block_fed (IsDeltaText held next) rest blocks 1 count (committed step kept further) ending
        (λ text. told_more full blocks text past_full)
        (record {
          after =
              let taken : suc count - 1 ≡ count = omega arith in
              subst (λ (left : ℕ). IsAfter total before (told_in full blocks) 1 left (committed step kept further)) taken
              (stepped total before (told_in full blocks) (suc count) step kept further own.after is);
          are = own.are;
          is = own.is;
          all = let all = own.all in omega (arith, all);
        })
        (λ text so comes. changes_fed bounds next (file + 1) count (blocks ++ text ∷ []) (plus text (committed step kept further)) ending
        (let more = length_more blocks text in omega (arith, more, past_full)) so comes) c.1) h)
        (λ un h. absurd (let two : unknown ≡ keeps (whole own.after.now) = sym un ∙ own.after.is in cc)) c

-- a feed behind the opening
module _ (before : Kept) (old : Before) (ending : Ending) where
  -- where all tables are told first, that block tells no step
  full_fed : (full : Bool) (bounds : BoundsOf) (held : Holding) (file count : ℕ) (done : Progress)
      → IsFedTo full count before [] 0 count done
      → Comes old (feeds_full full held (feeds_changes bounds held file count)) done ending → IsFedAt full before ending
  full_fed false bounds held file count done so comes =
      changes_fed false count before old bounds held file count [] done ending (omega arith) so comes
  full_fed true bounds held file count done so (inl breaks) = breaks_fed true count before [] count done ending so breaks
  full_fed true bounds held file count done so (inr (inl why)) =
      absurd (let two : unknown ≡ keeps (whole so.after.now) =
      sym (of_unknown done.store (IsRefusedFor (IsStepFault None) done ending) why).0 ∙ so.after.is in cc)
  full_fed true bounds held file count done so (inr (inr comes)) =
      block_fed true count before old _ (feeds_changes bounds held file count) [] 0 count done ending (λ text. refl) so
      (λ text so comes. changes_fed true count before old bounds held file count (text ∷ []) (plus text done) ending (omega arith) so comes)
      comes

  none_fed : (full : Bool) (cut total : ℕ) → before.least ≤ cut → cut ≤ before.most → IsFit before
      → IsFedTo full total before [] 0 total (opened before cut (begun (keeps before) before.least))
  none_fed full cut total low high fit = record {
    after = just_opened total before (told_in full []) cut low high fit (none_told full);
    are = tt;
    is = refl;
    all = let none = none_told full in omega (arith, none);
  }

  state_fed : (full : Bool) (files : Files) (state : State) (done : Progress)
      → IsFedTo full (files.count - 1) before [] 0 (files.count - 1) done
      → Comes old (feed_to files full state) done ending → IsFedAt full before ending
  state_fed full files formatted done so is =
      fed full (files.count - 1) before ending _ is
      (at_rest full (files.count - 1) before [] (files.count - 1) done None (Some faults.NotImported) so)
  state_fed full files (outdated held) done so is =
      fed full (files.count - 1) before ending _ is
      (at_rest full (files.count - 1) before [] (files.count - 1) done None (Some faults.OldFormat) so)
  state_fed full files (following held) done so is =
      fed full (files.count - 1) before ending _ is
      (at_rest full (files.count - 1) before [] (files.count - 1) done None (Some faults.Follower) so)
  state_fed full files (imported held) done so (inl breaks) =
      file_fed full (files.count - 1) before _ files.first (old.left files.first) (IsBounds files.first) [] (files.count - 1) done ending so
      breaks
  state_fed full files (imported held) done so (inr (bounds, told, comes)) =
      full_fed full bounds held (files.first + 1) (files.count - 1) (past files.first done)
      (read_fed full (files.count - 1) before [] (files.count - 1) files.first done so) comes

  unopened_fed : (full : Bool) (fault : Fault) → IsFit before → ending ≡ at (begun (keeps before) before.least) (Some fault)
      → IsFedAt full before ending
  unopened_fed full fault fit is = fed full 0 before ending _ is (record {
    total = 0;
    blocks = [];
    half = 0;
    there = unopened 0 IsLate before (told_in full []) fit (none_told full) fault;
    are = tt;
    is = refl;
    within = let none = none_told full in omega (arith, none);
    writing = inl refl;
  })

  -- each end of a feed
  pub feed_safe : (store : List ℕ) (files : Files) (full : Bool) (workers : ℕ) → IsFit before
      → Comes old (course_of (feed_of store files full workers)) (begun (keeps before) before.least) ending → IsFedAt full before ending
  feed_safe store files full workers fit (inl (inl is)) = unopened_fed full faults.DiskFault fit is
  feed_safe store files full workers fit (inl (inr is)) = unopened_fed full faults.OutOfMemory fit is
  feed_safe store files full workers fit (inr (cut, low, high, comes)) =
      state_fed full files (state_after (first cut before.history)) (opened before cut (begun (keeps before) before.least))
      (none_fed full cut (files.count - 1) low high fit) comes

-- the front of nothing
no_front : (front rest : List ℕ) → [] ≡ front ++ rest → front ≡ []
no_front [] rest is = refl
no_front (one ∷ front) rest is = absurd (cc)

-- what the output took then
module _ (full : Bool) (before : Kept) (ending : Ending) (so : IsFedAt full before ending) where
  -- it took these blocks, and a part of one more
  abbrev Took : (own : List ℕ) → Type 0
  Took own = AcknowledgesBlocks full so.there.now ending.done.cut so.there.steps ending.fault own

  took_blocks : (blocks : List (List ℕ)) (part own : List ℕ) → AllByRecursion IsFeedBlock blocks → IsPart part
      → own ≡ concat blocks ++ part → told_in full so.blocks ≤ told_in full blocks
      → told_in full blocks ≤ told_in full so.blocks + so.half → Took own
  took_blocks blocks part own are half is least most = record {
    blocks = blocks;
    part = part;
    are = are;
    half = half;
    is = is;
    kept = let within = so.within in so.there.sure (told_in full blocks) (omega (arith, within, most)) most;
    only = λ some write disk memory.
        let owed = so.there.only some (λ late. ⊎_elim write memory late) disk in omega (arith, owed, least);
    last = λ late. let owed = so.there.last late in omega (arith, owed, least);
  }

  took_more : (front rest own : List ℕ) → ending.writing ≡ front ++ rest → own ≡ concat so.blocks ++ front
      → IsFeedBlock ending.writing × (told_in full (so.blocks ++ ending.writing ∷ []) ≤ told_in full so.blocks + so.half) → Took own
  took_more front [] own cut is (block, most) =
      let all : ending.writing ≡ front = cut ∙ append-nil front in
      took_blocks (so.blocks ++ ending.writing ∷ []) [] own (all_more so.blocks ending.writing so.are block) (inl refl)
      (is ∙ ap (λ (bytes : List ℕ). concat so.blocks ++ bytes) (sym all) ∙ sym (concat-more so.blocks ending.writing)
      ∙ sym (append-nil (concat (so.blocks ++ ending.writing ∷ []))))
      (let more = length_more so.blocks ending.writing in omega (arith, more)) most
  took_more front (one ∷ rest) own cut is (block, most) =
      took_blocks so.blocks front own so.are (inr (ending.writing, one ∷ rest, block, cut, λ e. absurd (cc))) is (omega arith) (omega arith)

  took_so : (front rest own : List ℕ) → ending.writing ≡ front ++ rest → own ≡ concat so.blocks ++ front → Took own
  took_so front rest own cut is = ⊎_elim
      (λ (none : ending.writing ≡ []).
      took_blocks so.blocks [] own so.are (inl refl) (is ∙ ap (λ (bytes : List ℕ). concat so.blocks ++ bytes)
      (no_front front rest (sym none ∙ cut))) (omega arith) (omega arith))
      (λ (more : IsFeedBlock ending.writing × (told_in full (so.blocks ++ ending.writing ∷ []) ≤ told_in full so.blocks + so.half)).
      took_more front rest own cut is more) so.writing

  pub takes_blocks : (earlier later : List ℕ) → GrewBy ending.done.written ending.writing earlier later
      → (own : List ℕ) × (later ≡ earlier ++ own) × Took own
  takes_blocks earlier later grew = (
    ending.done.written ++ grew.front,
    grew.grown ∙ append_more earlier ending.done.written grew.front,
    took_so grew.front grew.rest (ending.done.written ++ grew.front) grew.cut (ap (λ (bytes : List ℕ). bytes ++ grew.front) so.is),
  )
