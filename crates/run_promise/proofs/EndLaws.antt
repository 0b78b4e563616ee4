-- What runs that end well have done, by the courses of their commands.
use Rattle.std.proofs.Common.{◌≡◌, ◌⊎◌, ◌≤◌, ℕ, zero, suc, ◌+◌, ◌-◌, Bool, true, false, Option, Some, None, Result, Ok, List, [], ◌∷◌, ◌++◌}
use Rattle.std.proofs.Common.{length, map, flat_map, inl, inr, refl, sym, ◌∙◌, ap, subst, arith}
use Rattle.std.proofs.lemmas.List.{append-nil, map-append}
use Rattle.delta_feed.specs.declared.block.Block.{Block}
use Rattle.osm_base.specs.declared.values.object.Entry.{Entry}
use Rattle.outside.specs.Bytes.{IfTold}
use Rattle.tile_cover.specs.Table.{BoundsOf}
use Rattle.update_flow.specs.History.{History, state_after}
use Rattle.update_flow.specs.State.{Holding, State, Step, formatted, imported, outdated, following, Import, Append, Clear, Follow}
use Rattle.update_flow.specs.State.{after, changed, changes_in}
use Rattle.run_promise.specs.declared.fault.Fault.{Fault}
use Rattle.run_promise.specs.declared.fault.Fault.TheVariants as faults
use Rattle.run_promise.specs.Comes.{AreTold, Breaks, BreaksIn, BreaksWithin, ByStore, Comes, FollowsTo, IsCertain, IsRefusal, IsRefusedFor}
use Rattle.run_promise.specs.Comes.{IsRefusedWithin, IsStepFault, MayTake, TakesWithin, TellsWithin, refused, short, unread}
use Rattle.run_promise.specs.CommandOf.{append_of, feed_of, follow_of, import_of, tiles_of}
use Rattle.run_promise.specs.Course.{Course, commits, ends, feeds, tells, writes}
use Rattle.run_promise.specs.Courses.{IsDeltaText, IsTileText, append_to, appends, clears, course_of, feed_to, feeds_changes, feeds_full}
use Rattle.run_promise.specs.Courses.{finished, follow_to, follows_files, import_into, onward, tiles_of_store, version_line}
use Rattle.run_promise.specs.EndsWell.{AreAccepted, AreFollowed, IsAppended, IsCleared, IsFed, IsFirstImport, IsFollowed, TellChanges}
use Rattle.run_promise.specs.EndsWell.{behind_all, first_block, version_lines, versions_told}
use Rattle.run_promise.specs.Faults.{flow_fault}
use Rattle.run_promise.specs.Files.{IsBounds, IsChange, IsStyle}
use Rattle.run_promise.specs.Followed.{FeedEnd, IsFeed, over, stopped, unseen}
use Rattle.run_promise.specs.Keeps.{Kept, first, whole, with_steps}
use Rattle.run_promise.specs.Progress.{Standing, unknown, keeps, Progress, Ending, IsIn, at, at_file, at_text, begun, committed, in_doubt}
use Rattle.run_promise.specs.Progress.{opened, past, plus, within_file}
use Rattle.run_promise.specs.World.{Before}
use Rattle.run_promise.specs.declared.files.Files.{Files}
use Rattle.run_promise.proofs.CourseLaws.{of_unknown}
use Rattle.run_promise.proofs.HistoryLaws.{append_more, state-more}

-- so many files from this one on were appended, and told so
record WentOn (old : Before) (bounds : BoundsOf) (held : Holding) (file count : ℕ) (history : History) (before : Progress)
    (ending : Ending) (Says : List (List Entry) → Type 0) : Type 0 where
  changes : List (List Entry)
  many : length changes ≡ count
  accepted : AreAccepted old file changes ending.done.read
  still : (own : ℕ) → IsIn before.read own → IsIn ending.done.read own
  kept : ending.done.store ≡ keeps (whole (with_steps (map (λ change. Append bounds change) changes) history))
  told : Says changes

-- these blocks of a file were taken, one after another, and told, and then that came
record TookFile (file : ℕ) (told : List Block) (end : FeedEnd) (state : State) (history : History) (before : Progress)
    (Goes : State → Progress → Type 0) : Type 0 where
  all : end ≡ over
  further : Progress
  kept : further.store ≡ keeps (whole (with_steps (map Follow told) history))
  read : further.read ≡ file ∷ before.read
  written : further.written ≡ before.written ++ versions_told state told
  goes : Goes (behind_all state told) further

-- so many files from this one on were followed
record WentThrough (old : Before) (file count : ℕ) (state : State) (history : History) (before : Progress) (ending : Ending) : Type 0 where
  each : List (List Block)
  many : length each ≡ count
  accepted : AreFollowed old file state each ending.done.read
  still : (own : ℕ) → IsIn before.read own → IsIn ending.done.read own
  kept : ending.done.store ≡ keeps (whole (with_steps (map Follow (flat_map (λ told. told) each)) history))
  told : ending.done.written ≡ before.written ++ versions_told state (flat_map (λ told. told) each)

-- the lines that tell of blocks, and of others behind them
versions-more : (state : State) (told others : List Block)
    → versions_told state (told ++ others) ≡ versions_told state told ++ versions_told (behind_all state told) others
versions-more state [] others = refl
versions-more state (block ∷ told) others =
    let next = after state (Follow block) in
    let line = version_line (changes_in next) in
    ap (λ (own : List ℕ). line ++ own) (versions-more next told others)
    ∙ sym (append_more line (versions_told next told) (versions_told (behind_all next told) others))

module _ (old : Before) (ending : Ending) (well : ending.fault ≡ None) where
  -- a run that ended well ended otherwise than so
  faulty : (P : Type 0) (own : Ending) (fault : Fault) → ending ≡ own → own.fault ≡ Some fault → P
  faulty P own fault is has = absurd (let two : Some fault ≡ None = sym has ∙ ap (λ (end : Ending). end.fault) (sym is) ∙ well in cc)

  breaks_not : (P : Type 0) (done : Progress) → Breaks done ending → P
  breaks_not P done (inl is) = faulty P (at done (Some faults.DiskFault)) faults.DiskFault is refl
  breaks_not P done (inr is) = faulty P (at done (Some faults.OutOfMemory)) faults.OutOfMemory is refl

  in_file : {A : Type 0} (P : Type 0) (file : ℕ) (told : Option (List ℕ)) (Reads : List ℕ → Result A Fault → Type 0) (done : Progress)
      → BreaksIn A file told Reads done ending → P
  in_file P file told Reads done (unread is) = faulty P (at_file file done (faults.ReadFault file)) (faults.ReadFault file) is refl
  in_file P file told Reads done (short is) = faulty P (at_file file done faults.OutOfMemory) faults.OutOfMemory is refl
  in_file P file told Reads done (refused fault own said is) = faulty P (at_file file done fault) fault is refl

  -- a step of a store that keeps this history was taken
  abbrev IsTaken : Step → Course → History → Progress → Type 0
  IsTaken step rest history done = Comes old rest (committed step (whole history) done) ending

  went_known : (step : Step) (rest : Course) (history : History) (done : Progress)
      → (ending ≡ at (in_doubt step (whole history) done) (Some faults.DiskFault))
      ⊎ IsRefusedFor (IsRefusal old (state_after history) step) done ending
      ⊎ (MayTake old (state_after history) step × IsTaken step rest history done) → IsTaken step rest history done
  went_known step rest history done (inl is) =
      faulty _ (at (in_doubt step (whole history) done) (Some faults.DiskFault)) faults.DiskFault is refl
  went_known step rest history done (inr (inl (fault, why, is))) = faulty _ (at done (Some (flow_fault fault))) (flow_fault fault) is refl
  went_known step rest history done (inr (inr (may, comes))) = comes

  went_on : (step : Step) (rest : Course) (history : History) (done : Progress) → done.store ≡ keeps (whole history)
      → Comes old (commits step rest) done ending → IsTaken step rest history done
  went_on step rest history done is (inl breaks) = breaks_not _ done breaks
  went_on step rest history done is (inr comes) =
      went_known step rest history done
      (subst (λ (store : Standing). ByStore store
      (λ kept. (ending ≡ at (in_doubt step kept done) (Some faults.DiskFault))
      ⊎ IsRefusedFor (IsRefusal old (state_after kept.history) step) done ending
      ⊎ (MayTake old (state_after kept.history) step × Comes old rest (committed step kept done) ending))
      (IsRefusedFor (IsStepFault (Some step)) done ending ⊎ Comes old rest done ending)) is comes)

  -- a line was told
  line_told : (text : List ℕ) (rest : Course) (done : Progress) → Comes old (tells text rest) done ending
      → Comes old rest (plus text done) ending
  line_told text rest done (inl is) = faulty _ (at_text text done faults.WriteFault) faults.WriteFault is refl
  line_told text rest done (inr comes) = comes

  -- none was appended
  none_went : (bounds : BoundsOf) (held : Holding) (file : ℕ) (history : History) (done : Progress) (Says : List (List Entry) → Type 0)
      → done.store ≡ keeps (whole history) → ending ≡ at done None → Says []
      → WentOn old bounds held file 0 history done ending Says
  none_went bounds held file history done Says keeps_it is told = record {
    changes = [];
    many = refl;
    accepted = tt;
    still = λ own read. subst (λ (end : Ending). IsIn end.done.read own) (sym is) read;
    kept = ap (λ (end : Ending). end.done.store) is ∙ keeps_it
        ∙ ap (λ (steps : List Step). keeps (whole (record { base = history.base; steps = steps }))) (sym (append-nil history.steps));
    told = told;
  }

  -- one was, and then the others
  one_went : (bounds : BoundsOf) (held : Holding) (file count : ℕ) (history : History) (done further : Progress) (change : List Entry)
      (Says Later : List (List Entry) → Type 0) → further.read ≡ file ∷ done.read
      → IfTold (old.left file) (λ bytes. IsChange file bytes (Ok change))
      → (later : WentOn old bounds (changed bounds change held) (file + 1) count (with_steps (Append bounds change ∷ []) history) further
      ending Later)
      → (Later later.changes → Says (change ∷ later.changes))
      → WentOn old bounds held file (suc count) history done ending Says
  one_went bounds held file count history done further change Says Later read accepted later telling =
      let here : (own : ℕ) → IsIn (file ∷ done.read) own → IsIn ending.done.read own =
      subst (λ (files : List ℕ). (own : ℕ) → IsIn files own → IsIn ending.done.read own) read later.still in
      record {
        changes = change ∷ later.changes;
        many = (let many = later.many in omega (arith, many));
        accepted = (here file (inl refl), accepted, later.accepted);
        still = λ own read. here own (inr read);
        kept = later.kept
            ∙ ap (λ (steps : List Step). keeps (whole (record { base = history.base; steps = steps })))
            (append_more history.steps (Append bounds change ∷ []) (map (λ change. Append bounds change) later.changes));
        told = telling later.told;
      }

  -- in a line each
  abbrev InLines : Holding → ℕ → Progress → List (List Entry) → Type 0
  InLines held count before changes = ending.done.written ≡ before.written ++ version_lines held.changes count

  appended_on : (bounds : BoundsOf) (held : Holding) (file count : ℕ) (history : History) (done : Progress)
      → done.store ≡ keeps (whole history) → state_after history ≡ imported held
      → Comes old (appends bounds held file count (onward finished)) done ending
      → WentOn old bounds held file count history done ending (InLines held count done)
  unfolding appends
  appended_on bounds held file zero history done keeps_it holds is =
      none_went bounds held file history done (InLines held 0 done) keeps_it is
      (ap (λ (end : Ending). end.done.written) is ∙ sym (append-nil done.written))
  appended_on bounds held file (suc count) history done keeps_it holds (inl breaks) =
      in_file _ file (old.left file) (IsChange file) done breaks
  appended_on bounds held file (suc count) history done keeps_it holds (inr (change, accepted, comes)) =
      let step = Append bounds change in
      let line = version_line (held.changes + 1) in
      let rest = appends bounds (changed bounds change held) (file + 1) count (onward finished) in
      let taken = went_on step (tells line rest) history (past file done) keeps_it comes in
      let further = plus line (committed step (whole history) (past file done)) in
      let more = with_steps (step ∷ []) history in
      let later = appended_on bounds (changed bounds change held) (file + 1) count more further refl
      (state-more step history ∙ ap (λ (own : State). after own step) holds)
      (line_told line rest (committed step (whole history) (past file done)) taken) in
      one_went bounds held file count history done further change (InLines held (suc count) done)
      (InLines (changed bounds change held) count further) refl accepted later
      (λ told. told ∙ append_more done.written line (version_lines (held.changes + 1) count))

  -- a block was told, and what was read and is told makes it such
  block_told : (Fits : List ℕ → Type 0) (rest : Course) (done : Progress) → Comes old (feeds Fits rest) done ending
      → (own : List ℕ) × (AreTold old done.read → IsCertain done.store → Fits own) × Comes old rest (plus own done) ending
  block_told Fits rest done (inl is) = faulty _ (at done (Some faults.OutOfMemory)) faults.OutOfMemory is refl
  block_told Fits rest done (inr (own, block, fits, inl is)) = faulty _ (at_text own done faults.WriteFault) faults.WriteFault is refl
  block_told Fits rest done (inr (own, block, fits, inr comes)) = (own, fits, comes)

  -- in a block each, where all files are told
  abbrev InBlocks : BoundsOf → Holding → Progress → List (List Entry) → Type 0
  InBlocks bounds held before changes = AreTold old ending.done.read
      → (later : List ℕ) × TellChanges bounds held changes later × (ending.done.written ≡ before.written ++ later)

  fed_on : (bounds : BoundsOf) (held : Holding) (file count : ℕ) (history : History) (done : Progress)
      → done.store ≡ keeps (whole history) → Comes old (feeds_changes bounds held file count) done ending
      → WentOn old bounds held file count history done ending (InBlocks bounds held done)
  unfolding feeds_changes
  fed_on bounds held file zero history done keeps_it is =
      none_went bounds held file history done (InBlocks bounds held done) keeps_it is
      (λ _. ([], refl, ap (λ (end : Ending). end.done.written) is ∙ sym (append-nil done.written)))
  fed_on bounds held file (suc count) history done keeps_it (inl breaks) = in_file _ file (old.left file) (IsChange file) done breaks
  fed_on bounds held file (suc count) history done keeps_it (inr (change, accepted, comes)) =
      let step = Append bounds change in
      let next = changed bounds change held in
      let rest = feeds_changes bounds next (file + 1) count in
      let before = committed step (whole history) (past file done) in
      let taken = went_on step (feeds (IsDeltaText held next) rest) history (past file done) keeps_it comes in
      let block = block_told (IsDeltaText held next) rest before taken in
      let own = block.0 in
      let later = fed_on bounds next (file + 1) count (with_steps (step ∷ []) history) (plus own before) refl block.2 in
      one_went bounds held file count history done (plus own before) change (InBlocks bounds held done)
      (InBlocks bounds next (plus own before)) refl accepted later
      (λ tell told. let behind = tell told in (
        own ++ behind.0,
        (own, behind.0, block.1 (λ other read. told other (later.still other read)) tt, behind.1, refl),
        behind.2
            ∙ append_more done.written own behind.0,
      ))

  -- a block was taken, and told
  not_within : (P : Type 0) (file : ℕ) (done : Progress) → BreaksWithin file done ending → P
  not_within P file done (inl is) = faulty P (at_file file done (faults.ReadFault file)) (faults.ReadFault file) is refl
  not_within P file done (inr is) = faulty P (at_file file done faults.OutOfMemory) faults.OutOfMemory is refl

  took_known : (file : ℕ) (block : Block) (history : History) (done : Progress) (Goes : Progress → Type 0)
      → (ending ≡ at_file file (in_doubt (Follow block) (whole history) done) faults.DiskFault)
      ⊎ IsRefusedWithin file (IsRefusal old (state_after history) (Follow block)) done ending
      ⊎ (MayTake old (state_after history) (Follow block) × Goes (committed (Follow block) (whole history) done))
      → Goes (committed (Follow block) (whole history) done)
  took_known file block history done Goes (inl is) =
      faulty _ (at_file file (in_doubt (Follow block) (whole history) done) faults.DiskFault) faults.DiskFault is refl
  took_known file block history done Goes (inr (inl (fault, why, is))) =
      faulty _ (at_file file done (flow_fault fault)) (flow_fault fault) is refl
  took_known file block history done Goes (inr (inr (may, goes))) = goes

  took_block : (file : ℕ) (block : Block) (history : History) (done : Progress) (Goes : Progress → Type 0)
      → done.store ≡ keeps (whole history) → TakesWithin old file block done ending Goes
      → Goes (committed (Follow block) (whole history) done)
  took_block file block history done Goes is (inl breaks) = not_within _ file done breaks
  took_block file block history done Goes is (inr (inl failed)) = faulty _ (at_file file done faults.DiskFault) faults.DiskFault failed refl
  took_block file block history done Goes is (inr (inr comes)) =
      took_known file block history done Goes
      (subst (λ (store : Standing). ByStore store
      (λ kept. (ending ≡ at_file file (in_doubt (Follow block) kept done) faults.DiskFault)
      ⊎ IsRefusedWithin file (IsRefusal old (state_after kept.history) (Follow block)) done ending
      ⊎ (MayTake old (state_after kept.history) (Follow block) × Goes (committed (Follow block) kept done)))
      (IsRefusedWithin file (IsStepFault (Some (Follow block))) done ending ⊎ Goes done)) is comes)

  line_within : (file : ℕ) (text : List ℕ) (done : Progress) (Goes : Progress → Type 0) → TellsWithin file text done ending Goes
      → Goes (plus text done)
  line_within file text done Goes (inl is) = faulty _ (within_file file (at_text text done faults.WriteFault)) faults.WriteFault is refl
  line_within file text done Goes (inr goes) = goes

  -- blocks of a file were, one after another
  took_file : (file : ℕ) (told : List Block) (end : FeedEnd) (state : State) (history : History) (done : Progress)
      (Goes : State → Progress → Type 0) → done.store ≡ keeps (whole history) → FollowsTo old file told end state done ending Goes
      → TookFile file told end state history done Goes
  took_file file [] over state history done Goes keeps_it (inl breaks) = not_within _ file done breaks
  took_file file [] over state history done Goes keeps_it (inr goes) = record {
    all = refl;
    further = past file done;
    kept = keeps_it
        ∙ ap (λ (steps : List Step). keeps (whole (record { base = history.base; steps = steps }))) (sym (append-nil history.steps));
    read = refl;
    written = sym (append-nil done.written);
    goes = goes;
  }
  took_file file [] (stopped fault) state history done Goes keeps_it (inl breaks) = not_within _ file done breaks
  took_file file [] (stopped fault) state history done Goes keeps_it (inr (of_feed, is)) =
      faulty _ (at_file file done fault) fault is refl
  took_file file [] unseen state history done Goes keeps_it breaks = not_within _ file done breaks
  took_file file (block ∷ later) end state history done Goes keeps_it takes =
      let next = after state (Follow block) in
      let line = version_line (changes_in next) in
      let taken = committed (Follow block) (whole history) done in
      let behind : Progress → Type 0 = λ told. FollowsTo old file later end next told ending Goes in
      let tells = took_block file block history done (λ taken. TellsWithin file line taken ending behind) keeps_it takes in
      let so = took_file file later end next (with_steps (Follow block ∷ []) history) (plus line taken) Goes refl
      (line_within file line taken behind tells) in
      record {
        all = so.all;
        further = so.further;
        kept = so.kept
            ∙ ap (λ (steps : List Step). keeps (whole (record { base = history.base; steps = steps })))
            (append_more history.steps (Follow block ∷ []) (map Follow later));
        read = so.read;
        written = so.written ∙ append_more done.written line (versions_told next later);
        goes = so.goes;
      }

  -- files were
  through_one : (file count : ℕ) (state : State) (history : History) (done : Progress) (told : List Block) (end : FeedEnd)
      (Goes : State → Progress → Type 0) → IfTold (old.left file) (λ bytes. IsFeed file state bytes told end)
      → (took : TookFile file told end state history done Goes)
      → WentThrough old (file + 1) count (behind_all state told) (with_steps (map Follow told) history) took.further ending
      → WentThrough old file (suc count) state history done ending
  through_one file count state history done told end Goes is took later =
      let others = flat_map (λ told. told) later.each in
      let here : (own : ℕ) → IsIn (file ∷ done.read) own → IsIn ending.done.read own =
      subst (λ (files : List ℕ). (own : ℕ) → IsIn files own → IsIn ending.done.read own) took.read later.still in
      record {
        each = told ∷ later.each;
        many = (let many = later.many in omega (arith, many));
        accepted = (
          here file (inl refl),
          (λ bytes left. subst (λ (end : FeedEnd). IsFeed file state bytes told end) took.all (is bytes left)),
          later.accepted,
        );
        still = λ own read. here own (inr read);
        kept = later.kept
            ∙ ap (λ (steps : List Step). keeps (whole (record { base = history.base; steps = steps })))
            (append_more history.steps (map Follow told) (map Follow others)
            ∙ ap (λ (own : List Step). history.steps ++ own) (sym (map-append Follow told others)));
        told = later.told
            ∙ ap (λ (own : List ℕ). own ++ versions_told (behind_all state told) others) took.written
            ∙ append_more done.written (versions_told state told) (versions_told (behind_all state told) others)
            ∙ ap (λ (own : List ℕ). done.written ++ own) (sym (versions-more state told others));
      }

  went_through : (file count : ℕ) (state : State) (history : History) (done : Progress) → done.store ≡ keeps (whole history)
      → Comes old (follows_files file count state) done ending → WentThrough old file count state history done ending
  unfolding follows_files
  went_through file zero state history done keeps_it is = record {
    each = [];
    many = refl;
    accepted = tt;
    still = λ own read. subst (λ (end : Ending). IsIn end.done.read own) (sym is) read;
    kept = ap (λ (end : Ending). end.done.store) is ∙ keeps_it
        ∙ ap (λ (steps : List Step). keeps (whole (record { base = history.base; steps = steps }))) (sym (append-nil history.steps));
    told = ap (λ (end : Ending). end.done.written) is ∙ sym (append-nil done.written);
  }
  went_through file (suc count) state history done keeps_it (told, end, is, comes) =
      let Goes : State → Progress → Type 0 = λ next further. Comes old (follows_files (file + 1) count next) further ending in
      let took = took_file file told end state history done Goes keeps_it comes in
      through_one file count state history done told end Goes is took
      (went_through (file + 1) count (behind_all state told) (with_steps (map Follow told) history) took.further took.kept took.goes)

  module _ (kept : Kept) (cut : ℕ) (low : kept.least ≤ cut) (high : cut ≤ kept.most) where
    abbrev stood : History
    stood = first cut kept.history

    abbrev done : Progress
    done = opened kept cut (begun (keeps kept) kept.least)

    -- an append, behind the opening
    appended_by : (files : Files) (state : State) → state_after stood ≡ state → Comes old (append_to files state) done ending
        → IsAppended old files kept ending
    appended_by files formatted was is = faulty _ (at done (Some faults.NotImported)) faults.NotImported is refl
    appended_by files (outdated held) was is = faulty _ (at done (Some faults.OldFormat)) faults.OldFormat is refl
    appended_by files (following held) was is = faulty _ (at done (Some faults.Follower)) faults.Follower is refl
    appended_by files (imported held) was (inl breaks) = in_file _ files.first (old.left files.first) (IsBounds files.first) done breaks
    appended_by files (imported held) was (inr (bounds, told, comes)) =
        let went = appended_on bounds held (files.first + 1) (files.count - 1) stood (past files.first done) refl was comes in
        record {
          cut = cut;
          stood = record { from = low; to = high };
          held = held;
          held_is = was;
          bounds = bounds;
          bounds_read = went.still files.first (inl refl);
          bounds_are = told;
          changes = went.changes;
          many = went.many;
          accepted = went.accepted;
          kept = went.kept;
          told = went.told ∙ ap (λ (count : ℕ). version_lines held.changes count) (sym went.many);
        }

    -- a feed, with the block of all tables where that is asked for
    full_told : (full : Bool) (held : Holding) (rest : Course) (before : Progress) → before.store ≡ keeps (whole stood)
        → Comes old (feeds_full full held rest) before ending
        → (own : List ℕ) × (AreTold old before.read → own ≡ first_block full held) × Comes old rest (plus own before) ending
    full_told false held rest before keeps_it comes = (
      [],
      λ _. refl,
      subst (λ (own : List ℕ). Comes old rest (record before { written = own }) ending) (sym (append-nil before.written)) comes,
    )
    full_told true held rest before keeps_it (inl breaks) = breaks_not _ before breaks
    full_told true held rest before keeps_it (inr (inl bad)) = absurd (let two : unknown ≡ keeps (whole stood) =
        sym (of_unknown before.store (IsRefusedFor (IsStepFault None) before ending) bad).0 ∙ keeps_it in cc)
    full_told true held rest before keeps_it (inr (inr comes)) =
        let block = block_told (λ own. own ≡ first_block true held) rest before comes in
        (block.0, (λ told. block.1 told (subst IsCertain (sym keeps_it) tt)), block.2)

    fed_by : (files : Files) (full : Bool) (state : State) → state_after stood ≡ state → Comes old (feed_to files full state) done ending
        → IsFed old files full kept ending
    fed_by files full formatted was is = faulty _ (at done (Some faults.NotImported)) faults.NotImported is refl
    fed_by files full (outdated held) was is = faulty _ (at done (Some faults.OldFormat)) faults.OldFormat is refl
    fed_by files full (following held) was is = faulty _ (at done (Some faults.Follower)) faults.Follower is refl
    fed_by files full (imported held) was (inl breaks) = in_file _ files.first (old.left files.first) (IsBounds files.first) done breaks
    fed_by files full (imported held) was (inr (bounds, told, comes)) =
        let rest = feeds_changes bounds held (files.first + 1) (files.count - 1) in
        let before = past files.first done in
        let block = full_told full held rest before refl comes in
        let went = fed_on bounds held (files.first + 1) (files.count - 1) stood (plus block.0 before) refl block.2 in
        record {
          cut = cut;
          stood = record { from = low; to = high };
          held = held;
          held_is = was;
          bounds = bounds;
          bounds_read = went.still files.first (inl refl);
          bounds_are = told;
          changes = went.changes;
          many = went.many;
          accepted = went.accepted;
          kept = went.kept;
          told = λ all. let behind = went.told all in (
            behind.0,
            behind.1,
            behind.2
                ∙ ap (λ (own : List ℕ). own ++ behind.0) (block.1 (λ other read. all other (went.still other read))),
          );
        }

    -- a following
    all_followed : (files : Files) (state : State) → state_after stood ≡ state
        → Comes old (follows_files files.first files.count state) done ending → IsFollowed old files kept ending
    all_followed files state was comes =
        let went = went_through files.first files.count state stood done refl comes in
        record {
          cut = cut;
          stood = record { from = low; to = high };
          each = went.each;
          many = went.many;
          accepted = subst (λ (own : State). AreFollowed old files.first own went.each ending.done.read) (sym was) went.accepted;
          kept = went.kept;
          told = subst (λ (own : State). ending.done.written ≡ versions_told own (flat_map (λ told. told) went.each)) (sym was) went.told;
        }

    followed_by : (files : Files) (state : State) → state_after stood ≡ state → Comes old (follow_to files state) done ending
        → IsFollowed old files kept ending
    followed_by files formatted was comes = all_followed files formatted was comes
    followed_by files (imported held) was is = faulty _ (at done (Some faults.AlreadyImported)) faults.AlreadyImported is refl
    followed_by files (outdated held) was is = faulty _ (at done (Some faults.AlreadyImported)) faults.AlreadyImported is refl
    followed_by files (following held) was comes = all_followed files (following held) was comes

    -- an import
    imported_by : (files : Files) (buckets : ℕ) (state : State) → state_after stood ≡ state
        → Comes old (import_into files buckets state) done ending → IsFirstImport old files buckets kept ending
    imported_by files buckets (imported held) was is = faulty _ (at done (Some faults.AlreadyImported)) faults.AlreadyImported is refl
    imported_by files buckets (outdated held) was is = faulty _ (at done (Some faults.OldFormat)) faults.OldFormat is refl
    imported_by files buckets (following held) was is = faulty _ (at done (Some faults.Follower)) faults.Follower is refl
    imported_by files buckets formatted was (inl breaks) = in_file _ files.first (old.left files.first) (IsStyle files.first) done breaks
    imported_by files buckets formatted was (inr (style, told, inl breaks)) =
        in_file _ (files.first + 1) (old.left (files.first + 1)) (IsChange (files.first + 1)) (past files.first done) breaks
    imported_by files buckets formatted was (inr (style, told, inr (entries, accepted, comes))) =
        let step = Import style.0 style.1 buckets entries in
        let before = past (files.first + 1) (past files.first done) in
        let taken = went_on step (tells (version_line 0) ends) stood before refl comes in
        let is : ending ≡ at (plus (version_line 0) (committed step (whole stood) before)) None =
        line_told (version_line 0) ends (committed step (whole stood) before) taken in
        record {
          cut = cut;
          stood = record { from = low; to = high };
          blank = was;
          style = style;
          style_read = subst (λ (end : Ending). IsIn end.done.read files.first) (sym is) (inr (inl refl));
          style_is = told;
          entries = entries;
          accepted = (subst (λ (end : Ending). IsIn end.done.read (files.first + 1)) (sym is) (inl refl), accepted, tt);
          kept = ap (λ (end : Ending). end.done.store) is;
          told = ap (λ (end : Ending). end.done.written) is;
        }

    -- a clearing
    text_written : (Fits : List ℕ → Type 0) (rest : Course) → Comes old (writes Fits rest) done ending
        → (own : List ℕ) × Fits own × Comes old rest (plus own done) ending
    text_written Fits rest (inl is) = faulty _ (at done (Some faults.OutOfMemory)) faults.OutOfMemory is refl
    text_written Fits rest (inr (own, fits, inl is)) = faulty _ (at_text own done faults.WriteFault) faults.WriteFault is refl
    text_written Fits rest (inr (own, fits, inr comes)) = (own, fits (λ file read. absurd read) tt, comes)

    cleared_by : (least : ℕ) (state : State) → state_after stood ≡ state → Comes old (tiles_of_store least true state) done ending
        → IsCleared least kept ending
    cleared_by least formatted was is = faulty _ (at done (Some faults.NotImported)) faults.NotImported is refl
    cleared_by least (outdated held) was is = faulty _ (at done (Some faults.OldFormat)) faults.OldFormat is refl
    cleared_by least (following held) was is = faulty _ (at done (Some faults.Follower)) faults.Follower is refl
    cleared_by least (imported held) was (inl breaks) = breaks_not _ done breaks
    cleared_by least (imported held) was (inr (inl bad)) = absurd bad
    cleared_by least (imported held) was (inr (inr comes)) =
        let wrote = text_written (IsTileText held.due least) (clears true) comes in
        let is : ending ≡ at (committed Clear (whole stood) (plus wrote.0 done)) None =
        went_on Clear ends stood (plus wrote.0 done) refl wrote.2 in
        record {
          cut = cut;
          stood = record { from = low; to = high };
          held = held;
          held_is = was;
          kept = ap (λ (end : Ending). end.done.store) is;
          told = subst (λ (end : Ending). IsTileText held.due least end.done.written) (sym is) wrote.1;
        }

  pub appended_well : (store : List ℕ) (files : Files) (ahead workers : ℕ) (kept : Kept)
      → Comes old (course_of (append_of store files ahead workers)) (begun (keeps kept) kept.least) ending
      → IsAppended old files kept ending
  appended_well store files ahead workers kept (inl breaks) = breaks_not _ (begun (keeps kept) kept.least) breaks
  appended_well store files ahead workers kept (inr (cut, low, high, comes)) =
      appended_by kept cut low high files (state_after (first cut kept.history)) refl comes

  pub fed_well : (store : List ℕ) (files : Files) (full : Bool) (workers : ℕ) (kept : Kept)
      → Comes old (course_of (feed_of store files full workers)) (begun (keeps kept) kept.least) ending → IsFed old files full kept ending
  fed_well store files full workers kept (inl breaks) = breaks_not _ (begun (keeps kept) kept.least) breaks
  fed_well store files full workers kept (inr (cut, low, high, comes)) =
      fed_by kept cut low high files full (state_after (first cut kept.history)) refl comes

  pub followed_well : (store : List ℕ) (files : Files) (kept : Kept)
      → Comes old (course_of (follow_of store files)) (begun (keeps kept) kept.least) ending → IsFollowed old files kept ending
  followed_well store files kept (inl breaks) = breaks_not _ (begun (keeps kept) kept.least) breaks
  followed_well store files kept (inr (cut, low, high, comes)) =
      followed_by kept cut low high files (state_after (first cut kept.history)) refl comes

  pub imported_well : (store : List ℕ) (files : Files) (buckets workers : ℕ) (kept : Kept)
      → Comes old (course_of (import_of store files buckets workers)) (begun (keeps kept) kept.least) ending
      → IsFirstImport old files buckets kept ending
  imported_well store files buckets workers kept (inl breaks) = breaks_not _ (begun (keeps kept) kept.least) breaks
  imported_well store files buckets workers kept (inr (cut, low, high, comes)) =
      imported_by kept cut low high files buckets (state_after (first cut kept.history)) refl comes

  pub cleared_well : (store : List ℕ) (least : ℕ) (kept : Kept)
      → Comes old (course_of (tiles_of store least true)) (begun (keeps kept) kept.least) ending → IsCleared least kept ending
  cleared_well store least kept (inl breaks) = breaks_not _ (begun (keeps kept) kept.least) breaks
  cleared_well store least kept (inr (cut, low, high, comes)) =
      cleared_by kept cut low high least (state_after (first cut kept.history)) refl comes
