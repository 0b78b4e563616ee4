-- What holds of every course.
use Rattle.std.proofs.Common.{◌≡◌, ◌≤◌, ℕ, Some, List, [], ◌∷◌, Result, Err, ⊎_elim, inl, inr, refl, sym, subst, ◌⊎◌}
use Rattle.outside.specs.Bytes.{IfTold}
use Rattle.run_promise.specs.declared.fault.Fault.{Fault}
use Rattle.run_promise.specs.declared.fault.Fault.TheVariants as faults
use Rattle.update_flow.specs.History.{state_after}
use Rattle.update_flow.specs.Opening.{MayOpenAs}
use Rattle.update_flow.specs.State.{State, Follow, after, changes_in}
use Rattle.delta_feed.specs.declared.block.Block.{Block}
use Rattle.run_promise.specs.Comes.{Breaks, BreaksIn, BreaksWithin, ByStore, Comes, FollowsTo, HoldsBytes, IfUnknown, IfUnused, IsBroken}
use Rattle.run_promise.specs.Comes.{IsDue, IsDueFollowing, IsDueWithin, IsNoStore, IsOfFile, IsOutside, IsRefusal, IsRefusedFor}
use Rattle.run_promise.specs.Comes.{IsRefusedWithin, IsStepFault, MayTake, TakesWithin, refused, short, unread}
use Rattle.run_promise.specs.Course.{Course, ends, refuses, reads, wants_empty, formats, opens, looks, commits, tells, writes, feeds}
use Rattle.run_promise.specs.Course.{follows}
use Rattle.run_promise.specs.Courses.{version_line}
use Rattle.run_promise.specs.Followed.{FeedEnd, over, stopped, unseen}
use Rattle.run_promise.specs.Keeps.{Kept, first}
use Rattle.run_promise.specs.Progress.{Standing, unused, unknown, keeps, half_made, Progress, Ending, at, at_file, at_text, past, plus}
use Rattle.run_promise.specs.Progress.{with_store, made, opened, committed, in_doubt, within_file}
use Rattle.run_promise.specs.World.{Before}

pub if_unused : (store : Standing) (P Q : Type 0) → (P → Q) → IfUnused store P → IfUnused store Q
if_unused unused P Q f h = f h
if_unused unknown P Q f h = absurd h
if_unused (keeps kept) P Q f h = absurd h
if_unused half_made P Q f h = absurd h

pub of_unused : (store : Standing) (P : Type 0) → IfUnused store P → (store ≡ unused) × P
of_unused unused P h = (refl, h)
of_unused unknown P h = absurd h
of_unused (keeps kept) P h = absurd h
of_unused half_made P h = absurd h

pub of_unknown : (store : Standing) (P : Type 0) → IfUnknown store P → (store ≡ unknown) × P
of_unknown unknown P h = (refl, h)
of_unknown unused P h = absurd h
of_unknown (keeps kept) P h = absurd h
of_unknown half_made P h = absurd h

pub by_store : (store : Standing) (P Q : Kept → Type 0) (R S : Type 0) → ((kept : Kept) → store ≡ keeps kept → P kept → Q kept)
    → (store ≡ unknown → R → S) → ByStore store P R → ByStore store Q S
by_store unused P Q R S f g h = absurd h
by_store unknown P Q R S f g h = g refl h
by_store (keeps kept) P Q R S f g h = f kept refl h
by_store half_made P Q R S f g h = absurd h

-- a fact that follows either way
pub of_store : (store : Standing) (P : Kept → Type 0) (R S : Type 0) → ((kept : Kept) → store ≡ keeps kept → P kept → S)
    → (store ≡ unknown → R → S) → ByStore store P R → S
of_store unused P R S f g h = absurd h
of_store unknown P R S f g h = g refl h
of_store (keeps kept) P R S f g h = f kept refl h
of_store half_made P R S f g h = absurd h

-- by three cases
pub three : {A B C D : Type 0} → (A → D) → (B → D) → (C → D) → A ⊎ B ⊎ C → D
three f g h (inl a) = f a
three f g h (inr (inl b)) = g b
three f g h (inr (inr c)) = h c

-- an end that blames the outside
blamed : (ending own : Ending) (P : Type 0) → ending ≡ own → IsOutside own.fault → ¬ IsOutside ending.fault → P
blamed ending own P is out not = absurd (not (subst (λ (end : Ending). IsOutside end.fault) (sym is) out))

breaks_not : (done : Progress) (ending : Ending) (P : Type 0) → Breaks done ending → ¬ IsOutside ending.fault → P
breaks_not done ending P (inl is) not = blamed ending (at done (Some faults.DiskFault)) P is tt not
breaks_not done ending P (inr is) not = blamed ending (at done (Some faults.OutOfMemory)) P is tt not

module _ (old : Before) where
  due_in : (A : Type 0) (file : ℕ) (Reads : List ℕ → Result A Fault → Type 0) (done : Progress) (ending : Ending)
      → BreaksIn A file (old.left file) Reads done ending → ¬ IsOutside ending.fault
      → (fault : Fault) × IsOfFile file fault × IfTold (old.left file) (λ bytes. Reads bytes (Err fault))
      × (ending ≡ at_file file done fault)
  due_in A file Reads done ending (unread is) not = blamed ending (at_file file done (faults.ReadFault file)) _ is tt not
  due_in A file Reads done ending (short is) not = blamed ending (at_file file done faults.OutOfMemory) _ is tt not
  due_in A file Reads done ending (refused fault own told is) not = (fault, own, told, is)

  within_not : (file : ℕ) (done : Progress) (ending : Ending) (P : Type 0) → BreaksWithin file done ending → ¬ IsOutside ending.fault → P
  within_not file done ending P (inl is) not = blamed ending (at_file file done (faults.ReadFault file)) P is tt not
  within_not file done ending P (inr is) not = blamed ending (at_file file done faults.OutOfMemory) P is tt not

  -- a block that is taken
  due_within : (file : ℕ) (block : Block) (done : Progress) (ending : Ending) (Goes Due : Progress → Type 0)
      → ((further : Progress) → Goes further → Due further) → TakesWithin old file block done ending Goes → ¬ IsOutside ending.fault
      → IsDueWithin old file block done ending Due
  due_within file block done ending Goes Due go (inl breaks) not = within_not file done ending _ breaks not
  due_within file block done ending Goes Due go (inr (inl is)) not = blamed ending (at_file file done faults.DiskFault) _ is tt not
  due_within file block done ending Goes Due go (inr (inr c)) not = by_store done.store
      (λ kept. (ending ≡ at_file file (in_doubt (Follow block) kept done) faults.DiskFault)
      ⊎ IsRefusedWithin file (IsRefusal old (state_after kept.history) (Follow block)) done ending
      ⊎ (MayTake old (state_after kept.history) (Follow block) × Goes (committed (Follow block) kept done)))
      (λ kept. IsRefusedWithin file (IsRefusal old (state_after kept.history) (Follow block)) done ending
      ⊎ (MayTake old (state_after kept.history) (Follow block) × Due (committed (Follow block) kept done)))
      (IsRefusedWithin file (IsStepFault (Some (Follow block))) done ending ⊎ Goes done)
      (IsRefusedWithin file (IsStepFault (Some (Follow block))) done ending ⊎ Due done)
      (λ kept _ h. three (λ (is : ending ≡ at_file file (in_doubt (Follow block) kept done) faults.DiskFault).
      blamed ending (at_file file (in_doubt (Follow block) kept done) faults.DiskFault) _ is tt not)
      (λ (why : IsRefusedWithin file (IsRefusal old (state_after kept.history) (Follow block)) done ending). inl why)
      (λ (c : MayTake old (state_after kept.history) (Follow block) × Goes (committed (Follow block) kept done)).
      inr (c.0, go (committed (Follow block) kept done) c.1)) h)
      (λ _ h. ⊎_elim (λ (why : IsRefusedWithin file (IsStepFault (Some (Follow block))) done ending). inl why)
      (λ (c : Goes done). inr (go done c)) h) c

  -- and blocks, one after another
  due_following : (file : ℕ) (told : List Block) (end : FeedEnd) (state : State) (done : Progress) (ending : Ending)
      (Goes Due : State → Progress → Type 0) → ((next : State) (further : Progress) → Goes next further → Due next further)
      → FollowsTo old file told end state done ending Goes → ¬ IsOutside ending.fault
      → IsDueFollowing old file told end state done ending Due
  due_following file [] over state done ending Goes Due go (inl breaks) not = within_not file done ending _ breaks not
  due_following file [] over state done ending Goes Due go (inr goes) not = go state (past file done) goes
  due_following file [] (stopped fault) state done ending Goes Due go (inl breaks) not = within_not file done ending _ breaks not
  due_following file [] (stopped fault) state done ending Goes Due go (inr why) not = why
  due_following file [] unseen state done ending Goes Due go breaks not = within_not file done ending _ breaks not
  due_following file (block ∷ later) end state done ending Goes Due go takes not =
      let next = after state (Follow block) in
      let line = version_line (changes_in next) in
      due_within file block done ending _ (λ taken. IsDueFollowing old file later end next (plus line taken) ending Due)
      (λ taken tells. ⊎_elim (λ (is : ending ≡ within_file file (at_text line taken faults.WriteFault)).
      blamed ending (within_file file (at_text line taken faults.WriteFault)) _ is tt not)
      (λ (c : FollowsTo old file later end next (plus line taken) ending Goes).
      due_following file later end next (plus line taken) ending Goes Due go c not) tells) takes not

  -- where the fault blames nothing outside, the end is the one that is due
  pub comes_due : (course : Course) (done : Progress) (ending : Ending) → Comes old course done ending → ¬ IsOutside ending.fault
      → IsDue old course done ending
  comes_due ends done ending c not = c
  comes_due (refuses fault) done ending c not = c
  comes_due (reads {A} file Reads rest) done ending (inl breaks) not = inl (due_in A file Reads done ending breaks not)
  comes_due (reads {A} file Reads rest) done ending (inr (found, told, c)) not =
      inr (found, told, comes_due (rest found) (past file done) ending c not)
  comes_due (wants_empty rest) done ending (inl is) not = blamed ending (at done (Some faults.DiskFault)) _ is tt not
  comes_due (wants_empty rest) done ending (inr (inl h)) not = inl h
  comes_due (wants_empty rest) done ending (inr (inr (told, c))) not = inr (told, comes_due rest done ending c not)
  comes_due (formats rest) done ending c not = if_unused done.store
      (HoldsBytes old done ending ⊎ (ending ≡ at (with_store half_made done) (Some faults.DiskFault))
      ⊎ Comes old rest (with_store (made old.content) done) ending)
      (HoldsBytes old done ending ⊎ IsDue old rest (with_store (made old.content) done) ending)
      (three (λ (full : HoldsBytes old done ending). inl full)
      (λ (is : ending ≡ at (with_store half_made done) (Some faults.DiskFault)).
      blamed ending (at (with_store half_made done) (Some faults.DiskFault)) _ is tt not)
      (λ (c : Comes old rest (with_store (made old.content) done) ending).
      inr (comes_due rest (with_store (made old.content) done) ending c not))) c
  comes_due (opens rest) done ending (inl breaks) not = breaks_not done ending _ breaks not
  comes_due (opens rest) done ending (inr c) not = by_store done.store
      (λ kept. (cut : ℕ) × (kept.least ≤ cut) × (cut ≤ kept.most)
      × Comes old (rest (state_after (first cut kept.history))) (opened kept cut done) ending)
      (λ kept. (cut : ℕ) × (kept.least ≤ cut) × (cut ≤ kept.most)
      × IsDue old (rest (state_after (first cut kept.history))) (opened kept cut done) ending)
      (IsNoStore old done ending ⊎ IsBroken old done ending
      ⊎ ((state : State) × IfTold old.content (MayOpenAs state) × Comes old (rest state) done ending))
      (IsNoStore old done ending ⊎ IsBroken old done ending
      ⊎ ((state : State) × IfTold old.content (MayOpenAs state) × IsDue old (rest state) done ending))
      (λ kept _ h. (h.0, h.1, h.2, comes_due (rest (state_after (first h.0 kept.history))) (opened kept h.0 done) ending h.3 not))
      (λ _ h. three (λ (none : IsNoStore old done ending). inl none) (λ (bad : IsBroken old done ending). inr (inl bad))
      (λ (c : (state : State) × IfTold old.content (MayOpenAs state) × Comes old (rest state) done ending).
      inr (inr (c.0, c.1, comes_due (rest c.0) done ending c.2 not))) h) c
  comes_due (looks rest) done ending (inl breaks) not = breaks_not done ending _ breaks not
  comes_due (looks rest) done ending (inr (inl bad)) not = inl bad
  comes_due (looks rest) done ending (inr (inr c)) not = inr (comes_due rest done ending c not)
  comes_due (commits step rest) done ending (inl breaks) not = breaks_not done ending _ breaks not
  comes_due (commits step rest) done ending (inr c) not = by_store done.store
      (λ kept. (ending ≡ at (in_doubt step kept done) (Some faults.DiskFault))
      ⊎ IsRefusedFor (IsRefusal old (state_after kept.history) step) done ending
      ⊎ (MayTake old (state_after kept.history) step × Comes old rest (committed step kept done) ending))
      (λ kept. IsRefusedFor (IsRefusal old (state_after kept.history) step) done ending
      ⊎ (MayTake old (state_after kept.history) step × IsDue old rest (committed step kept done) ending))
      (IsRefusedFor (IsStepFault (Some step)) done ending ⊎ Comes old rest done ending)
      (IsRefusedFor (IsStepFault (Some step)) done ending ⊎ IsDue old rest done ending)
      (λ kept _ h. three (λ (is : ending ≡ at (in_doubt step kept done) (Some faults.DiskFault)).
      blamed ending (at (in_doubt step kept done) (Some faults.DiskFault)) _ is tt not)
      (λ (why : IsRefusedFor (IsRefusal old (state_after kept.history) step) done ending). inl why)
      (λ (c : MayTake old (state_after kept.history) step × Comes old rest (committed step kept done) ending).
      inr (c.0, comes_due rest (committed step kept done) ending c.1 not)) h)
      (λ _ h. ⊎_elim (λ (why : IsRefusedFor (IsStepFault (Some step)) done ending). inl why)
      (λ (c : Comes old rest done ending). inr (comes_due rest done ending c not)) h) c
  comes_due (tells text rest) done ending (inl is) not = blamed ending (at_text text done faults.WriteFault) _ is tt not
  comes_due (tells text rest) done ending (inr c) not = comes_due rest (plus text done) ending c not
  comes_due (writes Fits rest) done ending (inl is) not = blamed ending (at done (Some faults.OutOfMemory)) _ is tt not
  comes_due (writes Fits rest) done ending (inr (own, told, inl is)) not = blamed ending (at_text own done faults.WriteFault) _ is tt not
  comes_due (writes Fits rest) done ending (inr (own, told, inr c)) not = (own, told, comes_due rest (plus own done) ending c not)
  comes_due (feeds Fits rest) done ending (inl is) not = blamed ending (at done (Some faults.OutOfMemory)) _ is tt not
  comes_due (feeds Fits rest) done ending (inr (own, block, told, inl is)) not =
      blamed ending (at_text own done faults.WriteFault) _ is tt not
  comes_due (feeds Fits rest) done ending (inr (own, block, told, inr c)) not =
      (own, block, told, comes_due rest (plus own done) ending c not)
  comes_due (follows file state rest) done ending (told, end, is, c) not = (
    told,
    end,
    is,
    due_following file told end state done ending (λ next further. Comes old (rest next) further ending)
        (λ next further. IsDue old (rest next) further ending)
        (λ next further own. comes_due (rest next) further ending own not) c not,
  )
