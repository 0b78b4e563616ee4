-- Stores of the old format: who refuses them, and what a migration makes of one.
use Rattle.std.specs.Prelude.{◌≡◌, ◌⊎◌, ◌≤◌, ℕ, [], ◌∷◌, Some}
use Rattle.update_flow.specs.History.{History, state_after}
use Rattle.update_flow.specs.State.{Holding, State, formatted, imported, outdated, following, Migrate}
use Rattle.run_promise.specs.declared.fault.Fault.{Fault}
use Rattle.run_promise.specs.declared.fault.Fault.TheVariants.{AlreadyImported, OldFormat}
use Rattle.run_promise.specs.Comes.{Breaks}
use Rattle.run_promise.specs.CommandOf.{CommandOf, follow_of}
use Rattle.run_promise.specs.Courses.{format_line}
use Rattle.run_promise.specs.Keeps.{Kept, first, whole, with_steps}
use Rattle.run_promise.specs.Progress.{Ending, at, begun, keeps, opened}

-- where a store of this state has the old format, this is so
abbrev pub IfOld : State → Type 0 → Type 0
IfOld formatted P = Unit {0}
IfOld (imported held) P = Unit {0}
IfOld (following held) P = Unit {0}
IfOld (outdated held) P = P

-- why a store of the old format is refused: for who is to follow another one, something was imported into it
abbrev pub old_fault : CommandOf → Fault
old_fault (follow_of store files) = AlreadyImported
old_fault command = OldFormat

-- the disk failed at the opening, or memory ran out; or the store was opened, and the run ended at once where it has the old format
abbrev pub LeavesOld : CommandOf → Kept → Ending → Type 0
LeavesOld command kept ending = Breaks (begun (keeps kept) kept.least) ending ⊎ ((cut : ℕ) × (kept.least ≤ cut) × (cut ≤ kept.most)
    × IfOld (state_after (first cut kept.history))
    (ending ≡ at (opened kept cut (begun (keeps kept) kept.least)) (Some (old_fault command))))

-- of the history that the disk kept, so many steps stand: those, and the migration where the store was of the old format
pub data IsMigratedFrom (before now : History) (held : Holding) : Type 0 where
  had : state_after before ≡ imported held → now ≡ before → IsMigratedFrom before now held
  got : state_after before ≡ outdated held → now ≡ with_steps (Migrate ∷ []) before → IsMigratedFrom before now held

-- the store has this format and holds what it held, and that was told
pub record IsMigrated (before : Kept) (ending : Ending) : Type 0 where
  pub cut : ℕ
  pub from : before.least ≤ cut
  pub to : cut ≤ before.most
  pub held : Holding
  pub now : History
  pub migrated : IsMigratedFrom (first cut before.history) now held
  pub kept : ending.done.store ≡ keeps (whole now)
  pub holds : state_after now ≡ imported held
  pub told : ending.done.written ≡ format_line
