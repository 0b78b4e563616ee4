-- Calls of an open store: a step, or none of them, which is a look.
use Rattle.std.specs.Prelude.{Option, None, Some}
use Rattle.delta_feed.specs.declared.block.Block.TheVariants as blocks
use Rattle.update_flow.specs.State.{Step, Import, Append, Clear, Migrate, Follow}

-- a call that leaves what the store tells of itself as it is, whatever the answer
abbrev pub IsStill : Option Step → Type 0
IsStill None = Unit {0}
IsStill (Some Clear) = Unit {0}
IsStill _ = ⊥

-- one that an old store refuses: any but a migration
abbrev pub IsForToday : Option Step → Type 0
IsForToday (Some Migrate) = ⊥
IsForToday _ = Unit {0}

-- one that a store refuses into which nothing was imported: any but an import, and a block with whole tables
abbrev pub IsForImported : Option Step → Type 0
IsForImported (Some (Import style style_bytes buckets entries)) = ⊥
IsForImported (Some (Follow (blocks.Full version style_bytes style rows))) = ⊥
IsForImported _ = Unit {0}

-- an import
abbrev pub IsFirst : Option Step → Type 0
IsFirst (Some (Import style style_bytes buckets entries)) = Unit {0}
IsFirst _ = ⊥

-- a look
abbrev pub IsLook : Option Step → Type 0
IsLook None = Unit {0}
IsLook (Some step) = ⊥

-- one that commits: any but a look
abbrev pub MayCommit : Option Step → Type 0
MayCommit None = ⊥
MayCommit (Some step) = Unit {0}

-- a change
abbrev pub IsChange : Option Step → Type 0
IsChange (Some (Append bounds change)) = Unit {0}
IsChange _ = ⊥
