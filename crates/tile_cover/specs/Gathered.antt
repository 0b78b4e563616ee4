-- What segments meet, as it is gathered in the rows of a table.
use Rattle.std.specs.Prelude.{◌≡◌, ℕ, ◌^◌, Bool, List}
use Rattle.lanes_geo.specs.Crossing.{Segment}
use Rattle.tile_cover.specs.declared.events.Events.{Events}
use Rattle.tile_cover.specs.Events.{Gains, GainsIn}

-- over the same table, what segments meet is gathered besides; how they are depends on the number of its columns
pub record Gathers (segments : ℕ → List Segment) (old new : Events) : Type 0 where
  pub table : new.bounds.now ≡ old.bounds.now
  pub gains : Gains old.bounds.now (segments (2 ^ old.bounds.now.zoom)) old.list.items new.list.items

-- the same of one segment, in rows of which a test tells
pub record GathersIn (rows : ℕ → Bool) (segment : Segment) (old new : Events) : Type 0 where
  pub table : new.bounds.now ≡ old.bounds.now
  pub gains : GainsIn old.bounds.now rows segment old.list.items new.list.items
