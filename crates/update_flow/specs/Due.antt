-- The tiles that a change of the objects makes due, as the step below says them.
-- osm2pgsql manual, "Tile Expiry": a tile expires where an object that was added, changed or deleted touches it, as the object was and
-- as it is. A row that is there before and not equally after counts, and so does one that is there after and not equally before.
pub use Rattle.update_step.specs.Due.{Tiles, no_tiles, both, met_under, is_due_at, due_of, due_between}
