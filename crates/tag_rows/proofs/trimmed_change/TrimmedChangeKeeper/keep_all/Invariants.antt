use Rattle.std.proofs.Common.{◌≡◌, None, drop, fold}
use Rattle.osm_base.specs.values.Key.{KeyOf}
use Rattle.object_fold.specs.Change.{Follows, RiseFrom, last_key}
use Rattle.tag_rows.specs.TrimmedChange.{with_entry}
use Rattle.tag_rows.proofs.trimmed_change.TrimmedChangeKeeper.keep_all.Given as goal

-- what is left makes of the change now what all entries make of it, and comes after its last key
abbrev pub invariant-loop-entry : goal.invariant-loop-entry
invariant-loop-entry l = record {
  kept : fold with_entry l.self (drop l.entry-index l.entry-items) ≡ fold with_entry l.fn.self l.fn.entries.items;
  rise : RiseFrom (last_key None l.self.entries) (drop l.entry-index l.entry-items);
  takes : (next : KeyOf) → Follows (last_key l.fn.last l.fn.entries.items) next
      → Follows (last_key (last_key None l.self.entries) (drop l.entry-index l.entry-items)) next;
}
