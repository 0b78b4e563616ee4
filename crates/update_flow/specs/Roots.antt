-- The fields of a store, by its state.
-- docs/FILES.md, "The root page": the format is 1 in state 0, of a store that was only made, and 2 in state 1, of an imported one; an old
-- store has format 1 in state 1, and a follower's format 2 in state 2. The buckets are none in state 0, and some in the others.
use Rattle.std.specs.Prelude.{◌≡◌, ℕ, Bool, true, false, ◌&&◌, ◌==◌, not, nat_le, Option, Some, None, is_some}
use Rattle.chain_store.specs.declared.root.Root.{Root}
use Rattle.style_read.specs.Style.{StyleOf}
use Rattle.update_flow.specs.declared.fault.TheConstants.{LAST_CHANGE}
use Rattle.update_flow.specs.declared.fields.TheConstants.{BLANK, BLANK_FORMAT, FOLLOWING, IMPORTED, IMPORTED_FORMAT, OLD_FORMAT}

abbrev pub is_blank : Root → Bool
is_blank root = (root.format == BLANK_FORMAT) && ((root.state == BLANK) && (root.buckets == 0))

-- those of a store that has this state in this format, and holds something
abbrev pub is_in : (state format : ℕ) → Root → Bool
is_in state format root = (root.format == format) && ((root.state == state) && (not (root.buckets == 0) && nat_le root.changes LAST_CHANGE))

-- those of a store that was imported in this format
abbrev pub is_of : ℕ → Root → Bool
is_of format root = is_in IMPORTED format root

abbrev pub is_imported : Root → Bool
is_imported root = is_of IMPORTED_FORMAT root

abbrev pub is_old : Root → Bool
is_old root = is_of OLD_FORMAT root

-- those of a follower's store
abbrev pub is_following : Root → Bool
is_following root = is_in FOLLOWING IMPORTED_FORMAT root

-- those of a store into which nothing was imported, or of an imported one, whose style this is, of one format or of the other
abbrev pub IsOfKind : Option StyleOf → Bool → Root → Type 0
IsOfKind None outdated root = is_blank root ≡ true
IsOfKind (Some style) false root = is_imported root ≡ true
IsOfKind (Some style) true root = is_old root ≡ true

-- and of so many changes
pub record AreFieldsOf (style : Option StyleOf) (outdated : Bool) (changes : ℕ) (root : Root) : Type 0 where
  pub kind : IsOfKind style outdated root
  pub count : is_some style ≡ true → changes ≡ root.changes
