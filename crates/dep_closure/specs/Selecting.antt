-- What the relations of a change select.
-- osm2pgsql manual, "The Flex Output", "Stages": a relation names members that are processed again in a second stage; where it changes,
-- so do those that it had named before.
use Rattle.std.specs.Prelude.{◌≡◌, ℕ, Bool, true, false, ◌&&◌, ◌||◌, List, Option, None, Some, if◌then◌else◌}
use Rattle.std.specs.List.{AllByRecursion, list_any}
use Rattle.std.specs.FinMap as finite
use Rattle.osm_base.specs.declared.values.key.Kind.{Kind}
use Rattle.osm_base.specs.declared.values.key.Kind.TheVariants as kinds
use Rattle.osm_base.specs.declared.values.object.Entry.{Entry}
use Rattle.osm_base.specs.declared.values.object.Object.{Object}
use Rattle.osm_base.specs.declared.values.object.Object.TheVariants.{Relation}
use Rattle.style_read.specs.Style.{StyleOf}
use Rattle.osm_base.specs.map.Objects.{ObjectSet}
use Rattle.osm_base.specs.map.Listers.{is_kind, lists, member_ids}
use Rattle.osm_base.specs.values.Ids.{has}
use Rattle.osm_base.specs.values.Tags.{TagMap}
use Rattle.row_rules.specs.Condition.{meets}
use Rattle.row_rules.specs.Material.{selecting_tags}

-- a form of a relation meets a selection of the style
abbrev pub selects : StyleOf → Option Object → Bool
selects style (Some (Relation members tags)) = list_any (λ selection. meets selection tags) style.selections
selects style _ = false

-- the object of this kind and this id is a member of a form of a relation
abbrev pub has_member : Kind → ℕ → Option Object → Bool
has_member kind id (Some (Relation members tags)) = has (member_ids kind members) id
has_member kind id _ = false

-- one of two forms of a relation meets a selection, and the object is a member of one of the two
abbrev pub reselects : StyleOf → Kind → ℕ → Option Object → Option Object → Bool
reselects style kind id before after = (selects style before || selects style after) &&
    (has_member kind id before || has_member kind id after)

-- an entry does so to an object, where the objects before it are these: it is of a relation
abbrev pub selects_again : StyleOf → ObjectSet → Kind → ℕ → Entry → Bool
selects_again style before kind id entry =
    is_kind kinds.Relation entry.key.kind && reselects style kind id (finite.get before entry.key) entry.object

-- the tags that a form of a relation hands to the object of this kind and this id by the selection with a number: its own, where it meets
-- the selection and has the object as a member
abbrev pub hands : StyleOf → Kind → ℕ → ℕ → Option Object → Option TagMap
hands style kind id number form = if lists kind id form then selecting_tags style.selections number form else None

-- each relation of a change hands the same to the object after it as before it, where the objects before it are these
abbrev pub HandsSame : StyleOf → ObjectSet → List Entry → Kind → ℕ → Type 0
HandsSame style before change kind id = AllByRecursion (λ (entry : Entry). is_kind kinds.Relation entry.key.kind ≡ true
    → (number : ℕ) → hands style kind id number entry.object ≡ hands style kind id number (finite.get before entry.key)) change
