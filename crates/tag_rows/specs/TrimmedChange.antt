-- What is kept of an object where only the lines of ways with a tag are asked for: the place of a node, and the nodes and the one tag of a
-- way.
use Rattle.std.specs.Prelude.{ℕ, List, [], ◌∷◌, ◌++◌, Option, None, Some, refl}
use Rattle.std.specs.Coded.{Coded, code_by, coded×, coded_list, coded_ℕ}
use Rattle.std.specs.Option.{option_and_then, option_map}
use Rattle.std.specs.FinMap as finite
use Rattle.osm_base.specs.declared.values.object.Entry.{Entry}
use Rattle.osm_base.specs.declared.values.object.Object.{Object}
use Rattle.osm_base.specs.declared.values.object.Object.TheVariants.{Node, Way, Relation}
use Rattle.osm_base.specs.contracts.values.object.Entry as entry

-- what is kept of an object, if anything
abbrev pub trimmed_object : List ℕ → Object → Option Object
trimmed_object key (Node place tags) = option_map (λ place. Node (Some place) finite.empty) place
trimmed_object key (Way nodes tags) = option_map (λ value. Way nodes (finite.insert finite.empty key value)) (finite.get tags key)
trimmed_object key (Relation members tags) = None

-- the entry of what is kept
abbrev pub trimmed_entry : List ℕ → Entry → Entry
trimmed_entry key own = record { key = own.key; object = option_and_then (trimmed_object key) own.object }

-- the key that is asked for, and the entries of what is kept
pub record TrimmedEntries : Type 0 where
  pub key : List ℕ
  pub entries : List Entry

-- these are stored as the pair of their fields
abbrev pub entries_code : Coded TrimmedEntries
entries_code =
    code_by (List ℕ × List Entry) (coded× (coded_list coded_ℕ) (coded_list entry.the_row.coded)) (λ own. (own.key, own.entries))
    (λ pair. record { key = pair.0; entries = pair.1 }) (λ _. refl)

-- with what is kept of one entry more
abbrev pub with_entry : TrimmedEntries → Entry → TrimmedEntries
with_entry own next = record { key = own.key; entries = own.entries ++ trimmed_entry own.key next ∷ [] }
