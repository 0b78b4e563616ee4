-- The laws of records of nodes in bytes.
use Rattle.std.proofs.Common.{◌≡◌, ℕ, List, ◌++◌, Option, refl, ap, append_assoc}
use Rattle.osm_base.specs.values.Place.{PlaceOf}
use Rattle.osm_base.specs.values.Tags.{TagMap}
use Rattle.value_bytes.specs.Nodes.{record_bytes, IsRecord}
use Rattle.value_bytes.specs.declared.nodes.NodeRecord.{NodeRecord}
use Rattle.value_bytes.specs.Forms.{IsFront, IsFrontless, both_bytes, Both}
use Rattle.value_bytes.specs.Options.{option_bytes, IsOption}
use Rattle.value_bytes.specs.Places.{place_bytes, IsPlace}
use Rattle.value_bytes.specs.Tags.{tags_bytes, AreTags}
use Rattle.value_bytes.proofs.Fronts.{front_both, frontless_first, frontless_second}
use Rattle.value_bytes.proofs.Seen.{AreSeen, front_seen, frontless_seen}

-- the two parts
abbrev pub places : Option PlaceOf → List ℕ
places place = option_bytes place_bytes place

abbrev pub ArePlaces : Option PlaceOf → Type 0
ArePlaces place = IsOption IsPlace place

abbrev pub some_tags : Option TagMap → List ℕ
some_tags tags = option_bytes tags_bytes tags

abbrev pub AreSomeTags : Option TagMap → Type 0
AreSomeTags tags = IsOption AreTags tags

abbrev pub parts : NodeRecord → Option PlaceOf × Option TagMap
parts node = (node.place, node.tags)

parts_fit : (node : NodeRecord) → IsRecord node → Both ArePlaces AreSomeTags (parts node)
parts_fit node is = (is.place, is.tags)

records_seen : AreSeen (both_bytes places some_tags) (Both ArePlaces AreSomeTags) record_bytes IsRecord parts
unfolding record_bytes
records_seen = record { is = parts_fit; told = λ node. refl }

one_record : (one two : NodeRecord) → parts one ≡ parts two → one ≡ two
one_record one two same =
    let place = ap (λ (p : Option PlaceOf × Option TagMap). p.0) same in
    let tags = ap (λ (p : Option PlaceOf × Option TagMap). p.1) same in
    λ i. record { place = place i; tags = tags i }

pub record_front : (bytes behind rest : List ℕ) (node : NodeRecord)
    → IsFront places ArePlaces bytes node.place behind → IsFront some_tags AreSomeTags behind node.tags rest
    → IsFront record_bytes IsRecord bytes node rest
record_front bytes behind rest node first second =
    front_seen (both_bytes places some_tags) (Both ArePlaces AreSomeTags) record_bytes IsRecord parts records_seen bytes (parts node) rest
    (front_both places ArePlaces some_tags AreSomeTags bytes node.place behind node.tags rest first second) node
    (record { place = first.begins.is; tags = second.begins.is }) refl (λ other is same. one_record other node same)

pub record_no_place : (bytes : List ℕ) → IsFrontless places ArePlaces bytes → IsFrontless record_bytes IsRecord bytes
record_no_place bytes none =
    frontless_seen (both_bytes places some_tags) (Both ArePlaces AreSomeTags) record_bytes IsRecord parts records_seen bytes
    (frontless_first places ArePlaces some_tags AreSomeTags bytes none)

pub record_no_tags : (bytes : List ℕ) (place : Option PlaceOf) (behind : List ℕ) → IsFront places ArePlaces bytes place behind
    → IsFrontless some_tags AreSomeTags behind → IsFrontless record_bytes IsRecord bytes
record_no_tags bytes place behind first none =
    frontless_seen (both_bytes places some_tags) (Both ArePlaces AreSomeTags) record_bytes IsRecord parts records_seen bytes
    (frontless_second places ArePlaces some_tags AreSomeTags bytes place behind first none)

pub record_put : (node : NodeRecord) (old : List ℕ) → (old ++ places node.place) ++ some_tags node.tags ≡ old ++ record_bytes node
unfolding record_bytes
record_put node old = append_assoc old (places node.place) (some_tags node.tags)
