-- A sound store of whose nodes all tags are known stands for what it holds.
use Rattle.std.proofs.Common.{◌≡◌, ◌≢◌, ℕ, List, Option, Some, None, refl, ◌∙◌, ap}
use Rattle.std.specs.Prelude.{IfSome}
use Rattle.std.specs.FinMap as finite
use Rattle.osm_base.specs.declared.values.key.Kind.{Kind}
use Rattle.osm_base.specs.declared.values.key.Kind.TheVariants as kinds
use Rattle.osm_base.specs.values.Place.{PlaceOf}
use Rattle.osm_base.specs.values.Tags.{TagMap}
use Rattle.row_rules.specs.Rows.{rows_in}
use Rattle.value_bytes.specs.Maps.{Decodes}
use Rattle.value_bytes.specs.Nodes.{record_bytes, IsRecord}
use Rattle.value_bytes.specs.declared.nodes.NodeRecord.{NodeRecord}
use Rattle.bucket_store.specs.Image.{HasImage, Image}
use Rattle.middle_nodes.specs.Old.{unknown}
use Rattle.store_maps.specs.Maps.{rows_at, unless_empty}
use Rattle.update_flow.specs.Stands.{StandsFor}
use Rattle.update_flow.specs.State.{Holding, imported}
use Rattle.store_check.specs.Maps.{HasSoundMapsOf, KnowsTags}
use Rattle.update_flow.specs.Sound.{IsSoundImport}
use Rattle.store_check.specs.Values.{ByTags, IfUnknown}

knows_one : (bytes : Option (List ℕ)) (found : Option NodeRecord) → Decodes record_bytes IsRecord bytes found
    → ((place : Option PlaceOf) → bytes ≢ Some (record_bytes (unknown place))) → IfSome found (λ own. own.tags ≢ None)
knows_one None None is known = tt
knows_one None (Some own) is known = absurd is
knows_one (Some bytes) None is known = tt
knows_one (Some bytes) (Some own) is known = λ none.
    known own.place (ap Some (is.1 ∙ ap (λ (tags : Option TagMap). record_bytes (record { place = own.place; tags = tags })) none))

by_tags : (tags : Option TagMap) (Unknown Known : Type 0) → tags ≢ None → ByTags tags Unknown Known → Known
by_tags None Unknown Known some is = absurd (some refl)
by_tags (Some tags) Unknown Known some is = is

if_known : (found : Option NodeRecord) (Unknown : Option PlaceOf → Type 0) (Known : Type 0) → IfSome found (λ own. own.tags ≢ None)
    → IfUnknown found Unknown Known → Known
if_known None Unknown Known known is = is
if_known (Some own) Unknown Known known is = by_tags own.tags (Unknown own.place) Known known is

module _ (bytes : List ℕ) (image : Image) (held : Holding) (has : HasImage image bytes) (sound : IsSoundImport held image)
    (known : KnowsTags image) where
  abbrev own : HasSoundMapsOf held.style held.objects image
  own = sound.maps

  rows_here : (kind : Kind) (id : ℕ)
      → rows_at own.maps kind id ≡ unless_empty (rows_in held.style held.objects (record { kind = kind; id = id }))
  rows_here kinds.Node id = if_known (finite.get own.maps.nodes id) _ _
      (knows_one (finite.get (image.maps 0) id) (finite.get own.maps.nodes id) (own.kept.nodes id) (known id)) (own.rows kinds.Node id)
  rows_here kinds.Way id = own.rows kinds.Way id
  rows_here kinds.Relation id = own.rows kinds.Relation id

  pub known_stands : StandsFor bytes (imported held)
  unfolding StandsFor
  known_stands = (
    image,
    record {
      root = sound.root;
      counted = sound.counted;
      some = sound.some;
      power = sound.power;
      few = sound.few;
      style_text = sound.style_text;
      style = sound.style;
      due = sound.due;
      others = sound.others;
      ids = sound.ids;
      maps = record { maps = own.maps; kept = own.kept; stand = record { on = own.on; rows = record { at = rows_here } } };
    },
    has,
  )
