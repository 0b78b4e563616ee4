-- Where all values are right the maps are those of a sound store, and where one is not they are those of none.
use Rattle.std.proofs.Common.{ℕ, arith}
use Rattle.osm_base.specs.map.Objects.{ObjectSet}
use Rattle.style_read.specs.Style.{StyleOf}
use Rattle.object_fold.specs.Listings.{HasIds}
use Rattle.value_bytes.specs.declared.store_map.StoreMap.{StoreMap}
use Rattle.value_bytes.specs.declared.store_map.StoreMap.TheVariants as stored
use Rattle.bucket_store.specs.Image.{Image}
use Rattle.store_check.specs.Maps.{HasSoundMapsOf}
use Rattle.store_check.specs.Values.{objects_of}
use Rattle.store_check.specs.Wrong.{AllRight, IsFirstWrong}
use Rattle.store_check.proofs.Right.{right_has_ids, right_is_sound}
use Rattle.store_check.proofs.Sound.{all_right, sound_is_right}

pub all_right_sound : (style : StyleOf) (image : Image) → AllRight style image
    → (objects : ObjectSet) × HasIds objects × HasSoundMapsOf style objects image
all_right_sound style image own = (
  objects_of own.nodes own.ways own.relations,
  right_has_ids style image own.nodes own.ways own.relations own.read own.right,
  right_is_sound style image own.nodes own.ways own.relations own.read own.right,
)

module _ (style : StyleOf) (image : Image) (objects : ObjectSet) (ids : HasIds objects) (sound : HasSoundMapsOf style objects image) where
  wrong_is_right : (map : StoreMap) (key : ℕ) → IsFirstWrong style image map key → ⊥
  wrong_is_right stored.Nodes key wrong = wrong.least.wrong (all_right style image objects sound ids stored.Nodes key)
  wrong_is_right stored.Ways key wrong = wrong.least.wrong (all_right style image objects sound ids stored.Ways key)
  wrong_is_right stored.Relations key wrong = wrong.least.wrong (all_right style image objects sound ids stored.Relations key)
  wrong_is_right stored.WaysOfBlocks key wrong = wrong.least.wrong
      (sound_is_right style image objects sound ids wrong.nodes wrong.ways wrong.relations (wrong.read (omega arith)) stored.WaysOfBlocks key)
  wrong_is_right stored.RelationsOfNodes key wrong = wrong.least.wrong
      (sound_is_right style image objects sound ids wrong.nodes wrong.ways wrong.relations (wrong.read (omega arith)) stored.RelationsOfNodes key)
  wrong_is_right stored.RelationsOfWays key wrong = wrong.least.wrong
      (sound_is_right style image objects sound ids wrong.nodes wrong.ways wrong.relations (wrong.read (omega arith)) stored.RelationsOfWays key)
  wrong_is_right stored.NodeRows key wrong = wrong.least.wrong
      (sound_is_right style image objects sound ids wrong.nodes wrong.ways wrong.relations (wrong.read (omega arith)) stored.NodeRows key)
  wrong_is_right stored.OtherRows key wrong = wrong.least.wrong
      (sound_is_right style image objects sound ids wrong.nodes wrong.ways wrong.relations (wrong.read (omega arith)) stored.OtherRows key)

pub wrong_unsound : (style : StyleOf) (image : Image) (map : StoreMap) (key : ℕ) → IsFirstWrong style image map key → (objects : ObjectSet)
    → HasIds objects → HasSoundMapsOf style objects image → ⊥
wrong_unsound style image map key wrong objects ids sound = wrong_is_right style image objects ids sound map key wrong
