-- The maps that a transaction has, over what it leaves alone.
use Rattle.std.specs.Prelude.{◌≡◌, ◌<◌, ℕ, List}
use Rattle.outside.specs.declared.disk.Disk.{Ghosts}
use Rattle.style_read.specs.declared.style.TableDef.{TableDef}
use Rattle.chain_store.specs.declared.root.Root.{Root}
use Rattle.bucket_store.specs.Image.{Has, Image}
use Rattle.bucket_store.specs.declared.buckets.Buckets.{Buckets}
use Rattle.store_maps.specs.Maps.{Maps}
use Rattle.store_check.specs.Kept.{HoldsMaps, HoldsOldMaps}

-- what is beside the maps: the store at rest, and the fields and the texts that the transaction has
pub record Beside : Type 0 where
  pub rest : Image
  pub root : Root
  pub texts : ℕ → List ℕ

-- the transaction has these maps, over this
pub record HasMaps {D : Type 0} {g : Ghosts D} (definitions : List TableDef) (under : Beside) (maps : Maps)
    (buckets : Buckets D g) : Type 0 where
  pub now : Image
  pub has : Has under.rest now buckets
  pub root : now.root ≡ under.root
  pub texts : (n : ℕ) → n < 8 → now.texts n ≡ under.texts n
  pub kept : HoldsMaps definitions now.maps maps

-- it has them as a store of the old format does
pub record HasOldMaps {D : Type 0} {g : Ghosts D} (definitions : List TableDef) (under : Beside) (maps : Maps)
    (buckets : Buckets D g) : Type 0 where
  pub now : Image
  pub has : Has under.rest now buckets
  pub root : now.root ≡ under.root
  pub texts : (n : ℕ) → n < 8 → now.texts n ≡ under.texts n
  pub kept : HoldsOldMaps definitions now.maps maps
