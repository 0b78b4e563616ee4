-- The bytes of a sound store.
-- docs/FILES.md: the bytes are those of a store that was only made, or of an imported one of the format of today, in all that they spell.
use Rattle.std.specs.Prelude.{◌⊎◌, ℕ, List}
use Rattle.bucket_store.specs.Image.{HasImage, Image}
use Rattle.update_flow.specs.Stands.{IsBlank, IsOfFormat}
use Rattle.update_flow.specs.State.{Holding, State, formatted, imported, outdated, following}
use Rattle.update_flow.specs.declared.fields.TheConstants.{IMPORTED_FORMAT}
use Rattle.store_check.specs.Maps.{HasSoundMapsOf}

-- an imported one, with the objects that its maps have
abbrev pub HasSoundMaps : Holding → Image → Type 0
HasSoundMaps held image = HasSoundMapsOf held.style held.objects image

abbrev pub IsSoundImport : Holding → Image → Type 0
IsSoundImport held image = IsOfFormat IMPORTED_FORMAT HasSoundMaps held image

-- a sound store of this state; one of the old format is none, nor is a follower's
abbrev pub MeansSound : State → Image → Type 0
MeansSound formatted image = IsBlank image
MeansSound (imported held) image = IsSoundImport held image
MeansSound (outdated held) image = ⊥
MeansSound (following held) image = ⊥

-- the bytes are a sound store
pub record IsSound (bytes : List ℕ) : Type 0 where
  pub image : Image
  pub has : HasImage image bytes
  pub is : IsBlank image ⊎ ((held : Holding) × IsSoundImport held image)
