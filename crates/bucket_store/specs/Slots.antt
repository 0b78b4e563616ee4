-- Buckets in the order in which they were put in, each with its number.
use Rattle.std.specs.Prelude.{◌≡◌, ◌≢◌, ◌<◌, ℕ, List, [], ◌∷◌, Option, None, Some, length, slice_index_or}
use Rattle.std.specs.FinMap as map
use Rattle.bucket_store.specs.Cache.{CacheMap}
use Rattle.bucket_store.specs.Places.{place_of}
use Rattle.bucket_store.specs.declared.cache.Cached.{Cached}
use Rattle.bucket_store.specs.declared.places.Places.{Places}
use Rattle.bucket_store.specs.declared.slots.Slot.{Slot}

-- a bucket in front of others, until it is taken out
abbrev pub keep : Option Cached → ℕ → List (ℕ × Cached) → List (ℕ × Cached)
keep None n others = others
keep (Some own) n others = (n, own) ∷ others

-- those that were not taken out
abbrev pub kept : List Slot → List (ℕ × Cached)
kept [] = []
kept (slot ∷ slots) = keep slot.own slot.number (kept slots)

-- by their numbers
abbrev pub map_of : List Slot → CacheMap
map_of slots = map.from_entries (kept slots)

-- this slot stands at this place
abbrev pub IsSlotAt : List Slot → ℕ → Slot → Type 0
IsSlotAt slots k slot = (k < length slots) × (slot ≡ slice_index_or slots k slot)

-- each slot's number has its place
abbrev pub ArePlaced : Places → List Slot → Type 0
ArePlaced places slots = (k : ℕ) (slot : Slot) → IsSlotAt slots k slot → place_of places slot.number ≡ k

-- no slot has this number
abbrev pub LacksSlot : List Slot → ℕ → Type 0
LacksSlot slots n = (k : ℕ) (slot : Slot) → IsSlotAt slots k slot → slot.number ≢ n
