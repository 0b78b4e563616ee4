-- Places by numbers.
use Rattle.std.specs.Prelude.{◌/◌, ◌%◌, ℕ, [], slice_index_or}
use Rattle.bucket_store.specs.declared.places.Places.{Places}

-- the place of a number: 0 until it was given one
abbrev pub place_of : Places → ℕ → ℕ
place_of places n = slice_index_or (slice_index_or places.pages.items (n / 256) []) (n % 256) 0
