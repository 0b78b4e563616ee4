-- Buckets by the numbers of their chains, as a transaction has them.
use Rattle.std.specs.Prelude.{◌≡◌, true, Result, Ok, Err}
use Rattle.std.specs.FinMap as map
use Rattle.std.specs.Ordering.{nat_cmp}
use Rattle.bucket_records.specs.Held.{with_values}
use Rattle.bucket_records.specs.Records.{BucketMap}
use Rattle.bucket_store.specs.declared.cache.Cached.{Cached}

-- buckets by number
abbrev pub CacheMap : Type 0
CacheMap = map.FinMap nat_cmp Cached

-- a bucket that was changed to this map
abbrev pub changed_to : Cached → BucketMap → Cached
changed_to own values = record { bucket = with_values own.bucket values; changed = true }

-- after Ok this is what it has become, and after Err it is as it was
abbrev pub Becomes : {V T E : Type 0} → V → V → V → Result T E → Type 0
Becomes old new this (Ok done) = new ≡ this
Becomes old new this (Err fault) = new ≡ old
