use Rattle.std.proofs.Common.{◌≡◌, ◌≤◌, ◌<◌, true, get_or, length, take}
use Rattle.bucket_store.specs.Image.{Has, Image}
use Rattle.bucket_store.specs.Transaction.{IsReady}
use Rattle.value_bytes.specs.StoreMap.{map_number}
use Rattle.store_maps.specs.Asked.{May}
use Rattle.back_index.specs.Filling.{AreIds, IsVoid, MayTold, MentionRuns, mentions_tell}
use Rattle.back_index.specs.Reads.{HasReadOnly, ReadsBuckets}
use Rattle.back_index.specs.Visits.{OnlyMap}
use Rattle.back_index.specs.declared.mentions.Mention.{Mention}
use Rattle.back_index.proofs.Chained.{StillAnswers}
use Rattle.back_index.proofs.filling.keep_lists.Given as goal

-- of what was told so far each list but the last is put
abbrev pub invariant-loop-mention : goal.invariant-loop-mention
invariant-loop-mention g l = record {
  ready : IsReady l.buckets;
  answers : StillAnswers l.initial.buckets l.buckets;
  reads : ReadsBuckets l.initial.buckets l.buckets;
  at : (may : May) → MayTold may (map_number l.map) (mentions_tell l.mentions) → may (map_number l.map) l.run.id ≡ true;
  within : (may : May) → MayTold may (map_number l.map) (mentions_tell l.mentions) → HasReadOnly may l.initial.buckets
      → HasReadOnly may l.buckets;
  ids : AreIds l.run.ids.items;
  order : (own : Mention) → l.mention-index < length l.mentions → l.run.id ≤ (get_or l.mentions l.mention-index own).id;
  runs : (rest now : Image) → Has rest now l.initial.buckets
      → (after : Image) × Has rest after l.buckets × OnlyMap (map_number l.map) now after
      × (IsVoid (now.maps (map_number l.map)) → MentionRuns (take l.mention-index l.mentions) l.run.id l.run.ids.items
      (after.maps (map_number l.map)));
}
