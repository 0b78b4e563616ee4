use Rattle.std.proofs.Common.{◌≡◌, ◌++◌, take}
use Rattle.std.specs.FinMap as map
use Rattle.std.specs.List.{AllByRecursion}
use Rattle.value_bytes.specs.Forms.{all_bytes}
use Rattle.value_bytes.specs.Tags.{tag_bytes, IsTag}
use Rattle.value_bytes.proofs.tags.push_each.Given as goal

-- the tags so far were put, and have spellings
abbrev pub invariant-loop-index : goal.invariant-loop-index
invariant-loop-index l = record {
  put : l.out.items ≡ l.fn.out.items ++ all_bytes tag_bytes (take l.index (map.entries l.tags));
  are : AllByRecursion IsTag (take l.index (map.entries l.tags));
}
