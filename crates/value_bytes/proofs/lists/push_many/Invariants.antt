use Rattle.std.proofs.Common.{◌≡◌, ◌++◌, take}
use Rattle.std.specs.List.{AllByRecursion}
use Rattle.value_bytes.specs.Forms.{all_bytes}
use Rattle.value_bytes.proofs.lists.push_many.Given as goal

-- the values so far were put, and have spellings
abbrev pub invariant-loop-value : goal.invariant-loop-value
invariant-loop-value g l = record {
  put : l.out.items ≡ l.fn.out.items ++ all_bytes g.T.Spelled.spell (take l.value-index l.values);
  are : AllByRecursion g.T.Spelled.is (take l.value-index l.values);
}
