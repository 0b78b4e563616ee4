use Rattle.std.proofs.Common.{◌≡◌, ◌+◌, ◌++◌, drop}
use Rattle.chain_store.specs.Gathered.{base_parts}
use Rattle.chain_store.proofs.gathering.directory_parts.Given as goal

abbrev pub invariant-loop-directory : goal.invariant-loop-directory
invariant-loop-directory l = record {
  all : l.parts.items ++ base_parts l.same l.count l.number (drop l.directory-index l.directories)
      ≡ base_parts l.same l.count 8 l.directories;
  number : l.number ≡ 8 + l.directory-index;
}
