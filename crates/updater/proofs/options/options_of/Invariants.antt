use Rattle.std.proofs.Common.{◌≡◌, drop, map}
use Rattle.std.specs.String.{string_bytes}
use Rattle.updater.specs.Options.{AreInRange, options_read, with_options}
use Rattle.updater.proofs.options.options_of.Given as goal

-- the words so far are read
abbrev pub invariant-loop-word : goal.invariant-loop-word
invariant-loop-word l = record {
  so_far : with_options l.allowed l.options (map string_bytes (drop l.word-index l.words))
      ≡ options_read l.allowed (map string_bytes l.words);
  range : AreInRange l.options;
}
