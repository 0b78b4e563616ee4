use Rattle.std.proofs.Common.{◌≡◌, ◌++◌}
use Rattle.std.specs.String.{string_bytes}
use Rattle.row_text.specs.CopyText.{copy_text}
use Rattle.row_text.proofs.copy_text.push_escaped.Given as goal

-- what is written, and then the text that is left, is the whole text
abbrev pub invariant-loop-character : goal.invariant-loop-character
invariant-loop-character l =
    string_bytes l.out ++ copy_text l.character-iterator.rest.now ≡ string_bytes l.initial.out ++ copy_text l.text
