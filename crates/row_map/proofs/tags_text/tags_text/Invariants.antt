use Rattle.std.proofs.Common.{◌≡◌, ◌++◌, [], drop}
use Rattle.std.specs.FinMap as map
use Rattle.json.specs.Tree.{json_tokens, members_tokens}
use Rattle.serde_json.specs.Data.{object}
use Rattle.serde_json.specs.Written.{outline, members_outline}
use Rattle.row_rules.specs.Cell.{members_of}
use Rattle.row_map.proofs.tags_text.tags_text.Given as goal

-- what is written, and then the tags that are left
abbrev pub invariant-loop-index : goal.invariant-loop-index
invariant-loop-index l =
    (l.writer.before ≡ [])
    × (l.writer.tokens ++ members_tokens (members_outline (members_of (drop l.index (map.entries l.tags))))
    ≡ json_tokens (outline (object (members_of (map.entries l.tags)))))
