use Rattle.std.proofs.Common.{◌∙◌, sym}
use Rattle.osm_base.proofs.TagPairs.{same_characters}
use Rattle.row_map.proofs.area.is_same.Goals as goal

pub returns : goal.returns
returns c = record { same = c.eq.ensures ∙ sym (same_characters c.args.text.now c.args.other.now c.utf8.text c.utf8.other) }
