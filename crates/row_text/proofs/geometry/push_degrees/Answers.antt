use Rattle.std.proofs.Common.{sym, subst}
use Rattle.std.specs.Str.{IsUtf8}
use Rattle.row_text.proofs.Ascii.{IsUtf8-degrees}
use Rattle.row_text.proofs.geometry.push_degrees.Goals as goal

pub from_utf8_unchecked-requires : goal.from_utf8_unchecked-requires
from_utf8_unchecked-requires c = subst IsUtf8 (sym c.format-text.ensures.text) (IsUtf8-degrees _)
