-- Tags that are found before they are kept.
use Rattle.std.specs.Prelude.{List, map}
use Rattle.osm_base.specs.values.Tags.{TagPairs}
use Rattle.opl_object.specs.declared.mixed.Piece.{Piece}
use Rattle.opl_object.specs.Tags.{tag_of}

-- the tags of pieces
abbrev pub tags_in : List Piece → TagPairs
tags_in pieces = map (λ piece. tag_of piece.text.now) pieces
