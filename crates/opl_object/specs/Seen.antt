-- Which letters stood in a line, as a row of flags has it.
use Rattle.std.specs.Prelude.{ℕ, Bool, false, slice_index_or}
use Rattle.opl_object.specs.declared.letter.Letter.{Letter}
use Rattle.opl_object.specs.declared.letter.Letter.TheVariants.{Version, Visible, Changeset, Time, UserId, User, Tags, Lon, Lat, Nodes}
use Rattle.opl_object.specs.declared.letter.Letter.TheVariants.{Members}
use Rattle.opl_object.specs.declared.letter.Seen.{Seen}

-- the place of a letter's flag
abbrev pub flag_of : Letter → ℕ
flag_of Version = 0
flag_of Visible = 1
flag_of Changeset = 2
flag_of Time = 3
flag_of UserId = 4
flag_of User = 5
flag_of Tags = 6
flag_of Lon = 7
flag_of Lat = 8
flag_of Nodes = 9
flag_of Members = 10

-- whether a letter stood
unfoldable pub stands : Seen → Letter → Bool
stands seen letter = slice_index_or seen.flags (flag_of letter) false
