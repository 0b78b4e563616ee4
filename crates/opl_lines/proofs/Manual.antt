-- What the manual says of lines, on files that are written out.
-- osmium manual, "OPL File Format": each line contains one object; lines are separated by a newline.
use Rattle.std.proofs.Common.{◌≡◌, [], ◌∷◌, ◌++◌, refl}
use Rattle.std.specs.Prelude.{codes}
use Rattle.opl_lines.specs.Lines.{lines_of}

-- no bytes, no lines
empty_file : lines_of (codes "") ≡ []
unfolding lines_of
empty_file = refl

-- each newline ends a line
two_lines : lines_of (codes "n1 v1\nw2\n") ≡ codes "n1 v1" ∷ codes "w2" ∷ []
unfolding lines_of
two_lines = refl

-- a last line without newline counts where it has a byte
last_line : lines_of (codes "n1 v1\nw2") ≡ codes "n1 v1" ∷ codes "w2" ∷ []
unfolding lines_of
last_line = refl

-- a newline alone is an empty line
empty_lines : lines_of (codes "\n\nn1\n") ≡ [] ∷ [] ∷ codes "n1" ∷ []
unfolding lines_of
empty_lines = refl

-- no other byte ends a line
returns : lines_of (codes "n1\rw2\t\n") ≡ codes "n1\rw2\t" ∷ []
unfolding lines_of
returns = refl

-- one object a line: two nodes with their metadata and tags, as osmium writes them
objects : lines_of
    (codes "n1 v3 dV c101 t2024-05-01T10:00:00Z i7 uanna Tamenity=cafe x13.3777 y52.5163\n"
    ++ codes "n2 v1 dV c100 t2024-05-01T09:00:00Z i7 uanna T x13.378 y52.5163\n")
    ≡ codes "n1 v3 dV c101 t2024-05-01T10:00:00Z i7 uanna Tamenity=cafe x13.3777 y52.5163"
    ∷ codes "n2 v1 dV c100 t2024-05-01T09:00:00Z i7 uanna T x13.378 y52.5163" ∷ []
unfolding lines_of
objects = refl
