-- Texts as PostgreSQL's COPY text format has them.
-- PostgreSQL manual, COPY, "Text Format": backslash, newline, carriage return and the delimiter, here a tab, must be preceded by a
-- backslash where they are data; \b, \f, \n, \r, \t and \v stand for backspace, form feed, newline, carriage return, tab and
-- vertical tab.
use Rattle.std.specs.Prelude.{ℕ, ◌==◌, Bool, ◌&&◌, ◌||◌, nat_le, if◌then◌else◌, List, [], ◌∷◌, flat_map, codes}
use Rattle.row_text.specs.declared.copy_text.TheConstants.{BACKSPACE, TAB, NEWLINE, VERTICAL_TAB, FORM_FEED, RETURN, BACKSLASH}

-- what stands for one byte
unfoldable pub text_of_byte : ℕ → List ℕ
text_of_byte byte =
    if byte == BACKSPACE then codes "\\b" else
    if byte == FORM_FEED then codes "\\f" else
    if byte == NEWLINE then codes "\\n" else
    if byte == RETURN then codes "\\r" else
    if byte == TAB then codes "\\t" else
    if byte == VERTICAL_TAB then codes "\\v" else
    if byte == BACKSLASH then codes "\\\\" else byte ∷ []

-- what stands for a text: the texts of its bytes, in order
abbrev pub copy_text : List ℕ → List ℕ
copy_text text = flat_map text_of_byte text

-- whether a byte has an escape
unfoldable pub has_escape : ℕ → Bool
has_escape byte = (nat_le BACKSPACE byte && nat_le byte RETURN) || byte == BACKSLASH
