-- Conditions of selections and tables.
-- Where a text begins with `selected:`, the rest names a selection. Otherwise, where it begins with `!`, the rest is a key
-- without `=` that has to be absent. Otherwise, without `=`, it is a key that has to be there. Otherwise what stands before
-- the first `=` is the key and what stands behind it the value that it has to have; a `!` at the end of what stands before
-- is dropped, and the value is then one that the key must not have. A key has at least one byte. docs/STYLES.md states the
-- rule for operators.
use Rattle.std.specs.Prelude.{ℕ, List, [], Bool, false, not, if◌then◌else◌, Option, None, Some, is_some, is_none, length, ◌==◌, codes}
use Rattle.std.specs.List.{position}
use Rattle.std.specs.Option.{option_map, option_map_or}
use Rattle.std.specs.Str.{chars, bytes_eq}
use Rattle.toml.specs.Data.{Data}
use Rattle.style_read.specs.Document.{text_at}
use Rattle.style_read.specs.Text.{behind, before_last, around_first}
use Rattle.style_read.specs.declared.style.Condition.{Condition}
use Rattle.style_read.specs.declared.style.Condition.TheVariants.{Has, Lacks, Is, Isnt, Selected}
use Rattle.style_read.specs.declared.condition.Form.{Form}
use Rattle.style_read.specs.declared.condition.Form.TheVariants as forms
use Rattle.style_read.specs.declared.condition.TheConstants.{BANG, EQUALS}

-- a condition on tags as it is written: its form, its key, and its value, which is empty in a form that has none
abbrev pub Parts : Type 0
Parts = Form × List ℕ × List ℕ

-- a key has at least one byte
abbrev pub keyed : Form → (key value : List ℕ) → Option Parts
keyed form key value = if length key == 0 then None else Some (form, key, value)

-- what stands behind `!` is a key
abbrev pub lacking : List ℕ → Option Parts
lacking key = if is_some (around_first EQUALS key) then None else keyed forms.Lacks key []

-- what stands before and behind `=`: a key, or a key and `!`, and a value
abbrev pub compared : (front value : List ℕ) → Option Parts
compared front value = option_map_or (λ key. keyed forms.Isnt key value) (before_last BANG front) (keyed forms.Is front value)

-- a text that does not begin with `!`
abbrev pub asking : List ℕ → Option Parts
asking text = option_map_or (λ (front, value). compared front value) (around_first EQUALS text) (keyed forms.Has text [])

-- a text as a condition on tags, where it is one
unfoldable pub parts_of : List ℕ → Option Parts
parts_of text = option_map_or lacking (behind (codes "!") text) (asking text)

-- the condition of a form
abbrev pub condition_on : Form → (key value : List ℕ) → Condition
condition_on forms.Has key value = Has (chars key)
condition_on forms.Lacks key value = Lacks (chars key)
condition_on forms.Is key value = Is (chars key) (chars value)
condition_on forms.Isnt key value = Isnt (chars key) (chars value)

-- the condition on tags that a text writes, where it writes one
abbrev pub tag_condition : List ℕ → Option Condition
tag_condition text = option_map (λ (form, key, value). condition_on form key value) (parts_of text)

-- a part has this name
abbrev pub is_named : List ℕ → Data → Bool
is_named name part = bytes_eq (text_at (codes "name") part) name

-- the number of the selection with this name, counted from 0
abbrev pub selection_of : (selections : List Data) → List ℕ → Option ℕ
selection_of selections name = position (is_named name) selections

-- the condition that a text writes, where it writes one
unfoldable pub condition_of : (selections : List Data) → List ℕ → Option Condition
condition_of selections text =
    option_map_or (λ name. option_map Selected (selection_of selections name)) (behind (codes "selected:") text) (tag_condition text)

-- a text is no condition, or one on selections where none may stand
unfoldable pub is_bad_condition : (may_select : Bool) → List ℕ → Bool
is_bad_condition may_select text = option_map_or (λ _. not may_select) (behind (codes "selected:") text) (is_none (parts_of text))

-- a text asks for a selection that is not there
unfoldable pub asks_unknown : (selections : List Data) → List ℕ → Bool
asks_unknown selections text = option_map_or (λ name. is_none (selection_of selections name)) (behind (codes "selected:") text) false
