-- The numbers and the bytes that docs/STYLES.md states, and its examples of conditions, written out by hand.
use Rattle.std.specs.Prelude.{◌≡◌, [], ◌∷◌, None, Some, codes, refl, true, false}
use Rattle.style_read.specs.Condition.{parts_of}
use Rattle.style_read.specs.Column.{is_bad_origin}
use Rattle.style_read.specs.Name.{is_name}
use Rattle.style_read.specs.Text.{behind, before_last, around_first}
use Rattle.style_read.specs.Words.{gives_geometry, source_of, geometry_of}
use Rattle.style_read.specs.declared.condition.Form.TheVariants as forms
use Rattle.style_read.specs.declared.condition.TheConstants.{BANG, EQUALS}
use Rattle.style_read.specs.declared.name.TheConstants.{MAX_NAME, UNDERSCORE}
use Rattle.style_read.specs.declared.style.TheConstants.{MAX_SELECTIONS, MAX_TABLES, MAX_COLUMNS}

most_selections : MAX_SELECTIONS ≡ 64
most_selections = refl

most_tables : MAX_TABLES ≡ 256
most_tables = refl

most_columns : MAX_COLUMNS ≡ 256
most_columns = refl

longest_name : MAX_NAME ≡ 63
longest_name = refl

bytes : BANG ∷ EQUALS ∷ UNDERSCORE ∷ [] ≡ codes "!=_"
bytes = refl

-- a key that is there, and one that is not
has : parts_of (codes "highway") ≡ Some (forms.Has, codes "highway", [])
unfolding parts_of behind before_last around_first
has = refl

lacks : parts_of (codes "!highway") ≡ Some (forms.Lacks, codes "highway", [])
unfolding parts_of behind before_last around_first
lacks = refl

-- the first `=` cuts, and a `!` before it turns the condition
is : parts_of (codes "a=b=c") ≡ Some (forms.Is, codes "a", codes "b=c")
unfolding parts_of behind before_last around_first
is = refl

isnt : parts_of (codes "a!=") ≡ Some (forms.Isnt, codes "a", [])
unfolding parts_of behind before_last around_first
isnt = refl

-- a key has a byte, and one behind `!` no `=`
no_key : parts_of (codes "=b") ≡ None
unfolding parts_of behind before_last around_first
no_key = refl

bare_bang : parts_of (codes "!=b") ≡ None
unfolding parts_of behind before_last around_first
bare_bang = refl

no_word : is_name (codes "Roads") ≡ false
no_word = refl

lines_of_ways : gives_geometry (codes "way") (codes "lines") ≡ false
unfolding gives_geometry source_of geometry_of
lines_of_ways = refl

number_of_all_tags : is_bad_origin true (codes "tags") ≡ true
unfolding is_bad_origin behind
number_of_all_tags = refl
