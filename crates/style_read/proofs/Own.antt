-- What holds of the style of each document.
use Rattle.std.proofs.Common.{◌≡◌, ◌≤◌, ◌<◌, ℕ, Bool, true, false, List, [], ◌∷◌, length, map, Option, Some, None, option_map, refl, sym}
use Rattle.std.proofs.Common.{◌∙◌, arith}
use Rattle.std.specs.Prelude.{IfSome, codes}
use Rattle.std.specs.Option.{option_map_or}
use Rattle.std.specs.Str.{chars}
use Rattle.std.specs.List.{AllByRecursion, cons_option, filter_map}
use Rattle.std.proofs.lemmas.Bool.Decides.{nat_tests}
use Rattle.std.proofs.lemmas.List.{length-map}
use Rattle.std.proofs.lemmas.List.Quantifiers.{position-Some}
use Rattle.toml.specs.Data.{Data, array, no_items}
use Rattle.style_read.specs.Causes.{first_cause, top_has, has_too_many, selections_of, tables_of, columns_of}
use Rattle.style_read.specs.Column.{column_of, column_from, origin_of, tag_origin}
use Rattle.style_read.specs.Condition.{Parts, condition_on, tag_condition, condition_of, parts_of, selection_of, is_named}
use Rattle.style_read.specs.Document.{text_value, text_at, values_at}
use Rattle.style_read.specs.Reading.{selection, table, conditions}
use Rattle.style_read.specs.Style.{NamesOneOf, IsFromOneOf, IsOnTags, IsTable, IsStyle}
use Rattle.style_read.specs.Text.{behind}
use Rattle.style_read.specs.declared.fault.StyleWhy.{StyleWhy}
use Rattle.style_read.specs.declared.fault.StyleWhy.TheVariants as causes
use Rattle.style_read.specs.declared.condition.Form.{Form}
use Rattle.style_read.specs.declared.condition.Form.TheVariants as forms
use Rattle.style_read.specs.declared.style.Condition.TheVariants.{Selected}
use Rattle.style_read.specs.declared.style.Origin.TheVariants as origins
use Rattle.style_read.specs.declared.style.TheConstants.{MAX_SELECTIONS, MAX_TABLES}

-- where no cause applies, the first of the order does not
first-of_none : (applies : StyleWhy → Bool) → first_cause applies ≡ None → applies causes.TooMany ≡ false
first-of_none applies none = go (applies causes.TooMany) refl
  where
    go : (t : Bool) → applies causes.TooMany ≡ t → applies causes.TooMany ≡ false
    go true e =
        let found : first_cause applies ≡ Some causes.TooMany = rw e in
        let clash : Some causes.TooMany ≡ None = sym found ∙ none in
        absurd cc
    go false e = e

-- a document with no fault at the top has few selections and few tables
pub few : (document : Data) → first_cause (top_has document) ≡ None
    → (length (selections_of document) ≤ MAX_SELECTIONS) × (length (tables_of document) ≤ MAX_TABLES)
unfolding top_has has_too_many
few document none = let not_many = first-of_none (top_has document) none in grind (arith, nat_tests)

-- what is made of each element, where something is, has this fact
cons_option-all : {Y : Type 0} (P : Y → Type 0) (found : Option Y) (rest : List Y) → IfSome found P → AllByRecursion P rest
    → AllByRecursion P (cons_option found rest)
cons_option-all P None rest fact all = all
cons_option-all P (Some y) rest fact all = (fact, all)

filter_map-all : {X Y : Type 0} (P : Y → Type 0) (h : X → Option Y) → ((x : X) → IfSome (h x) P) → (xs : List X)
    → AllByRecursion P (filter_map h xs)
filter_map-all P h each [] = tt
filter_map-all P h each (x ∷ xs) = cons_option-all P (h x) (filter_map h xs) (each x) (filter_map-all P h each xs)

map-all : {X Y : Type 0} (P : Y → Type 0) (f : X → Y) → ((x : X) → P (f x)) → (xs : List X) → AllByRecursion P (map f xs)
map-all P f each [] = tt
map-all P f each (x ∷ xs) = (each x, map-all P f each xs)

option_map-fact : {X Y : Type 0} (P : Y → Type 0) (f : X → Y) (found : Option X) → IfSome found (λ x. P (f x))
    → IfSome (option_map f found) P
option_map-fact P f None fact = tt
option_map-fact P f (Some x) fact = fact

-- a condition on tags names no selection
condition_on-fact : (count : ℕ) (form : Form) (key value : List ℕ) → NamesOneOf count (condition_on form key value)
condition_on-fact count forms.Has key value = tt
condition_on-fact count forms.Lacks key value = tt
condition_on-fact count forms.Is key value = tt
condition_on-fact count forms.Isnt key value = tt

made-fact : (count : ℕ) (found : Option Parts)
    → IfSome (option_map (λ (form, key, value). condition_on form key value) found) (NamesOneOf count)
made-fact count None = tt
made-fact count (Some parts) = condition_on-fact count parts.0 parts.1 parts.2

tag_condition-fact : (count : ℕ) (text : List ℕ) → IfSome (tag_condition text) (NamesOneOf count)
tag_condition-fact count text = made-fact count (parts_of text)

-- a value to stand where none is asked for
no_data : Data
no_data = array no_items

-- the number of a selection that is found is that of one that is there
selection_of-low : (selections : List Data) (name : List ℕ) (found : Option ℕ) → selection_of selections name ≡ found
    → IfSome found (λ number. number < length selections)
selection_of-low selections name None e = tt
selection_of-low selections name (Some number) e = (position-Some (is_named name) selections number (no_data) e).0

-- a condition names a selection that is there, if it names one
chosen-fact : (selections : List Data) (text : List ℕ) (found : Option (List ℕ))
    → IfSome (option_map_or (λ name. option_map Selected (selection_of selections name)) found (tag_condition text))
    (NamesOneOf (length selections))
chosen-fact selections text None = tag_condition-fact (length selections) text
chosen-fact selections text (Some name) =
    option_map-fact (NamesOneOf (length selections)) Selected (selection_of selections name)
    (selection_of-low selections name (selection_of selections name) refl)

condition_of-fact : (selections : List Data) (text : List ℕ) → IfSome (condition_of selections text) (NamesOneOf (length selections))
unfolding condition_of
condition_of-fact selections text = chosen-fact selections text (behind (codes "selected:") text)

-- and so does a column
tag_origin-fact : (count : ℕ) (column : Data) (found : Option (List ℕ))
    → IsFromOneOf count (column_from column (option_map_or (λ key. origins.Tag (chars key)) found origins.AllTags))
tag_origin-fact count column None = tt
tag_origin-fact count column (Some key) = tt

other-fact : (count : ℕ) (column : Data) (text : List ℕ) → IsFromOneOf count (column_from column (tag_origin text))
unfolding tag_origin
other-fact count column text = tag_origin-fact count column (behind (codes "tag:") text)

origin-fact : (selections : List Data) (column : Data) (text : List ℕ) (found : Option (List ℕ))
    → IfSome (option_map_or (λ name. option_map origins.Selected (selection_of selections name)) found (Some (tag_origin text)))
    (λ origin. IsFromOneOf (length selections) (column_from column origin))
origin-fact selections column text None = other-fact (length selections) column text
origin-fact selections column text (Some name) =
    option_map-fact (λ origin. IsFromOneOf (length selections) (column_from column origin)) origins.Selected (selection_of selections name)
    (selection_of-low selections name (selection_of selections name) refl)

column_of-fact : (selections : List Data) (column : Data) → IfSome (column_of selections column) (IsFromOneOf (length selections))
unfolding column_of origin_of
column_of-fact selections column =
    let from = text_at (codes "from") column in
    option_map-fact (IsFromOneOf (length selections)) (column_from column) (origin_of selections from)
    (origin-fact selections column from (behind (codes "selected:") from))

selection-fact : (part : Data) → IsOnTags (selection part)
unfolding selection
selection-fact part = filter_map-all (NamesOneOf 0) (λ value. tag_condition (text_value value)) (λ value. tag_condition-fact 0 (text_value value))
    (values_at (codes "where") part)

conditions-fact : (selections values : List Data) → AllByRecursion (NamesOneOf (length selections)) (conditions selections values)
conditions-fact selections values =
    filter_map-all (NamesOneOf (length selections)) (λ value. condition_of selections (text_value value))
    (λ value. condition_of-fact selections (text_value value)) values

table-fact : (selections : List Data) (part : Data) → IsTable (length selections) (table selections part)
unfolding table
table-fact selections part = record {
  all_of = conditions-fact selections (values_at (codes "where") part);
  one_of = conditions-fact selections (values_at (codes "any") part);
  columns = filter_map-all (IsFromOneOf (length selections)) (column_of selections) (column_of-fact selections) (columns_of part);
}

-- what parts write is a style
pub is_style : (selections tables : List Data) → length selections ≤ MAX_SELECTIONS → length tables ≤ MAX_TABLES
    → IsStyle (map selection selections) (map (table selections) tables)
is_style selections tables few_selections few_tables = record {
  few_selections = omega (arith, length-map selections selection);
  few_tables = omega (arith, length-map tables (table selections));
  on_tags = map-all IsOnTags selection selection-fact selections;
  there = rw (length-map selections selection) (map-all (IsTable (length selections)) (table selections) (table-fact selections) tables);
}
