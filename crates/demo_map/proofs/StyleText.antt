-- The text of the style, read.
use Rattle.std.proofs.Common.{◌≡◌, ℕ, List, refl, sym, ap, ◌∙◌}
use Rattle.std.specs.Prelude.{Ok, Err}
use Rattle.std.specs.Str.{chars, is_utf8}
use lib.Utf8.{encode}
use Rattle.toml.proofs.OnLiterals.{toml_on_literals}
use Rattle.style_read.specs.Causes.{asks_unknown_at, fault_of, has_bad_columns, has_bad_condition, has_bad_conditions, has_bad_name, has_bad_names, has_other_column_types, has_other_geometry, has_other_keys, has_other_lists, has_other_table_types, has_other_types, has_other_words, has_too_many, has_too_many_columns, is_bad_selection, is_from_unknown, lacks_of_column, lacks_of_selection, lacks_of_table, lacks_tables, selection_has, table_asks_unknown, table_has, top_has}
use Rattle.style_read.specs.Column.{column_of, is_bad_column, is_bad_origin, is_int, origin_of, tag_origin}
use Rattle.style_read.specs.Condition.{asks_unknown, condition_of, is_bad_condition, parts_of}
use Rattle.style_read.specs.Document.{document}
use Rattle.style_read.specs.Reading.{mode_at, reading, selection, source_at, style_of, table}
use Rattle.style_read.specs.Text.{around_first, before_last, behind}
use Rattle.style_read.specs.Words.{geometry_of, gives_geometry, is_geometry, is_key_of, is_type, may_select, mode_of, source_of}
use Rattle.style_read.specs.Style.{StyleOf}
use Rattle.style_read.specs.declared.fault.StylePart.{StylePart}
use Rattle.style_read.specs.declared.fault.StyleWhy.{StyleWhy}
use Rattle.demo_map.specs.Style.{DEMO_STYLE, demo_style}

pub reading-DEMO_STYLE : reading DEMO_STYLE ≡ Ok demo_style
unfolding DEMO_STYLE demo_style is_utf8 chars encode toml_on_literals around_first asks_unknown asks_unknown_at before_last behind column_of condition_of document fault_of geometry_of gives_geometry has_bad_columns has_bad_condition has_bad_conditions has_bad_name has_bad_names has_other_column_types has_other_geometry has_other_keys has_other_lists has_other_table_types has_other_types has_other_words has_too_many has_too_many_columns is_bad_column is_bad_condition is_bad_origin is_bad_selection is_from_unknown is_geometry is_int is_key_of is_type lacks_of_column lacks_of_selection lacks_of_table lacks_tables may_select mode_at mode_of origin_of parts_of reading selection selection_has source_at source_of style_of table table_asks_unknown table_has tag_origin top_has
reading-DEMO_STYLE = refl

pub read_is : (text : List ℕ) (style : StyleOf) → text ≡ DEMO_STYLE → reading text ≡ Ok style → style ≡ demo_style
read_is text style same read =
    let both : Ok style ≡ Ok demo_style = sym read ∙ ap reading same ∙ reading-DEMO_STYLE in cc

no_fault : (style : StyleOf) (fault : StyleWhy × StylePart) → Ok style ≡ Err fault → ⊥
no_fault style fault clash = absurd cc

pub never_bad : (text : List ℕ) (why : StyleWhy) (part : StylePart) → text ≡ DEMO_STYLE → reading text ≡ Err (why, part) → ⊥
never_bad text why part same bad = no_fault demo_style (why, part) (sym reading-DEMO_STYLE ∙ ap reading (sym same) ∙ bad)
