use Rattle.std.proofs.Common.{ℕ, List, Bool, not, option_map, sym, ap, ◌∙◌}
use Rattle.std.specs.BTreeMap.{keys}
use Rattle.std.specs.List.{list_any}
use Rattle.std.specs.String.{string_bytes}
use Rattle.toml.specs.View.{table_view}
use Rattle.style_read.specs.Words.{is_key_of}
use Rattle.style_read.proofs.Views.{keys_in_table_view, list_any_over}
use Rattle.style_read.proofs.words.has_other_key.Goals as goal

pub returns-in-Some : goal.returns-in-Some
returns-in-Some c =
    let test : List ℕ → Bool = λ key. not (is_key_of c.args.level key) in
    let table = c.in-Some.table.now in
    rw (sym c.as_table.ensures ∙ ap (option_map (λ m. table_view m.now)) c.in-Some.is) record {
      other = c.table_has_other_key.ensures.other
          ∙ sym (ap (list_any test) (keys_in_table_view table) ∙ list_any_over test string_bytes (keys table));
    }
