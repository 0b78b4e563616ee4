use Rattle.std.proofs.Common.{List, ℕ, Option, [], ◌++◌, ◌∙◌, length, ap, refl, sym}
use Rattle.std.specs.Prelude.{codes, encode_utf8_all, slice_get}
use Rattle.std.specs.Option.{option_map_or}
use Rattle.std.proofs.lemmas.Option.{slice_get_read}
use Rattle.row_text.specs.Table.{table_text}
use Rattle.style_read.specs.declared.style.TableDef.{TableDef}
use Rattle.updater.proofs.TableTexts.{behind-parts}
use Rattle.updater.proofs.whole_text.push_table.Goals as goal

pub returns : goal.returns
returns c =
    let before = c.args.out.now.items in
    let of_table : List ℕ = table_text c.args.style.now c.args.tables.now c.args.table in
    record {
      text = c.in_ok-push_named.ensures.text
          ∙ ap (λ (own : List ℕ). before ++ codes "table " ++ encode_utf8_all c.index-definitions-at.result.name ++ codes "\n" ++ own)
          c.in_ok-text.ensures.text
          ∙ behind-parts before (codes "table ") (encode_utf8_all c.index-definitions-at.result.name) (codes "\n") of_table
          ∙ ap (λ (found : Option TableDef). before
          ++ option_map_or (λ (definition : TableDef). codes "table " ++ encode_utf8_all definition.name ++ codes "\n" ++ of_table)
          found [])
          (sym (slice_get_read c.args.definitions.now
          (length c.args.definitions.now) c.args.table c.index-definitions-at.result refl c.requires.there c.index-definitions-at.is)
          ∙ ap (λ (definitions : List TableDef). slice_get definitions c.args.table) c.requires.same);
    }
