use Rattle.std.proofs.Common.{ℕ, Option, [], ◌++◌, ◌∙◌, length, ap, refl, sym}
use Rattle.std.specs.Fmt.{decimal}
use Rattle.std.specs.Prelude.{codes, encode_utf8_all}
use Rattle.std.specs.Option.{option_map_or}
use Rattle.std.proofs.lemmas.Option.{slice_get_read}
use Rattle.row_text.specs.Numbered.{rows_of}
use Rattle.style_read.specs.declared.style.TableDef.{TableDef}
use Rattle.updater.proofs.TableTexts.{behind-parts}
use Rattle.updater.proofs.summary.push_count.Goals as goal

pub returns : goal.returns
returns c =
    let before = c.args.out.now.items in
    let name = c.index-definitions-at.result.name in
    let rows = rows_of c.args.tables.now c.args.table in
    record {
      text = c.in_ok-push_line.ensures.text
          ∙ ap (λ (own : ℕ). before ++ encode_utf8_all name ++ codes " " ++ decimal own ++ codes "\n") c.count_rows-rows.ensures.count
          ∙ behind-parts before (encode_utf8_all name) (codes " ") (decimal (length rows)) (codes "\n")
          ∙ ap (λ (found : Option TableDef). before
          ++ option_map_or (λ (definition : TableDef). encode_utf8_all definition.name ++ codes " " ++ decimal (length rows) ++ codes "\n")
          found [])
          (sym (slice_get_read c.args.definitions.now
          (length c.args.definitions.now) c.args.table c.index-definitions-at.result refl c.requires.there c.index-definitions-at.is));
    }
