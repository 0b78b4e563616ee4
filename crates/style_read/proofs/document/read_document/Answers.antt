use Rattle.std.proofs.Common.{refl, ap, ◌∙◌}
use Rattle.std.proofs.lemmas.Str.{is_utf8-from_IsUtf8}
use Rattle.style_read.specs.Document.{document, table_of_text}
use Rattle.style_read.proofs.Views.{is_utf8-of_none}
use Rattle.style_read.proofs.document.read_document.Goals as goal

pub returns-in_ok-read_text-in-Ok : goal.returns-in_ok-read_text-in-Ok
unfolding document
returns-in_ok-read_text-in-Ok c = rw (is_utf8-from_IsUtf8 c.args.bytes.now c.in-Ok.ensures.cases.1) record {
  table = c.in_ok-read_text-in-Ok.ensures.table ∙ ap table_of_text c.in-Ok.ensures.cases.0;
}

pub returns-in-Err : goal.returns-in-Err
unfolding document
returns-in-Err c = rw (is_utf8-of_none c.args.bytes.now c.in-Err.ensures.cases.0) record { table = refl }
