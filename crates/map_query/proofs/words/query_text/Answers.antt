use Rattle.std.proofs.Common.{◌≡◌, false, ap, sym, refl, Ok}
use Rattle.std.specs.Str.{is_utf8}
use Rattle.std.proofs.lemmas.Bool.{false_from_ne_true}
use Rattle.std.proofs.lemmas.Str.{is_utf8-from_IsUtf8, IsUtf8-from_is_utf8}
use Rattle.map_query.proofs.words.query_text.Goals as goal

pub returns-in-Ok : goal.returns-in-Ok
returns-in-Ok c = record { text = rw (is_utf8-from_IsUtf8 c.args.line.now c.in-Ok.ensures.cases.1) (ap Ok (sym c.in-Ok.ensures.cases.0)) }

pub returns-in-Err : goal.returns-in-Err
returns-in-Err c =
    let none : is_utf8 c.args.line.now ≡ false =
    false_from_ne_true _ (λ e. c.in-Err.ensures.cases.0 (IsUtf8-from_is_utf8 c.args.line.now e)) in
    record { text = rw none refl }
