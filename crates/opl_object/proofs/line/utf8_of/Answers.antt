use Rattle.std.proofs.Common.{◌≡◌, false, ap, refl, sym, subst, Ok, drop}
use Rattle.std.specs.Str.{IsUtf8, is_utf8}
use Rattle.std.proofs.lemmas.Bool.{false_from_ne_true}
use Rattle.std.proofs.lemmas.Str.{is_utf8-from_IsUtf8, IsUtf8-from_is_utf8}
use Rattle.opl_object.proofs.AsciiFronts.{behind, rest_all, whole}
use Rattle.opl_object.proofs.line.utf8_of.Goals as goal

pub from_utf8_unchecked-requires : goal.from_utf8_unchecked-requires
from_utf8_unchecked-requires c =
    let line = c.args.line.now in
    let front = c.ascii_len-front.result in
    whole line front c.ascii_len-front.ensures.ascii (subst IsUtf8 (rest_all line front) c.in-Ok.ensures.cases.1)

pub returns-in-Ok : goal.returns-in-Ok
returns-in-Ok c =
    let line = c.args.line.now in
    let front = c.ascii_len-front.result in
    let rest : IsUtf8 (drop front line) = subst IsUtf8 (rest_all line front) c.in-Ok.ensures.cases.1 in
    let utf8 : IsUtf8 line = whole line front c.ascii_len-front.ensures.ascii rest in
    record { text = rw (is_utf8-from_IsUtf8 line utf8) (ap Ok (sym c.from_utf8_unchecked.ensures)) }

pub returns-in-Err : goal.returns-in-Err
returns-in-Err c =
    let line = c.args.line.now in
    let front = c.ascii_len-front.result in
    let no : is_utf8 line ≡ false = false_from_ne_true _ (λ e. c.in-Err.ensures.cases.0 (subst IsUtf8 (sym (rest_all line front))
    (behind line front c.ascii_len-front.ensures.within c.ascii_len-front.ensures.ascii (IsUtf8-from_is_utf8 line e)))) in
    record { text = rw no refl }
