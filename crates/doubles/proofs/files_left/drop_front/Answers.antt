use Rattle.std.proofs.Common.{◌≡◌, ap, ◌∙◌, arith, drop, slice_index_or, slice_set, []}
use Rattle.std.proofs.lemmas.Grind.{common_steps}
use Rattle.std.proofs.lemmas.List.{set-set}
use Rattle.doubles.proofs.ServedFiles.{rotated_cut}
use Rattle.doubles.proofs.files_left.drop_front.Goals as goal

pub returns : goal.returns
returns c =
    let file = slice_index_or c.args.files.now.items c.args.file [] in
    let whole : c.into_vec-bytes.result.items ≡ file = grind (arith, common_steps) in
    let rest : c.from_vec.result ≡ drop c.args.count file =
    c.from_vec.ensures.items ∙ rotated_cut _ _ _ _ _ _ whole c.rotate_left.ensures.items
    (omega (arith, c.into_vec-bytes.result.ok.0, c.len.ensures, c.rotate_left.ensures.len))
    c.truncate.ensures.items in
    record { dropped = set-set _ _ _ _ ∙ ap (λ bytes. slice_set c.args.files.now.items c.args.file bytes) rest }
