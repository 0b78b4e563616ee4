use Rattle.std.proofs.Common.{rules, ◌≡◌, ◌∷◌, ◌++◌, List, ℕ, [], Bor}
use Rattle.std.specs.List.{AllZip}
use Rattle.std.proofs.lemmas.Slice.Zip.{all_zipped_more}
use Rattle.opl_files.specs.declared.parts.Share.{Share}
use Rattle.opl_files.specs.Parts.{IsShareOf}
use Rattle.opl_files.proofs.waiting.+fn-read_with_others-join_mut+arg3+read_with_others.Goals as goal

pub returns-in-Ok-push-clause-shares : goal.returns-in-Ok-push-clause-shares
returns-in-Ok-push-clause-shares g t c =
    let limits = c.args.limits.now in
    let last : Bor (List ℕ) = c.in-Some.last.now in
    let others : List (Bor (List ℕ)) = c.in-Some.others.now in
    let share : Share = c.join_mut-share.result.0 in
    let cut : c.args.pieces.now ≡ others ++ last ∷ [] = search rules in
    let put : c.push.new.self.items ≡ c.in-Ok.shares.items ++ share ∷ [] = search rules in
    let this : IsShareOf limits last.now share = search rules in
    let each : AllZip (λ (piece : Bor (List ℕ)) (own : Share). IsShareOf limits piece.now own) others c.in-Ok.shares.items = search rules in
    rw (cut, put)
    (all_zipped_more (λ (piece : Bor (List ℕ)) (own : Share). IsShareOf limits piece.now own) others c.in-Ok.shares.items last share each this)
