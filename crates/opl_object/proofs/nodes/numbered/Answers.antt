use Rattle.std.proofs.Common.{◌≡◌, ◌∙◌, ℕ, not, ap}
use Rattle.std.specs.Prelude.{take, Ok}
use Rattle.std.specs.List.{position_or_len}
use Rattle.std.specs.Char.{is_ascii_digit}
use Rattle.opl_object.specs.Nodes.{digits_len}
use Rattle.opl_object.specs.Number.{id_of}
use Rattle.opl_object.proofs.Cuts.{boundary_behind, digit-ascii}
use Rattle.opl_object.proofs.Fronts.{numbered_small}
use Rattle.opl_object.proofs.nodes.numbered.Goals as goal

pub split_at-requires : goal.split_at-requires
split_at-requires c =
    let place : c.in-Some.len ≡ position_or_len {X = ℕ} (λ byte. not (is_ascii_digit byte)) c.args.text.now =
    c.in-Some.ensures.len ∙ ap digits_len c.as_bytes.ensures.value in
    rw place (boundary_behind is_ascii_digit c.args.text.now digit-ascii c.utf8.text)

pub returns-in-Some-clause-parts : goal.returns-in-Some-clause-parts
returns-in-Some-clause-parts c =
    let found : id_of (take c.in-Some.len c.args.text.now) ≡ Ok c.in-Some.id = rw (← c.as_bytes.ensures.value) c.in-Some.ensures.id in
    numbered_small c.args.text.now c.split_at.result.1.now c.in-Some.len c.in-Some.id
    (c.in-Some.ensures.len ∙ ap digits_len c.as_bytes.ensures.value) found c.split_at.ensures.back
