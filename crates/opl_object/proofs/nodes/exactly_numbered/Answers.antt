use Rattle.std.proofs.Common.{◌≡◌, ◌∙◌, ℕ, not, ap}
use Rattle.std.specs.List.{position_or_len}
use Rattle.std.specs.Char.{is_ascii_digit}
use Rattle.opl_object.proofs.Cuts.{boundary_behind, digit-ascii}
use Rattle.opl_object.proofs.nodes.exactly_numbered.Goals as goal

pub split_at-requires : goal.split_at-requires
split_at-requires c =
    let place : c.digits_len.result ≡ position_or_len {X = ℕ} (λ byte. not (is_ascii_digit byte)) c.args.text.now =
    c.digits_len.ensures.place ∙ ap (position_or_len {X = ℕ} (λ byte. not (is_ascii_digit byte))) c.as_bytes.ensures.value in
    rw place (boundary_behind is_ascii_digit c.args.text.now digit-ascii c.utf8.text)
