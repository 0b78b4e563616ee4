use Rattle.std.proofs.Common.{◌≡◌, ◌∙◌, ℕ, not, arith, ap, subst, sym, Ok}
use Rattle.std.specs.Prelude.{take}
use Rattle.std.specs.List.{position_or_len}
use Rattle.std.specs.Char.{is_ascii_digit}
use Rattle.std.specs.Str.{IsUtf8}
use Rattle.opl_object.specs.declared.ascii.TheConstants.{COMMA, SMALL_N}
use Rattle.opl_object.specs.Nodes.{digits_len}
use Rattle.opl_object.specs.Number.{id_of}
use Rattle.opl_object.proofs.Cuts.{boundary_behind, digit-ascii}
use Rattle.opl_object.proofs.SpelledLists.{nil_is}
use Rattle.opl_object.proofs.UsualNodes.{usual-node, usual_node-last, usual_node-more}
use Rattle.opl_object.proofs.UsualTags.{behind_is}
use Rattle.opl_object.proofs.nodes.usual_node.Goals as goal

pub split_at-requires : goal.split_at-requires
split_at-requires c =
    let place : c.in_ok-id.len ≡ position_or_len {X = ℕ} (λ byte. not (is_ascii_digit byte)) c.in_ok-rest.rest.now =
    c.in_ok-id.ensures.len ∙ ap digits_len c.as_bytes.ensures.value in
    rw place (boundary_behind is_ascii_digit c.in_ok-rest.rest.now digit-ascii
    (subst IsUtf8 c.as_bytes.ensures.value c.as_bytes.ensures.utf8))

pub returns-then-is_empty-clause-pieces : goal.returns-then-is_empty-clause-pieces
returns-then-is_empty-clause-pieces c =
    let first = behind_is SMALL_N c.args.text.now c.in_ok-rest.rest.now (omega arith) c.in_ok-rest.ensures.value in
    let all : c.in_ok-id.len ≡ digits_len c.in_ok-rest.rest.now = c.in_ok-id.ensures.len ∙ ap digits_len c.as_bytes.ensures.value in
    usual_node-last c.args.text.now c.in_ok-rest.rest.now c.split_at.result.0.now c.split_at.result.1.now c.in_ok-id.len c.in_ok-id.id
    first c.split_at.ensures.front c.split_at.ensures.back all (nil_is c.split_at.result.1.now (sym c.if-is_empty.ensures))

pub returns-then-is_empty-clause-node : goal.returns-then-is_empty-clause-node
returns-then-is_empty-clause-node c =
    let first = behind_is SMALL_N c.args.text.now c.in_ok-rest.rest.now (omega arith) c.in_ok-rest.ensures.value in
    let all : c.in_ok-id.len ≡ digits_len c.in_ok-rest.rest.now = c.in_ok-id.ensures.len ∙ ap digits_len c.as_bytes.ensures.value in
    let found : id_of (take c.in_ok-id.len c.in_ok-rest.rest.now) ≡ Ok c.in_ok-id.id =
    rw (← c.as_bytes.ensures.value) c.in_ok-id.ensures.id in
    usual-node c.args.text.now c.in_ok-rest.rest.now c.split_at.result.0.now c.split_at.result.1.now c.in_ok-id.len c.in_ok-id.id
    first c.split_at.ensures.front c.split_at.ensures.back all found

pub returns-clause-pieces : goal.returns-clause-pieces
returns-clause-pieces c =
    let first = behind_is SMALL_N c.args.text.now c.in_ok-rest.rest.now (omega arith) c.in_ok-rest.ensures.value in
    let all : c.in_ok-id.len ≡ digits_len c.in_ok-rest.rest.now = c.in_ok-id.ensures.len ∙ ap digits_len c.as_bytes.ensures.value in
    let comma = behind_is COMMA c.split_at.result.1.now c.in_ok-later.later.now (omega arith) c.in_ok-later.ensures.value in
    usual_node-more c.args.text.now c.in_ok-rest.rest.now c.split_at.result.0.now c.split_at.result.1.now c.in_ok-id.len c.in_ok-id.id
    first c.split_at.ensures.front c.split_at.ensures.back all c.in_ok-later.later.now comma

pub returns-clause-node : goal.returns-clause-node
returns-clause-node c =
    let first = behind_is SMALL_N c.args.text.now c.in_ok-rest.rest.now (omega arith) c.in_ok-rest.ensures.value in
    let all : c.in_ok-id.len ≡ digits_len c.in_ok-rest.rest.now = c.in_ok-id.ensures.len ∙ ap digits_len c.as_bytes.ensures.value in
    let found : id_of (take c.in_ok-id.len c.in_ok-rest.rest.now) ≡ Ok c.in_ok-id.id =
    rw (← c.as_bytes.ensures.value) c.in_ok-id.ensures.id in
    usual-node c.args.text.now c.in_ok-rest.rest.now c.split_at.result.0.now c.split_at.result.1.now c.in_ok-id.len c.in_ok-id.id
    first c.split_at.ensures.front c.split_at.ensures.back all found
