use Rattle.std.proofs.Common.{◌∙◌}
use Rattle.std.proofs.lemmas.Result.{err_from_is_err_and}
use Rattle.osm_base.proofs.TagPairs.{pairs-append, AreSpans-append, AreSpans-behind, AreSpans-unchanged, pairs-unchanged, pairs-behind}
use Rattle.osm_base.proofs.values.tags.list.append.Goals as goal

pub returns-in_err-extend_from_slice-2-clause-cuts : goal.returns-in_err-extend_from_slice-2-clause-cuts
returns-in_err-extend_from_slice-2-clause-cuts c =
    rw (c.in_err-extend_from_slice-2.ensures.items, c.in_ok-extend_from_slice.ensures.items, c.as_bytes.ensures.value)
    (AreSpans-append c.args.text.now.items c.args.key.now c.args.spans.now.items c.requires)

pub returns-in_err-extend_from_slice-2-clause-kept : goal.returns-in_err-extend_from_slice-2-clause-kept
returns-in_err-extend_from_slice-2-clause-kept c =
    let p = err_from_is_err_and c.from_residual-in_err-extend_from_slice-2.result c.from_residual-in_err-extend_from_slice-2.ensures.1 in
    rw (p.1, c.in_err-extend_from_slice-2.ensures.items, c.in_ok-extend_from_slice.ensures.items, c.as_bytes.ensures.value)
    (pairs-append c.args.text.now.items c.args.key.now c.args.spans.now.items c.requires)

pub returns-in_err-push-clause-cuts : goal.returns-in_err-push-clause-cuts
returns-in_err-push-clause-cuts c =
    rw (
      c.in_err-push.ensures.items,
      c.in_ok-extend_from_slice-2.ensures.items,
      c.in_ok-extend_from_slice.ensures.items,
      c.as_bytes.ensures.value,
      c.as_bytes-2.ensures.value,
    )
    (AreSpans-unchanged c.args.text.now.items c.args.key.now c.args.value.now c.args.spans.now.items c.requires)

pub returns-in_err-push-clause-kept : goal.returns-in_err-push-clause-kept
returns-in_err-push-clause-kept c =
    let p = err_from_is_err_and c.from_residual-in_err-push.result c.from_residual-in_err-push.ensures.1 in
    rw (
      p.1,
      c.in_err-push.ensures.items,
      c.in_ok-extend_from_slice-2.ensures.items,
      c.in_ok-extend_from_slice.ensures.items,
      c.as_bytes.ensures.value,
      c.as_bytes-2.ensures.value,
    )
    (pairs-unchanged c.args.text.now.items c.args.key.now c.args.value.now c.args.spans.now.items c.requires)

pub returns-clause-cuts : goal.returns-clause-cuts
returns-clause-cuts c =
    rw (
      c.in_ok-push.ensures.items,
      c.len-end.ensures ∙ c.extend_from_slice-2.new.self.ok.0,
      c.len-middle.ensures
          ∙ c.extend_from_slice.new.self.ok.0,
      c.len-start.ensures
          ∙ c.args.text.now.ok.0,
      c.in_ok-extend_from_slice-2.ensures.items,
      c.in_ok-extend_from_slice.ensures.items,
      c.as_bytes.ensures.value,
      c.as_bytes-2.ensures.value,
    )
    (AreSpans-behind c.args.text.now.items c.args.key.now c.args.value.now c.args.spans.now.items c.requires c.utf8.key c.utf8.value)

pub returns-clause-added : goal.returns-clause-added
returns-clause-added c =
    rw (
      c.in_ok-push.ensures.items,
      c.len-end.ensures ∙ c.extend_from_slice-2.new.self.ok.0,
      c.len-middle.ensures
          ∙ c.extend_from_slice.new.self.ok.0,
      c.len-start.ensures
          ∙ c.args.text.now.ok.0,
      c.in_ok-extend_from_slice-2.ensures.items,
      c.in_ok-extend_from_slice.ensures.items,
      c.as_bytes.ensures.value,
      c.as_bytes-2.ensures.value,
    )
    (pairs-behind c.args.text.now.items c.args.key.now c.args.value.now c.args.spans.now.items c.requires)
