use Rattle.std.proofs.Common.{◌≡◌, [], ◌∷◌, ◌++◌, ◌∙◌, ap, sym, Ok}
use Rattle.std.specs.List.{slice_split}
use Rattle.std.specs.Option.{option_map}
use Rattle.std.proofs.lemmas.Result.{err_from_is_err_and}
use Rattle.opl_object.specs.Fields.{is, later_pieces}
use Rattle.opl_object.specs.Why.{◌>>=◌, each_piece}
use Rattle.opl_object.specs.Nodes.{with_node}
use Rattle.opl_object.proofs.Pieces.{goes_on, fault_at, none_left}
use Rattle.opl_object.proofs.nodes.nodes_between.Goals as goal

pub returns-in_err-node_of : goal.returns-in_err-node_of
returns-in_err-node_of c =
    let so_far : each_piece with_node c.loop-left.nodes.items
    (c.cut.result.0.now ∷ later_pieces (is 44) (option_map (λ text. text.now) c.cut.result.1))
    ≡ each_piece with_node [] (slice_split (is 44) c.args.text.now)
    = ap (each_piece with_node c.loop-left.nodes.items) (sym c.cut.ensures.pieces)
    ∙ ap (λ o. each_piece with_node c.loop-left.nodes.items (later_pieces (is 44) (option_map (λ text. text.now) o))) (sym c.in-Some.is)
    ∙ c.loop-left.invariant in
    let p = err_from_is_err_and c.from_residual-in_err-node_of.result c.from_residual-in_err-node_of.ensures.1 in
    record {
      nodes = rw (p.1, p.2) (fault_at with_node c.loop-left.nodes.items c.cut.result.0.now _ _ c.in_err-node_of.field-0.0 so_far
          (ap (λ r. r >>= λ id. Ok (c.loop-left.nodes.items ++ id ∷ [])) (sym c.in_err-node_of.ensures.node)));
    }

pub loop-left-preserved : goal.loop-left-preserved
loop-left-preserved c =
    let so_far : each_piece with_node c.loop-left.nodes.items
    (c.cut.result.0.now ∷ later_pieces (is 44) (option_map (λ text. text.now) c.cut.result.1))
    ≡ each_piece with_node [] (slice_split (is 44) c.args.text.now)
    = ap (each_piece with_node c.loop-left.nodes.items) (sym c.cut.ensures.pieces)
    ∙ ap (λ o. each_piece with_node c.loop-left.nodes.items (later_pieces (is 44) (option_map (λ text. text.now) o))) (sym c.in-Some.is)
    ∙ c.loop-left.invariant in
    goes_on with_node c.loop-left.nodes.items c.cut.result.0.now _ _ c.push-in-Some.new.self.items so_far
    (ap (λ r. r >>= λ id. Ok (c.loop-left.nodes.items ++ id ∷ [])) (sym c.in_ok-node_of.ensures.node)
    ∙ ap Ok (sym c.in_ok-push-2.ensures.items))

pub loop-left-preserved-in-Some-usual_node : goal.loop-left-preserved-in-Some-usual_node
loop-left-preserved-in-Some-usual_node c =
    let so_far
    = ap (each_piece with_node c.loop-left.nodes.items) (sym c.in-Some-usual_node.ensures.pieces)
    ∙ ap (λ o. each_piece with_node c.loop-left.nodes.items (later_pieces (is 44) (option_map (λ text. text.now) o))) (sym c.in-Some.is)
    ∙ c.loop-left.invariant in
    goes_on with_node c.loop-left.nodes.items _ _ _ c.push.new.self.items so_far
    (ap (λ r. r >>= λ id. Ok (c.loop-left.nodes.items ++ id ∷ [])) c.in-Some-usual_node.ensures.node
    ∙ ap Ok (sym c.in_ok-push.ensures.items))

pub returns : goal.returns
returns c = record {
  nodes = none_left with_node c.loop-left.nodes.items _
      (ap (λ o. each_piece with_node c.loop-left.nodes.items (later_pieces (is 44) (option_map (λ text. text.now) o))) (sym c.in_default.is)
      ∙ c.loop-left.invariant);
}
