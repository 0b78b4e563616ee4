-- The ids of both, in their order.
use Rattle.std.proofs.Common.{◌≡◌, ◌∙◌, ◌++◌, List, ℕ, sym, ap}
use Rattle.osm_base.specs.values.Ids.{has}
use Rattle.object_fold.proofs.SortedIds.{same_rising}
use Rattle.back_index.specs.Relisting.{in_order}
use Rattle.back_index.proofs.ListLaws.{has-in_order, in_order-rise}
use Rattle.back_index.proofs.listed_ids.both.Goals as goal

pub returns : goal.returns
returns c =
    let all = c.args.ids.now ++ c.args.others.now in
    let items : c.extend_from_slice.new.self.items ≡ all
    = c.in_ok-extend_from_slice.ensures.items
    ∙ (λ i. (c.in_ok-all.ensures.items ∙ c.as_slice.ensures.ids) i ++ c.as_slice-2.ensures.ids i) in
    record {
      both =
          same_rising c.from_vec.result (in_order all) c.from_vec.ensures.rise (in_order-rise all)
          (λ id. c.from_vec.ensures.same id ∙ ap (λ (l : List ℕ). has l id) items ∙ sym (has-in_order all id));
    }
