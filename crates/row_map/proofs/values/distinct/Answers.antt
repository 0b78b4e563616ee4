use Rattle.std.proofs.Common.{◌∙◌, ap, sym, map, List, ℕ}
use Rattle.std.specs.Borrow.{Bor}
use Rattle.std.specs.Str.{bytes_eq}
use Rattle.std.proofs.lemmas.List.Filters.{dedup_is}
use Rattle.std.proofs.lemmas.Map.Text.{is_eq-slice_cmp}
use Rattle.row_map.proofs.Distinct.{distinct-seen}
use Rattle.row_map.proofs.values.distinct.Goals as goal

abbrev seen : Bor (List ℕ) → List ℕ
seen value = value.now

pub returns : goal.returns
returns c =
    let same = λ (x y : Bor (List ℕ)). bytes_eq x.now y.now in
    record {
      distinct = ap (map seen) (dedup_is same c.sort_unstable.new.self.items c.dedup.new.self.items c.dedup.ensures.filtered)
          ∙ distinct-seen seen same (λ x y. sym (is_eq-slice_cmp x.now y.now)) c.args.values.items c.sort_unstable.new.self.items
          c.sort_unstable.ensures.permutation c.sort_unstable.ensures.sorted;
    }
