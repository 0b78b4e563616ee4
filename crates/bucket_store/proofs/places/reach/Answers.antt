use Rattle.std.proofs.Common.{ℕ, List, [], ◌∷◌, ◌++◌, ap, ◌∙◌, slice_index_or}
use Rattle.bucket_store.proofs.PlaceLaws.{page_more}
use Rattle.bucket_store.proofs.places.reach.Goals as goal

pub loop-alloc-preserved : goal.loop-alloc-preserved
loop-alloc-preserved c k =
    ap (λ (pages : List (List ℕ)). slice_index_or pages k []) (c.in_ok-push.ensures.items
    ∙ ap (λ (page : List ℕ). c.loop-alloc.pages.items ++ page ∷ []) c.new.ensures)
    ∙ page_more c.loop-alloc.pages.items k
    ∙ c.loop-alloc.invariant k
