use Rattle.std.proofs.Common.{◌≡◌, ◌⊎◌, ℕ, Bool, true, take}
use Rattle.bucket_store.specs.Image.{Image}
use Rattle.row_store.specs.Loading.{Among}
use Rattle.store_check.specs.Judging.{AreIn, IsRightOf, Takes}
use Rattle.store_check.specs.Wrong.{IsLeastOf}
use Rattle.store_check.proofs.judging.judge_all.Given as goal

-- the right ones of the records so far are held, and the least key of the wrong ones was seen
abbrev pub invariant-loop-key : goal.invariant-loop-key
invariant-loop-key l = record {
  takes : (image : Image) → AreIn image l.kind l.records
      → Takes l.asked image l.kind (Among (take l.key-index l.records)) l.fn.held l.held;
  least : (image : Image) → AreIn image l.kind l.records → (was_seen : ℕ → Bool)
      → IsLeastOf (λ key. was_seen key ≡ true) (IsRightOf l.asked image l.kind) l.fn.least
      → IsLeastOf (λ key. (was_seen key ≡ true) ⊎ Among (take l.key-index l.records) key) (IsRightOf l.asked image l.kind) l.least;
}
