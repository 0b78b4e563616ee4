-- What is left of rising ids on both sides of a place that was looked at.
use Rattle.std.proofs.Common.{◌<◌, ◌≤◌, ℕ, List, length, get_or, arith}
use Rattle.std.proofs.lemmas.Map.Keys.{non_decreasing_from_sorted}
use Rattle.osm_base.specs.values.Ids.{IsRising}

-- those up to an id below are below
pub all_less : (ids : List ℕ) → IsRising ids → (id place k : ℕ) → place < length ids → get_or ids place 0 < id → k ≤ place
    → get_or ids k 0 < id
all_less ids rise id place k within here less =
    let order = non_decreasing_from_sorted ids rise k place 0 less within in
    omega (arith, order, here)

-- those from an id above on are above
pub all_greater : (ids : List ℕ) → IsRising ids → (id place k : ℕ) → id < get_or ids place 0 → place ≤ k → k < length ids
    → id < get_or ids k 0
all_greater ids rise id place k here more within =
    let order = non_decreasing_from_sorted ids rise place k 0 more within in
    omega (arith, order, here)
