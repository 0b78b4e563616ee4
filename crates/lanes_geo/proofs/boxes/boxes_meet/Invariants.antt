use Rattle.std.proofs.Common.{◌≡◌, ◌-◌, ◌≤◌, length, take, map}
use Rattle.lanes_geo.specs.Box.{meets}
use Rattle.lanes_geo.proofs.boxes.boxes_meet.Given as goal

-- the marks of the boxes so far
abbrev pub invariant-fours : goal.invariant-fours
invariant-fours l = (l.at ≤ length l.boxes) × (length l.boxes ≡ length l.mask)
    × (take l.at l.mask ≡ map (meets l.asked) (take l.at l.boxes))

abbrev pub decreases-fours : goal.decreases-fours
decreases-fours l = length l.boxes - l.at

abbrev pub invariant-rest : goal.invariant-rest
invariant-rest l = (l.at ≤ length l.boxes) × (length l.boxes ≡ length l.mask) × (take l.at l.mask ≡ map (meets l.asked) (take l.at l.boxes))

abbrev pub decreases-rest : goal.decreases-rest
decreases-rest l = length l.boxes - l.at
