-- The calls of a disk in memory, and what they make of it.
use Rattle.std.specs.Prelude.{◌≡◌, ℕ, ◌≤◌, ◌⊎◌, List, [], ◌∷◌, length, take, if◌then◌else◌}
use Rattle.std.proofs.Common.{subst, sym, arith}
use Rattle.std.proofs.lemmas.List.{take_all}
use Rattle.outside.specs.Disk.{Crashes, Torn, Follows, NoneNew, overlaid}
use Rattle.doubles.specs.declared.tape.Call.{Call}
use Rattle.doubles.specs.declared.tape.Call.TheVariants.{Look, Write, Sync}

-- what a read gives; what the last sync that succeeded left; and the ranges written since, the newest first, each
-- by its first place and its length
pub record Medium : Type 0 where
  pub seen : List ℕ
  pub stable : List ℕ
  pub ranges : List (ℕ × ℕ)

-- a disk with this content, all of it stable
abbrev pub fresh : List ℕ → Medium
fresh content = record { seen = content; stable = content; ranges = [] }

-- what a call makes of it. A call whose flag is not set has failed.
abbrev pub after : Call → Medium → Medium
after Look medium = medium
after (Write at piece done) medium = record {
  seen = if done then overlaid at piece medium.seen else medium.seen;
  stable = medium.stable;
  ranges = (at, length piece) ∷ medium.ranges;
}
after (Sync done) medium = record {
  seen = medium.seen;
  stable = if done then medium.seen else medium.stable;
  ranges = if done then [] else medium.ranges;
}

-- what calls make of it, one after another
abbrev pub run : Medium → List Call → Medium
run medium [] = medium
run medium (call ∷ calls) = run (after call medium) calls

-- a content that torn writes to these ranges may make of a stable one
abbrev pub Reaches : List ℕ → List (ℕ × ℕ) → List ℕ → Type 0
Reaches stable [] left = left ≡ stable
Reaches stable (range ∷ ranges) left = (before : List ℕ) × Reaches stable ranges before × Torn range.0 range.1 before left

-- what a crash may leave of it
abbrev pub MayLeave : Medium → List ℕ → Type 0
MayLeave medium left = (left ≡ medium.seen) ⊎ Reaches medium.stable medium.ranges left

-- what a crash may leave after so many of the calls
abbrev pub MayLeaveAfter : List ℕ → List Call → ℕ → List ℕ → Type 0
MayLeaveAfter start calls count left = MayLeave (run (fresh start) (take count calls)) left

-- what a crash may leave from the time on at which so many calls were done
abbrev pub MayLeaveSince : List ℕ → List Call → ℕ → List ℕ → Type 0
MayLeaveSince start calls since left =
    (count : ℕ) × (since ≤ count) × (count ≤ length calls) × MayLeaveAfter start calls count left

-- what crashes may leave; a moment is the number of calls that were done
abbrev pub crashes_of : List ℕ → List Call → Crashes
crashes_of start calls = record {
  moment = length calls;
  outcomes = MayLeave (run (fresh start) calls);
  outcomes_since = MayLeaveSince start calls;
}

-- what one call more adds to what crashes may leave
abbrev pub CallAdds : Call → Crashes → Crashes → Type 0
CallAdds (Write at piece done) old new = Follows (Torn at (length piece)) old new
CallAdds _ old new = NoneNew old new

-- now is a moment of those since an earlier one
pub since_counts_now : (start : List ℕ) (calls : List Call) (since : ℕ) (left : List ℕ) → since ≤ length calls
    → MayLeave (run (fresh start) calls) left → MayLeaveSince start calls since left
since_counts_now start calls since left le now =
    let all : calls ≡ take (length calls) calls = sym (take_all (length calls) calls (omega arith)) in
    (length calls, le, omega arith, subst (λ (cs : List Call). MayLeave (run (fresh start) cs) left) all now)

-- since now there is no other moment
pub since_only_now : (start : List ℕ) (calls : List Call) (left : List ℕ) → MayLeaveSince start calls (length calls) left
    → MayLeave (run (fresh start) calls) left
since_only_now start calls left (count, from, to, then-left) =
    subst (λ (cs : List Call). MayLeave (run (fresh start) cs) left) (take_all count calls from) then-left
