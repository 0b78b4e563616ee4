use Rattle.std.proofs.Common.{◌-◌, ◌≤◌, length, take}
use Rattle.std.specs.Str.{IsAscii}
use Rattle.opl_object.proofs.line.ascii_len.Given as goal

-- how many bytes are left
abbrev pub decreases-loop-len : goal.decreases-loop-len
decreases-loop-len l = length l.line - l.len

-- what was passed over is ASCII
abbrev pub invariant-loop-len : goal.invariant-loop-len
invariant-loop-len l = (l.len ≤ length l.line) × IsAscii (take l.len l.line)
