-- A record above the others lies behind them.
use Rattle.std.proofs.Common.{◌≡◌, ◌++◌, ◌+◌, ◌∷◌, [], ℕ, List, length, ap, arith}
use Rattle.bucket_records.proofs.RecordLists.{many_within}
use Rattle.bucket_records.proofs.RecordPlaces.{lies, lies_push, lies_indexed, lies_seen}
use Rattle.bucket_records.proofs.records.Records.push.Goals as goal

pub overflow_add-self : goal.overflow_add-self
overflow_add-self c =
    let lie = lies c.self.inside.bytes.items c.self.inside.count c.self.inside.last c.self.inside.marks.items c.args.self.now
    c.self.invariant c.self.view_is in
    let whole = ap (λ (l : List ℕ). length l) lie.bytes_are in
    let small = c.self.inside.bytes.small in
    omega (arith, lie.many, many_within c.args.self.now, whole, small)

pub invariant_of-self-in-Ok : goal.invariant_of-self-in-Ok
invariant_of-self-in-Ok c =
    let bytes = c.self.inside.bytes.items in
    let lie = lies c.self.inside.bytes.items c.self.inside.count c.self.inside.last c.self.inside.marks.items c.args.self.now
    c.self.invariant c.self.view_is in
    let end : c.len-end.result ≡ length bytes = omega (arith, c.len-end.ensures, c.self.inside.bytes.ok.0) in
    let more = lies_push bytes c.push_record.new.out.items c.self.inside.count c.self.inside.last c.self.inside.marks.items
    c.mark.new.marks.items
    c.args.self.now c.args.key c.args.value.now c.len-end.result lie c.requires.above c.in_default.ensures.is c.in_default.ensures.ok end
    c.in-Ok.ensures.ok in
    lies_indexed c.push_record.new.out.items (c.self.inside.count + 1) c.args.key c.mark.new.marks.items
    (c.args.self.now ++ (c.args.key, c.args.value.now) ∷ []) more

pub returns-in-Ok-clause-ok : goal.returns-in-Ok-clause-ok
returns-in-Ok-clause-ok c =
    let bytes = c.self.inside.bytes.items in
    let lie = lies c.self.inside.bytes.items c.self.inside.count c.self.inside.last c.self.inside.marks.items c.args.self.now
    c.self.invariant c.self.view_is in
    let end : c.len-end.result ≡ length bytes = omega (arith, c.len-end.ensures, c.self.inside.bytes.ok.0) in
    let more = lies_push bytes c.push_record.new.out.items c.self.inside.count c.self.inside.last c.self.inside.marks.items
    c.mark.new.marks.items
    c.args.self.now c.args.key c.args.value.now c.len-end.result lie c.requires.above c.in_default.ensures.is c.in_default.ensures.ok end
    c.in-Ok.ensures.ok in
    lies_seen c.push_record.new.out.items (c.self.inside.count + 1) c.args.key c.mark.new.marks.items
    (c.args.self.now ++ (c.args.key, c.args.value.now) ∷ []) more

pub returns-in-Ok-clause-rise : goal.returns-in-Ok-clause-rise
returns-in-Ok-clause-rise c =
    let bytes = c.self.inside.bytes.items in
    let lie = lies c.self.inside.bytes.items c.self.inside.count c.self.inside.last c.self.inside.marks.items c.args.self.now
    c.self.invariant c.self.view_is in
    let end : c.len-end.result ≡ length bytes = omega (arith, c.len-end.ensures, c.self.inside.bytes.ok.0) in
    let more = lies_push bytes c.push_record.new.out.items c.self.inside.count c.self.inside.last c.self.inside.marks.items
    c.mark.new.marks.items
    c.args.self.now c.args.key c.args.value.now c.len-end.result lie c.requires.above c.in_default.ensures.is c.in_default.ensures.ok end
    c.in-Ok.ensures.ok in
    let all = lies_indexed c.push_record.new.out.items (c.self.inside.count + 1) c.args.key c.mark.new.marks.items
    (c.args.self.now ++ (c.args.key, c.args.value.now) ∷ []) more in
    all.rise
