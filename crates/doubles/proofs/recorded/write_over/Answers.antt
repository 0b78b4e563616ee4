use Rattle.std.proofs.Common.{◌≡◌, ℕ, List, ◌+◌, ◌≤◌, length, take, max, ap, sym, ◌∙◌, subst, arith, rules}
use Rattle.outside.specs.Disk.{padded, overlaid, Torn}
use Rattle.doubles.specs.Tape.{Medium, fresh, run}
use Rattle.doubles.specs.declared.tape.Call.{Call}
use Rattle.outside.proofs.Overlay.{length-padded, length-overlaid, overlaid-padded, take-padded}
use Rattle.doubles.proofs.recorded.write_over.Goals as goal

pub put_over-requires : goal.put_over-requires
put_over-requires c =
    let size = length-padded (max (length c.args.bytes.now.items) (c.args.at + length c.args.piece.now)) c.args.bytes.now.items in
    omega (arith, ap length c.in_ok-grow.ensures.ok, size)

pub returns-in-Ok-clause-ok : goal.returns-in-Ok-clause-ok
returns-in-Ok-clause-ok c =
    c.put_over.ensures ∙ ap (λ (l : List ℕ). overlaid c.args.at c.args.piece.now l) c.in_ok-grow.ensures.ok
    ∙ overlaid-padded c.args.at c.args.piece.now c.args.bytes.now.items

pub returns-in-Ok-clause-kept : goal.returns-in-Ok-clause-kept
returns-in-Ok-clause-kept c = λ start same.
    let piece : c.from_vec-kept.result ≡ c.args.piece.now = search rules in
    ap (λ (medium : Medium). medium.seen) (c.in-Ok.ensures.runs start)
    ∙ ap (λ (l : List ℕ). overlaid c.args.at c.from_vec-kept.result l) same
    ∙ ap (λ (l : List ℕ). overlaid c.args.at l c.args.bytes.now.items) piece
    ∙ sym (overlaid-padded c.args.at c.args.piece.now c.args.bytes.now.items)
    ∙ sym (ap (λ (l : List ℕ). overlaid c.args.at c.args.piece.now l) c.in_ok-grow.ensures.ok)
    ∙ sym c.put_over.ensures

pub returns-in-Ok-clause-small : goal.returns-in-Ok-clause-small
returns-in-Ok-clause-small c = λ small.
    let size = length-padded (max (length c.args.bytes.now.items) (c.args.at + length c.args.piece.now)) c.args.bytes.now.items in
    omega (
      arith,
      c.requires,
      ap length c.in_ok-grow.ensures.ok,
      size,
      ap length c.put_over.ensures,
      length-overlaid c.args.at c.args.piece.now c.grow.new.bytes.items,
    )

pub returns-in-Ok-clause-crash : goal.returns-in-Ok-clause-crash
returns-in-Ok-clause-crash c = λ start left may.
    let piece : c.from_vec-kept.result ≡ c.args.piece.now = search rules in
    let from = c.note.ensures.crash start left may in
    (from.0, from.1, subst (λ (l : List ℕ). Torn c.args.at (length l) from.0 left) piece from.2)

pub returns-in-Err-clause-err : goal.returns-in-Err-clause-err
returns-in-Err-clause-err c =
    let long : length c.args.bytes.now.items ≤ max (length c.args.bytes.now.items) (c.args.at + length c.args.piece.now) = omega arith in
    let whole : c.len-len.result ≡ length c.args.bytes.now.items = omega (arith, c.len-len.ensures, c.args.bytes.now.ok.0) in
    c.truncate.ensures.items ∙ ap (λ (l : List ℕ). take c.len-len.result l) c.in_ok-grow.ensures.ok
    ∙ ap (λ (n : ℕ). take n (padded (max (length c.args.bytes.now.items) (c.args.at + length c.args.piece.now)) c.args.bytes.now.items))
    whole
    ∙ take-padded (max (length c.args.bytes.now.items) (c.args.at + length c.args.piece.now)) c.args.bytes.now.items long

pub returns-in-Err-clause-kept : goal.returns-in-Err-clause-kept
returns-in-Err-clause-kept c = λ start same.
    let long : length c.args.bytes.now.items ≤ max (length c.args.bytes.now.items) (c.args.at + length c.args.piece.now) = omega arith in
    let whole : c.len-len.result ≡ length c.args.bytes.now.items = omega (arith, c.len-len.ensures, c.args.bytes.now.ok.0) in
    let cut : c.truncate.new.self.items ≡ c.args.bytes.now.items =
    c.truncate.ensures.items ∙ ap (λ (l : List ℕ). take c.len-len.result l) c.in_ok-grow.ensures.ok
    ∙ ap (λ (n : ℕ). take n (padded (max (length c.args.bytes.now.items) (c.args.at + length c.args.piece.now)) c.args.bytes.now.items))
    whole
    ∙ take-padded (max (length c.args.bytes.now.items) (c.args.at + length c.args.piece.now)) c.args.bytes.now.items long in
    ap (λ (calls : List Call). (run (fresh start) calls).seen) c.in-Err.ensures.err ∙ same ∙ sym cut
