use Rattle.std.proofs.Common.{rules, ◌≡◌, ℕ, List, ap, sym, ◌∙◌, subst}
use Rattle.outside.specs.Disk.{Elapses}
use Rattle.doubles.specs.Recorded.{first_bytes}
use Rattle.doubles.specs.Tape.{crashes_of}
use Rattle.doubles.proofs.History.{first_bytes-kept}
use Rattle.doubles.proofs.recorded.Recorded.write.Goals as goal

pub returns-clause-keeps : goal.returns-clause-keeps
returns-clause-keeps c =
    let old = c.args.self.now in
    let new = c.keep_first.new.start in
    let kept = first_bytes-kept new old.bytes.items c.write_over.new.bytes.items c.in_ok-keep_first.ensures.kept in
    let seen = c.as_slice.ensures.value in
    let same : first_bytes new old.bytes.items ≡ first_bytes old.start old.bytes.items =
    ap (λ (l : List ℕ). first_bytes new l) (sym seen) ∙ c.keep_first.ensures.same ∙ ap (λ (l : List ℕ). first_bytes old.start l) seen in
    record {
      kept = search rules;
      lost = search rules;
      start = search rules;
      time = subst (λ (l : List ℕ). Elapses (crashes_of (first_bytes old.start old.bytes.items) old.calls.items)
          (crashes_of l c.write_over.new.calls.items)) (sym same ∙ kept)
          (c.write_over.ensures.time (first_bytes old.start old.bytes.items));
    }
