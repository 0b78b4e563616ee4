use Rattle.std.proofs.Common.{◌≡◌, ◌<◌, [], length, drop, slice_set, slice_index_or, arith, length-set, ap, sym, subst, ℕ, ◌+◌}
use Rattle.std.proofs.lemmas.Grind.{common_steps}
use Rattle.std.proofs.lemmas.List.{set-get_or}
use Rattle.doubles.proofs.ServedFiles.{set-served_more}
use Rattle.doubles.proofs.files_left.FilesLeft.read.Goals as goal
use Rattle.doubles.proofs.files_left.FilesLeft.read.Goals.{then-file-self, then-self-gt0, else-self-gt0, else-file-self}

pub returns-clause-left : goal.returns-clause-left
returns-clause-left c =
    let inside = c.if-file-self.self-inside in
    let shown : slice_set inside.files.items c.args.file (drop inside.served (slice_index_or inside.files.items c.args.file []))
    ≡ c.args.self.now =
    elim c.if-file-self.branch [
      | then-file-self w ↦ elim w.if-self-gt0.branch [
        | then-self-gt0 w' ↦ grind (arith, common_steps, set-get_or)
        | else-self-gt0 w' ↦ grind (arith, common_steps, set-get_or)
      ]
      | else-file-self w ↦ grind (arith, common_steps, set-get_or)
    ] in
    let turned : inside.current ≡ c.args.file =
    elim c.if-file-self.branch [
      | then-file-self w ↦ elim w.if-self-gt0.branch [ then-self-gt0 w' ↦ grind arith | else-self-gt0 w' ↦ grind arith ]
      | else-file-self w ↦ grind arith
    ] in
    let within : c.args.file < length inside.files.items =
    omega (arith, c.requires, simp length-set at (ap length shown)) in
    let P : ℕ → Type 0 = λ current.
    slice_set inside.files.items current (drop (inside.served + c.min-count.result) (slice_index_or inside.files.items current []))
    ≡ slice_set c.args.self.now c.args.file (drop c.min-count.result (slice_index_or c.args.self.now c.args.file [])) in
    subst P (sym turned) (set-served_more _ _ _ _ _ within shown)
