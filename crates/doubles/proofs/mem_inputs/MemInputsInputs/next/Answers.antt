use Rattle.std.proofs.Common.{◌≡◌, ◌<◌, ℕ, List, length, take, ap, subst, ◌∙◌, arith, slice_get}
use Rattle.std.specs.Io.KnownBytes.{Consumes, IsAtEnd}
use Rattle.doubles.proofs.ServedFiles.{slice_get-set_other, served-Consumes, served-IsAtEnd}
use Rattle.doubles.proofs.mem_inputs.MemInputsInputs.next.Goals as goal

pub returns-clause-bytes : goal.returns-clause-bytes
returns-clause-bytes c =
    let within : c.args.file < length c.self.inside.files = omega (arith, c.if-len-place.false, c.len.ensures) in
    let P : List (List ℕ) → Type 0 = λ files.
    Consumes (slice_get files c.args.file) (slice_get c.read.new.self c.args.file) (take c.read.result c.read.new.buf)
    × (c.read.result ≡ 0 → 0 < length c.read.new.buf → IsAtEnd (slice_get c.read.new.self c.args.file)) in
    subst P (ap (λ seen. seen.left) c.self.view_is) (
      served-Consumes _ _ _ _ _ within c.read.ensures.left c.read.ensures.bytes,
      λ none some. served-IsAtEnd _ _ _ _ _ within c.read.ensures.left c.read.ensures.count c.requires none,
    )

pub returns-clause-others : goal.returns-clause-others
returns-clause-others c = λ other apart.
    ap (λ files. slice_get files other) c.read.ensures.left
    ∙ slice_get-set_other _ _ other _ apart
    ∙ ap (λ seen. slice_get seen.left other) c.self.view_is
