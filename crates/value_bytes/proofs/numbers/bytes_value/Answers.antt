use Rattle.std.proofs.Common.{◌≡◌, ℕ, List, sym, ◌∙◌, ap, arith}
use Rattle.std.proofs.lemmas.Nat.{le_bytes_8}
use Rattle.std.specs.Int.{w64, from_le_bytes}
use Rattle.value_bytes.specs.Numbers.{number_bytes}
use Rattle.value_bytes.proofs.numbers.bytes_value.Goals as goal

pub returns : goal.returns
unfolding number_bytes
returns c =
    let read : c.from_le_bytes.result ≡ from_le_bytes w64 c.copy_from_slice.new.self = c.from_le_bytes.ensures in
    record {
      number = sym (le_bytes_8 c.args.bytes.now c.from_le_bytes.result c.requires (λ i. omega (arith, c.type_inv.bytes i))
          (read ∙ ap (λ (l : List ℕ). from_le_bytes w64 l) c.copy_from_slice.ensures.after));
    }
