use Rattle.std.proofs.Common.{◌≡◌, ℕ, List, length, ap, ◌∙◌, arith, refl}
use Rattle.std.specs.Int.{w64, to_le_bytes}
use Rattle.outside.specs.Disk.{overlaid}
use Rattle.page_journal.proofs.Bytes.{put_mid-overlaid}
use Rattle.chain_store.proofs.firsts.put_number.Goals as goal

pub returns : goal.returns
returns c =
    let spelled : List ℕ = to_le_bytes w64 c.args.value in
    let eight : length spelled ≡ 8 = refl in
    let copied : c.copy_from_slice.new.self ≡ spelled = c.copy_from_slice.ensures.after ∙ c.to_le_bytes.ensures in
    let long : length c.copy_from_slice.new.self ≡ 8 = ap (λ (l : List ℕ). length l) copied ∙ eight in
    put_mid-overlaid c.args.at 8 c.args.bytes.now c.copy_from_slice.new.self (omega (arith, c.requires)) long
    ∙ ap (λ (l : List ℕ). overlaid c.args.at l c.args.bytes.now) copied
