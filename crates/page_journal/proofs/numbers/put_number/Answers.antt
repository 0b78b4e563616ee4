use Rattle.std.proofs.Common.{◌≡◌, inl, inr, get_or, ℕ, List, ◌+◌, ◌*◌, length, ap, ◌∙◌, arith, refl}
use Rattle.std.specs.Int.{w64, to_le_bytes}
use Rattle.outside.specs.Disk.{overlaid}
use Rattle.outside.proofs.Overlay.{length-overlaid, overlaid-beside}
use Rattle.page_journal.specs.Pages.{number}
use Rattle.page_journal.proofs.Bytes.{number_written, number_same, put_mid-overlaid}
use Rattle.page_journal.proofs.numbers.put_number.Goals as goal

pub returns-clause-here : goal.returns-clause-here
returns-clause-here c =
    let spelled : List ℕ = to_le_bytes w64 c.args.value in
    let eight : length spelled ≡ 8 = refl in
    let copied : c.copy_from_slice.new.self ≡ spelled = c.copy_from_slice.ensures.after ∙ c.to_le_bytes.ensures in
    let long : length c.copy_from_slice.new.self ≡ 8 = ap length copied ∙ eight in
    ap (λ (l : List ℕ). number l (8 * c.args.place)) (
    put_mid-overlaid (8 * c.args.place) 8 c.args.bytes.now c.copy_from_slice.new.self (omega (arith, c.told-bytes)) long
    ∙ ap (λ (l : List ℕ). overlaid (8 * c.args.place) l c.args.bytes.now) copied
    ) ∙ number_written (8 * c.args.place) c.args.value c.args.bytes.now (omega (arith, c.ranges.value.fits))

pub returns-clause-others : goal.returns-clause-others
returns-clause-others c = λ other below.
    let spelled : List ℕ = to_le_bytes w64 c.args.value in
    let eight : length spelled ≡ 8 = refl in
    let copied : c.copy_from_slice.new.self ≡ spelled = c.copy_from_slice.ensures.after ∙ c.to_le_bytes.ensures in
    let long : length c.copy_from_slice.new.self ≡ 8 = ap length copied ∙ eight in
    let new = c.copy_from_slice.new.self in
    let size = length-overlaid (8 * c.args.place) new c.args.bytes.now in
    ap (λ (l : List ℕ). number l (8 * other)) (
    put_mid-overlaid (8 * c.args.place) 8 c.args.bytes.now new (omega (arith, c.told-bytes)) long
    ) ∙ number_same c.args.bytes.now (overlaid (8 * c.args.place) new c.args.bytes.now) (8 * other) (8 * other)
    (omega (arith, c.told-bytes, c.requires))
    (omega (arith, c.told-bytes, c.requires))
    (λ k inside. overlaid-beside (8 * c.args.place) new c.args.bytes.now (8 * other + k) (inl (omega arith)))

pub returns-clause-behind : goal.returns-clause-behind
returns-clause-behind c = λ i from.
    let spelled : List ℕ = to_le_bytes w64 c.args.value in
    let eight : length spelled ≡ 8 = refl in
    let copied : c.copy_from_slice.new.self ≡ spelled = c.copy_from_slice.ensures.after ∙ c.to_le_bytes.ensures in
    let long : length c.copy_from_slice.new.self ≡ 8 = ap length copied ∙ eight in
    ap (λ (l : List ℕ). get_or l i 0) (
    put_mid-overlaid (8 * c.args.place) 8 c.args.bytes.now c.copy_from_slice.new.self (omega (arith, c.told-bytes)) long
    ) ∙ overlaid-beside (8 * c.args.place) c.copy_from_slice.new.self c.args.bytes.now i (inr (omega (arith, from, long)))
