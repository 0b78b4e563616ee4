use Rattle.std.proofs.Common.{[], ℕ, List, ap, ◌∙◌, ◌++◌, length, refl}
use Rattle.chain_store.proofs.PairLaws.{link_fits, link_made}
use Rattle.chain_store.proofs.laying.link_page.Goals as goal

pub returns-clause-few : goal.returns-clause-few
returns-clause-few c =
    let held : List ℕ = c.args.held.now in
    let one : List ℕ = c.extend_from_slice.new.self.items in
    let two : List ℕ = c.extend_from_slice-2.new.self.items in
    let three : List ℕ = c.extend_from_slice-3.new.self.items in
    link_fits c.args.next c.args.owner (length held) held one two three c.extend_from_slice-4.new.self.items
    (c.in_ok-extend_from_slice.ensures.items ∙ ap (λ (l : List ℕ). l ++ c.to_le_bytes.result) c.in_ok-page.ensures.items
    ∙ ap (λ (l : List ℕ). [] ++ l) c.to_le_bytes.ensures)
    refl
    (c.in_ok-extend_from_slice-2.ensures.items ∙ ap (λ (l : List ℕ). one ++ l) c.to_le_bytes-2.ensures)
    (c.in_ok-extend_from_slice-3.ensures.items ∙ ap (λ (l : List ℕ). two ++ l) c.to_le_bytes-3.ensures)
    c.in_ok-extend_from_slice-4.ensures.items
    c.requires

pub returns-clause-page : goal.returns-clause-page
returns-clause-page c =
    let held : List ℕ = c.args.held.now in
    let one : List ℕ = c.extend_from_slice.new.self.items in
    let two : List ℕ = c.extend_from_slice-2.new.self.items in
    let three : List ℕ = c.extend_from_slice-3.new.self.items in
    link_made c.args.next c.args.owner (length held) held one two three c.extend_from_slice-4.new.self.items
    (c.in_ok-extend_from_slice.ensures.items ∙ ap (λ (l : List ℕ). l ++ c.to_le_bytes.result) c.in_ok-page.ensures.items
    ∙ ap (λ (l : List ℕ). [] ++ l) c.to_le_bytes.ensures)
    refl
    (c.in_ok-extend_from_slice-2.ensures.items ∙ ap (λ (l : List ℕ). one ++ l) c.to_le_bytes-2.ensures)
    (c.in_ok-extend_from_slice-3.ensures.items ∙ ap (λ (l : List ℕ). two ++ l) c.to_le_bytes-3.ensures)
    c.in_ok-extend_from_slice-4.ensures.items
