use Rattle.std.proofs.Common.{ℕ, List}
use Rattle.chain_store.specs.Chains.{IsMarked, IsOpen, first_of}
use Rattle.chain_store.proofs.Taking.{on_value}
use Rattle.chain_store.proofs.chains.Chains.store.Goals as goal

pub returns-then-is_err-clause-open : goal.returns-then-is_err-clause-open
returns-then-is_err-clause-open g c = λ pages opened.
    let now = c.bring.ensures.looks.opens pages opened in
    c.put.ensures.open pages now (on_value (λ (same : List ℕ). (home : List (List ℕ)) → IsOpen home c.bring.new.self
    → IsMarked home c.args.n (first_of c.bring.new.self c.args.n) same c.args.bytes)
    (λ (same : List ℕ). IsMarked pages c.args.n (first_of c.bring.new.self c.args.n) same c.args.bytes) c.marks-same.result
    (λ (same : List ℕ) marked. marked pages now) c.marks-same.ensures.marked)

pub returns-clause-open : goal.returns-clause-open
returns-clause-open g c = λ pages opened.
    let now = c.bring.ensures.looks.opens pages opened in
    c.put.ensures.open pages now (on_value (λ (same : List ℕ). (home : List (List ℕ)) → IsOpen home c.bring.new.self
    → IsMarked home c.args.n (first_of c.bring.new.self c.args.n) same c.args.bytes)
    (λ (same : List ℕ). IsMarked pages c.args.n (first_of c.bring.new.self c.args.n) same c.args.bytes) c.marks-same.result
    (λ (same : List ℕ) marked. marked pages now) c.marks-same.ensures.marked)
