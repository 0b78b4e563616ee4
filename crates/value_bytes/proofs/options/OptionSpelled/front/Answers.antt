use Rattle.std.proofs.Common.{refl, ap, ◌∙◌, ◌∷◌, None, Some, arith}
use Rattle.value_bytes.specs.Options.{option_bytes, IsOption}
use Rattle.value_bytes.proofs.Fronts.{needs_more}
use Rattle.value_bytes.proofs.OptionLaws.{absent, present, other_option, no_option}
use Rattle.value_bytes.proofs.Variants.{variant_front, variant_frontless, front_nothing, nothing, IsNothing}
use Rattle.value_bytes.proofs.options.OptionSpelled.front.Goals as goal

pub returns-in_default-clause-refused : goal.returns-in_default-clause-refused
returns-in_default-clause-refused g c = no_option g.T.Spelled.spell g.T.Spelled.is c.args.bytes.now (c.in_default.ensures.none refl)

pub returns-in-0-clause-value : goal.returns-in-0-clause-value
returns-in-0-clause-value g c =
    let spell = g.T.Spelled.spell in
    let is = g.T.Spelled.is in
    variant_front 0 nothing IsNothing (option_bytes spell) (IsOption is) (λ _. None)
    (absent spell is) c.args.bytes.now c.in-Some.behind.now tt c.in-Some.behind.now
    (c.in-Some.ensures.byte ∙ ap (λ b. b ∷ c.in-Some.behind.now) c.in-0.is) (front_nothing c.in-Some.behind.now)

pub returns-in-Ok-clause-value : goal.returns-in-Ok-clause-value
returns-in-Ok-clause-value g c =
    let spell = g.T.Spelled.spell in
    let is = g.T.Spelled.is in
    variant_front 1 spell is (option_bytes spell) (IsOption is) Some
    (present spell is) c.args.bytes.now c.in-Some.behind.now c.in-Ok.value c.in-Ok.rest.now
    (c.in-Some.ensures.byte ∙ ap (λ b. b ∷ c.in-Some.behind.now) c.in-1.is) c.in-Ok.ensures.value

pub returns-in-Err-clause-refused : goal.returns-in-Err-clause-refused
returns-in-Err-clause-refused g c =
    let spell = g.T.Spelled.spell in
    let is = g.T.Spelled.is in
    needs_more c.in-Err.fault
    (variant_frontless 1 spell is (option_bytes spell) (IsOption is) Some (present spell is) c.args.bytes.now c.in-Some.behind.now
    (c.in-Some.ensures.byte ∙ ap (λ b. b ∷ c.in-Some.behind.now) c.in-1.is))
    c.in-Err.ensures.refused

pub returns-in_default-byte-clause-refused : goal.returns-in_default-byte-clause-refused
returns-in_default-byte-clause-refused g c =
    other_option g.T.Spelled.spell g.T.Spelled.is c.args.bytes.now c.in-Some.byte c.in-Some.behind.now c.in-Some.ensures.byte
    (λ zero. omega arith) (λ one. omega arith)
