use Rattle.std.proofs.Common.{◌≡◌, ◌<◌, Bool, cond, true, false, ◌∙◌, ap, length, get_or, rules}
use Rattle.opl_object.specs.Seen.{flag_of, stands}
use Rattle.opl_object.proofs.Letters.{flag_of_small, same_flag, stands_after}
use Rattle.opl_object.proofs.letter.Seen.add.Goals as goal

pub returns-clause-before : goal.returns-clause-before
unfolding stands
returns-clause-before c =
    ap (λ place. get_or c.args.self.now.flags place false) c.place-place.ensures.value

pub returns-clause-after : goal.returns-clause-after
unfolding stands
returns-clause-after c = λ other.
    let place : c.place-place.result ≡ flag_of c.args.letter = c.place-place.ensures.value in
    let within : flag_of c.args.letter < length c.args.self.now.flags = search (rules, flag_of_small c.args.letter) in
    rw place (stands_after c.args.self.now.flags (flag_of c.args.letter) (flag_of other) within)
    ∙ ap (λ (same : Bool). cond same true (get_or c.args.self.now.flags (flag_of other) false)) (same_flag other c.args.letter)
