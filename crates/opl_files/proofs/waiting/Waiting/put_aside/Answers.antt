use Rattle.std.proofs.Common.{rules, ◌≡◌, ◌-◌, ap, arith, length, subst, sym, take}
use Rattle.std.proofs.lemmas.List.{length-drop}
use Rattle.opl_files.specs.Parts.{AreShares, bytes_in}
use Rattle.opl_files.proofs.PartLaws.{shares_cover}
use Rattle.opl_files.proofs.waiting.Waiting.put_aside.Goals as goal

pub returns-clause-shares : goal.returns-clause-shares
returns-clause-shares c = λ limits are.
    let lot = c.args.lot.items in
    let shares = c.args.shares.items in
    let count : c.len.result - length c.behind-rest.result.now ≡ bytes_in shares = omega (
      arith,
      c.len.ensures,
      c.requires.few,
      ap length c.behind-rest.ensures.rest,
      length-drop (bytes_in c.deref-2.result.now) c.deref.result.now,
      ap bytes_in c.deref-2.ensures.value,
      ap length c.deref.ensures.value,
    ) in
    let covered : c.truncate.new.self.items ≡ take (bytes_in shares) lot = search (rules, count) in
    subst (λ own. AreShares limits own shares) (sym covered) (shares_cover limits lot shares are)
