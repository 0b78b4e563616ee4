use Rattle.std.proofs.Common.{◌≡◌, ap, sym, ◌∙◌}
use Rattle.opl_object.specs.declared.letter.Letter.TheVariants.{Version, Visible, Changeset, Time, UserId}
use Rattle.opl_object.specs.Letter.{none_stood, head_stood, also}
use Rattle.opl_object.specs.Seen.{stands}
use Rattle.opl_object.proofs.FieldSteps.{same_letters}
use Rattle.opl_object.proofs.head.head_seen.Goals as goal

pub returns : goal.returns
returns c =
    let none : none_stood ≡ stands c.new-seen.result = same_letters none_stood (stands c.new-seen.result) c.new-seen.ensures.none in
    let one : also (stands c.new-seen.result) Version ≡ stands c.add.new.self =
    same_letters (also (stands c.new-seen.result) Version) (stands c.add.new.self) c.add.ensures.after in
    let two : also (stands c.add.new.self) Visible ≡ stands c.add-2.new.self =
    same_letters (also (stands c.add.new.self) Visible) (stands c.add-2.new.self) c.add-2.ensures.after in
    let three : also (stands c.add-2.new.self) Changeset ≡ stands c.add-3.new.self =
    same_letters (also (stands c.add-2.new.self) Changeset) (stands c.add-3.new.self) c.add-3.ensures.after in
    let four : also (stands c.add-3.new.self) Time ≡ stands c.add-4.new.self =
    same_letters (also (stands c.add-3.new.self) Time) (stands c.add-4.new.self) c.add-4.ensures.after in
    let five : also (stands c.add-4.new.self) UserId ≡ stands c.add-5.new.self =
    same_letters (also (stands c.add-4.new.self) UserId) (stands c.add-5.new.self) c.add-5.ensures.after in
    let all : head_stood ≡ stands c.add-5.new.self
    = ap (λ s. also (also (also (also (also s Version) Visible) Changeset) Time) UserId) none
    ∙ ap (λ s. also (also (also (also s Visible) Changeset) Time) UserId) one
    ∙ ap (λ s. also (also (also s Changeset) Time) UserId) two
    ∙ ap (λ s. also (also s Time) UserId) three
    ∙ ap (λ s. also s UserId) four
    ∙ five in
    record { letters = sym all }
