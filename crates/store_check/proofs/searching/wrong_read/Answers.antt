-- The objects are held, or a value of theirs is the first that is not right.
use Rattle.std.proofs.Common.{◌≡◌, None, subst}
use Rattle.std.proofs.lemmas.Result.{IfOk-weaker}
use Rattle.bucket_store.specs.Image.{Has, Image}
use Rattle.store_check.specs.Objects.{FindsObjects, HoldsObjects}
use Rattle.store_check.specs.Wrong.{AllRight, IsFirstWrong}
use Rattle.store_check.specs.declared.objects.Found.{Found}
use Rattle.store_check.specs.declared.objects.Found.TheVariants as finds
use Rattle.store_check.specs.declared.wrong.Wrong.{Wrong}
use Rattle.store_check.proofs.FindsLaws.{finds_behind, finds_err, finds_ok, saw_it}
use Rattle.store_check.proofs.SearchLaws.{some_weaker}
use Rattle.store_check.proofs.searching.wrong_read.Goals as goal

pub returns-in-Ok-Wrong-clause-wrong : goal.returns-in-Ok-Wrong-clause-wrong
returns-in-Ok-Wrong-clause-wrong g c =
    let is : c.in-Ok-Wrong.field-0 ≡ finds.Wrong c.in-Ok-Wrong.wrong = cc (c.in-Ok-Wrong.field-0-is) in
    finds_ok c.in-Ok-Wrong.ensures.found (λ rest has own. subst (λ (found : Found). FindsObjects c.args.style.now rest found) is own)

pub returns-in-Err-clause-wrong : goal.returns-in-Err-clause-wrong
returns-in-Err-clause-wrong g c = finds_err c.in-Err.ensures.found

pub returns-clause-right : goal.returns-clause-right
returns-clause-right g c =
    let is : c.in-Ok-Objects.field-0 ≡ finds.Objects c.in-Ok-Objects.held = cc (c.in-Ok-Objects.field-0-is) in
    IfOk-weaker c.wrong_behind.result
    (λ found. found ≡ None → (rest : Image) → Has rest rest c.read_objects.new.reading.buckets.now → HoldsObjects c.args.style.now rest c.in-Ok-Objects.held
    → AllRight c.args.style.now rest)
    (λ found. found ≡ None → (rest : Image) → Has rest rest c.args.reading.now.buckets.now → AllRight c.args.style.now rest)
    (λ found own none rest has. own none rest (c.in-Ok-Objects.ensures.found.has rest has)
    (subst (λ (found : Found). FindsObjects c.args.style.now rest found) is (c.in-Ok-Objects.ensures.found.so rest has)))
    c.wrong_behind.ensures.right

pub returns-clause-wrong : goal.returns-clause-wrong
returns-clause-wrong g c =
    let is : c.in-Ok-Objects.field-0 ≡ finds.Objects c.in-Ok-Objects.held = cc (c.in-Ok-Objects.field-0-is) in
    finds_behind (saw_it c.in-Ok-Objects.ensures.found) c.wrong_behind.ensures.wrong (λ rest has found own.
    some_weaker
    (λ (wrong : Wrong). HoldsObjects c.args.style.now rest c.in-Ok-Objects.held → IsFirstWrong c.args.style.now rest wrong.map wrong.key)
    (λ (wrong : Wrong). IsFirstWrong c.args.style.now rest wrong.map wrong.key)
    (λ wrong first. first (subst (λ (found : Found). FindsObjects c.args.style.now rest found) is (c.in-Ok-Objects.ensures.found.so rest has)))
    found own)
