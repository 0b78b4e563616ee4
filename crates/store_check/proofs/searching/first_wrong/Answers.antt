-- What is refused is refused by the transaction.
use Rattle.bucket_store.specs.Image.{Has}
use Rattle.store_check.proofs.ReadingLaws.{looks_err, looks_ok}
use Rattle.store_check.proofs.SearchLaws.{some_in_each}
use Rattle.store_check.specs.Wrong.{IsFirstWrong}
use Rattle.store_check.specs.declared.wrong.Wrong.{Wrong}
use Rattle.store_check.proofs.searching.first_wrong.Goals as goal

pub returns-in-Ok-clause-wrong : goal.returns-in-Ok-clause-wrong
returns-in-Ok-clause-wrong g c =
    some_in_each (λ rest. Has rest rest c.args.buckets.now) (λ rest (wrong : Wrong). IsFirstWrong c.args.style.now rest wrong.map wrong.key)
    c.in-Ok.found c.in-Ok.ensures.wrong.so

pub returns-in-Ok-clause-looks : goal.returns-in-Ok-clause-looks
returns-in-Ok-clause-looks g c = looks_ok c.args.buckets.now c.wrong_there.new.buckets c.in-Ok.found c.in-Ok.ensures.wrong.peeks c.in-Ok.ensures.going

pub returns-in-Err-clause-looks : goal.returns-in-Err-clause-looks
returns-in-Err-clause-looks g c =
    looks_err c.args.buckets.now c.wrong_there.new.buckets c.refuse.new.self c.in-Err.fault c.in-Err.ensures.wrong.peeks
    c.refuse.ensures.chains c.refuse.ensures.same c.refuse.ensures.refused
