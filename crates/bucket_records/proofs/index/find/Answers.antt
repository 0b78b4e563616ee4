-- Each turn finds a record more, or shows that there can be none.
use Rattle.std.proofs.Common.{◌+◌, ◌-◌, ◌∙◌, ℕ, List, length, refl, sym, ap, eq-eqb, arith, length-append}
use Rattle.std.proofs.lemmas.Bool.{eqb-true}
use Rattle.bucket_records.specs.Records.{record_bytes}
use Rattle.bucket_records.proofs.RecordLists.{length-record_bytes}
use Rattle.bucket_records.proofs.Finding.{found_none, found_more, found_all, found_few, none_left, refused_recordless, refused_unfit}
use Rattle.bucket_records.proofs.index.find.Goals as goal

pub loop-rest-init : goal.loop-rest-init
loop-rest-init c =
    (found_none c.args.buckets c.args.bucket c.args.bytes.now c.new-marks.result.items 0 c.new-marks.ensures.items, omega arith)

pub returns-in_default-clause-refused : goal.returns-in_default-clause-refused
returns-in_default-clause-refused c =
    refused_recordless c.args.buckets c.args.bucket c.args.bytes.now c.loop-rest.rest.now c.loop-rest.least c.loop-rest.count
    c.loop-rest.last
    c.loop-rest.marks.items c.loop-rest.invariant.0
    (λ none. absurd (let yes = eq-eqb (length c.loop-rest.rest.now) 0 (ap (λ (l : List ℕ). length l) none) in
    cc (yes, c.is_empty.ensures, c.loop-rest-test.true))) (c.in_default.ensures.none refl)

pub returns-then-not-fits-clause-refused : goal.returns-then-not-fits-clause-refused
returns-then-not-fits-clause-refused c =
    refused_unfit c.args.buckets c.args.bucket c.args.bytes.now c.loop-rest.rest.now c.loop-rest.least c.loop-rest.count c.loop-rest.last
    c.loop-rest.marks.items c.in-Some.key
    c.in-Some.field-0-1.now c.in-Some.behind.now c.loop-rest.invariant.0 c.in-Some.ensures.found
    (λ fits. absurd (let yes = c.fits.ensures.1 fits in cc (yes, c.if-not-fits.true)))

pub loop-rest-smaller : goal.loop-rest-smaller
loop-rest-smaller c =
    let whole = ap (λ (l : List ℕ). length l) c.in-Some.ensures.found.starts.bytes_are in
    omega (
      arith,
      whole,
      length-append (record_bytes c.in-Some.key c.in-Some.field-0-1.now) c.in-Some.behind.now,
      length-record_bytes c.in-Some.key c.in-Some.field-0-1.now,
    )

pub loop-rest-preserved : goal.loop-rest-preserved
loop-rest-preserved c =
    let fits = c.fits.ensures.0 c.if-not-fits.false in
    let more = found_more c.args.buckets c.args.bucket c.args.bytes.now c.loop-rest.rest.now c.loop-rest.least c.loop-rest.count
    c.loop-rest.last
    c.loop-rest.marks.items c.in-Some.key
    c.in-Some.field-0-1.now c.in-Some.behind.now c.mark.new.marks.items (length c.args.bytes.now - length c.loop-rest.rest.now)
    c.loop-rest.invariant.0 c.in-Some.ensures.found fits.0 fits.1 refl c.in-Ok.ensures.ok in (
      more,
      found_few c.args.buckets c.args.bucket c.args.bytes.now c.in-Some.behind.now (c.in-Some.key + 1) (c.loop-rest.count + 1) c.in-Some.key
          c.mark.new.marks.items more,
    )

pub returns-clause-found : goal.returns-clause-found
returns-clause-found c =
    found_all c.args.buckets c.args.bucket c.args.bytes.now c.loop-rest.rest.now c.loop-rest.least c.loop-rest.count c.loop-rest.last
    c.loop-rest.marks.items c.loop-rest.invariant.0
    (none_left c.loop-rest.rest.now (eqb-true (length c.loop-rest.rest.now) 0 (sym c.is_empty.ensures ∙ c.loop-rest-test.false)))
