-- The versions that readers are shown are states of the store.
use Rattle.std.proofs.Common.{◌≡◌, ◌≤◌, ◌<◌, ◌+◌, ℕ, zero, suc, List, [], ◌∷◌, ◌++◌, length, length-append, get_or, take, refl, sym, ◌∙◌}
use Rattle.std.proofs.Common.{ap, subst, arith}
use Rattle.std.proofs.lemmas.List.{take_all}
use native.Mathlib.Decide.{ℕ_discrete}
use Rattle.osm_base.specs.declared.values.row.Delta.{Delta}
use Rattle.osm_base.specs.map.Spots.{TableMap, changed_all}
use Rattle.row_rules.specs.Row.{tables}
use Rattle.style_read.specs.Style.{StyleOf}
use Rattle.table_versions.specs.Fronts.{FrontOf}
use Rattle.table_versions.specs.Versions.{after, applied, tables_of, version_of}
use Rattle.update_flow.specs.State.{Holding}
use Rattle.run_promise.specs.Blocks.{version_at}
use Rattle.updater.specs.Serving.{AreShown, IsNext, IsShownAs, with_delta}

-- a place in front of what was added
get_front : {A : Type 0} (xs ys : List A) (n : ℕ) (d e : A) → n < length xs → get_or (xs ++ ys) n d ≡ get_or xs n e
get_front [] ys n d e less = absurd (omega (arith, less))
get_front (x ∷ xs) ys zero d e less = refl
get_front (x ∷ xs) ys (suc n) d e less = get_front xs ys n d e (omega (arith, less))

-- and the one that was
pub get_added : {A : Type 0} (xs : List A) (x : A) (d : A) → get_or (xs ++ x ∷ []) (length xs) d ≡ x
get_added [] x d = refl
get_added (y ∷ xs) x d = get_added xs x d

take_front : {A : Type 0} (xs ys : List A) (n : ℕ) → n ≤ length xs → take n (xs ++ ys) ≡ take n xs
take_front xs ys zero low = refl
take_front [] ys (suc n) low = absurd (omega (arith, low))
take_front (x ∷ xs) ys (suc n) low = ap (λ rest. x ∷ rest) (take_front xs ys n (omega (arith, low)))

after_more : (first : TableMap) (log : List Delta) (delta : Delta)
    → after first (log ++ delta ∷ []) ≡ changed_all (after first log) delta.changes
after_more first [] delta = refl
after_more first (one ∷ log) delta = after_more (applied first one) log delta

-- the first version
pub shown_first : (style : StyleOf) (front : FrontOf) (held : Holding) → front.log ≡ [] → held.changes ≡ front.base → held.style ≡ style
    → front.first ≡ tables held.style held.objects → AreShown style front [] held
shown_first style front held none changes same first = record {
  many = ap length none;
  each = λ number low.
      let zeroth : number ≡ 0 = omega (arith, low) in
      subst (λ (own : ℕ). IsShownAs style front own (version_at [] held own)) (sym zeroth)
      (record { changes = omega (arith, changes); style_is = same; tables = first });
}

-- one version more
pub shown_more : (style : StyleOf) (front : FrontOf) (shown : List Holding) (last next : Holding) (delta : Delta)
    → AreShown style front shown last → IsNext last next delta
    → AreShown style (with_delta front delta) (shown ++ last ∷ []) next
shown_more style front shown last next delta so is = record {
  many = omega (arith, length-append front.log (delta ∷ []), length-append shown (last ∷ []), so.many);
  each = λ number low. by number low (ℕ_discrete number (length (shown ++ last ∷ [])));
}
  where
    longer : length (shown ++ last ∷ []) ≡ length shown + 1
    longer = omega (arith, length-append shown (last ∷ []))

    end : IsShownAs style front (length shown) last
    end = subst (λ (own : Holding). IsShownAs style front (length shown) own) (get_added shown last last)
        (so.each (length shown) (omega arith))

    all : take (length front.log) front.log ≡ front.log
    all = take_all (length front.log) front.log (omega arith)

    by : (number : ℕ) → number ≤ length (shown ++ last ∷ []) → Dec (number ≡ length (shown ++ last ∷ []))
        → IsShownAs style (with_delta front delta) number (version_at (shown ++ last ∷ []) next number)
    by number low (yes same) =
        let here : version_at (shown ++ last ∷ []) next number ≡ next =
        ap (version_at (shown ++ last ∷ []) next) same ∙ get_added (shown ++ last ∷ []) next next in
        let whole : take number (front.log ++ delta ∷ []) ≡ front.log ++ delta ∷ [] =
        take_all number (front.log ++ delta ∷ []) (omega (arith, same, longer, so.many, length-append front.log (delta ∷ []))) in
        let before : take (length shown) front.log ≡ front.log = ap (λ (n : ℕ). take n front.log) (sym so.many) ∙ all in
        let of_last : after front.first front.log ≡ tables last.style last.objects = ap (after front.first) (sym before) ∙ end.tables in
        subst (λ (own : Holding). IsShownAs style (with_delta front delta) number own) (sym here) (record {
          changes = omega (arith, is.changes, end.changes, same, longer);
          style_is = is.style ∙ end.style_is;
          tables = ap (after front.first) whole ∙ after_more front.first front.log delta
              ∙ ap (λ (own : TableMap). changed_all own delta.changes) of_last ∙ is.tables;
        })
    by number low (no apart) =
        let less : number < length (shown ++ last ∷ []) = omega (arith, low, apart) in
        let here : version_at (shown ++ last ∷ []) next number ≡ version_at shown last number =
        get_front (shown ++ last ∷ []) (next ∷ []) number next last less in
        let own = so.each number (omega (arith, less, longer)) in
        let front_same : take number (front.log ++ delta ∷ []) ≡ take number front.log =
        take_front front.log (delta ∷ []) number (omega (arith, less, longer, so.many)) in
        subst (λ (held : Holding). IsShownAs style (with_delta front delta) number held) (sym here)
        (record { changes = own.changes; style_is = own.style_is; tables = ap (after front.first) front_same ∙ own.tables })

-- the tables and the number of the version that a delta makes
pub shown_tables : (front : FrontOf) (delta : Delta) (old new : TableMap) → old ≡ tables_of front → new ≡ changed_all old delta.changes
    → new ≡ tables_of (with_delta front delta)
shown_tables front delta old new before now =
    now ∙ ap (λ (own : TableMap). changed_all own delta.changes) before ∙ sym (after_more front.first front.log delta)

pub shown_version : (front : FrontOf) (delta : Delta) → version_of (with_delta front delta) ≡ version_of front + 1
shown_version front delta = omega (arith, length-append front.log (delta ∷ []))
