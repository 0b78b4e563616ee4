-- Who is among the ids of the index: a law on its definition, for what is built over it.
use Rattle.std.proofs.Common.{◌≡◌, ℕ, Bool, true, false, ◌&&◌, ◌||◌, cond, List, [], ◌∷◌, map, Option, Some, None, refl, sym, ap, subst}
use Rattle.std.proofs.Common.{◌∙◌, nat_eq}
use Rattle.std.specs.Option.{is_some}
use Rattle.std.specs.Ordering.{eq_by_cmp}
use Rattle.std.specs.Cmp.{unsigned_tied, Equal-is}
use Rattle.std.proofs.lemmas.Cmp.{nat_eq_equiv}
use Rattle.std.specs.List.{filter, list_any}
use Rattle.std.specs.FinMap as finite
use Rattle.osm_base.specs.declared.values.key.Kind.{Kind}
use Rattle.osm_base.specs.declared.values.key.Kind.TheVariants.{Node, Way, Relation}
use Rattle.osm_base.specs.declared.values.object.Object.{Object}
use Rattle.osm_base.specs.values.Key.{KeyOf}
use Rattle.osm_base.specs.values.KeyOrder.{key_cmp}
use Rattle.osm_base.proofs.KeyLaws.{key_cmp-IsAntisymmetric}
use Rattle.osm_base.specs.map.Objects.{ObjectSet}
use Rattle.osm_base.specs.map.Listers.{is_kind, lists, ids_of}
use Rattle.osm_base.specs.values.Ids.{has}

and-false : (b : Bool) → (b && false) ≡ false
and-false true = refl
and-false false = refl

abbrev pub key : Kind → ℕ → KeyOf
key kind id = record { kind = kind; id = id }

pub kind_same : (kind other : Kind) → is_kind kind other ≡ true → kind ≡ other
kind_same Node Node e = refl
kind_same Node Way e = absurd (cc)
kind_same Node Relation e = absurd (cc)
kind_same Way Node e = absurd (cc)
kind_same Way Way e = refl
kind_same Way Relation e = absurd (cc)
kind_same Relation Node e = absurd (cc)
kind_same Relation Way e = absurd (cc)
kind_same Relation Relation e = refl

-- in keys of one kind the ids decide
pub tied-ids : (kind other : Kind) (id own : ℕ) → is_kind kind other ≡ true
    → eq_by_cmp key_cmp (key kind id) (key other own) ≡ nat_eq id own
tied-ids Node Node id own e = unsigned_tied id own
tied-ids Node Way id own e = absurd (cc)
tied-ids Node Relation id own e = absurd (cc)
tied-ids Way Node id own e = absurd (cc)
tied-ids Way Way id own e = unsigned_tied id own
tied-ids Way Relation id own e = absurd (cc)
tied-ids Relation Node id own e = absurd (cc)
tied-ids Relation Way id own e = absurd (cc)
tied-ids Relation Relation id own e = unsigned_tied id own

pub untied-kinds : (kind other : Kind) (id own : ℕ) → is_kind kind other ≡ false → eq_by_cmp key_cmp (key kind id) (key other own) ≡ false
untied-kinds Node Node id own e = absurd (cc)
untied-kinds Node Way id own e = refl
untied-kinds Node Relation id own e = refl
untied-kinds Way Node id own e = refl
untied-kinds Way Way id own e = absurd (cc)
untied-kinds Way Relation id own e = refl
untied-kinds Relation Node id own e = refl
untied-kinds Relation Way id own e = refl
untied-kinds Relation Relation id own e = absurd (cc)

-- the ids of these keys that pass
abbrev pub passing : (KeyOf → Bool) → List KeyOf → List ℕ
passing test keys = map (λ own. own.id) (filter test keys)

module _ (objects : ObjectSet) (by kind : Kind) (id : ℕ) where
  abbrev pub test : KeyOf → Bool
  test own = is_kind by own.kind && lists kind id (finite.get objects own)

  module _ (first : KeyOf) (keys : List KeyOf) (own : ℕ)
      (rest : has (passing test keys) own ≡ (list_any (eq_by_cmp key_cmp (key by own)) keys && lists kind id
      (finite.get objects (key by own)))) where
    abbrev kept : Bool → Bool
    kept passes = has (map (λ own. own.id) (cond passes (first ∷ filter test keys) (filter test keys))) own

    at_key : nat_eq own first.id ≡ true → (passes : Bool) → passes ≡ lists kind id (finite.get objects (key by own))
        → kept passes ≡ lists kind id (finite.get objects (key by own))
    at_key same true is = ap (λ b. b || has (passing test keys) own) (nat_eq_equiv.symm first.id own ∙ same) ∙ is
    at_key same false is = rest ∙ ap (λ b. list_any (eq_by_cmp key_cmp (key by own)) keys && b) (sym is) ∙ and-false _ ∙ is

    elsewhere : nat_eq own first.id ≡ false → (passes : Bool)
        → kept passes ≡ (list_any (eq_by_cmp key_cmp (key by own)) keys && lists kind id (finite.get objects (key by own)))
    elsewhere differs true = ap (λ b. b || has (passing test keys) own) (nat_eq_equiv.symm first.id own ∙ differs) ∙ rest
    elsewhere differs false = rest

    same_key : is_kind by first.kind ≡ true → nat_eq own first.id ≡ true → first ≡ key by own
    same_key kinds ids = key_cmp-IsAntisymmetric first (key by own) ((Equal-is (key_cmp first (key by own))).0
        (subst (λ kind. eq_by_cmp key_cmp (key kind first.id) (key by own) ≡ true) (kind_same by first.kind kinds)
        (tied-ids by by first.id own (subst (λ kind. is_kind by kind ≡ true) (sym (kind_same by first.kind kinds)) kinds)
        ∙ nat_eq_equiv.symm first.id own ∙ ids)))

    of_kind : is_kind by first.kind ≡ true → kept (lists kind id (finite.get objects first))
        ≡ ((eq_by_cmp key_cmp (key by own) first || list_any (eq_by_cmp key_cmp (key by own)) keys) && lists kind id
        (finite.get objects (key by own)))
    of_kind kinds =
        elim (nat_eq own first.id) as (λ b. nat_eq own first.id ≡ b
        → kept (lists kind id (finite.get objects first))
        ≡ ((b || list_any (eq_by_cmp key_cmp (key by own)) keys) && lists kind id (finite.get objects (key by own)))) [
          | true ↦ λ same. at_key same (lists kind id (finite.get objects first))
              (ap (λ own. lists kind id (finite.get objects own)) (same_key kinds same))
          | false ↦ λ differs. elsewhere differs (lists kind id (finite.get objects first))
        ] refl
        ∙ ap (λ b. (b || list_any (eq_by_cmp key_cmp (key by own)) keys) && lists kind id (finite.get objects (key by own)))
        (sym (tied-ids by first.kind own first.id kinds))

  -- an id is among them where its key is among the keys and lists the object
  has-passing : (keys : List KeyOf) (own : ℕ)
      → has (passing test keys) own ≡ (list_any (eq_by_cmp key_cmp (key by own)) keys && lists kind id (finite.get objects (key by own)))
  has-passing [] own = refl
  has-passing (first ∷ keys) own =
      elim (is_kind by first.kind) as (λ b. is_kind by first.kind ≡ b
      → has (map (λ own. own.id) (cond (b && lists kind id (finite.get objects first)) (first ∷ filter test keys) (filter test keys))) own
      ≡ ((eq_by_cmp key_cmp (key by own) first || list_any (eq_by_cmp key_cmp (key by own)) keys) && lists kind id
      (finite.get objects (key by own)))) [
        | true ↦ λ kinds. of_kind first keys own (has-passing keys own) kinds
        | false ↦ λ differs. has-passing keys own
            ∙ ap (λ b. (b || list_any (eq_by_cmp key_cmp (key by own)) keys) && lists kind id (finite.get objects (key by own)))
            (sym (untied-kinds by first.kind own first.id differs))
      ] refl

  there_lists : (object : Option Object) → (is_some object && lists kind id object) ≡ lists kind id object
  there_lists None = refl
  there_lists (Some object) = refl

  pub has-ids_of : (own : ℕ) → has (ids_of by kind id objects) own ≡ lists kind id (finite.get objects (key by own))
  has-ids_of own =
      has-passing (finite.keys objects) own
      ∙ ap (λ b. b && lists kind id (finite.get objects (key by own))) (sym (finite.contains_key-keys objects (key by own)))
      ∙ there_lists (finite.get objects (key by own))
