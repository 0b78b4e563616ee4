-- The laws of keys and members in bytes.
use Rattle.std.proofs.Common.{◌≡◌, ◌≢◌, ℕ, List, [], ◌∷◌, ◌++◌, refl, sym, ap, ◌∙◌, arith, append_assoc, subst}
use Rattle.osm_base.specs.values.Key.{KeyOf}
use Rattle.osm_base.specs.declared.values.key.Kind.{Kind}
use Rattle.osm_base.specs.declared.values.key.Kind.TheVariants.{Node, Way, Relation}
use Rattle.osm_base.specs.declared.values.object.Member.{Member}
use Rattle.value_bytes.specs.Forms.{IsFront, IsFrontless, both_bytes, Both}
use Rattle.value_bytes.specs.Members.{kind_byte, key_bytes, IsKey, member_bytes, IsMember}
use Rattle.value_bytes.specs.Numbers.{number_bytes, IsNumber, byte_bytes, IsByte}
use Rattle.value_bytes.specs.Texts.{text_bytes, IsText}
use Rattle.value_bytes.proofs.Fronts.{front_both, frontless_first, frontless_second}
use Rattle.value_bytes.proofs.NumberLaws.{byte_front, byte_frontless}
use Rattle.value_bytes.proofs.Seen.{AreSeen, front_seen, frontless_seen, unseen}

pub same_kind : (one two : Kind) → kind_byte one ≡ kind_byte two → one ≡ two
same_kind Node Node same = refl
same_kind Node Way same = absurd (omega (arith, same))
same_kind Node Relation same = absurd (omega (arith, same))
same_kind Way Node same = absurd (omega (arith, same))
same_kind Way Way same = refl
same_kind Way Relation same = absurd (omega (arith, same))
same_kind Relation Node same = absurd (omega (arith, same))
same_kind Relation Way same = absurd (omega (arith, same))
same_kind Relation Relation same = refl

-- the two numbers of a key
abbrev pub numbers : KeyOf → ℕ × ℕ
numbers key = (kind_byte key.kind, key.id)

numbers_fit : (key : KeyOf) → IsKey key → Both IsByte IsNumber (numbers key)
numbers_fit key is = (tt, omega (arith, is.greatest))

keys_seen : AreSeen (both_bytes byte_bytes number_bytes) (Both IsByte IsNumber) key_bytes IsKey numbers
unfolding key_bytes
keys_seen = record { is = numbers_fit; told = λ key. refl }

one_key : (one two : KeyOf) → numbers one ≡ numbers two → one ≡ two
one_key one two same =
    let kinds = same_kind one.kind two.kind (ap (λ (p : ℕ × ℕ). p.0) same) in
    let ids = ap (λ (p : ℕ × ℕ). p.1) same in
    λ i. record { kind = kinds i; id = ids i }

pub key_front : (bytes : List ℕ) (byte : ℕ) (behind : List ℕ) (id : ℕ) (rest : List ℕ) (key : KeyOf) → bytes ≡ byte ∷ behind
    → IsFront number_bytes IsNumber behind id rest → kind_byte key.kind ≡ byte → key.id ≡ id → IsKey key
    → IsFront key_bytes IsKey bytes key rest
key_front bytes byte behind id rest key cut second kind number is =
    let here : numbers key ≡ (byte, id) = λ i. (kind i, number i) in
    front_seen (both_bytes byte_bytes number_bytes) (Both IsByte IsNumber) key_bytes IsKey numbers keys_seen bytes (byte, id) rest
    (front_both byte_bytes IsByte number_bytes IsNumber bytes byte behind id rest (byte_front bytes byte behind cut) second) key is here
    (λ other others same. one_key other key (same ∙ sym here))

pub key_no_byte : (bytes : List ℕ) → bytes ≡ [] → IsFrontless key_bytes IsKey bytes
key_no_byte bytes none =
    frontless_seen (both_bytes byte_bytes number_bytes) (Both IsByte IsNumber) key_bytes IsKey numbers keys_seen bytes
    (frontless_first byte_bytes IsByte number_bytes IsNumber bytes (byte_frontless bytes none))

pub key_no_number : (bytes : List ℕ) (byte : ℕ) (behind : List ℕ) → bytes ≡ byte ∷ behind → IsFrontless number_bytes IsNumber behind
    → IsFrontless key_bytes IsKey bytes
key_no_number bytes byte behind cut none =
    frontless_seen (both_bytes byte_bytes number_bytes) (Both IsByte IsNumber) key_bytes IsKey numbers keys_seen bytes
    (frontless_second byte_bytes IsByte number_bytes IsNumber bytes byte behind (byte_front bytes byte behind cut) none)

pub key_none : (bytes : List ℕ) (byte : ℕ) (behind : List ℕ) (id : ℕ) (rest : List ℕ) → bytes ≡ byte ∷ behind
    → IsFront number_bytes IsNumber behind id rest → ((key : KeyOf) → IsKey key → kind_byte key.kind ≡ byte → key.id ≢ id)
    → IsFrontless key_bytes IsKey bytes
key_none bytes byte behind id rest cut second none =
    unseen (both_bytes byte_bytes number_bytes) (Both IsByte IsNumber) key_bytes IsKey numbers keys_seen bytes (byte, id) rest
    (front_both byte_bytes IsByte number_bytes IsNumber bytes byte behind id rest (byte_front bytes byte behind cut) second)
    (λ key is here. none key is (ap (λ (p : ℕ × ℕ). p.0) here) (ap (λ (p : ℕ × ℕ). p.1) here))

pub key_put : (key : KeyOf) (old : List ℕ) → (old ++ kind_byte key.kind ∷ []) ++ number_bytes key.id ≡ old ++ key_bytes key
unfolding key_bytes
key_put key old = append_assoc old (kind_byte key.kind ∷ []) (number_bytes key.id)

-- the two parts of a member
abbrev pub parts : Member → KeyOf × List ℕ
parts member = (member.key, member.role)

parts_fit : (member : Member) → IsMember member → Both IsKey IsText (parts member)
parts_fit member is = (is.key, is.role)

members_seen : AreSeen (both_bytes key_bytes text_bytes) (Both IsKey IsText) member_bytes IsMember parts
unfolding member_bytes
members_seen = record { is = parts_fit; told = λ member. refl }

one_member : (one two : Member) → parts one ≡ parts two → one ≡ two
one_member one two same =
    let keys = ap (λ (p : KeyOf × List ℕ). p.0) same in
    let roles = ap (λ (p : KeyOf × List ℕ). p.1) same in
    λ i. record { key = keys i; role = roles i }

pub member_front : (bytes : List ℕ) (key : KeyOf) (behind role rest : List ℕ) (member : Member)
    → IsFront key_bytes IsKey bytes key behind → IsFront text_bytes IsText behind role rest → member.key ≡ key → member.role ≡ role
    → IsFront member_bytes IsMember bytes member rest
member_front bytes key behind role rest member first second same-key same-role =
    let here : parts member ≡ (key, role) = λ i. (same-key i, same-role i) in
    front_seen (both_bytes key_bytes text_bytes) (Both IsKey IsText) member_bytes IsMember parts members_seen bytes (key, role) rest
    (front_both key_bytes IsKey text_bytes IsText bytes key behind role rest first second) member
    (record { key = subst IsKey (sym same-key) first.begins.is; role = subst IsText (sym same-role) second.begins.is }) here
    (λ other others same. one_member other member (same ∙ sym here))

pub member_no_key : (bytes : List ℕ) → IsFrontless key_bytes IsKey bytes → IsFrontless member_bytes IsMember bytes
member_no_key bytes none =
    frontless_seen (both_bytes key_bytes text_bytes) (Both IsKey IsText) member_bytes IsMember parts members_seen bytes
    (frontless_first key_bytes IsKey text_bytes IsText bytes none)

pub member_no_role : (bytes : List ℕ) (key : KeyOf) (behind : List ℕ) → IsFront key_bytes IsKey bytes key behind
    → IsFrontless text_bytes IsText behind
    → IsFrontless member_bytes IsMember bytes
member_no_role bytes key behind first none =
    frontless_seen (both_bytes key_bytes text_bytes) (Both IsKey IsText) member_bytes IsMember parts members_seen bytes
    (frontless_second key_bytes IsKey text_bytes IsText bytes key behind first none)

pub member_put : (member : Member) (old : List ℕ) → (old ++ key_bytes member.key) ++ text_bytes member.role ≡ old ++ member_bytes member
unfolding member_bytes
member_put member old = append_assoc old (key_bytes member.key) (text_bytes member.role)
