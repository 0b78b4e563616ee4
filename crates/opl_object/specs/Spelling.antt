-- What the values of a line stand for, apart from how they are read.
-- osmium "OPL File Format": the values of the fields, the escapes of texts, and lists with commas.
use Rattle.std.specs.Prelude.{◌≡◌, ◌≢◌, ◌⊎◌, ℕ, ℤ, pos, neg_ℤ, ◌+◌, ◌<◌, ◌≤◌, Bool, false, if◌then◌else◌, IsTrue, List, [], ◌∷◌, ◌++◌}
use Rattle.std.specs.Prelude.{length, map, nat_abs}
use Rattle.std.specs.List.{AllByRecursion, list_all, join_with_byte}
use Rattle.std.specs.Char.{IsScalar, encode_utf8, is_ascii_digit, is_ascii_hexdigit}
use Rattle.std.specs.Str.Parse.{digits_value}
use Rattle.std.specs.FinMap as finite
use Rattle.osm_base.specs.declared.values.key.Kind.{Kind}
use Rattle.osm_base.specs.declared.values.key.Kind.TheVariants as kinds
use Rattle.osm_base.specs.declared.values.object.Member.{Member}
use Rattle.osm_base.specs.declared.values.place.TheConstants.{MAX_LON, MAX_LAT}
use Rattle.osm_base.specs.values.Key.{IsId}
use Rattle.osm_base.specs.values.Tags.{TagMap}
use Rattle.opl_object.specs.declared.ascii.TheConstants.{PERCENT, COMMA, MINUS, POINT, EQUALS, AT, SMALL_N, SMALL_R, SMALL_W, SMALL_X}
use Rattle.opl_object.specs.declared.ascii.TheConstants.{SMALL_Y}
use Rattle.opl_object.specs.Coordinate.{units}
use Rattle.opl_object.specs.Text.{is_reserved}

-- no item stands twice
abbrev pub AreDistinct : {A : Type 0} → List A → Type 0
AreDistinct [] = Unit {0}
AreDistinct (x ∷ xs) = AllByRecursion (λ other. x ≢ other) xs × AreDistinct xs

-- the items of a list are spelled one by one
abbrev pub SpellEach : {A : Type 0} → (List ℕ → A → Type 0) → List (List ℕ) → List A → Type 0
SpellEach Spell [] [] = Unit {0}
SpellEach Spell (piece ∷ pieces) (item ∷ items) = Spell piece item × SpellEach Spell pieces items
SpellEach Spell _ _ = ⊥

-- a list: nothing, or its items with commas between them
abbrev pub SpellsList : {A : Type 0} → (List ℕ → A → Type 0) → List ℕ → List A → Type 0
SpellsList Spell text items = ((text ≡ []) × (items ≡ []))
    ⊎ ((first : List ℕ) × (others : List (List ℕ)) × (text ≡ join_with_byte COMMA (first ∷ others))
    × SpellEach Spell (first ∷ others) items)

-- an escape: from 1 to 6 hexadecimal digits between percent signs, of a Unicode scalar value that is not zero
pub record SpellsEscape (spelled : List ℕ) (code : ℕ) : Type 0 where
  pub digits : List ℕ
  pub form : spelled ≡ PERCENT ∷ (digits ++ PERCENT ∷ [])
  pub some : 1 ≤ length digits
  pub few : length digits ≤ 6
  pub hexadecimal : IsTrue (list_all is_ascii_hexdigit digits)
  pub value : digits_value 16 digits ≡ code
  pub scalar : IsScalar code
  pub not_zero : 0 < code

-- a code point as it is
pub record SpellsPlain (spelled : List ℕ) (code : ℕ) : Type 0 where
  pub form : spelled ≡ encode_utf8 code
  pub scalar : IsScalar code
  pub free : is_reserved code ≡ false

-- a text: its code points one after the other, each as it is or as an escape
abbrev pub SpellsText : List ℕ → List ℕ → Type 0
SpellsText spelled [] = spelled ≡ []
SpellsText spelled (code ∷ text) = (front : List ℕ) × (rest : List ℕ) × (spelled ≡ front ++ rest)
    × (SpellsPlain front code ⊎ SpellsEscape front code) × SpellsText rest text

-- from one to so many digits
pub record AreDigits (most : ℕ) (text : List ℕ) : Type 0 where
  pub some : 1 ≤ length text
  pub few : length text ≤ most
  pub digits : IsTrue (list_all is_ascii_digit text)

-- an id
pub record SpellsId (text : List ℕ) (id : ℕ) : Type 0 where
  pub digits : AreDigits 19 text
  pub value : digits_value 10 text ≡ id
  pub range : IsId id

-- a minus where the number is below zero, or where a zero has one
abbrev pub sign_text : Bool → List ℕ
sign_text minus = if minus then MINUS ∷ [] else []

-- a point and decimals, where there are some
abbrev pub decimals_text : List ℕ → List ℕ
decimals_text [] = []
decimals_text (digit ∷ digits) = POINT ∷ (digit ∷ digits)

-- a coordinate in units of 1e-7 degree, no further from zero than the greatest
pub record SpellsCoordinate (greatest : ℕ) (text : List ℕ) (value : ℤ) : Type 0 where
  pub minus : Bool
  pub whole : List ℕ
  pub decimals : List ℕ
  pub form : text ≡ sign_text minus ++ (whole ++ decimals_text decimals)
  pub some : 1 ≤ length whole
  pub few : length whole + length decimals ≤ 20
  pub whole_digits : IsTrue (list_all is_ascii_digit whole)
  pub decimal_digits : IsTrue (list_all is_ascii_digit decimals)
  pub near : units whole decimals ≤ greatest
  pub is : (if minus then neg_ℤ (pos (units whole decimals)) else pos (units whole decimals)) ≡ value

-- a coordinate of so many units that has no sign
pub record SpellsUnits (text : List ℕ) (size : ℕ) : Type 0 where
  pub whole : List ℕ
  pub decimals : List ℕ
  pub form : text ≡ whole ++ decimals_text decimals
  pub some : 1 ≤ length whole
  pub few : length whole + length decimals ≤ 20
  pub whole_digits : IsTrue (list_all is_ascii_digit whole)
  pub decimal_digits : IsTrue (list_all is_ascii_digit decimals)
  pub is : units whole decimals ≡ size

-- a tag: its key, an equals sign and its value
pub record SpellsTag (piece : List ℕ) (tag : List ℕ × List ℕ) : Type 0 where
  pub key : List ℕ
  pub value : List ℕ
  pub form : piece ≡ key ++ EQUALS ∷ value
  pub key_text : SpellsText key tag.0
  pub value_text : SpellsText value tag.1

-- tags: each key once
pub record SpellsTags (text : List ℕ) (tags : TagMap) : Type 0 where
  pub pairs : List (List ℕ × List ℕ)
  pub list : SpellsList SpellsTag text pairs
  pub distinct : AreDistinct (map (λ pair. pair.0) pairs)
  pub is : tags ≡ finite.from_entries pairs

-- the longitude and the latitude in a node reference, which are not used
pub record SpellsPlace (text : List ℕ) : Type 0 where
  pub lon : List ℕ
  pub lat : List ℕ
  pub form : text ≡ SMALL_X ∷ (lon ++ SMALL_Y ∷ lat)
  pub places : ((lon ≡ []) × (lat ≡ []))
      ⊎ ((east : ℤ) × (north : ℤ) × SpellsCoordinate (nat_abs MAX_LON) lon east × SpellsCoordinate (nat_abs MAX_LAT) lat north)

-- a node reference: n and its id, and maybe a place
pub record SpellsNode (piece : List ℕ) (id : ℕ) : Type 0 where
  pub digits : List ℕ
  pub place : List ℕ
  pub form : piece ≡ SMALL_N ∷ (digits ++ place)
  pub number : SpellsId digits id
  pub places : (place ≡ []) ⊎ SpellsPlace place

-- the letter of a kind
abbrev pub kind_byte : Kind → ℕ
kind_byte kinds.Node = SMALL_N
kind_byte kinds.Way = SMALL_W
kind_byte kinds.Relation = SMALL_R

-- a member: the letter of its kind, its id, an at sign and its role
pub record SpellsMember (piece : List ℕ) (member : Member) : Type 0 where
  pub digits : List ℕ
  pub role : List ℕ
  pub form : piece ≡ kind_byte member.key.kind ∷ (digits ++ AT ∷ role)
  pub number : SpellsId digits member.key.id
  pub role_text : SpellsText role member.role
