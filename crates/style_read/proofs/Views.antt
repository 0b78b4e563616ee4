-- Values and their data.
use Rattle.std.specs.Prelude.{true, false, String, string_bytes, cond, not, ◌+◌, ◌<◌, ◌≤◌, ◌++◌, take, drop, ◌≡◌, length, ℕ, List, [], ◌∷◌}
use Rattle.std.specs.Prelude.{Bool, ◌||◌, ◌&&◌, map, refl}
use Rattle.std.specs.List.{list_any, list_all, position, position_or_len}
use Rattle.std.proofs.Common.{ap, ◌∙◌, get_or, arith}
use Rattle.std.proofs.lemmas.List.{length-map, length-take, map-append, drop_more, take_more}
use Rattle.toml.specs.Data.{Data}
use Rattle.toml.specs.View.{items_of, members_view, table_view}
use Rattle.toml.specs.declared.value.Value.{Value}
use Rattle.std.specs.BTreeMap.{BTreeMap, keys}
use Rattle.std.specs.declared.alloc.Global.{Global}
use Rattle.std.specs.Str.{is_utf8, IsUtf8}
use Rattle.std.proofs.lemmas.Str.{IsUtf8-from_is_utf8}
use Rattle.style_read.specs.Document.{items_in, keys_in}

-- a test of some element, of what a function makes of each
pub list_any_over : {X Y : Type 0} (p : Y → Bool) (f : X → Y) (xs : List X) → list_any p (map f xs) ≡ list_any (λ x. p (f x)) xs
list_any_over p f [] = refl
list_any_over p f (x ∷ xs) = ap (λ b. p (f x) || b) (list_any_over p f xs)

-- and of each element
pub list_all_over : {X Y : Type 0} (p : Y → Bool) (f : X → Y) (xs : List X) → list_all p (map f xs) ≡ list_all (λ x. p (f x)) xs
list_all_over p f [] = refl
list_all_over p f (x ∷ xs) = ap (λ b. p (f x) && b) (list_all_over p f xs)

-- the items of a list are the list
pub items_in_items_of : (values : List Data) → items_in (items_of values) ≡ values
items_in_items_of [] = refl
items_in_items_of (value ∷ values) = ap (λ rest. value ∷ rest) (items_in_items_of values)

-- the place of the first that passes
position_or_len_over : {X Y : Type 0} (p : Y → Bool) (f : X → Y) (xs : List X)
    → position_or_len p (map f xs) ≡ position_or_len (λ x. p (f x)) xs
position_or_len_over p f [] = refl
position_or_len_over p f (x ∷ xs) = ap (λ n. cond (not (p (f x))) (1 + n) 0) (position_or_len_over p f xs)

pub position_over : {X Y : Type 0} (p : Y → Bool) (f : X → Y) (xs : List X) → position p (map f xs) ≡ position (λ x. p (f x)) xs
position_over p f xs = rw (position_or_len_over p f xs, length-map xs f)

-- bytes that are no text do not pass the test for one
pub is_utf8-of_none : (bytes : List ℕ) → ¬ (IsUtf8 bytes) → is_utf8 bytes ≡ false
is_utf8-of_none bytes other = go (is_utf8 bytes) refl
  where
    go : (t : Bool) → is_utf8 bytes ≡ t → is_utf8 bytes ≡ false
    go true e = absurd (other (IsUtf8-from_is_utf8 bytes e))
    go false e = e

-- the keys of a table are those of its map
keys_in_entries : (entries : List (String Global × Value))
    → keys_in (members_view entries) ≡ map string_bytes (map (λ entry. entry.0) entries)
keys_in_entries [] = refl
keys_in_entries (entry ∷ entries) = ap (λ rest. string_bytes entry.0 ∷ rest) (keys_in_entries entries)

pub keys_in_table_view : (table : BTreeMap (String Global) Value) → keys_in (table_view table) ≡ map string_bytes (keys table)
keys_in_table_view table = keys_in_entries table.entries

-- there are as many
pub length_over : {X Y : Type 0} (f : X → Y) (xs : List X) → length (map f xs) ≡ length xs
length_over f xs = length-map xs f

-- what is left of a list, one step on
pub drop_over : {X Y : Type 0} (f : X → Y) (xs : List X) (i : ℕ) (d : X) → i < length xs
    → map f (drop i xs) ≡ f (get_or xs i d) ∷ map f (drop (i + 1) xs)
drop_over f xs i d low = ap (map f) (drop_more xs i d low)

-- and what came before
pub take_over : {X Y : Type 0} (f : X → Y) (xs : List X) (i : ℕ) (d : X) → i < length xs
    → map f (take (i + 1) xs) ≡ map f (take i xs) ++ f (get_or xs i d) ∷ []
take_over f xs i d low = ap (map f) (take_more xs i d low) ∙ map-append f (take i xs) (get_or xs i d ∷ [])

pub length_taken : {X Y : Type 0} (f : X → Y) (xs : List X) (i : ℕ) → i ≤ length xs → length (map f (take i xs)) ≡ i
length_taken f xs i low = length-map (take i xs) f ∙ omega (arith, length-take i xs)
