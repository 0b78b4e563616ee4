-- The level of a box, and the parts that hold it.
use Rattle.std.proofs.Common.{◌≡◌, ℕ, zero, suc, ◌+◌, ◌-◌, ◌/◌, ◌^◌, ◌<◌, ◌≤◌, Bool, true, false, cond, ◌&&◌, ◌||◌, refl, ◌∙◌, ap, inl, inr}
use Rattle.std.proofs.Common.{arith}
use Rattle.std.specs.Prelude.{nat_le, nat_lt, ◌⊎◌}
use Rattle.std.proofs.Math.Nat.{div-mul-le_self}
use Rattle.std.proofs.lemmas.Bool.{eqb-true}
use Rattle.std.proofs.lemmas.Bool.Decides.{nat_tests}
use Rattle.std.proofs.lemmas.Nat.{le-div, pow_pos}
use Rattle.grid_index.specs.declared.cells.Cells.{Cells}
use Rattle.grid_index.specs.Cells.{is_wide_of, is_within, level_from, level_of, part, share}

one_less : (levels : ℕ) (level : ℕ) → level < levels → levels - level ≡ suc (levels - (level + 1))
one_less levels level h = omega arith

-- a level that does not hold all the cells is passed over
pub level_next : (cells : Cells) (level : ℕ) → level < 11 → is_within level cells ≡ false
    → level_from (11 - level) level cells ≡ level_from (11 - (level + 1)) (level + 1) cells
unfolding level_from
level_next cells level h e = ap (λ levels. level_from levels level cells) (one_less 11 level h) ∙ rw e refl

-- the first that does is the level
pub level_stop : (cells : Cells) (level : ℕ) → level < 11 → is_within level cells ≡ true → level_from (11 - level) level cells ≡ level
unfolding level_from
level_stop cells level h e = ap (λ levels. level_from levels level cells) (one_less 11 level h) ∙ rw e refl

pub level_end : (cells : Cells) (level : ℕ) → level ≡ 11 → level_from (11 - level) level cells ≡ 11
unfolding level_from
level_end cells level e = rw e refl

-- a level is one of twelve
small_from : (levels level : ℕ) (cells : Cells) → level_from levels level cells ≤ levels + level
unfolding level_from
small_from zero level cells = omega arith
small_from (suc levels) level cells = elim (is_within level cells) as
    (λ b. cond b level (level_from levels (level + 1) cells) ≤ suc levels + level) [
      | true ↦ omega arith
      | false ↦ omega (arith, small_from levels (level + 1) cells)
    ]

-- the level found is one of which one part holds all the cells, or it is the last
held_from : (levels level : ℕ) (cells : Cells)
    → (level_from levels level cells ≡ levels + level) ⊎ (is_within (level_from levels level cells) cells ≡ true)
unfolding level_from
held_from zero level cells = inl (omega arith)
held_from (suc levels) level cells =
    elim (is_within level cells) as (λ b. is_within level cells ≡ b
    → (cond b level (level_from levels (level + 1) cells) ≡ suc levels + level)
    ⊎ (is_within (cond b level (level_from levels (level + 1) cells)) cells ≡ true)) [
      | true ↦ λ e. inr e
      | false ↦ λ e. elim (held_from levels (level + 1) cells) [ inl last ↦ inl (omega (arith, last)) | inr held ↦ inr held ]
    ] refl

pub level_of-small : (cells : Cells) → level_of cells ≤ 11
unfolding level_of
level_of-small cells = elim (is_wide_of cells) as
    (λ b. cond b 11 (level_from 11 0 cells) ≤ 11) [ true ↦ omega arith | false ↦ omega (arith, small_from 11 0 cells) ]

pub level_of-holds : (cells : Cells) → (level_of cells ≡ 11) ⊎ (is_within (level_of cells) cells ≡ true)
unfolding level_of
level_of-holds cells = elim (is_wide_of cells) as
    (λ b. (cond b 11 (level_from 11 0 cells) ≡ 11) ⊎ (is_within (cond b 11 (level_from 11 0 cells)) cells ≡ true)) [
      | true ↦ inl refl
      | false ↦ elim (held_from 11 0 cells) [ inl last ↦ inl (omega (arith, last)) | inr held ↦ inr held ]
    ]

pub level_of-wide : (cells : Cells) → is_wide_of cells ≡ true → level_of cells ≡ 11
unfolding level_of
level_of-wide cells e = rw e refl

-- a part further west holds no cell further east
pub part-mono : (level one other : ℕ) → one ≤ other → part level one ≤ part level other
unfolding part
part-mono level one other h = elim (nat_lt level 11) as (λ b. cond b (one / 2 ^ level) 0 ≤ cond b (other / 2 ^ level) 0) [
  | true ↦ le-div (one / 2 ^ level) other (2 ^ level) (pow_pos level) (omega (arith, h, div-mul-le_self one (2 ^ level)))
  | false ↦ omega arith
]

pub part-last : (number : ℕ) → part 11 number ≡ 0
unfolding part
part-last number = refl

-- what a part of a level has to be, so that a search for the asked cells looks at it
pub record IsReached (asked cells : Cells) (level : ℕ) : Type 0 where
  pub west : part level asked.west ≤ part level cells.west
  pub east : part level cells.west ≤ part level asked.east
  pub south : part level asked.south ≤ part level cells.south
  pub north : part level cells.south ≤ part level asked.north

reached_last : (asked cells : Cells) (level : ℕ) → level ≡ 11 → IsReached asked cells level
reached_last asked cells level e = rw e record {
  west = rw (part-last asked.west, part-last cells.west) (omega arith);
  east = rw (part-last asked.east, part-last cells.west) (omega arith);
  south = rw (part-last asked.south, part-last cells.south) (omega arith);
  north = rw (part-last asked.north, part-last cells.south) (omega arith);
}

reached_held : (asked cells : Cells) (level : ℕ) → is_within level cells ≡ true → share asked cells ≡ true → IsReached asked cells level
reached_held asked cells level held shared =
    let a = both_true _ _ held in
    let b = both_true _ _ shared in
    let c = both_true _ _ b.0 in
    let d = both_true _ _ b.1 in
    let columns : part level cells.west ≡ part level cells.east = eqb-true _ _ a.0 in
    let rows : part level cells.south ≡ part level cells.north = eqb-true _ _ a.1 in
    record {
      west = omega (arith, columns, part-mono level asked.west cells.east (le_of _ _ c.1));
      east = part-mono level cells.west asked.east (le_of _ _ c.0);
      south = omega (arith, rows, part-mono level asked.south cells.north (le_of _ _ d.1));
      north = part-mono level cells.south asked.north (le_of _ _ d.0);
    }
  where
    both_true : (a b : Bool) → (a && b) ≡ true → (a ≡ true) × (b ≡ true)
    both_true true b e = (refl, e)
    both_true false b e = absurd (cc)

    le_of : (a b : ℕ) → nat_le a b ≡ true → a ≤ b
    le_of a b e = grind (arith, nat_tests)

-- a search for the asked cells looks at the part that holds a box that is wide or shares a cell with them
pub reached : (asked cells : Cells) → (is_wide_of cells || share asked cells) ≡ true → IsReached asked cells (level_of cells)
reached asked cells near = go (is_wide_of cells) refl near
  where
    go : (b : Bool) → is_wide_of cells ≡ b → (b || share asked cells) ≡ true → IsReached asked cells (level_of cells)
    go true wide e = reached_last asked cells (level_of cells) (level_of-wide cells wide)
    go false wide shared = elim (level_of-holds cells)
        [ inl last ↦ reached_last asked cells (level_of cells) last | inr held ↦ reached_held asked cells (level_of cells) held shared ]
