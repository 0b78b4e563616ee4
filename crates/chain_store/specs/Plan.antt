-- What a commit writes, as a whole.
use Rattle.std.specs.Prelude.{◌≡◌, ℕ, ◌+◌, ◌-◌, ◌^◌, ◌<◌, ◌≤◌, ◌==◌, List, [], ◌++◌, length, drop, map}
use Rattle.std.specs.Int.{w64, to_le_bytes}
use Rattle.std.specs.FinMap as finite
use Rattle.outside.specs.Disk.{overlaid}
use Rattle.page_journal.specs.PageSet.{PageMap}
use Rattle.chain_store.specs.Firsts.{filled, firsts_put}
use Rattle.chain_store.specs.Pairs.{chain_pairs, laid_pairs, puts}
use Rattle.chain_store.specs.Parts.{given, growth, head_or, laid_all, up_from}
use Rattle.chain_store.specs.declared.layout.TheConstants.{BUCKETS_AT, CHANGES_AT, FIRSTS_AT, FORMAT_AT, FREE, FREE_AT, HOME_AT, PAGE}
use Rattle.chain_store.specs.declared.layout.TheConstants.{STATE_AT}
use Rattle.chain_store.specs.declared.parts.Laid.{Laid}
use Rattle.chain_store.specs.declared.parts.Part.{Part}
use Rattle.chain_store.specs.declared.planning.Dealt.{Dealt}
use Rattle.chain_store.specs.declared.planning.Pool.{Pool}
use Rattle.chain_store.specs.Gathered.{base_parts}
use Rattle.chain_store.specs.Kept.{buckets_in}
use Rattle.chain_store.specs.declared.kept.Kept.{Kept}
use Rattle.chain_store.specs.declared.planning.Plan.{Plan}
use Rattle.chain_store.specs.declared.root.Root.{Root}

-- the pages that are given up, how many are wanted, and how many of those have to stand behind the end
abbrev pub spare_of : List Part → List Part → List ℕ
spare_of parts bases = given parts ++ given bases

abbrev pub wanted : List Part → List Part → ℕ
wanted parts bases = growth parts + growth bases

abbrev pub more_of : List Part → List Part → List ℕ → ℕ
more_of parts bases free = wanted parts bases - (length (spare_of parts bases) + length free)

-- the pages that are dealt from the front on
abbrev pub whole_pool : List Part → List Part → List ℕ → ℕ → List ℕ
whole_pool parts bases free home = (spare_of parts bases ++ free) ++ up_from home (more_of parts bases free)

-- the free pages that stay as they are
abbrev pub kept_free : List Part → List Part → List ℕ → List ℕ
kept_free parts bases free = drop (wanted parts bases - length (spare_of parts bases)) free

-- this is the pool
pub record IsPool (parts bases : List Part) (free : List ℕ) (home : ℕ) (pool : Pool) : Type 0 where
  pub pages_are : pool.pages.items ≡ whole_pool parts bases free home
  pub given_are : pool.given ≡ length (spare_of parts bases)
  pub own_is : pool.own ≡ growth parts
  pub taken_are : pool.taken ≡ wanted parts bases
  pub last : pool.«end» ≡ home + more_of parts bases free
  pub last_small : pool.«end» < 2 ^ 64
  pub enough : wanted parts bases ≤ length pool.pages.items

-- pages are dealt so
pub record IsDealt (parts bases : List Part) (count : ℕ) (free : List ℕ) (home : ℕ) (dealt : Dealt) : Type 0 where
  pub chains : dealt.chains.items ≡ laid_all parts (whole_pool parts bases free home)
  pub directories : dealt.directories.items
      ≡ laid_all (map (filled count dealt.chains.items) bases) (drop (growth parts) (whole_pool parts bases free home))
  pub left : dealt.left.items ≡ drop (wanted parts bases) (spare_of parts bases)
  pub tail : dealt.tail ≡ head_or (kept_free parts bases free) 0
  pub last : dealt.«end» ≡ home + more_of parts bases free
  pub last_small : dealt.«end» < 2 ^ 64

-- a number at a place
abbrev pub field_put : ℕ → ℕ → List ℕ → List ℕ
field_put at value bytes = overlaid at (to_le_bytes w64 value) bytes

-- the root page with other fields and first pages
abbrev pub fields_put : Root → ℕ → ℕ → List ℕ → List ℕ
fields_put root home free front =
    field_put FREE_AT free (field_put BUCKETS_AT root.buckets (field_put CHANGES_AT root.changes (field_put STATE_AT root.state
    (field_put FORMAT_AT root.format (field_put HOME_AT home front)))))

abbrev pub root_bytes : List ℕ → Root → ℕ → ℕ → List Laid → List Laid → List ℕ
root_bytes front root home free chains directories =
    firsts_put FIRSTS_AT 0 16 directories (firsts_put FIRSTS_AT 0 16 chains (fields_put root home free front))

-- the set of a commit
abbrev pub set_of : List Laid → List Laid → List ℕ → ℕ → List ℕ → PageMap
set_of chains directories left tail front =
    finite.insert (puts (puts (puts finite.empty (laid_pairs chains)) (laid_pairs directories)) (chain_pairs FREE tail left [] [] [])) 1
    front

-- the fields of a root are numbers of eight bytes
pub record IsSmall (root : Root) : Type 0 where
  pub format : root.format < 2 ^ 64
  pub state : root.state < 2 ^ 64
  pub changes : root.changes < 2 ^ 64
  pub buckets : root.buckets < 2 ^ 64

-- what a commit writes
pub record IsPlan (kept : Kept) (root : Root) (parts : List Part) (free : List ℕ) (home : ℕ) (plan : Plan) : Type 0 where
  pub dealt : Dealt
  pub is : IsDealt parts (base_parts (root.buckets == buckets_in kept.front.items) root.buckets 8 kept.directories.items) root.buckets free
      home dealt
  pub set_is : plan.set ≡ set_of dealt.chains.items dealt.directories.items dealt.left.items dealt.tail plan.kept.front.items
  pub front_is : plan.kept.front.items
      ≡ root_bytes kept.front.items root dealt.«end» (head_or dealt.left.items dealt.tail) dealt.chains.items dealt.directories.items
  pub end_is : plan.home ≡ dealt.«end»
  pub end_small : plan.home < 2 ^ 64
  pub small : IsSmall root
  pub long : length plan.kept.front.items ≡ PAGE
  pub pages_are : map (λ one. one.pages.items) plan.kept.directories.items ≡ map (λ one. one.pages) dealt.directories.items
  pub bytes_are : map (λ one. one.bytes.items) plan.kept.directories.items ≡ map (λ one. one.bytes) dealt.directories.items
