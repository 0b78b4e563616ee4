-- What the files of a command are read as.
use Rattle.std.specs.Prelude.{◌≡◌, ◌≤◌, ◌+◌, ◌⊎◌, ℕ, List, IsOk, Ok, Err}
use Rattle.style_read.specs.Style.{StyleOf}
use Rattle.tile_cover.specs.Table.{BoundsOf}
use Rattle.run_promise.specs.declared.fault.Fault.{Fault}
use Rattle.run_promise.specs.CommandOf.{CommandOf, import_of, append_of, feed_of, follow_of, query_of, serve_of, replay_of}
use Rattle.map_query.specs.declared.query.Query.{Query}
use Rattle.delta_feed.specs.declared.block.Block.{Block}
use Rattle.update_flow.specs.State.{State}
use Rattle.run_promise.specs.Followed.{IsFeed, over, stopped}
use Rattle.run_promise.specs.Files.{IsBounds, IsChange, IsQueries, IsStyle, change_in}

-- the bytes of a file are accepted as a style, or as boundaries
abbrev pub AcceptsStyle : (file : ℕ) → List ℕ → Type 0
AcceptsStyle file bytes = (found : StyleOf × List ℕ) × IsStyle file bytes (Ok found)

abbrev pub AcceptsBounds : (file : ℕ) → List ℕ → Type 0
AcceptsBounds file bytes = (found : BoundsOf) × IsBounds file bytes (Ok found)

abbrev pub AcceptsChange : (file : ℕ) → List ℕ → Type 0
AcceptsChange file bytes = IsOk (change_in file bytes)

-- the bytes are accepted as queries of some style, that of the store, which Courses names
abbrev pub AcceptsQueries : (file : ℕ) → List ℕ → Type 0
AcceptsQueries file bytes = (style : StyleOf) × (found : List Query) × IsQueries style file bytes (Ok found)

-- the bytes are accepted as blocks by a store of some state, that in which the run finds it, which Courses names; or they have this
-- fault then
abbrev pub AcceptsFeed : (file : ℕ) → List ℕ → Type 0
AcceptsFeed file bytes = (state : State) × (told : List Block) × IsFeed file state bytes told over

abbrev pub HasFeedFault : (file : ℕ) → List ℕ → Fault → Type 0
HasFeedFault file bytes fault = (state : State) × (told : List Block) × IsFeed file state bytes told (stopped fault)

-- a file of the command with these bytes is accepted: as a style, as boundaries or as changes, by its place
abbrev pub Accepts : CommandOf → (file : ℕ) → List ℕ → Type 0
Accepts (import_of store files buckets workers) file bytes =
    ((file ≡ files.first) × AcceptsStyle file bytes) ⊎ ((files.first + 1 ≤ file) × AcceptsChange file bytes)
Accepts (append_of store files ahead workers) file bytes =
    ((file ≡ files.first) × AcceptsBounds file bytes) ⊎ ((files.first + 1 ≤ file) × AcceptsChange file bytes)
Accepts (feed_of store files full workers) file bytes =
    ((file ≡ files.first) × AcceptsBounds file bytes) ⊎ ((files.first + 1 ≤ file) × AcceptsChange file bytes)
Accepts (follow_of store files) file bytes = AcceptsFeed file bytes
Accepts (query_of store files) file bytes = AcceptsQueries file bytes
Accepts (serve_of store files workers readers) file bytes =
    ((file ≡ files.first) × AcceptsBounds file bytes) ⊎ ((file ≡ files.first + 1) × AcceptsQueries file bytes)
    ⊎ ((files.first + 2 ≤ file) × AcceptsChange file bytes)
Accepts (replay_of store files workers) file bytes =
    ((file ≡ files.first) × AcceptsStyle file bytes) ⊎ ((file ≡ files.first + 1) × AcceptsBounds file bytes)
    ⊎ ((files.first + 2 ≤ file) × AcceptsChange file bytes)
Accepts _ file bytes = AcceptsChange file bytes

-- a file of the command with these bytes has this fault
abbrev pub HasFault : CommandOf → (file : ℕ) → List ℕ → Fault → Type 0
HasFault (import_of store files buckets workers) file bytes fault =
    ((file ≡ files.first) × IsStyle file bytes (Err fault)) ⊎ ((files.first + 1 ≤ file) × IsChange file bytes (Err fault))
HasFault (append_of store files ahead workers) file bytes fault =
    ((file ≡ files.first) × IsBounds file bytes (Err fault)) ⊎ ((files.first + 1 ≤ file) × IsChange file bytes (Err fault))
HasFault (feed_of store files full workers) file bytes fault =
    ((file ≡ files.first) × IsBounds file bytes (Err fault)) ⊎ ((files.first + 1 ≤ file) × IsChange file bytes (Err fault))
HasFault (follow_of store files) file bytes fault = HasFeedFault file bytes fault
HasFault (query_of store files) file bytes fault = (style : StyleOf) × IsQueries style file bytes (Err fault)
HasFault (serve_of store files workers readers) file bytes fault =
    ((file ≡ files.first) × IsBounds file bytes (Err fault))
    ⊎ ((file ≡ files.first + 1) × ((style : StyleOf) × IsQueries style file bytes (Err fault)))
    ⊎ ((files.first + 2 ≤ file) × IsChange file bytes (Err fault))
HasFault (replay_of store files workers) file bytes fault =
    ((file ≡ files.first) × IsStyle file bytes (Err fault)) ⊎ ((file ≡ files.first + 1) × IsBounds file bytes (Err fault))
    ⊎ ((files.first + 2 ≤ file) × IsChange file bytes (Err fault))
HasFault _ file bytes fault = IsChange file bytes (Err fault)

-- the command writes nothing before all its files are read
abbrev pub ReadsFirst : CommandOf → Type 0
ReadsFirst (append_of store files ahead workers) = ⊥
ReadsFirst (feed_of store files full workers) = ⊥
ReadsFirst (follow_of store files) = ⊥
ReadsFirst (serve_of store files workers readers) = ⊥
ReadsFirst (replay_of store files workers) = ⊥
ReadsFirst _ = Unit {0}

-- it has as many files as its form has
abbrev pub HasItsFiles : CommandOf → Type 0
HasItsFiles (import_of store files buckets workers) = files.count ≡ 2
HasItsFiles (append_of store files ahead workers) = 2 ≤ files.count
HasItsFiles (feed_of store files full workers) = 1 ≤ files.count
HasItsFiles (follow_of store files) = 1 ≤ files.count
HasItsFiles (query_of store files) = files.count ≡ 1
HasItsFiles (serve_of store files workers readers) = 2 ≤ files.count
HasItsFiles (replay_of store files workers) = 3 ≤ files.count
HasItsFiles _ = Unit {0}
