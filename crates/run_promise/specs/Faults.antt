-- How each fault is told: by the status that the process ends with, and by a line of text.
use Rattle.std.specs.Prelude.{ℕ, ◌+◌, Option, Some, None, List, [], ◌++◌, codes, decimal}
use Rattle.osm_base.specs.declared.values.key.Kind.{Kind}
use Rattle.osm_base.specs.declared.values.key.Kind.TheVariants.{Node, Way, Relation}
use Rattle.osm_base.specs.declared.bounds.limits.LimitKind.{LimitKind}
use Rattle.osm_base.specs.declared.bounds.limits.LimitKind.TheVariants as kinds
use Rattle.osm_base.specs.values.Key.{KeyOf}
use Rattle.opl_object.specs.declared.why.Why.{Why}
use Rattle.opl_object.specs.declared.why.Why.TheVariants.{Order}
use Rattle.opl_object.specs.Why.{cause_number}
use Rattle.delta_feed.specs.Why.{cause_number as feed_number}
use Rattle.style_read.specs.declared.fault.StylePart.{StylePart}
use Rattle.style_read.specs.declared.fault.StylePart.TheVariants as parts
use Rattle.style_read.specs.Why.{cause_number as style_number}
use Rattle.map_query.specs.Fault.{cause_number as query_number}
use Rattle.page_journal.specs.declared.fault.StoreFault.{StoreFault}
use Rattle.page_journal.specs.declared.fault.StoreFault.TheVariants as stores
use Rattle.run_promise.specs.declared.fault.Fault.{Fault}
use Rattle.run_promise.specs.declared.fault.Fault.TheVariants.{Usage, Malformed, BadStyle, BadBounds, BadQuery, BadFeed, Gap, Limit}
use Rattle.run_promise.specs.declared.fault.Fault.TheVariants.{ReadFault}
use Rattle.run_promise.specs.declared.fault.Fault.TheVariants.{NotFormatted, NotEmpty, NotImported, AlreadyImported, OldFormat, Follower}
use Rattle.run_promise.specs.declared.fault.Fault.TheVariants.{UnknownTable, BadStore, WriteFault, DiskFault, OutOfMemory}
use Rattle.update_flow.specs.declared.fault.FlowFault.{FlowFault}
use Rattle.update_flow.specs.declared.fault.TheConstants.{LAST_CHANGE}
use Rattle.update_flow.specs.declared.fault.FlowFault.TheVariants as flow

-- the fault of a store, as that of a run
abbrev pub fault_of : StoreFault → Fault
fault_of stores.NotFormatted = NotFormatted
fault_of stores.NotEmpty = NotEmpty
fault_of (stores.BadStore page) = BadStore page
fault_of stores.DiskFault = DiskFault
fault_of (stores.StoreFull pages) = Limit kinds.Pages pages
fault_of stores.Broken = DiskFault
fault_of stores.OutOfMemory = OutOfMemory

-- the fault of a call on an open store, as that of a run
abbrev pub flow_fault : FlowFault → Fault
flow_fault (flow.Store fault) = fault_of fault
flow_fault flow.NotImported = NotImported
flow_fault flow.AlreadyImported = AlreadyImported
flow_fault flow.OldFormat = OldFormat
flow_fault flow.LastChange = Limit kinds.Changes (LAST_CHANGE + 1)
flow_fault (flow.TooMany value) = Limit kinds.Pending value
flow_fault flow.OutOfMemory = OutOfMemory

-- the status of a run with this fault, or with none
abbrev pub status_of : Option Fault → ℕ
status_of None = 0
status_of (Some Usage) = 2
status_of (Some (Malformed _ _ _)) = 3
status_of (Some (BadStyle _ _ _)) = 4
status_of (Some (BadBounds _ _)) = 5
status_of (Some NotFormatted) = 6
status_of (Some NotEmpty) = 6
status_of (Some NotImported) = 6
status_of (Some AlreadyImported) = 6
status_of (Some OldFormat) = 6
status_of (Some Follower) = 6
status_of (Some (BadStore _)) = 6
status_of (Some (ReadFault _)) = 7
status_of (Some WriteFault) = 8
status_of (Some DiskFault) = 9
status_of (Some (Limit _ _)) = 10
status_of (Some OutOfMemory) = 11
status_of (Some (BadQuery _ _ _)) = 12
status_of (Some UnknownTable) = 12
status_of (Some (Gap _ _ _)) = 14
status_of (Some (BadFeed _ _ _)) = 15

-- the letter of a kind
abbrev pub kind_text : Kind → List ℕ
kind_text Node = codes "n"
kind_text Way = codes "w"
kind_text Relation = codes "r"

-- a key: the letter of its kind and its id
abbrev pub key_text : KeyOf → List ℕ
key_text key = kind_text key.kind ++ decimal key.id

-- the two keys whose order is wrong
abbrev pub order_text : Why → List ℕ
order_text (Order earlier later) = codes " " ++ key_text earlier ++ codes " " ++ key_text later
order_text _ = []

-- the name of a limit
abbrev pub limit_text : LimitKind → List ℕ
limit_text kinds.LineBytes = codes "line-bytes"
limit_text kinds.FileLines = codes "file-lines"
limit_text kinds.FileEntries = codes "file-entries"
limit_text kinds.StyleBytes = codes "style-bytes"
limit_text kinds.BoundsBytes = codes "bounds-bytes"
limit_text kinds.QueryBytes = codes "query-bytes"
limit_text kinds.Pages = codes "pages"
limit_text kinds.Pending = codes "pending"
limit_text kinds.Changes = codes "changes"

-- a part of a style; selections and tables are counted from 1
abbrev pub part_text : StylePart → List ℕ
part_text parts.Top = codes "top"
part_text (parts.Selection number) = codes "selection " ++ decimal number
part_text (parts.Table number) = codes "table " ++ decimal number

-- the line of a fault, without a newline
abbrev pub fault_text : Fault → List ℕ
fault_text Usage = codes "usage"
fault_text (Malformed file line why) =
    codes "malformed file " ++ decimal file ++ codes " line " ++ decimal line ++ codes " cause " ++ decimal (cause_number why)
    ++ order_text why
fault_text (BadStyle file why part) =
    codes "bad style file " ++ decimal file ++ codes " cause " ++ decimal (style_number why) ++ codes " part " ++ part_text part
fault_text (BadBounds file line) = codes "bad bounds file " ++ decimal file ++ codes " line " ++ decimal line
fault_text (BadQuery file line why) = codes "bad query file " ++ decimal file ++ codes " line " ++ decimal line ++ codes " cause "
    ++ decimal (query_number why)
fault_text (BadFeed file line why) = codes "bad feed file " ++ decimal file ++ codes " line " ++ decimal line ++ codes " cause "
    ++ decimal (feed_number why)
fault_text (Gap file have got) = codes "gap file " ++ decimal file ++ codes " have " ++ decimal have ++ codes " got " ++ decimal got
fault_text (Limit which value) = codes "limit " ++ limit_text which ++ codes " value " ++ decimal value
fault_text (ReadFault file) = codes "read fault file " ++ decimal file
fault_text NotFormatted = codes "not formatted"
fault_text NotEmpty = codes "not empty"
fault_text NotImported = codes "not imported"
fault_text AlreadyImported = codes "already imported"
fault_text OldFormat = codes "old format"
fault_text Follower = codes "follower"
fault_text UnknownTable = codes "unknown table"
fault_text (BadStore page) = codes "bad store page " ++ decimal page
fault_text WriteFault = codes "write fault"
fault_text DiskFault = codes "disk fault"
fault_text OutOfMemory = codes "out of memory"
