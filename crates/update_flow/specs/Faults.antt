-- A refusal of the store below, as the flow answers it.
use Rattle.page_journal.specs.declared.fault.StoreFault.{StoreFault}
use Rattle.page_journal.specs.declared.fault.StoreFault.TheVariants as store
use Rattle.update_flow.specs.declared.fault.FlowFault.{FlowFault}
use Rattle.update_flow.specs.declared.fault.FlowFault.TheVariants as flow

abbrev pub of_store : StoreFault → FlowFault
of_store store.OutOfMemory = flow.OutOfMemory
of_store store.NotFormatted = flow.Store store.NotFormatted
of_store store.NotEmpty = flow.Store store.NotEmpty
of_store (store.BadStore page) = flow.Store (store.BadStore page)
of_store store.DiskFault = flow.Store store.DiskFault
of_store (store.StoreFull pages) = flow.Store (store.StoreFull pages)
of_store store.Broken = flow.Store store.Broken
