-- Why a change of the maps of a store is refused.
use Rattle.page_journal.specs.declared.fault.StoreFault.{StoreFault}
use Rattle.update_step.specs.declared.fault.StepFault.{StepFault}
use Rattle.update_step.specs.declared.fault.StepFault.TheVariants as steps
use Rattle.update_flow.specs.Faults.{of_store}
use Rattle.update_flow.specs.declared.fault.FlowFault.{FlowFault}
use Rattle.update_flow.specs.declared.fault.FlowFault.TheVariants as flow

-- a refusal of the step below, as the flow answers it
abbrev pub of_step : StepFault StoreFault → FlowFault
of_step (steps.Store fault) = of_store fault
of_step (steps.TooMany value) = flow.TooMany value
of_step steps.OutOfMemory = flow.OutOfMemory
