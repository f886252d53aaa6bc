-- The text error kind of each trace error.
use Rattle.causal_trace.specs.declared.fault.TraceFault.{TraceFault}
use Rattle.causal_trace.specs.declared.fault.TraceFault.TheVariants as trace
use Rattle.causal_line.specs.declared.kind.TextKind.{TextKind}
use Rattle.causal_line.specs.declared.kind.TextKind.TheVariants as kind

-- the kind with the same name
abbrev pub text_kind_of : TraceFault → TextKind
text_kind_of trace.Processes = kind.Processes
text_kind_of trace.TooLong = kind.TooLong
text_kind_of trace.NoProcess = kind.NoProcess
text_kind_of trace.NotUp = kind.NotUp
text_kind_of trace.NotDown = kind.NotDown
text_kind_of trace.Lanes = kind.Lanes
text_kind_of trace.WrongSsn = kind.WrongSsn
text_kind_of trace.NoSend = kind.NoSend
text_kind_of trace.WrongRsn = kind.WrongRsn
text_kind_of trace.Doubled = kind.Doubled
text_kind_of trace.Unsorted = kind.Unsorted
text_kind_of trace.NoDelivery = kind.NoDelivery
text_kind_of trace.NoMemory = kind.NoMemory
