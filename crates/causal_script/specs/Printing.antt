-- The printed lines for an error in a script and for a refused command.
use Rattle.std.specs.Prelude.{ℕ, List, ◌++◌, codes, decimal}
use Rattle.causal_protocol.specs.declared.request.CoreFault.{CoreFault}
use Rattle.causal_protocol.specs.declared.request.CoreFault.TheVariants as fault
use Rattle.causal_script.specs.declared.script.ScriptFault.{ScriptFault}
use Rattle.causal_script.specs.declared.script.ScriptFaultKind.{ScriptFaultKind}
use Rattle.causal_script.specs.declared.script.ScriptFaultKind.TheVariants as kind

-- the printed name of each kind of error
abbrev pub script_kind_name : ScriptFaultKind → List ℕ
script_kind_name kind.Big = codes "Big"
script_kind_name kind.Script = codes "Script"
script_kind_name kind.NoMemory = codes "NoMemory"

-- `fault line=LINE KIND` and a line feed
abbrev pub script_line : ScriptFault → List ℕ
script_line f = codes "fault line=" ++ (decimal f.line ++ (codes " " ++ (script_kind_name f.kind ++ codes "\n")))

-- the printed name of each refusal; `MustReplay` is followed by the source and ssn of the message to deliver first
abbrev pub refusal : CoreFault → List ℕ
refusal fault.NoProcess = codes "NoProcess"
refusal fault.Down = codes "Down"
refusal fault.NotDown = codes "NotDown"
refusal fault.OverFaults = codes "OverFaults"
refusal (fault.MustReplay name) = codes "MustReplay " ++ (decimal name.source.0 ++ (codes " " ++ decimal name.ssn))
refusal fault.NotAvailable = codes "NotAvailable"
refusal fault.AlreadyDelivered = codes "AlreadyDelivered"
refusal fault.Full = codes "Full"
refusal fault.StoreFault = codes "StoreFault"
refusal fault.NoMemory = codes "NoMemory"

-- `refused line=LINE NAME` and a line feed
abbrev pub refused_line : ℕ → CoreFault → List ℕ
refused_line line f = codes "refused line=" ++ (decimal line ++ (codes " " ++ (refusal f ++ codes "\n")))
