-- The printed error.
use Rattle.std.specs.Prelude.{ℕ, List, ◌++◌, codes, decimal}
use Rattle.causal_line.specs.declared.kind.TextKind.{TextKind}
use Rattle.causal_line.specs.declared.kind.TextKind.TheVariants as kind
use Rattle.causal_line.specs.declared.kind.TextFault.{TextFault}

-- the name of each error kind
abbrev pub kind_name : TextKind → List ℕ
kind_name kind.After = codes "After"
kind_name kind.Big = codes "Big"
kind_name kind.Syntax = codes "Syntax"
kind_name kind.Form = codes "Form"
kind_name kind.Header = codes "Header"
kind_name kind.Version = codes "Version"
kind_name kind.Processes = codes "Processes"
kind_name kind.TooLong = codes "TooLong"
kind_name kind.NoProcess = codes "NoProcess"
kind_name kind.NotUp = codes "NotUp"
kind_name kind.NotDown = codes "NotDown"
kind_name kind.Lanes = codes "Lanes"
kind_name kind.WrongSsn = codes "WrongSsn"
kind_name kind.NoSend = codes "NoSend"
kind_name kind.WrongRsn = codes "WrongRsn"
kind_name kind.Doubled = codes "Doubled"
kind_name kind.Unsorted = codes "Unsorted"
kind_name kind.NoDelivery = codes "NoDelivery"
kind_name kind.Count = codes "Count"
kind_name kind.Cut = codes "Cut"
kind_name kind.NoMemory = codes "NoMemory"

-- `fault line=LINE KIND` and a line feed
abbrev pub fault_line : TextFault → List ℕ
fault_line f = codes "fault line=" ++ (decimal f.line ++ (codes " " ++ (kind_name f.kind ++ codes "\n")))
