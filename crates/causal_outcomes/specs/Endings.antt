-- The exit status and the message of each ending of a command.
use Rattle.std.specs.Prelude.{ℕ, List, Option, Some, None, codes}
use Rattle.causal_outcomes.specs.declared.ended.Ended.{Ended}
use Rattle.causal_outcomes.specs.declared.ended.Ended.TheVariants.{Accepted, Breached, Ranged, Followed, Strayed, Merged, Faulted, Ran, Refused, ReadFault, WriteFault, NoMemory, NoWorker, FinishFault}

-- the exit status of each ending
abbrev pub status_of : Ended → ℕ
status_of Accepted = 0
status_of Breached = 1
status_of Ranged = 0
status_of Followed = 0
status_of Strayed = 1
status_of Merged = 0
status_of Faulted = 2
status_of Ran = 0
status_of Refused = 2
status_of ReadFault = 4
status_of WriteFault = 4
status_of NoMemory = 5
status_of NoWorker = 5
status_of FinishFault = 5

-- the message of each ending on standard error; None if the answer was written whole
abbrev pub ended_text : Ended → Option (List ℕ)
ended_text Accepted = None
ended_text Breached = None
ended_text Ranged = None
ended_text Followed = None
ended_text Strayed = None
ended_text Merged = None
ended_text Faulted = None
ended_text Ran = None
ended_text Refused = None
ended_text ReadFault = Some (codes "read fault")
ended_text WriteFault = Some (codes "write fault")
ended_text NoMemory = Some (codes "no memory")
ended_text NoWorker = Some (codes "no worker")
ended_text FinishFault = Some (codes "finish fault")
