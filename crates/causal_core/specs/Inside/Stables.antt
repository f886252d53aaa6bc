-- The effect of a flush on a memory, on a run and on the store.
use Rattle.std.specs.Prelude.{◌≡◌, ℕ, List, map, Result, Ok, Err}
use Rattle.causal_name.specs.declared.Pid.{Pid}
use Rattle.causal_name.specs.declared.Det.{Det}
use Rattle.causal_log.specs.Stores.{DetSet, set_has}
use Rattle.causal_trace.specs.declared.entry.Entry.{Entry}
use Rattle.causal_trace.specs.Past.{is_stable}
use Rattle.causal_protocol.specs.declared.request.FlushFault.{FlushFault}
use Rattle.causal_trace.specs.declared.entry.Entry.TheVariants.{Stable}
use Rattle.causal_protocol.specs.declared.request.Request.TheVariants as Requests
use Rattle.causal_protocol.specs.Run.{Run}
use Rattle.causal_protocol.specs.Steps.{extend_run}

-- the run after a flush of p wrote these determinants
abbrev pub run_after_flush : Run → Pid → List Det → Run
run_after_flush r p dets = extend_run r (Requests.Flush p) (map Stable dets)

-- the store contains exactly the determinants of the stable entries
abbrev pub IsStored : DetSet → List Entry → Type 0
IsStored stored past = (d : Det) → set_has stored d ≡ is_stable past d

-- the number of determinants that a flush wrote
abbrev pub written_count : Result ℕ FlushFault → ℕ
written_count (Ok count) = count
written_count (Err f) = f.done
