-- The log after a restart, and the log after forgetting.
-- A restart unites the logs of up processes and adds what stable storage has.
use Rattle.std.specs.Prelude.{not, List, [], ◌∷◌, None, Some}
use Rattle.std.specs.FinMap as fin
use Rattle.causal_name.specs.declared.Pid.{Pid}
use Rattle.causal_name.specs.declared.Det.{Det}
use Rattle.causal_trace.specs.declared.entry.Entry.{Entry}
use Rattle.causal_trace.specs.declared.entry.Entry.TheVariants.{Stable}
use Rattle.causal_trace.specs.Past.{list_has}
use Rattle.causal_log.specs.Knowledge.{held_by, stable_and_held_by}
use Rattle.causal_log.specs.Logs.{LogMap, after_learn, after_union}
use Rattle.causal_log.specs.Stores.{DetSet, with_det, dets_in}
use Rattle.causal_protocol.specs.Memory.{Memories}

-- the determinants that stable entries name
unfoldable pub stable_set : List Entry → DetSet
stable_set [] = fin.empty
stable_set (Stable det ∷ past) = with_det (stable_set past) det
stable_set (_ ∷ past) = stable_set past

-- the union of a log with the logs of all up processes
unfoldable pub with_logs_of : Memories → LogMap → LogMap
with_logs_of [] log = log
with_logs_of (None ∷ ms) log = with_logs_of ms log
with_logs_of (Some m ∷ ms) log = with_logs_of ms (after_union log m.log)

-- a log after p is learned as a holder of these
unfoldable pub with_held : List Det → Pid → LogMap → LogMap
with_held [] p log = log
with_held (d ∷ ds) p log = with_held ds p (after_learn log d (held_by p))

-- a log after these are learned as held by p and stable
unfoldable pub with_stored : List Det → Pid → LogMap → LogMap
with_stored [] p log = log
with_stored (d ∷ ds) p log = with_stored ds p (after_learn log d (stable_and_held_by p))

-- the union of the logs of all up processes
abbrev pub union_of_logs : Memories → LogMap
union_of_logs ms = with_logs_of ms fin.empty

-- the log of p after its restart: the union of the logs of up processes and stable storage; p is a known holder of
-- each determinant, and what is stored is known to be stable
abbrev pub restart_log : Memories → DetSet → Pid → LogMap
restart_log ms stored p = with_stored (dets_in stored) p (with_held (fin.keys (union_of_logs ms)) p (union_of_logs ms))

-- a log without these determinants
abbrev pub without_dets : List Det → LogMap → LogMap
without_dets listed log = fin.retain_keys log (λ d. not (list_has listed d))
