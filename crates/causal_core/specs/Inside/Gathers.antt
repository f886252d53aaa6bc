-- The restart plan, and how the determinants that a restart lists are counted.
use Rattle.std.specs.Prelude.{◌≡◌, ℕ, Bool, false, not, ◌||◌, nat_lt, nat_le, List, [], ◌∷◌, length, Option, count_by, is_some}
use Rattle.std.specs.List.{list_any}
use Rattle.std.specs.Option.{option_map_or}
use Rattle.std.specs.FinMap as fin
use Rattle.causal_name.specs.declared.Pid.{Pid}
use Rattle.causal_name.specs.declared.Det.{Det}
use Rattle.causal_log.specs.Logs.{LogMap}
use Rattle.causal_log.specs.Stores.{DetSet, set_has}
use Rattle.causal_trace.specs.Limits.{default_restarts}
use Rattle.causal_trace.specs.Past.{restarts}
use Rattle.causal_protocol.specs.Memory.{Memories, present_at}
use Rattle.causal_protocol.specs.Refusals.{first_fault_in, exceeds_limits, fault_if}
use Rattle.causal_protocol.specs.declared.request.CoreFault.{CoreFault}
use Rattle.causal_protocol.specs.declared.request.CoreFault.TheVariants as Faults
use Rattle.causal_protocol.specs.Gathering.{restart_log, with_logs_of, with_held, with_stored}
use Rattle.causal_protocol.specs.Run.{Run, memories_of, stable_of}
use Rattle.causal_memory.specs.declared.restart_plan.RestartPlan.{RestartPlan}
use Rattle.causal_memory.specs.RestartPlans.{IsRestartPlan}

-- whether the log of one of these processes contains the determinant
abbrev pub is_logged : Memories → Det → Bool
is_logged ms d = list_any (λ o. option_map_or (λ m. is_some (fin.get m.log d)) o false) ms

-- whether neither the store nor one of these logs contains the determinant
abbrev pub is_unseen : DetSet → Memories → Det → Bool
is_unseen stored ms d = not (set_has stored d || is_logged ms d)

-- the number of determinants of a log that neither the store nor one of these logs contains
abbrev pub count_unseen : DetSet → Memories → LogMap → ℕ
count_unseen stored ms log = count_by (is_unseen stored ms) (fin.keys log)

-- the log after p adds to it the logs of these processes and the stored determinants
abbrev pub log_with_gathered : LogMap → Memories → List Det → Pid → LogMap
log_with_gathered log ms stored p = with_stored stored p (with_held (fin.keys (with_logs_of ms log)) p (with_logs_of ms log))

-- the log of p after it gathers these logs and the stored determinants
abbrev pub gathered_log_of : Memories → List Det → Pid → LogMap
gathered_log_of ms stored p = log_with_gathered fin.empty ms stored p

-- this number of determinants is gathered, by any process
abbrev pub IsGatheredCount : ℕ → Memories → DetSet → Type 0
IsGatheredCount count ms stored = (p : Pid) → count ≡ length (fin.keys (restart_log ms stored p))

-- the first refusal that applies to a restart of p that lists the given number of determinants
abbrev pub listing_fault : Run → Pid → ℕ → Option CoreFault
listing_fault r p listed =
    first_fault_in
    (fault_if (not (nat_lt p.0 r.recording.processes)) Faults.NoProcess
    ∷ fault_if (is_some (present_at (memories_of r) p.0)) Faults.NotDown
    ∷ fault_if (exceeds_limits r 9 listed || nat_le default_restarts (restarts r.recording.past)) Faults.Full
    ∷ [])

-- the restart plan of p
abbrev pub IsRestartPlanFor : Run → Pid → RestartPlan → Type 0
IsRestartPlanFor r p g = IsRestartPlan r.faults (restart_log (memories_of r) (stable_of r) p) g
