-- The cache of the last gathered log, and the changes under which it stays valid.
use Rattle.std.specs.Prelude.{◌≡◌, Option, None, slice_set}
use Rattle.std.specs.Option.{IfSome}
use Rattle.std.specs.Coded.{Coded}
use Rattle.std.specs.FinMap as fin
use Rattle.causal_log.specs.Knowledge.{coded_det, coded_known}
use Rattle.causal_name.specs.declared.Pid.{Pid}
use Rattle.causal_log.specs.Logs.{LogMap}
use Rattle.causal_core.specs.declared.gather_cache.GatherCache.{GatherCache}
use Rattle.causal_protocol.specs.Gathering.{restart_log}
use Rattle.causal_protocol.specs.Run.{Run, memories_of, stable_of}

-- a log is coded by its determinants
abbrev pub coded_map : Coded LogMap
coded_map = fin.code coded_det coded_known

-- the log that a process would gather if it were down
abbrev pub log_to_gather : Run → Pid → LogMap
log_to_gather r p = restart_log (slice_set (memories_of r) p.0 None) (stable_of r) p

-- the cached log, if there is one, is the one that its process would gather
abbrev pub IsGatherCache : Run → Option GatherCache → Type 0
IsGatherCache r last = IfSome last (λ l. l.log.map ≡ log_to_gather r l.by)

-- between two runs only the memory of p changes, and nothing is stored
pub record ChangesOnlyMemoryOf (p : Pid) (before after : Run) : Type 0 where
  pub others : slice_set (memories_of after) p.0 None ≡ slice_set (memories_of before) p.0 None
  pub stable : stable_of after ≡ stable_of before
