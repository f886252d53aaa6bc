-- What a restart plan contains.
use Rattle.std.specs.Prelude.{◌≡◌, ℕ, ◌≤◌, []}
use Rattle.std.specs.FinMap as fin
use Rattle.causal_log.specs.Logs.{LogMap, batch_items}
use Rattle.causal_protocol.specs.Memory.{new_memory}
use Rattle.causal_memory.specs.declared.restart_plan.RestartPlan.{RestartPlan}
use Rattle.causal_memory.specs.ProcessMemories.{memory_of, bodies_of}

-- the restart plan of a process that restarts with this log, with the bound f
pub record IsRestartPlan (f : ℕ) (log : LogMap) (g : RestartPlan) : Type 0 where
  pub listed : g.listed.items ≡ fin.keys log
  pub batch : g.process_memory.sent.batch ≡ batch_items f log
  pub memory : memory_of g.process_memory ≡ new_memory log
  pub bodies : bodies_of g.process_memory ≡ []
  pub room : 8 ≤ g.process_memory.sent.spare
