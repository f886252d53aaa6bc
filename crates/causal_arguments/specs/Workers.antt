-- How many workers a command line requests.
use Rattle.std.specs.Prelude.{⊤, ◌≤◌}
use Rattle.causal_arguments.specs.declared.subcommand.Subcommand.{Subcommand}
use Rattle.causal_arguments.specs.declared.subcommand.Subcommand.TheVariants.{Audit, Explain, ExplainByMap, Replays, Draw, Merge}

-- a command that reads a trace or recordings is requested with 1 to 64 workers
abbrev pub HasWorkersInRange : Subcommand → Type 0
HasWorkersInRange (Audit faults until form workers limits) = (1 ≤ workers) × (workers ≤ 64)
HasWorkersInRange (Explain faults form workers limits) = (1 ≤ workers) × (workers ≤ 64)
HasWorkersInRange (ExplainByMap faults workers limits) = (1 ≤ workers) × (workers ≤ 64)
HasWorkersInRange (Replays form workers limits) = (1 ≤ workers) × (workers ≤ 64)
HasWorkersInRange (Draw faults around only_breach workers limits) = (1 ≤ workers) × (workers ≤ 64)
HasWorkersInRange (Merge workers limits has_map) = (1 ≤ workers) × (workers ≤ 64)
HasWorkersInRange _ = ⊤
