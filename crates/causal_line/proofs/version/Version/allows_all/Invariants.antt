use Rattle.std.proofs.Common.{◌≡◌, drop}
use Rattle.std.specs.List.{list_all}
use Rattle.causal_line.specs.Versions.{allows}
use Rattle.causal_line.proofs.version.Version.allows_all.Given as goal

abbrev pub invariant-loop-entry : goal.invariant-loop-entry
invariant-loop-entry l = list_all (allows l.self) l.entries ≡ list_all (allows l.self) (drop l.entry-index l.entries)
