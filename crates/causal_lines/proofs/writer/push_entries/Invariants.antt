use Rattle.std.proofs.Common.{◌≡◌, ◌++◌, drop, string_bytes}
use Rattle.causal_lines.specs.Canonical.{entries_text}
use Rattle.causal_lines.proofs.writer.push_entries.Given as goal

abbrev pub invariant-loop-entry : goal.invariant-loop-entry
invariant-loop-entry l = string_bytes l.fn.out ++ entries_text l.entries ≡ string_bytes l.out ++ entries_text (drop l.entry-index l.entries)
