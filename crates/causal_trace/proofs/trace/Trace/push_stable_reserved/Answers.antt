use Rattle.std.proofs.Common.{reverse, ap, ◌∙◌}
use Rattle.std.proofs.lemmas.List.{reverse-append}
use Rattle.causal_trace.specs.declared.entry.Entry.TheVariants.{Stable}
use Rattle.causal_trace.specs.Rows.{first_fault}
use Rattle.causal_trace.proofs.TraceIndex.{indexed_stable}
use Rattle.causal_trace.proofs.trace.Trace.push_stable_reserved.Goals as goal

pub invariant_of-self : goal.invariant_of-self
invariant_of-self c =
    rw (c.push_reserved.ensures.items, reverse-append)
    (indexed_stable (record { processes = c.self.inside.processes; past = reverse c.self.inside.entries.items }) c.args.det _ _ _ c.self.inside.chains c.self.inside.sorted c.self.invariant
    (ap (λ s. first_fault s.recording.processes s.recording.past (Stable c.args.det)) c.self.view_is ∙ c.requires.legal))
