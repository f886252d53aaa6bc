use Rattle.std.proofs.Common.{sym, subst}
use Rattle.causal_trace.proofs.Lemmas.WellFormed.{formed_short}
use Rattle.causal_core.specs.Inside.Memories.{memories_in}
use Rattle.causal_core.specs.Inside.MemoryInvariant.{AllMatchEntries}
use Rattle.causal_core.proofs.Cells.{sent_few}
use Rattle.causal_core.proofs.run_data.RunData.pending.Goals as goal

pub pending_among-requires-clause-short : goal.pending_among-requires-clause-short
pending_among-requires-clause-short c =
    let recording = c.self.inside.trace.recording in
    let fit = subst (λ xs. AllMatchEntries recording.processes recording.past (memories_in xs)) (sym c.as_slice-process_memories.ensures.value) c.self.invariant.fit in
    λ p. sent_few recording.processes recording.past (memories_in c.as_slice-process_memories.result.now) p fit (formed_short recording c.self.invariant.formed).entries
