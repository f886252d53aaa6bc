use Rattle.std.proofs.Common.{◌≡◌, ◌≢◌, ◌≤◌, ◌+◌, ◌++◌, ℕ, length, Option, true, List}
use Rattle.causal_name.specs.declared.Det.{Det}
use Rattle.causal_trace.specs.Rows.{are_delivered, IsWellFormed}
use Rattle.causal_protocol.specs.Memory.{Memory}
use Rattle.causal_protocol.specs.Steps.{sends_of, append_all}
use Rattle.causal_core.specs.Inside.MemoryInvariant.{MatchesEntries, MatchesEntriesAt}
use Rattle.causal_core.specs.View.{receivers, sent_bodies}
use Rattle.causal_memory.specs.ProcessMemories.{memory_of, bodies_of}
use Rattle.causal_core.specs.Inside.Memories.{keep_all}
use Rattle.causal_core.proofs.sends.append_sends.Given as goal

abbrev pub invariant-loop-outgoing : goal.invariant-loop-outgoing
invariant-loop-outgoing l = record {
  number : l.number ≡ length (receivers l.fn.trace.recording.processes l.yielded);
  recording : l.trace.recording ≡ record { processes = l.fn.trace.recording.processes; past = append_all (sends_of l.q (length (memory_of l.fn.process_memory).sent) (receivers l.fn.trace.recording.processes l.yielded)) l.fn.trace.recording.past };
  memory : memory_of l.process_memory ≡ keep_all (length l.fn.trace.recording.past) l.fn.process_memory.sent.batch (receivers l.fn.trace.recording.processes l.yielded) (memory_of l.fn.process_memory);
  formed : IsWellFormed l.trace.recording;
  fit : MatchesEntries l.trace.recording.past l.q.0 (memory_of l.process_memory);
  others : (p : ℕ) (m : Option Memory) → p ≢ l.q.0 → MatchesEntriesAt l.fn.trace.recording.past p m → MatchesEntriesAt l.trace.recording.past p m;
  delivered : (ds : List Det) → are_delivered l.fn.trace.recording.past ds ≡ true → are_delivered l.trace.recording.past ds ≡ true;
  bodies : bodies_of l.process_memory ≡ bodies_of l.fn.process_memory ++ sent_bodies l.fn.trace.recording.processes l.yielded;
  batch : l.process_memory.sent.batch ≡ l.fn.process_memory.sent.batch;
  few : length (receivers l.fn.trace.recording.processes l.yielded) ≤ length l.yielded;
  spare : 8 ≤ l.trace.spare + length l.yielded;
  room : 8 ≤ l.process_memory.sent.spare + length l.yielded;
  short : length l.trace.recording.past ≤ length l.fn.trace.recording.past + length l.yielded;
}
