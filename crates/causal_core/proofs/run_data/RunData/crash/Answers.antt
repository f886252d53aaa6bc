use Rattle.std.proofs.Common.{◌≡◌, ◌∙◌, ◌<◌, ap, sym, None, arith}
use Rattle.std.proofs.lemmas.Grind.{common_steps}
use Rattle.causal_trace.specs.declared.entry.Entry.TheVariants as Entries
use Rattle.causal_trace.specs.Rows as Rows
use Rattle.causal_protocol.specs.declared.request.Request.TheVariants as Requests
use Rattle.causal_protocol.specs.Run.{Run}
use Rattle.causal_protocol.specs.Refusals.{request_fault}
use Rattle.causal_core.specs.View.{run_from}
use Rattle.causal_core.specs.Inside.Memories.{memories_in}
use Rattle.std.proofs.lemmas.List.{length-map}
use Rattle.causal_core.proofs.MemoriesFit.{held_fit, crash_legal, crash_held}
use Rattle.causal_core.proofs.run_data.RunData.crash.Goals as goal
use Rattle.causal_core.proofs.run_data.RunData.crash.Goals.{After-len-first}

abbrev run : After-len-first → Run
run c = run_from c.self.inside.trace.recording c.self.inside.faults c.self.inside.writers.items

none : (c : After-len-first) → request_fault (run c) (Requests.Crash c.args.p) ≡ None
none c = ap (λ s. request_fault s.run (Requests.Crash c.args.p)) c.self.view_is ∙ sym c.crash_fault.ensures ∙ c.in_default.is

legal : (c : After-len-first) → (c.args.p.0 < c.self.inside.trace.recording.processes) × (Rows.first_fault c.self.inside.trace.recording.processes c.self.inside.trace.recording.past (Entries.Crash c.args.p) ≡ None)
legal c =
    crash_legal (run c) c.args.p (held_fit (run c) (memories_in c.self.inside.process_memories.items) c.self.invariant) c.self.invariant.formed (none c)

pub push_reserved-requires-clause-legal : goal.push_reserved-requires-clause-legal
push_reserved-requires-clause-legal c = grind (arith, legal)

pub drop_memory-requires : goal.drop_memory-requires
drop_memory-requires c = grind (arith, legal, common_steps, length-map)

pub invariant_of-self-2 : goal.invariant_of-self-2
invariant_of-self-2 c =
    let l = legal (goal.at.invariant_of-self-2 c).After-len-first in
    rw (c.drop_memory.ensures.memories, c.push_reserved.ensures.recording, c.reserve.ensures.recording, c.from.ensures)
    (crash_held (run_from c.self.inside.trace.recording c.self.inside.faults c.self.inside.writers.items) (memories_in c.self.inside.process_memories.items) c.args.p c.self.invariant l.0 l.1)
