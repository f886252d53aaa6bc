use Rattle.std.proofs.Common.{◌<◌, ◌∙◌, ap, is_some, arith, length}
use Rattle.std.specs.FinMap as fin
use Rattle.std.proofs.lemmas.List.{reverse-append}
use Rattle.causal_protocol.specs.Memory.{present_at}
use Rattle.causal_protocol.specs.Run.{memories_of}
use Rattle.causal_core.specs.View.{run_from}
use Rattle.causal_core.specs.Inside.Memories.{memories_in, log_at}
use Rattle.causal_core.proofs.MemoriesFit.{held_fit}
use Rattle.causal_core.proofs.FlushSteps.{stable_may, stable_held}
use Rattle.causal_core.proofs.run_data.RunData.record_stable.Goals as goal

pub push_stable_reserved-requires-clause-legal : goal.push_stable_reserved-requires-clause-legal
push_stable_reserved-requires-clause-legal c = grind (arith, held_fit, stable_may)

pub invariant_of-self : goal.invariant_of-self
invariant_of-self c =
    let r = run_from c.self.inside.trace.recording c.self.inside.faults c.self.inside.writers.items in
    let process : c.args.p.0 < c.self.inside.trace.recording.processes = let e = ap (λ s. s.run.recording.processes) c.self.view_is in omega (arith, e, c.requires.process) in
    let short : length c.self.inside.trace.recording.past < 16777216 = let e = ap (λ s. length s.run.recording.past) c.self.view_is in omega (arith, e, c.requires.short) in
    let next =
    stable_may r c.args.p c.args.det (held_fit r (memories_in c.self.inside.process_memories.items) c.self.invariant) process
    (ap (λ s. is_some (present_at (memories_of s.run) c.args.p.0)) c.self.view_is ∙ c.requires.up)
    (ap (λ s. is_some (fin.get (log_at (memories_of s.run) c.args.p.0) c.args.det)) c.self.view_is ∙ c.requires.logged)
    short c.self.invariant.formed in
    rw (c.mark_det_stable_at.ensures.memories, c.push_stable_reserved.ensures.recording, c.push_reserved.ensures.items, reverse-append)
    (stable_held r (memories_in c.self.inside.process_memories.items) c.args.p c.args.det c.self.invariant process next)
