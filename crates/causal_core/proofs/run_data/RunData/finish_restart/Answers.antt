use Rattle.std.proofs.Common.{◌≡◌, ◌∙◌, Some, ap, sym, subst, arith, length, slice_set}
use Rattle.causal_log.specs.Logs.{dets_of}
use Rattle.causal_trace.specs.declared.entry.Entry.TheVariants.{Restart}
use Rattle.causal_trace.specs.Past.{is_delivered}
use Rattle.causal_trace.specs.Rows.{Recording, are_delivered}
use Rattle.causal_protocol.specs.declared.request.Request.TheVariants as Requests
use Rattle.causal_protocol.specs.Gathering.{restart_log}
use Rattle.causal_protocol.specs.Run.{Run, memories_of, stable_of}
use Rattle.causal_protocol.specs.Refusals.{request_fault, restart_list}
use Rattle.causal_core.specs.View.{run_from, receivers, with_restart}
use Rattle.causal_memory.specs.ProcessMemories.{memory_of}
use Rattle.causal_memory.specs.RestartPlans.{IsRestartPlan}
use Rattle.causal_core.specs.Inside.Memories.{memories_in}
use Rattle.causal_core.proofs.MemoriesFit.{delivered_more, fits_other, all_fit_set}
use Rattle.causal_core.proofs.LegalDelivery.{chosen_all}
use Rattle.causal_core.specs.Inside.MemoryInvariant.{MatchesEntriesAt, AllMatchEntries}
use Rattle.causal_core.proofs.RuntimeRestart.{MayRestart, may_restart, restart_memories, restart_fits}
use Rattle.causal_core.proofs.run_data.RunData.finish_restart.Goals as goal
use Rattle.causal_core.proofs.run_data.RunData.finish_restart.Goals.{After-len-first, After-put_memory}

abbrev run : After-len-first → Run
run c = run_from c.self.inside.trace.recording c.self.inside.faults c.self.inside.writers.items

made : (c : After-len-first) → IsRestartPlan c.self.inside.faults (restart_log (memories_of (run c)) (stable_of (run c)) c.args.p) c.args.gathered
made c = subst (λ s. IsRestartPlan s.run.faults (restart_log (memories_of s.run) (stable_of s.run) c.args.p) c.args.gathered) (sym c.self.view_is) c.requires.gathered

may : (c : After-len-first) → MayRestart (run c) c.args.p
may c =
    may_restart (run c) (memories_in c.self.inside.process_memories.items) c.args.p c.self.invariant
    (ap (λ s. request_fault s.run (Requests.Restart c.args.p)) c.self.view_is ∙ c.requires.legal)

-- the run after the restart
new_run : (c : After-put_memory) → run_from c.append_sends-sends.new.trace.recording c.self.inside.faults c.self.inside.writers.items ≡ with_restart (run_from c.self.inside.trace.recording c.self.inside.faults c.self.inside.writers.items) c.args.p c.args.sends.items
new_run c = grind arith

pub overflow_cast-count : goal.overflow_cast-count
overflow_cast-count c =
    grind (arith, may ((goal.at.overflow_cast-count c).After-len-first), made ((goal.at.overflow_cast-count c).After-len-first), c.len-count.ensures)

pub append_sends-sends-requires-clause-fit : goal.append_sends-sends-requires-clause-fit
append_sends-sends-requires-clause-fit c =
    let at = (goal.at.append_sends-sends-requires-clause-fit c).After-len-first in
    rw (c.push_reserved.ensures.recording, (made at).memory) (restart_fits c.self.inside.trace.recording.past c.args.p c.new.result (restart_log (memories_of (run at)) (stable_of (run at)) c.args.p) (may at).delivered)

pub append_sends-sends-requires-clause-delivered : goal.append_sends-sends-requires-clause-delivered
append_sends-sends-requires-clause-delivered c =
    let at = (goal.at.append_sends-sends-requires-clause-delivered c).After-len-first in
    let past = c.self.inside.trace.recording.past in
    (λ i. are_delivered (c.push_reserved.ensures.recording i).past (dets_of ((made at).batch i)))
    ∙ delivered_more (Restart c.args.p c.new.result) past _ (chosen_all (is_delivered past) c.self.inside.faults (restart_log (memories_of (run at)) (stable_of (run at)) c.args.p) (may at).delivered)

pub invariant_of-self : goal.invariant_of-self
invariant_of-self c =
    let at = (goal.at.invariant_of-self c).After-len-first in
    let d = may at in
    let plan = made at in
    let process = d.process in
    let count = sym (ap length c.self.invariant.same) ∙ c.self.invariant.fit.count in
    let same = restart_memories (run at) c.args.p (restart_list (run at) c.args.p) (receivers c.self.inside.trace.recording.processes c.args.sends.items) (omega (arith, process, count)) in
    let fits : AllMatchEntries c.self.inside.trace.recording.processes c.append_sends-sends.new.trace.recording.past (slice_set (memories_in c.self.inside.process_memories.items) c.args.p.0 (Some (memory_of c.append_sends-sends.new.process_memory))) =
    all_fit_set c.self.inside.trace.recording.processes c.self.inside.trace.recording.past c.append_sends-sends.new.trace.recording.past (memories_in c.self.inside.process_memories.items) c.args.p.0 (Some (memory_of c.append_sends-sends.new.process_memory)) d.process c.self.invariant.fit
    (λ q o apart was. c.append_sends-sends.ensures.others q o apart (subst (λ (x : Recording). MatchesEntriesAt x.past q o) (sym c.push_reserved.ensures.recording) (fits_other (Restart c.args.p c.new.result) c.self.inside.trace.recording.past q (grind (arith, apart)) o was))) c.append_sends-sends.ensures.fit in
    record {
      same = grind (arith, plan, same, new_run);
      fit = grind (arith, fits, new_run);
      formed = c.append_sends-sends.ensures.formed;
    }
