use Rattle.std.proofs.Common.{arith, List, ◌≡◌, Some, sym, subst}
use Rattle.std.specs.FinMap as fin
use Rattle.causal_name.specs.declared.Pid.{Pid}
use Rattle.causal_protocol.specs.Run.{Run}
use Rattle.causal_protocol.specs.Steps.{append_all, sends_of}
use Rattle.causal_core.specs.Inside.Begins.{CanBegin}
use Rattle.causal_memory.specs.RestartPlans.{IsRestartPlan}
use Rattle.causal_core.specs.View.{run_from, receivers}
use Rattle.causal_memory.specs.ProcessMemories.{memory_of}
use Rattle.causal_core.specs.Inside.Memories.{memories_in}
use Rattle.causal_core.proofs.MemoriesFit.{all_fit_set}
use Rattle.causal_core.proofs.Lemmas.Slices.{slice_get-set_other}
use Rattle.causal_core.proofs.ProcessBegins.{begun_memories}
use Rattle.causal_core.proofs.run_data.RunData.record_begin.Goals as goal
use Rattle.causal_core.proofs.run_data.RunData.record_begin.Goals.{After-drop-fresh}

-- the receivers of its sends
abbrev tos : After-drop-fresh → List Pid
tos c = receivers c.self.inside.trace.recording.processes c.args.sends.items

abbrev run : After-drop-fresh → Run
run c = run_from c.self.inside.trace.recording c.self.inside.faults c.self.inside.writers.items

may : (c : After-drop-fresh) → CanBegin c.args.p.0 (run c)
may c = subst (λ s. CanBegin c.args.p.0 s.run) (sym c.self.view_is) c.requires.may

made : (c : After-drop-fresh) → IsRestartPlan c.self.inside.faults fin.empty c.args.fresh
made c = subst (λ s. IsRestartPlan s.run.faults fin.empty c.args.fresh) (sym c.self.view_is) c.requires.fresh

one : (c : After-drop-fresh) → c.append_sends-number.new.trace.recording ≡ record { processes = c.self.inside.trace.recording.processes; past = append_all (sends_of c.args.p 0 (tos c)) c.self.inside.trace.recording.past }
one c = grind arith

pub invariant_of-self : goal.invariant_of-self
invariant_of-self c =
    grind (
      arith,
      made c,
      may c,
      all_fit_set c.self.inside.trace.recording.processes c.self.inside.trace.recording.past c.append_sends-number.new.trace.recording.past
          (memories_in c.self.inside.process_memories.items) c.args.p.0 (Some (memory_of c.append_sends-number.new.process_memory)) (may c).process c.self.invariant.fit
          c.append_sends-number.ensures.others c.append_sends-number.ensures.fit,
      begun_memories,
      one c,
    )

pub returns : goal.returns
returns c = grind (arith, one, begun_memories, may, slice_get-set_other)
