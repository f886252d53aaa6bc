use Rattle.std.proofs.Common.{◌≡◌, ◌∙◌, ap, sym, true, false}
use Rattle.causal_trace.specs.Rows.{Recording}
use Rattle.causal_trace.specs.State.{entries_of}
use Rattle.causal_core.specs.CoreView.{core_run}
use Rattle.causal_shared.specs.Inside.FinishChecks.{entries_before}
use Rattle.causal_shared.proofs.Openings.{before_items-is, before_items-entries, before_items-processes}
use Rattle.causal_shared.proofs.checks.is_opening.Goals as goal

pub returns-then-processes : goal.returns-then-processes
returns-then-processes g c = (
  λ no. absurd (let e : false ≡ true = no in cc),
  λ same.
      let p = before_items-processes (core_run c.args.core.now) c.args.history.now c.args.opening.now.recording c.args.faults same in
      let here = c.processes.ensures.value ∙ ap (λ (r : Recording). r.processes) c.trace.ensures.recording in
      absurd (c.if-processes.true (here ∙ (p ∙ sym c.processes-2.ensures.value))),
)

pub returns : goal.returns
returns g c =
    let r = core_run c.args.core.now in
    let history = c.args.history.now in
    let o = c.args.opening.now.recording in
    let processes : r.recording.processes ≡ o.processes = sym (c.processes.ensures.value ∙ ap (λ (r : Recording). r.processes) c.trace.ensures.recording) ∙ (c.if-processes.false ∙ c.processes-2.ensures.value) in
    let faults : r.faults ≡ c.args.faults = sym c.faults.ensures ∙ c.if-faults.false in
    let before = c.entries_before_first.ensures ∙ ap (λ es. entries_before es history) (c.entries.ensures.value ∙ ap entries_of c.trace-2.ensures.recording) in (
      λ yes. before_items-is r history o c.args.faults c.requires processes faults (sym before ∙ (c.same_entries.ensures.0 yes ∙ c.entries-2.ensures.value)),
      λ same. c.same_entries.ensures.1 (before ∙ (before_items-entries r history o c.args.faults c.requires same ∙ sym c.entries-2.ensures.value)),
    )
