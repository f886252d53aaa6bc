use Rattle.std.proofs.Common.{◌≡◌, ◌∙◌, ap, sym, arith, length}
use Rattle.causal_name.specs.Names.{message_of}
use Rattle.causal_protocol.specs.declared.request.Request.TheVariants as Requests
use Rattle.causal_protocol.specs.Run.{Run}
use Rattle.causal_protocol.specs.Refusals.{request_fault}
use Rattle.causal_core.specs.View.{with_delivery, run_from}
use Rattle.causal_core.specs.Inside.Memories.{memories_in}
use Rattle.causal_core.proofs.LegalDelivery.{MayDeliver, may_deliver, sent_name, same_memories, det_at-pushed, det_at-newest}
use Rattle.causal_core.proofs.run_data.RunData.finish.Goals as goal
use Rattle.causal_core.proofs.run_data.RunData.finish.Goals.{After-len-first}

abbrev run : After-len-first → Run
run c = run_from c.self.inside.trace.recording c.self.inside.faults c.self.inside.writers.items

may : (c : After-len-first) → MayDeliver (run c) c.args.q c.args.grown.own.source c.args.grown.own.ssn
may c =
    may_deliver (run c) (memories_in c.self.inside.process_memories.items) c.args.q c.args.grown.own.source c.args.grown.own.ssn c.self.invariant
    (ap (λ s. request_fault s.run (Requests.Deliver c.args.q c.args.grown.own.source c.args.grown.own.ssn)) c.self.view_is ∙ c.requires.legal)

-- the run after the delivery
new_run : (c : goal.After-record_delivery_at-sends) → run_from c.record_delivery_at-sends.new.trace.recording c.self.inside.faults c.self.inside.writers.items ≡ with_delivery (run_from c.self.inside.trace.recording c.self.inside.faults c.self.inside.writers.items) c.args.q (message_of c.args.grown.own) c.args.sends.items
new_run c = grind arith

pub returns-clause-det : goal.returns-clause-det
returns-clause-det c =
    let at = (goal.at.returns-clause-det c).After-len-first in
    grind (arith, det_at-pushed, det_at-newest, sent_name (run at) c.args.q c.args.grown.own.source c.args.grown.own.ssn (may at), c.len-first.ensures.length)

pub invariant_of-self : goal.invariant_of-self
invariant_of-self c =
    let at = (goal.at.invariant_of-self c).After-len-first in
    let count = sym (ap length c.self.invariant.same) ∙ c.self.invariant.fit.count in
    let same = same_memories (run at) c.args.q c.args.grown.own.source c.args.grown.own.ssn (may at) count c.args.self.now (memories_in c.self.inside.process_memories.items) c.args.grown c.args.sends.items (sym (ap (λ s. s.run) c.self.view_is)) c.self.invariant.same c.requires.grown in
    record {
      same = grind (arith, same, new_run);
      fit = grind arith;
      formed = c.record_delivery_at-sends.ensures.formed;
    }
