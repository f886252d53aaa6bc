use Rattle.std.proofs.Common.{sym, ◌∙◌}
use Rattle.causal_node.proofs.NodeNames.{name_added, name_skipped}
use Rattle.causal_node.proofs.node_recovery.names_for.Goals.{then-eq+in_ok-insert, else-eq}
use Rattle.causal_node.proofs.node_recovery.names_for.Goals as goal

pub loop-det-preserved : goal.loop-det-preserved
loop-det-preserved c m =
    elim c.if-eq.branch [
      | then-eq+in_ok-insert w ↦
          rw w.names-is
          (name_added c.args.me c.args.dets.now c.loop-det.det-index _ c.loop-det.names m c.loop-det-test.true w.insert.new.self w.message.result (sym c.eq.ensures ∙ w.if-eq.true) w.message.ensures w.in_ok-insert.ensures.updates ∙ c.loop-det.invariant m)
      | else-eq w ↦
          rw w.names-is (name_skipped c.args.me c.args.dets.now c.loop-det.det-index _ c.loop-det.names m c.loop-det-test.true (sym c.eq.ensures ∙ w.if-eq.false) ∙ c.loop-det.invariant m)
    ]
