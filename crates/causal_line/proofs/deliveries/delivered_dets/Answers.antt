use Rattle.std.proofs.Common.{◌∙◌, sym, arith}
use Rattle.causal_trace.proofs.Lemmas.AtInstants.{det_within}
use Rattle.causal_line.proofs.EntryCounts.{first_more, first_same}
use Rattle.causal_line.proofs.deliveries.delivered_dets.Goals.{in-Some+in_ok-insert, in_default}
use Rattle.causal_line.proofs.deliveries.delivered_dets.Goals as goal

pub loop-k-preserved : goal.loop-k-preserved
loop-k-preserved c =
    let past = c.args.trace.now.recording.past in
    elim c.match-det_at.branch [
      | in-Some+in_ok-insert w ↦
          rw w.delivered-is (first_more past c.loop-k.k c.loop-k.delivered _ w.in-Some.det c.loop-k.invariant (sym c.det_at.ensures ∙ w.in-Some.is) w.in_ok-insert.ensures.updates)
      | in_default w ↦ rw w.delivered-is (first_same past c.loop-k.k c.loop-k.delivered c.loop-k.invariant (λ d is. w.in_default.not-Some d (c.det_at.ensures ∙ is)))
    ]

pub returns : goal.returns
returns c = grind (arith, det_within)
