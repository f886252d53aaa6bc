use Rattle.std.specs.Prelude.{slice_set, None}
use Rattle.std.proofs.Common.{◌∷◌, ap, subst, sym, arith}
use Rattle.causal_trace.specs.Dependence.{AreForward, actor}
use Rattle.causal_trace.specs.Past.{lane}
use Rattle.causal_explain.specs.Inside.ShortestPaths.{AreNearest}
use Rattle.causal_explain.proofs.WayLemmas.{lanes_joined, lanes_restarted, lanes_still}
use Rattle.causal_explain.proofs.paths.note_reached.Goals as goal

pub returns-in-Send : goal.returns-in-Send
returns-in-Send c past i forward new h =
    rw c.closer_event.ensures
    (lanes_joined c.args.entry.now past i c.args.lanes.now c.in-Send.from.0 c.args.reached (omega arith) forward (ap actor c.in-Send.is) (λ p. ap (λ x. lane (x ∷ past) p) c.in-Send.is) new h)

pub returns-in-Deliver : goal.returns-in-Deliver
returns-in-Deliver c past i forward new h =
    rw c.closer_event-in-Deliver.ensures
    (lanes_joined c.args.entry.now past i c.args.lanes.now c.in-Deliver.to.0 c.args.reached (omega arith) forward (ap actor c.in-Deliver.is) (λ p. ap (λ x. lane (x ∷ past) p) c.in-Deliver.is) new h)

pub returns-in-Restart : goal.returns-in-Restart
returns-in-Restart c past i forward new h =
    let is = c.in-Restart.is in
    subst (λ e. AreNearest (e ∷ past) i (slice_set c.args.lanes.now c.in-Restart.who.0 None)) (sym is)
    (lanes_restarted past i c.args.lanes.now c.in-Restart.who c.in-Restart.listed (omega arith) (subst (λ e. AreForward (e ∷ past)) is forward) h)

pub returns-in-Stable : goal.returns-in-Stable
returns-in-Stable c past i forward new h = lanes_still c.args.entry.now past i c.args.lanes.now forward (ap actor c.in-Stable.is) (λ p. ap (λ x. lane (x ∷ past) p) c.in-Stable.is) h

pub returns-in-Crash : goal.returns-in-Crash
returns-in-Crash c past i forward new h = lanes_still c.args.entry.now past i c.args.lanes.now forward (ap actor c.in-Crash.is) (λ p. ap (λ x. lane (x ∷ past) p) c.in-Crash.is) h

pub returns-in-Forget : goal.returns-in-Forget
returns-in-Forget c past i forward new h = lanes_still c.args.entry.now past i c.args.lanes.now forward (ap actor c.in-Forget.is) (λ p. ap (λ x. lane (x ∷ past) p) c.in-Forget.is) h
