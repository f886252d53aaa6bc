use Rattle.causal_audit.proofs.Common.{◌≡◌, ◌-◌, take, drop, ap, sym, ◌∙◌, arith, take-map, drop-map, All-drop, All-take}
use Rattle.causal_audit.specs.Parts.{FollowedDeliveries}
use Rattle.causal_audit.specs.declared.group.walk_input.OpenDelivery.{OpenDelivery}
use Rattle.causal_audit.specs.Inside.Group.OpenDeliveries.{AreOpenDeliveries, IsDeliveryAt, IsOpenDelivery}
use Rattle.causal_audit.proofs.prepared_run.PreparedRun.part.Goals as goal

pub invariant_of-result : goal.invariant_of-result
invariant_of-result c =
    let s = c.self.inside in
    let r = s.run.value.recording in
    let same : r ≡ c.args.trace.now.recording = ap (λ (followed : FollowedDeliveries). followed.run) c.self.view_is ∙ sym c.requires.same in
    let followed = c.self.invariant.followed in
    let from = c.args.from in
    let many = c.args.to - c.args.from in
    let candidates = s.candidates.items in
    let part : AreOpenDeliveries r s.f s.end (take many (drop from candidates)) = record {
      within = followed.within;
      deliveries = All-take (λ (delivery : OpenDelivery). IsDeliveryAt r.past delivery.position) many (drop from candidates) (All-drop (λ (delivery : OpenDelivery). IsDeliveryAt r.past delivery.position) from candidates followed.deliveries);
      none_later = All-take (IsOpenDelivery r s.f s.end) many (drop from candidates) (All-drop (IsOpenDelivery r s.f s.end) from candidates followed.none_later);
    } in
    (rw (← same, c.deref.ensures.value) part, omega arith)

pub returns : goal.returns
returns c = grind (arith, take-map, drop-map)
