use Rattle.std.proofs.Common.{arith, ap, sym, ◌∙◌, length}
use Rattle.std.proofs.lemmas.Grind.{common_steps}
use Rattle.causal_protocol.specs.Naming.{message_name}
use Rattle.causal_protocol.specs.declared.request.Request.TheVariants as Requests
use Rattle.causal_core.proofs.LegalDelivery.{allowed, carried_listed}
use Rattle.causal_core.proofs.MemoriesFit.{tells_reason}
use Rattle.causal_core.proofs.run_data.RunData.prepare.Goals as goal

pub reserve_delivery-requires : goal.reserve_delivery-requires
reserve_delivery-requires c =
    let up = (allowed c.args.self.now.run c.args.q c.args.source c.args.ssn (sym c.delivery_fault.ensures ∙ c.in_default.is)).2 in
    grind (arith, up)

pub overflow_cast-logged : goal.overflow_cast-logged
overflow_cast-logged c =
    let few = (allowed c.args.self.now.run c.args.q c.args.source c.args.ssn (sym c.delivery_fault.ensures ∙ c.in_default.is)).6 in
    grind (arith, common_steps, few)

pub overflow_add-logged : goal.overflow_add-logged
overflow_add-logged c =
    let few = (allowed c.args.self.now.run c.args.q c.args.source c.args.ssn (sym c.delivery_fault.ensures ∙ c.in_default.is)).6 in
    grind (arith, common_steps, few)

pub returns-in-Some-clause-refused : goal.returns-in-Some-clause-refused
returns-in-Some-clause-refused c = tells_reason c.args.self.now.run (Requests.Deliver c.args.q c.args.source c.args.ssn) c.in-Some.fault (sym c.delivery_fault.ensures ∙ c.in-Some.is)

pub returns-in-Ok-reserve_delivery-clause-room : goal.returns-in-Ok-reserve_delivery-clause-room
returns-in-Ok-reserve_delivery-clause-room c =
    let room = c.in-Ok-reserve_delivery.ensures.ok in
    let longer = carried_listed c.args.self.now c.args.q (message_name c.args.source c.args.ssn) c.in-Ok.grown c.in-Ok.ensures in
    record {
      entries = room.entries;
      sent = room.sent;
      received = room.received;
      log = omega (arith, room.log, longer, ap length c.as_slice.ensures);
    }
