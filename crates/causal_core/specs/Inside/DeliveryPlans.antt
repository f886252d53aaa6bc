-- The delivery plan.
use Rattle.std.specs.Prelude.{◌≡◌}
use Rattle.causal_name.specs.declared.Pid.{Pid}
use Rattle.causal_name.specs.declared.MsgName.{MsgName}
use Rattle.causal_log.specs.Logs.{batch_items}
use Rattle.causal_memory.specs.declared.delivery_plan.DeliveryPlan.{DeliveryPlan}
use Rattle.causal_memory.specs.DeliveryPlans.{log_after_plan}
use Rattle.causal_protocol.specs.Memory.{batch_of}
use Rattle.causal_protocol.specs.Run.{memories_of}
use Rattle.causal_protocol.specs.Naming.{next_own_det, send_of, listed_for}
use Rattle.causal_core.specs.View.{RunDataState}
use Rattle.causal_core.specs.Inside.Memories.{log_at}

-- the plan of a delivery to q of the named message
pub record IsDeliveryPlan (d : RunDataState) (q : Pid) (name : MsgName) (g : DeliveryPlan) : Type 0 where
  pub own : g.own ≡ next_own_det (memories_of d.run) q name
  pub send : g.send ≡ send_of (memories_of d.run) name
  pub listed : g.listed ≡ listed_for (memories_of d.run) q name
  pub piggyback : g.piggyback ≡ batch_of (memories_of d.run) name
  pub next : g.next ≡ batch_items d.run.faults (log_after_plan g (log_at (memories_of d.run) q.0))
  pub next_share : g.next_share ≡ batch_items d.run.faults (log_after_plan g (log_at (memories_of d.run) q.0))
