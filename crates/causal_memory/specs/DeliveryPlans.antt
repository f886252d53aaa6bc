-- What a delivery plan contains.
use Rattle.std.specs.Prelude.{◌≡◌, ℕ}
use Rattle.causal_name.specs.declared.Det.{Det}
use Rattle.causal_log.specs.Logs.{LogMap, batch_items, dets_of}
use Rattle.causal_memory.specs.declared.delivery_plan.DeliveryPlan.{DeliveryPlan}
use Rattle.causal_protocol.specs.Memory.{SentMessage, Memory, log_after_delivery}
use Rattle.causal_protocol.specs.Naming.{with_own}

-- a log after the planned delivery
abbrev pub log_after_plan : DeliveryPlan → LogMap → LogMap
log_after_plan g log = log_after_delivery g.piggyback g.own log

-- the plan of the delivery of a kept message as the determinant `own`, by the receiver's memory
pub record IsPlanFor (f : ℕ) (own : Det) (m : Memory) (message : SentMessage) (g : DeliveryPlan) : Type 0 where
  pub own_is : g.own ≡ own
  pub send : g.send ≡ message.send
  pub listed : g.listed ≡ with_own own (dets_of message.batch)
  pub piggyback : g.piggyback ≡ message.batch
  pub next : g.next ≡ batch_items f (log_after_delivery message.batch own m.log)
  pub next_share : g.next_share ≡ batch_items f (log_after_delivery message.batch own m.log)
