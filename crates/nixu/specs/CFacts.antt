-- The C structs of facts that explain a verdict, or say that a recovery strayed.
use Rattle.std.specs.Prelude.{ℕ, ◌-◌}
use Rattle.causal_name.specs.declared.Det.{Det}
use Rattle.causal_facts.specs.declared.cause.Cause.{Cause}
use Rattle.causal_facts.specs.declared.cause.Cause.TheVariants as cause
use Rattle.causal_facts.specs.declared.process_fact.Loss.{Loss}
use Rattle.causal_facts.specs.declared.process_fact.LostBy.{LostBy}
use Rattle.causal_facts.specs.declared.process_fact.LostBy.TheVariants as lost
use Rattle.causal_facts.specs.declared.stray.Stray.{Stray}
use Rattle.causal_facts.specs.declared.event.ChainEvent.{ChainEvent}
use Rattle.causal_facts.specs.declared.event.ChainEvent.TheVariants.{Send, Delivery, Other}
use Rattle.causal_facts.specs.declared.fact.ClosestFailure.{ClosestFailure}
use Rattle.causal_facts.specs.declared.fact.Fact.{Fact}
use Rattle.causal_facts.specs.declared.fact.Fact.TheVariants as fact_of
use Rattle.nixu.specs.declared.c_fact.CFact.{CFact}

-- the struct of a kind alone
abbrev pub fact : ℕ → CFact
fact k = record {
  kind = k;
  entry = 0;
  delivery = 0;
  send = 0;
  second = 0;
  instant = 0;
  ssn = 0;
  rsn = 0;
  faults = 0;
  by = 0;
  process = 0;
  source = 0;
}

-- the struct of a kind and a process
abbrev pub process_fact : ℕ → ℕ → CFact
process_fact k p = record (fact k) { process = p }

-- the struct of a kind, a process and an entry
abbrev pub process_entry_fact : ℕ → ℕ → ℕ → CFact
process_entry_fact k p entry = record (process_fact k p) { entry = entry }

-- the struct with a delivery
abbrev pub of_delivery : CFact → ℕ → CFact
of_delivery c k = record c { delivery = k }

-- the struct with an instant
abbrev pub at_instant : CFact → ℕ → CFact
at_instant c t = record c { instant = t }

-- the struct with a send entry
abbrev pub with_send_entry : CFact → ℕ → CFact
with_send_entry c send = record c { send = send }

-- the struct with the kind of its entry
abbrev pub by_entry : CFact → ℕ → CFact
by_entry c by = record c { by = by }

-- the delivery that has an orphan, with its determinant
abbrev pub delivery_fact : ℕ → Det → CFact
delivery_fact k d = record (process_fact 2 d.dest.0) { delivery = k; source = d.source.0; ssn = d.ssn; rsn = d.rsn }

-- the entry before an instant, by which the instant fails
abbrev pub cause_fact : ℕ → Cause → CFact
cause_fact t (cause.Delivery p send) = with_send_entry (by_entry (process_entry_fact 3 p (t - 1)) 1) send
cause_fact t (cause.Crash p) = by_entry (process_entry_fact 3 p (t - 1)) 3
cause_fact t (cause.Restart p) = by_entry (process_entry_fact 3 p (t - 1)) 4
cause_fact t (cause.Forgetting p) = by_entry (process_entry_fact 3 p (t - 1)) 5

-- the kind of the entry by which a process loses a determinant
abbrev pub kind_of_loss : LostBy → ℕ
kind_of_loss lost.Crash = 3
kind_of_loss lost.Forgetting = 5

-- a process that lost the determinant, with the entry by which it did
abbrev pub loss_fact : Loss → CFact
loss_fact x = by_entry (process_entry_fact 7 x.process x.lost) (kind_of_loss x.by)

-- the process of an event: the sender of a send, the receiver of a delivery; 0 if it is neither
abbrev pub chain_process : ChainEvent → ℕ
chain_process (Send from to ssn) = from
chain_process (Delivery to send) = to
chain_process Other = 0

-- the send entry of a delivery; 0 if the event is none
abbrev pub chain_send : ChainEvent → ℕ
chain_send (Delivery to send) = send
chain_send _ = 0

-- the delivery that has an orphan for the least number of failures
abbrev pub closest_struct : ClosestFailure → CFact
closest_struct x = record (process_fact 14 x.orphan) { faults = x.faults; delivery = x.delivery; instant = x.instant }

-- the first stray
abbrev pub strayed_fact : Stray → CFact
strayed_fact s = record (process_fact 16 s.slot.dest.0) { instant = s.instant; rsn = s.slot.rsn; delivery = s.first; second = s.second }

-- the struct of a fact
abbrev pub c_fact_of : Fact → CFact
c_fact_of (fact_of.Down x) = process_entry_fact 1 x.process x.since
c_fact_of (fact_of.Delivery k d) = delivery_fact k d
c_fact_of (fact_of.Cause t cause) = cause_fact t cause
c_fact_of (fact_of.Unstable t) = at_instant (fact 4) t
c_fact_of (fact_of.Holder x) = process_entry_fact 5 x.process x.since
c_fact_of fact_of.NoHolder = fact 6
c_fact_of (fact_of.Loss loss) = loss_fact loss
c_fact_of (fact_of.Crash p) = process_fact 8 p
c_fact_of (fact_of.Chain k event) = process_entry_fact 9 (chain_process event) k
c_fact_of (fact_of.Unlisted k event is_own) = with_send_entry (process_entry_fact 10 (chain_process event) k) (chain_send event)
c_fact_of fact_of.Listed = fact 11
c_fact_of (fact_of.Underway k send to) = with_send_entry (process_entry_fact 12 to k) send
c_fact_of (fact_of.Orphan p) = process_fact 13 p
c_fact_of (fact_of.Closest closest) = closest_struct closest
c_fact_of fact_of.Never = fact 15
c_fact_of (fact_of.Strayed stray) = strayed_fact stray
c_fact_of (fact_of.Logged k x) = of_delivery (process_entry_fact 17 x.process x.since) k
c_fact_of (fact_of.Stable k) = of_delivery (fact 18) k
