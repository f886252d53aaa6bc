-- One process of a run, as contracts see it: its node, its run, and its clock.
use Rattle.std.specs.Prelude.{ℕ, ◌+◌, max}
use Rattle.std.specs.Coded.{Coded, code_by, coded×, coded_ℕ}
use Rattle.std.proofs.Common.{refl}
use Rattle.causal_name.specs.declared.Pid.{Pid}
use Rattle.causal_wire.specs.declared.parcel.RunId.{RunId}
use Rattle.causal_wire.specs.declared.parcel.Head.{Head}
use Rattle.causal_node.specs.NodeStates.{NodeState, coded_node}

-- a process of the run with this number; the clock of its last event, which is above all that it has received
pub record EndpointState : Type 0 where
  pub node : NodeState
  pub run : ℕ
  pub clock : ℕ

-- encoding: its parts
abbrev pub coded_endpoint : Coded EndpointState
coded_endpoint =
    code_by (NodeState × (ℕ × ℕ)) (coded× coded_node (coded× coded_ℕ coded_ℕ))
    (λ e. (e.node, (e.run, e.clock))) (λ p. record { node = p.0; run = p.1.0; clock = p.1.1 }) (λ _. refl)

-- the run, as parcels name it
abbrev pub run_of : EndpointState → RunId
run_of e = record { id = e.run; processes = e.node.identity.processes; f = e.node.identity.faults }

-- the head of a parcel to a process, at this clock
abbrev pub head_to : EndpointState → Pid → ℕ → Head
head_to e to clock = record { source = e.node.identity.me; dest = to; lane = e.node.lane; clock = clock }

-- the clock of an event: the time, or one more than the last clock, whichever is greater
abbrev pub next_clock : ℕ → ℕ → ℕ
next_clock now clock = max now (clock + 1)

-- the endpoint with another node, at another clock
abbrev pub with_node : EndpointState → NodeState → ℕ → EndpointState
with_node e node clock = record { node = node; run = e.run; clock = clock }
