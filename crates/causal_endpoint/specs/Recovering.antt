-- The calls of an endpoint that recovers, and its questions.
use Rattle.std.specs.Prelude.{ℕ, unwrap_or, List, Option, Some}
use Rattle.causal_name.specs.declared.Pid.{Pid}
use Rattle.causal_name.specs.declared.Det.{Det}
use Rattle.causal_name.specs.declared.MsgName.{MsgName}
use Rattle.causal_wire.specs.declared.parcel.Head.{Head}
use Rattle.causal_wire.specs.Parcels.{Contents, question}
use Rattle.causal_node.specs.NodeRounds.{round_name, node_question_fault as node_question_fault}
use Rattle.causal_node.specs.NodeRecovery.{with_recovery, map_round, node_after_read as node_after_read, new_round_state, node_stored_fault as node_stored_fault, node_restart_fault as node_restart_fault, node_after_stored as node_after_stored, after_restart_at}
use Rattle.causal_endpoint.specs.declared.fault.EndpointFault.{EndpointFault}
use Rattle.causal_endpoint.specs.Endpoints.{EndpointState, head_to, next_clock, with_node}
use Rattle.causal_endpoint.specs.Refusals.{node_or, clock_fault}

-- the endpoint after a round of this name has begun
abbrev pub after_begin : EndpointState → ℕ → EndpointState
after_begin e name = with_node e (with_recovery e.node (Some (Some (new_round_state e.node.identity name)))) e.clock

-- the question of the present round to a process, at this clock
abbrev pub question_to : EndpointState → Pid → ℕ → Head × Contents
question_to e to clock = (head_to e to clock, question (unwrap_or (round_name e.node.recovery) 0) e.node.floors)

-- the first refusal that applies to a question
abbrev pub question_fault : EndpointState → ℕ → Pid → Option EndpointFault
question_fault e now to = node_or (node_question_fault e.node to) (clock_fault (next_clock now e.clock))

-- the first refusal that applies to a determinant that storage has, and the endpoint after it
abbrev pub stored_fault : EndpointState → ℕ → Option EndpointFault
stored_fault e now = node_or (node_stored_fault e.node.recovery) (clock_fault (next_clock now e.clock))

abbrev pub after_stored : EndpointState → ℕ → Det → EndpointState
after_stored e now det = with_node e (node_after_stored e.node det e.node.recovery) (next_clock now e.clock)

-- the endpoint after stable storage was read
abbrev pub after_read : EndpointState → EndpointState
after_read e = with_node e (with_recovery e.node (map_round node_after_read e.node.recovery)) e.clock

-- the first refusal that applies to a restart, and the endpoint after it, with these reserved names
abbrev pub restart_fault : EndpointState → ℕ → Option EndpointFault
restart_fault e now = node_or (node_restart_fault e.node.recovery) (clock_fault (next_clock now e.clock))

abbrev pub after_restart : EndpointState → ℕ → List MsgName → EndpointState
after_restart e now reserved = with_node e (after_restart_at e.node e.node.recovery reserved) (next_clock now e.clock)
