-- The round of a node that recovers: its name, and the processes that have still to reply.
use Rattle.std.specs.Prelude.{ℕ, nat_le, ◌||◌, Option, Some, None}
use Rattle.std.specs.Ordering.{nat_cmp}
use Rattle.std.specs.FinSet as set
use Rattle.causal_name.specs.declared.Pid.{Pid}
use Rattle.causal_name.specs.Names.{same_pid}
use Rattle.causal_node.specs.declared.node_fault.NodeFault.{NodeFault}
use Rattle.causal_node.specs.declared.node_fault.NodeFault.TheVariants as Faults
use Rattle.causal_node.specs.NodeStates.{NodeState, Recovery}
use Rattle.causal_node.specs.NodeRefusals.{or_else}

abbrev pub round_name : Recovery → Option ℕ
round_name None = None
round_name (Some None) = None
round_name (Some (Some r)) = Some r.name

abbrev pub awaited_in : Recovery → set.FinSet nat_cmp
awaited_in None = set.empty
awaited_in (Some None) = set.empty
awaited_in (Some (Some r)) = r.awaited

abbrev pub unless_gathering : Recovery → Option NodeFault → Option NodeFault
unless_gathering None rest = Some Faults.Up
unless_gathering (Some None) rest = Some Faults.NoRound
unless_gathering (Some (Some r)) rest = rest

-- the first refusal that applies to a question to a process
abbrev pub node_question_fault : NodeState → Pid → Option NodeFault
node_question_fault n to = unless_gathering n.recovery (or_else (nat_le n.identity.processes to.0 || same_pid to n.identity.me) Faults.NoProcess None)
