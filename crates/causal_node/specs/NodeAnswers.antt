-- The reply of a node to another process's round.
use Rattle.std.specs.Prelude.{◌==◌, ℕ, Bool, true, false, not, ◌&&◌, ◌||◌, nat_lt, nat_le, max, List, length, map, Option, Some, None, if◌then◌else◌}
use Rattle.std.specs.List.{zip}
use Rattle.causal_name.specs.declared.Pid.{Pid}
use Rattle.causal_name.specs.Names.{same_pid}
use Rattle.causal_node.specs.declared.node_answer.RoundReply.{RoundReply}
use Rattle.causal_node.specs.declared.node_answer.RoundReply.TheVariants as Replies
use Rattle.causal_node.specs.declared.node_fault.NodeFault.{NodeFault}
use Rattle.causal_node.specs.declared.node_fault.NodeFault.TheVariants as Faults
use Rattle.causal_node.specs.NodeStates.{NodeState, Recovery, floor_of}
use Rattle.causal_node.specs.NodeRecovery.{with_recovery}
use Rattle.causal_node.specs.NodeRefusals.{or_else}

-- whether a process gathers
abbrev pub is_gathering : Recovery → Bool
is_gathering None = false
is_gathering (Some None) = false
is_gathering (Some (Some r)) = true

-- whether the view has the number of the node's process
abbrev pub knows_number : NodeState → List ℕ → Bool
knows_number n view = floor_of view n.identity.me == n.lane

-- the first refusal that applies to a question with this view
abbrev pub answer_fault : NodeState → Pid → List ℕ → Option NodeFault
answer_fault n asker view =
    or_else (nat_le n.identity.processes asker.0 || same_pid asker n.identity.me) Faults.NoProcess
    (or_else (not (length view == n.identity.processes)) Faults.View
    (or_else (nat_lt (floor_of view asker) (floor_of n.floors asker)) Faults.OldLane
    (or_else (is_gathering n.recovery && (knows_number n view && nat_lt n.identity.me.0 asker.0)) Faults.NotYet
    None)))

-- the greater of each floor and the number in the view
abbrev pub raised_floors : List ℕ → List ℕ → List ℕ
raised_floors floors view = map (λ p. max p.0 p.1) (zip floors view)

-- the node with other floors
abbrev pub with_floors : NodeState → List ℕ → NodeState
with_floors n floors = record n { floors = floors }

abbrev pub reply_at : Recovery → RoundReply
reply_at None = Replies.Log
reply_at (Some r) = Replies.NotUp

-- the reply to a question with this view
abbrev pub round_reply : NodeState → List ℕ → RoundReply
round_reply n view = if knows_number n view then reply_at n.recovery else Replies.OwnNumber

abbrev pub after_answer_at : NodeState → List ℕ → Recovery → NodeState
after_answer_at n view None = with_floors n (raised_floors n.floors view)
after_answer_at n view (Some r) = with_recovery n (Some None)

-- the node after that reply
abbrev pub node_after_answer : NodeState → List ℕ → NodeState
node_after_answer n view = if knows_number n view then after_answer_at n view n.recovery else n
