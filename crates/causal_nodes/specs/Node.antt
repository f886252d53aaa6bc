-- One process of a system without shared memory: what it has while it is up, and while it is down.
use Rattle.std.specs.Prelude.{ℕ, ◌+◌, Bool, true, false, List, Option}
use Rattle.causal_name.specs.declared.MsgName.{MsgName}
use Rattle.causal_name.specs.declared.Det.{Det}

-- what a log knows of each determinant: whether it is logged, who holds it, and whether it is stable
pub record NodeLog : Type 0 where
  pub has : Det → Bool
  pub holder : Det → ℕ → Bool
  pub stable : Det → Bool

-- the volatile memory of a process that is up: its lane (incarnation), its log, from which lane on it accepts packets
-- of each process, how many messages the lane has sent, and the names of those that it has received, by rsn
pub record UpNode : Type 0 where
  pub lane : ℕ
  pub log : NodeLog
  pub floors : ℕ → ℕ
  pub sent : ℕ
  pub received : List MsgName

-- a round of a process that recovers: its name, its number for each process, whose replies were taken, and what they
-- brought. Stable storage replies under the number n
pub record NodeRound : Type 0 where
  pub name : ℕ
  pub view : ℕ → ℕ
  pub heard : ℕ → Bool
  pub gathered : NodeLog

-- what a process that is down has: the number of its last lane, which alone outlives a crash; the numbers of others
-- that it has learned since; and its round, if it has one
pub record DownNode : Type 0 where
  pub lane : ℕ
  pub told : ℕ → ℕ
  pub round : Option NodeRound

pub data Node : Type 0 where
  up_node : UpNode → Node
  down_node : DownNode → Node

-- its lane, or its next one while it is down
abbrev pub lane_or_next : Node → ℕ
lane_or_next (up_node a) = a.lane
lane_or_next (down_node x) = x.lane + 1

abbrev pub is_node_down : Node → Bool
is_node_down (up_node a) = false
is_node_down (down_node x) = true
