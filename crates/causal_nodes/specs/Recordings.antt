-- That the recording of a network of nodes is a trace.
use Rattle.std.specs.Prelude.{ℕ, ◌≤◌, length}
use Rattle.causal_trace.specs.Limits.{max_entries, max_listed, max_restarts, IsProcessCount}
use Rattle.causal_trace.specs.Past.{listed_in, restarts}
use Rattle.causal_trace.specs.Rows.{IsWellFormed}
use Rattle.causal_nodes.specs.Network.{Network, IsReachableNetwork}

-- within the limits of any trace, the recording of each network that nodes reach is well formed
abbrev pub NodesRecordTraces : Type 0
NodesRecordTraces = (n f : ℕ) (net : Network) → IsReachableNetwork n f net → IsProcessCount n → length net.past ≤ max_entries → listed_in net.past ≤ max_listed → restarts net.past ≤ max_restarts
    → IsWellFormed (record { processes = n; past = net.past })
